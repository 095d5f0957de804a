-- The bytes of an image by its records: their lengths, and one record after the other.
-- Assumes nothing.
use mathlib.Core.Path.{◌≡◌, refl, ap, ◌∙◌}
use mathlib.Core.Bool.{Bool, true, false}
use mathlib.Core.List.{List, [], ◌∷◌, ◌++◌}
use mathlib.Core.Option.{some}
use Prim.Native.Nat.{ℕ, suc, ◌+◌, ◌-◌, ◌≤◌, ◌<◌}
use native.Mathlib.Numerals.{add-one}
use native.Mathlib.Omega.{arith}
use lib.Dec.{eqb}
use lib.ListN.{length, take, replicate, length-append, length-replicate}
use borrow.Author.Tests.{eq-eqb, ne_eqb, eqb-true, eqb-false}
use Rattle.octets.specs.Bytes.{run, overlay, copied}
use Rattle.octets.proofs.Overlay.{length_run, overlay-next, copied-fits}
use Rattle.supervisor.specs.Limits.{first_setting, SettingsKey, longest_settings, longest_setting}
use Rattle.supervisor.specs.State.{Settings}
use Rattle.supervisor.specs.Layout.{setting_offset, setting_value_offset, setting_held, setting_edition, setting_length}
use Rattle.supervisor.specs.Valid.{valid_settings}
use Rattle.supervisor.proofs.OffsetLaws.{offset-within}
use Rattle.supervisor.proofs.ValidLaws.{settings-valid}
use Rattle.saving.specs.Saving.{highest_saved, saved_count, end_mark, saved_record, image_from, saved}
use Rattle.saving.specs.Calls.{saved_record_bytes, saved_records_from, image_bytes, records_size, longest_image}
use Rattle.saving.proofs.StoreLaws.{length-record}

-- ---- a record

-- the record of a key that has a value of n bytes, by the setting at its offset
pub record Held (s : List ℕ) (key at n : ℕ) : Type 0 where
  pub within : at + setting_value_offset + n ≤ length s
  pub its_bytes : saved_record_bytes s key ≡ saved_record key (setting_edition s at) (run (at + setting_value_offset) n s)
  pub size : length (saved_record_bytes s key) ≡ 11 + n

module _ (s : List ℕ) (key at : ℕ) {held : ℕ} (p : at ≡ setting_offset key) (e : held ≡ setting_held s at) where
  pub no_record : (held ≡ 1 → ⊥) → saved_record_bytes s key ≡ []
  unfolding saved_record_bytes
  no_record h = rw (← p, ← e, ne_eqb held 1 h)

  a-record : (n : ℕ) → n ≡ setting_length s at → held ≡ 1
      → saved_record_bytes s key ≡ saved_record key (setting_edition s at) (run (at + setting_value_offset) n s)
  unfolding saved_record_bytes
  a-record n f h = rw (← p, ← e, ← f, eq-eqb held 1 h)

  pub held-record : {n : ℕ} → n ≡ setting_length s at → held ≡ 1 → valid_settings s ≡ true → SettingsKey key → Held s key at n
  held-record {n} f h valid k =
      let v = settings-valid s valid in
      let short : setting_length s at ≤ longest_setting key = rw p (v.each key k).size in
      let within : at + setting_value_offset + n ≤ length s = omega (arith, offset-within key k, v.long) in
      let r = a-record n f h in
      record {
        within = within;
        its_bytes = r;
        size =
            rw r (length-record key (setting_edition s at) _ ∙ ap (λ (m : ℕ). 11 + m) (length_run (at + setting_value_offset) n s within));
      }

pub record-most : (s : List ℕ) (key : ℕ) → valid_settings s ≡ true → SettingsKey key
    → length (saved_record_bytes s key) ≤ 11 + longest_setting key
record-most s key valid k = by (eqb (setting_held s (setting_offset key)) 1) refl
  where
    by : (t : Bool) → eqb (setting_held s (setting_offset key)) 1 ≡ t → length (saved_record_bytes s key) ≤ 11 + longest_setting key
    by true e =
        omega (
          arith,
          (held-record s key (setting_offset key) refl refl refl (eqb-true _ _ e) valid k).size,
          ((settings-valid s valid).each key k).size,
        )
    by false e = omega (arith, ap length (no_record s key (setting_offset key) refl refl (eqb-false _ _ e)))

-- ---- one record after the other

-- the records from a key on, then the end mark
abbrev pub records_from : List ℕ → ℕ → List ℕ
records_from s key = saved_records_from s (suc highest_saved - key) key

module _ (s : List ℕ) (key : ℕ) (h : key ≤ highest_saved) where
  records-on : records_from s key ≡ saved_record_bytes s key ++ records_from s (key + 1)
  unfolding saved_records_from
  records-on =
      let e : suc highest_saved - key ≡ suc (suc highest_saved - (key + 1)) = omega arith in
      rw (e, add-one)

  pub length-on : length (records_from s key) ≡ length (saved_record_bytes s key) + length (records_from s (key + 1))
  length-on = rw (records-on, length-append)

  pub records-put : (at : ℕ) (out : List ℕ) {t : List ℕ} {there : ℕ} → at ≤ length out
      → there ≡ at + length (saved_record_bytes s key) → t ≡ overlay at (saved_record_bytes s key) out
      → overlay there (records_from s (key + 1)) t ≡ overlay at (records_from s key) out
  records-put at out l e f = rw (e, f, records-on) (overlay-next at (saved_record_bytes s key) _ out l)

pub records-end : (s : List ℕ) (key : ℕ) → highest_saved < key → records_from s key ≡ end_mark
unfolding saved_records_from
records-end s key h = let e : suc highest_saved - key ≡ 0 = omega arith in rw e

-- the end mark, where no record is left
pub end-put : (s out : List ℕ) (key at : ℕ) → highest_saved < key → at + length (records_from s key) ≤ length out
    → copied end_mark 0 2 out at ≡ overlay at (records_from s key) out
end-put s out key at h l =
    let e = records-end s key h in
    rw e (copied-fits end_mark 0 2 out at (omega arith) (omega (arith, ap length e)))

-- no image of valid settings is longer
pub image-short : (s : List ℕ) → valid_settings s ≡ true → length (image_bytes s) ≤ longest_image
unfolding image_bytes saved_records_from longest_setting
image-short s valid =
    simp length-append
    (omega (
      arith,
      record-most s 3 valid (record { lower = omega arith; upper = omega arith }),
      record-most s 4 valid (record { lower = omega arith; upper = omega arith }),
      record-most s 5 valid (record { lower = omega arith; upper = omega arith }),
    ))

-- settings with values of these lengths
abbrev pub settings-of : List ℕ → Settings
settings-of [] = []
settings-of (n ∷ ns) = record { edition = 0; value = some (replicate n 0) } ∷ settings-of ns

image-size : (key : ℕ) (ns : List ℕ) → length (image_from key (settings-of ns)) ≡ records_size ns
unfolding image_from
image-size key [] = refl
image-size key (n ∷ ns) =
    simp length-append (omega (arith, length-record key 0 (replicate n 0), length-replicate {A = ℕ} n 0, image-size (suc key) ns))

-- an image of settings at their longest is as long
pub image-longest : length (saved (settings-of longest_settings)) ≡ longest_image
unfolding saved
image-longest = image-size first_setting (take saved_count longest_settings)
