-- Restoring keeps the settings valid, their length, and that they are bytes.
-- Assumes nothing.
use mathlib.Core.Path.{◌≡◌, refl, ap, ◌∙◌}
use mathlib.Core.Logic.{◌⊎◌, inl, inr, ⊎_map}
use mathlib.Core.Bool.{true}
use mathlib.Core.List.{List, [], ◌∷◌}
use Prim.Native.Nat.{ℕ, zero, suc, ◌+◌, ◌-◌, ◌≤◌, ◌<◌}
use native.Mathlib.Nat.{add-zero}
use native.Mathlib.Omega.{arith}
use lib.ListN.{length, replicate, get_or}
use Rattle.octets.specs.Bytes.{Byte, Each, bytes, number, number_at, overlay}
use Rattle.octets.proofs.Conditions.{cond-by}
use Rattle.octets.proofs.Each.{each_append, each-run}
use Rattle.octets.proofs.Numbers.{bytes-each}
use Rattle.octets.proofs.Overlay.{length_run, length-overlay, overlay-part, overlay-each}
use Rattle.octets.proofs.SameBytes.{same-before, same_after}
use Rattle.supervisor.specs.Limits.{first_setting, SettingsKey, longest_setting, shortest_settings, shortest_setting}
use Rattle.supervisor.specs.Layout.{setting_offset, setting_edition_offset, setting_length_offset, setting_value_offset, setting_bytes}
use Rattle.supervisor.specs.Valid.{valid_settings}
use Rattle.supervisor.proofs.OffsetLaws.{offset-within, longest-short, Lies, setting-lies}
use Rattle.supervisor.proofs.ValidLaws.{setting_kept, settings-valid, valid-settings}
use Rattle.supervisor.specs.Valid.{SettingValid, SettingsValid}
use Rattle.saving.specs.Saving.{highest_saved, saved_count, saved_length_at, saved_entry_at, SavedEntry, ImageRead, fault, good}
use Rattle.saving.specs.Saving.{read_image}
use Rattle.saving.specs.Calls.{RestoreOutcome, cleared, put_entry, put_entries, restore_outcome_by, restore_promise, entries_in}
use Rattle.saving.proofs.StepLaws.{Passed}
use Rattle.saving.proofs.ReadLaws.{entries-each}
use Rattle.saving.proofs.StoreLaws.{length-setting, whole-key}
use Rattle.saving.proofs.RestoreLaws.{saved-key}

-- the shortest value of a saved key is empty
saved-shortest : (key : ℕ) → key ≤ highest_saved → shortest_setting key ≡ 0
unfolding shortest_setting
saved-shortest key h = by (key - first_setting) (omega arith)
  where
    by : (i : ℕ) → i < saved_count → get_or shortest_settings i 0 ≡ 0
    by zero l = refl
    by (suc zero) l = refl
    by (suc (suc zero)) l = refl
    by (suc (suc (suc i))) l = absurd (omega arith)

-- ---- bytes put over a setting

module _ (s xs : List ℕ) (key : ℕ) (w : SettingsValid s) (k : SettingsKey key) (head : setting_value_offset ≤ length xs)
    (most : length xs ≤ setting_value_offset + longest_setting key) where
  abbrev here : ℕ
  here = setting_offset key

  put-room : here + length xs ≤ length s
  put-room = omega (arith, offset-within key k, w.long)

  pub put-long : length (overlay here xs s) ≡ length s
  put-long = length-overlay here xs s put-room

  -- they hold a value, or none
  module _ (saved : key ≤ highest_saved) (size : number_at 2 xs setting_length_offset ≤ longest_setting key)
      (held : (number_at 1 xs 0 ≡ 1)
      ⊎ ((number_at 1 xs 0 ≡ 0) × (number_at 2 xs setting_length_offset ≡ 0) × (number_at 4 xs setting_edition_offset ≡ 0))) where
    this-valid : SettingValid (overlay here xs s) here (shortest_setting key) (longest_setting key)
    this-valid =
        let a = ap number (rw add-zero at (overlay-part here 0 1 xs s (omega (arith, put-room)) (omega arith))) in
        let b = ap number (overlay-part here setting_length_offset 2 xs s (omega (arith, put-room)) (omega arith)) in
        let c = ap number (overlay-part here setting_edition_offset 4 xs s (omega (arith, put-room)) (omega arith)) in
        record {
          size = omega (arith, b);
          held =
              ⊎_map (λ h. (a ∙ h, omega (arith, saved-shortest key saved))) (λ h. (a ∙ h.0, b ∙ h.1, c ∙ h.2)) held;
        }

    each-valid : (j : ℕ) → Lies j key → SettingValid s (setting_offset j) (shortest_setting j) (longest_setting j)
        → SettingValid (overlay here xs s) (setting_offset j) (shortest_setting j) (longest_setting j)
    each-valid j (inl l) v = setting_kept (same-before here xs s (omega (arith, put-room)) (omega arith)) v
    each-valid j (inr (inl e)) v = rw e this-valid
    each-valid j (inr (inr l)) v = setting_kept (same_after here xs s (omega (arith, put-room)) (omega arith)) v

    pub put-valid : SettingsValid (overlay here xs s)
    put-valid = record { long = omega (arith, put-long, w.long); each = λ j i. each-valid j (setting-lies j key i k) (w.each j i) }

-- ---- clearing

module _ (s : List ℕ) (w : SettingsValid s) where
  pub cleared-valid : (n : ℕ) → n ≤ saved_count → SettingsValid (cleared n s) × (length (cleared n s) ≡ length s)
  unfolding cleared number
  cleared-valid zero h = (w, refl)
  cleared-valid (suc n) h =
      let v = cleared-valid n (omega arith) in
      let zeros : List ℕ = replicate setting_value_offset 0 in
      let k = saved-key n (omega arith) in (
        put-valid (cleared n s) zeros (first_setting + n) v.0 k (omega arith) (omega arith) (omega arith) (omega arith)
            (inr (refl, refl, refl)),
        put-long (cleared n s) zeros (first_setting + n) v.0 k (omega arith) (omega arith) ∙ v.1,
      )

pub cleared-bytes : (n : ℕ) (s : List ℕ) → Each Byte s → Each Byte (cleared n s)
unfolding cleared
cleared-bytes zero s b = b
cleared-bytes (suc n) s b =
    overlay-each Byte (setting_offset (first_setting + n)) (replicate setting_value_offset 0) (cleared n s)
    (omega arith, (omega arith, (omega arith, (omega arith, (omega arith, (omega arith, (omega arith, tt))))))) (cleared-bytes n s b)

-- ---- records

-- a record that may stand in its setting
pub record Allowed (e : SavedEntry) : Type 0 where
  pub its_key : SettingsKey e.key
  pub saved : e.key ≤ highest_saved
  pub short : length e.value ≤ longest_setting e.key

pub passed-allowed : (image : List ℕ) {before at key there : ℕ} → Passed image before at key there → Allowed (saved_entry_at image at)
passed-allowed image {at = at} p =
    let l = length_run (at + 9) (saved_length_at image at) image (omega (arith, p.whole.complete)) in
    record { its_key = whole-key image at p.whole; saved = p.whole.upper; short = omega (arith, l, p.whole.short) }

pub entries-allowed : (image : List ℕ) → Each Allowed (entries_in (read_image image))
entries-allowed image = entries-each image Allowed (λ before at key there p. passed-allowed image p)

module _ (e : SavedEntry) (a : Allowed e) (s : List ℕ) (w : SettingsValid s) where
  abbrev xs : List ℕ
  xs = setting_bytes e.edition e.value

  pub entry-valid : SettingsValid (put_entry e s)
  unfolding number bytes
  entry-valid =
      let l = length-setting e.edition e.value in
      put-valid s xs e.key w a.its_key (omega arith) (omega (arith, a.short)) a.saved
      (omega (arith, a.short, longest-short e.key)) (inl refl)

  entry-long : length (put_entry e s) ≡ length s
  entry-long =
      let l = length-setting e.edition e.value in
      put-long s xs e.key w a.its_key (omega arith) (omega (arith, a.short))

pub all_valid : (es : List SavedEntry) → Each Allowed es → (s : List ℕ) → SettingsValid s
    → SettingsValid (put_entries es s) × (length (put_entries es s) ≡ length s)
unfolding put_entries
all_valid [] a s w = (w, refl)
all_valid (e ∷ es) a s w =
    let r = all_valid es a.1 (put_entry e s) (entry-valid e a.0 s w) in
    (r.0, r.1 ∙ entry-long e a.0 s w)

pub all-bytes : (es : List SavedEntry) → Each (λ e. Each Byte e.value) es → (s : List ℕ) → Each Byte s → Each Byte (put_entries es s)
unfolding put_entries
all-bytes [] h s b = b
all-bytes (e ∷ es) h s b =
    all-bytes es h.1 (put_entry e s)
    (overlay-each Byte (setting_offset e.key) (setting_bytes e.edition e.value) s
    (each_append Byte (bytes 1 1) _ (bytes-each 1 1)
    (each_append Byte (bytes 4 e.edition) _ (bytes-each 4 e.edition)
    (each_append Byte (bytes 2 (length e.value)) e.value (bytes-each 2 (length e.value)) h.0)))
    b)

-- ---- the call

module _ (s image : List ℕ) where
  restored-kept : valid_settings s ≡ true → (r : ImageRead) → Each Allowed (entries_in r)
      → SettingsValid (restore_outcome_by s r).settings × (length (restore_outcome_by s r).settings ≡ length s)
  unfolding restore_outcome_by
  restored-kept v (fault n at) a = (settings-valid s v, refl)
  restored-kept v (good es) a =
      let c = cleared-valid s (settings-valid s v) saved_count (omega arith) in
      let r = all_valid es a (cleared saved_count s) c.0 in
      (r.0, r.1 ∙ c.1)

  pub restored-valid : valid_settings s ≡ true → valid_settings (restore_promise s image).settings ≡ true
  unfolding restore_promise
  restored-valid v = rw v (valid-settings _ (restored-kept v (read_image image) (entries-allowed image)).0)

  pub restored-long : length (restore_promise s image).settings ≡ length s
  unfolding restore_promise
  restored-long =
      cond-by (λ (r : RestoreOutcome). length r.settings ≡ length s) (valid_settings s) _ _
      (λ v. (restored-kept v (read_image image) (entries-allowed image)).1) (λ _. refl)

  bytes-by : Each Byte s → (r : ImageRead) → Each (λ e. Each Byte e.value) (entries_in r) → Each Byte (restore_outcome_by s r).settings
  unfolding restore_outcome_by
  bytes-by b (fault n at) h = b
  bytes-by b (good es) h = all-bytes es h (cleared saved_count s) (cleared-bytes saved_count s b)

  pub restored-bytes : Each Byte s → Each Byte image → Each Byte (restore_promise s image).settings
  unfolding restore_promise
  restored-bytes b i =
      cond-by (λ (r : RestoreOutcome). Each Byte r.settings) (valid_settings s) _ _
      (λ _.
      bytes-by b (read_image image)
      (entries-each image (λ e. Each Byte e.value) (λ before at key there p. each-run (at + 9) (saved_length_at image at) image i)))
      (λ _. b)
