-- A key set: what is known fits the settings behind it and behind its answer, and its result is the table's.
-- Assumes nothing.
use mathlib.Core.Path.{◌≡◌, refl, sym, subst}
use mathlib.Core.Bool.{Bool, true, false, cond}
use mathlib.Core.List.{List}
use mathlib.Core.Option.{Option, some}
use Prim.Native.Nat.{ℕ, ◌-◌}
use native.Mathlib.Omega.{arith}
use lib.Dec.{ltb, eqb}
use lib.ListN.{length, drop}
use lib.Seq.{get_or-set_same, set-set, set-get_or}
use borrow.Author.Tests.{ltb-false}
use Rattle.octets.specs.Bytes.{number_at}
use Rattle.supervisor.specs.Limits.{SettingsKey, highest_key, first_setting, setting_count, last_edition}
use Rattle.supervisor.specs.State.{Factory, Setting, unset, Settings, setting, with_setting, Retained}
use Rattle.responder.specs.Requests.{Stored, wrong_value_length, store_value}
use Rattle.supervisor_claims.proofs.claims.LastSetLaws.{onto}
use Rattle.tap.specs.Known.{KeyKnown, key_unknown, set_seen, after_set_by, result_by, after_set_answer, Known, key_known, with_key}
use Rattle.tap.specs.Known.{is_taken_set}
use Rattle.tap.specs.Known.{known_after_set, result_due}
use Rattle.tap.specs.Accused.{set_accused_by}
use Rattle.tap_claims.proofs.Fits.{Fits}
use Rattle.tap_claims.proofs.KeyLaws.{stored_result, set-fits, result-right}
use Rattle.tap_claims.proofs.KnownLaws.{key_fits}

-- three choices by one test
cond-three : {A B C : Type 0} (P : A → B → C → Type 0) (t : Bool) {x y : A} {v w : B} {i j : C}
    → (t ≡ true → P x v i) → (t ≡ false → P y w j) → P (cond t x y) (cond t v w) (cond t i j)
cond-three P true f g = f refl
cond-three P false f g = g refl

module _ {k : Known} {f : Factory} {z : Settings} {r : Option Retained} (fits : Fits k f z r) (long : length z ≡ setting_count) (n : ℕ)
    (bs : List ℕ) where
  abbrev key : ℕ
  key = number_at 1 bs 0

  abbrev value : List ℕ
  value = drop 1 bs

  -- what is known of the key behind the set
  abbrev after : KeyKnown
  after = let x = key_known k key in after_set_by key (set_seen n value) x.sets x.edition

  -- by whether the table takes the set, the result that it gives, and what is stored
  abbrev RightBy : Bool → Option ℕ → Stored → Type 0
  RightBy taken due t =
      let j = cond taken (with_key k key after) k in
      Fits j f t.settings r
      × (set_accused_by due t.result ≡ false)
      × Fits (cond taken (with_key j key (after_set_answer t.result (key_known j key))) j) f t.settings r

  taken-right : SettingsKey key → RightBy true (result_by (key_known k key).edition) (record {
    result = stored_result (setting z key);
    settings = with_setting z key (onto (setting z key) (some value));
  })
  taken-right h =
      let x = key_known k key in
      let y = setting z key in
      let both = set-fits key n value y x (fits.keys key h) in
      let i = key - first_setting in
      rw (get_or-set_same k.keys i after key_unknown (omega (arith, h, fits.keys_long)), set-set k.keys i after) (
        key_fits fits long key h after (onto y (some value)) both.0,
        result-right key n value y x (fits.keys key h),
        key_fits fits long key h (after_set_answer (stored_result y) after) (onto y (some value)) both.1,
      )

  -- what is stored; at the last edition nothing
  abbrev Stores : Stored → ℕ → Setting → Type 0
  Stores t result y = t ≡ record { result = result; settings = with_setting z key y }

  set-right : RightBy (is_taken_set key (length value)) (result_due k bs) (store_value z key value)
  unfolding result_due store_value
  set-right =
      cond-three RightBy (ltb highest_key key) (λ _. (fits, refl, fits)) (λ a.
      cond-three RightBy (ltb key first_setting) (λ _. (fits, refl, fits)) (λ b.
      cond-three RightBy (wrong_value_length key (length value)) (λ _. (fits, refl, fits)) (λ _.
      let stored =
      cond-three Stores (eqb (setting z key).edition last_edition) {x = record { result = 4; settings = z }} {v = 4} {i = setting z key}
      (λ _. rw (set-get_or z (key - first_setting) unset)) (λ _. refl) in
      subst (RightBy true (result_by (key_known k key).edition)) (sym stored)
      (taken-right (record { lower = ltb-false key first_setting b; upper = ltb-false highest_key key a })))))

  -- the same of what is known behind the set
  pub sets-right : let t = store_value z key value in
      let j = known_after_set k n bs in
      Fits j f t.settings r
      × (set_accused_by (result_due k bs) t.result ≡ false)
      × Fits (cond (is_taken_set key (length value)) (with_key j key (after_set_answer t.result (key_known j key))) j) f t.settings r
  unfolding known_after_set
  sets-right = set-right
