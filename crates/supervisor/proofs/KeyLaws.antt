-- Laws of looking a key up: what valid stores answer, and how long a value is.
-- Assumes nothing.
use mathlib.Core.Path.{◌≡◌, refl}
use mathlib.Core.Bool.{true, ◌&&◌, and-eq-true_iff}
use mathlib.Core.List.{List, []}
use Prim.Native.Nat.{ℕ, ◌+◌, ◌≤◌}
use native.Mathlib.Omega.{arith}
use lib.Dec.{ltb, eqb}
use lib.ListN.{length, drop, length-take}
use borrow.Author.Tests.{ltb-false}
use Rattle.octets.specs.Bytes.{run}
use Rattle.octets.specs.Places.{LentBytes, place_in}
use Rattle.octets.proofs.Conditions.{cond-by, cond_both}
use Rattle.octets.proofs.Parts.{place-there}
use Rattle.supervisor.specs.Limits
use Rattle.supervisor.specs.Limits.{highest_key}
use Rattle.supervisor.specs.Layout
use Rattle.supervisor.specs.Valid.{valid_factory, valid_settings}
use Rattle.supervisor.specs.Calls.{setting_at, location_of, found_at_promise, lookup_result_promise, within, value_in, value_at_promise}
use Rattle.supervisor.specs.Calls.{lookup_promise, place_within, value_place, lookup_place, part_within, part_place_at, value_at_place}
use Rattle.supervisor.specs.Calls.{edition_at_promise, edition_promise}
use Rattle.supervisor.specs.declared.keys.Location.{Location}
use Rattle.supervisor.specs.declared.keys.Location.TheVariants as location
use Rattle.supervisor.proofs.OffsetLaws.{longest-short, offset-within, settings-key}
use Rattle.supervisor.proofs.ValidLaws.{FactoryValid, factory-valid, settings-valid}
use Rattle.supervisor.specs.Valid.{SettingsValid}

-- ---- what valid stores answer is what the key's location gives

module _ (f s : List ℕ) (key : ℕ) (v : valid_factory f ≡ true) (w : valid_settings s ≡ true) where
  pub result-valid : (most : ℕ) → lookup_result_promise f s key most ≡ found_at_promise key most (location_of f s key)
  unfolding lookup_result_promise
  result-valid most = rw (v, w)

  pub edition-valid : edition_promise f s key ≡ edition_at_promise s key (location_of f s key)
  unfolding edition_promise
  edition-valid = rw (v, w)

  pub value-valid : (most : ℕ) → lookup_promise f s key most ≡ value_at_promise f s key most (location_of f s key)
  unfolding lookup_promise
  value-valid most = rw (v, w)

-- ---- a value begins within the store that holds it

module _ (f s : List ℕ) where
  abbrev Begins : Location → Type 0
  Begins (location.Factory at n) = at ≤ length f
  Begins (location.Settings at n) = at ≤ length s
  Begins location.Nowhere = Unit {0}
  Begins location.SetOnly = Unit {0}

  setting-begins : (at : ℕ) → at + Layout.setting_value_offset ≤ length s → Begins (setting_at s at)
  unfolding setting_at
  setting-begins at h = cond-by Begins (eqb (Layout.setting_held s at) 1) _ _ (λ _. h) (λ _. tt)

  location-begins : (key : ℕ) → Layout.factory-length ≤ length f → Layout.settings_length ≤ length s → key ≤ highest_key
      → Begins (location_of f s key)
  unfolding location_of
  location-begins key v w h =
      cond-by Begins (eqb key 0) _ _ (λ _. omega (arith, v)) (λ a.
      cond-by Begins (eqb key 1) _ _ (λ _. omega (arith, v)) (λ b.
      cond-by Begins (eqb key 2) _ _ (λ _. omega (arith, v)) (λ c.
      cond-by Begins (eqb key Limits.passphrase_key) _ _ (λ _. tt) (λ _.
      setting-begins (Layout.setting_offset key) (omega (arith, w, offset-within key (settings-key key a b c h)))))))

  found-begins : (key : ℕ) → (valid_factory f && valid_settings s) ≡ true → key ≤ highest_key → Begins (location_of f s key)
  found-begins key v h =
      let valid = (and-eq-true_iff _ _).0 v in
      location-begins key (factory-valid f valid.0).long (settings-valid s valid.1).long h

-- ---- the part of a value that begins within its store begins there

part-there : (most n at : ℕ) (s : LentBytes) → at ≤ length s.now → place_within most n s at ≡ part_within most n s at
part-there most n at s h =
    cond_both (λ i p. place_in s i ≡ p) (ltb most n) (λ _. refl) (λ _. place-there s at h)

place-there-at : (f s : LentBytes) (most : ℕ) (p : Location) → Begins f.now s.now p → value_place f s most p ≡ part_place_at f s most p
unfolding value_place part_place_at
place-there-at f s most (location.Factory at n) h = part-there most n at f h
place-there-at f s most (location.Settings at n) h = part-there most n at s h
place-there-at f s most location.Nowhere h = refl
place-there-at f s most location.SetOnly h = refl

pub place-valid : (f s : LentBytes) (key most : ℕ) → (valid_factory f.now && valid_settings s.now) ≡ true
    → lookup_place f s key most ≡ value_at_place f s key most (location_of f.now s.now key)
unfolding lookup_place
place-valid f s key most v =
    rw v
    (cond-by (λ p. p ≡ value_at_place f s key most (location_of f.now s.now key)) (ltb highest_key key) _ _ (λ e. rw e) (λ e.
    rw e (place-there-at f s most _ (found-begins f.now s.now key v (ltb-false _ _ e)))))

-- ---- a value that is handed out is no longer than the longest key's

within-short : (most at n : ℕ) (s : List ℕ) → n ≤ Limits.longest_value → length (within most n (run at n s)) ≤ Limits.longest_value
within-short most at n s h =
    cond-by (λ v. length v ≤ Limits.longest_value) (ltb most n) [] (run at n s) (λ _. omega arith)
    (λ _. omega (arith, length-take n (drop at s)))

module _ (f s : List ℕ) (most : ℕ) where
  -- the value at an offset
  abbrev Short : Location → Type 0
  Short p = length (value_in f s most p) ≤ Limits.longest_value

  setting-short : (at : ℕ) → Layout.setting_length s at ≤ Limits.longest_value → Short (setting_at s at)
  unfolding setting_at value_in
  setting-short at h =
      cond-by Short (eqb (Layout.setting_held s at) 1) _ _ (λ _. within-short most (at + Layout.setting_value_offset) _ s h)
      (λ _. omega arith)

  location-short : (key : ℕ) → FactoryValid f → SettingsValid s → key ≤ highest_key → Short (location_of f s key)
  unfolding location_of value_in
  location-short key v w h =
      cond-by Short (eqb key 0) _ _ (λ _. within-short most Layout.pong_offset 4 f (omega arith)) (λ a.
      cond-by Short (eqb key 1) _ _ (λ _. within-short most Layout.image_id_offset (Layout.image_id_length f) f (omega arith)) (λ b.
      cond-by Short (eqb key 2) _ _ (λ _. within-short most Layout.item_count_offset 8 f (omega arith)) (λ c.
      cond-by Short (eqb key Limits.passphrase_key) _ _ (λ _. omega arith) (λ _.
      setting-short (Layout.setting_offset key) (omega (arith, w.each key (settings-key key a b c h), longest-short key))))))

pub value-short : (f s : List ℕ) (key most : ℕ) → valid_factory f ≡ true → valid_settings s ≡ true
    → length (lookup_promise f s key most) ≤ Limits.longest_value
unfolding lookup_promise
value-short f s key most v w =
    rw (v, w)
    (cond-by (λ l. length l ≤ Limits.longest_value) (ltb Limits.highest_key key) [] _ (λ _. omega arith) (λ e.
    location-short f s most key (factory-valid f v) (settings-valid s w) (ltb-false _ _ e)))
