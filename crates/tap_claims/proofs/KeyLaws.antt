-- What is known of a settings key fits its setting behind a set and behind the set's answer, and what a lookup of it then answers.
-- Assumes nothing.
use mathlib.Core.Path.{◌≡◌, refl}
use mathlib.Core.Bool.{Bool, true, false, cond, or-true}
use mathlib.Core.List.{List, [], ◌∷◌}
use mathlib.Core.Logic.{◌⊎◌, inl, inr, ⊎_map}
use mathlib.Core.Option.{Option, none, some, map}
use Prim.Native.Nat.{ℕ, zero, suc}
use lib.Dec.{ltb, eqb}
use lib.ListN.{length, take}
use borrow.Author.Tests.{eq-eqb}
use Rattle.octets.proofs.Conditions.{cond-by, cond_both}
use Rattle.octets.proofs.Equal.{equal-refl}
use Rattle.supervisor.specs.Limits.{passphrase_key, last_edition}
use Rattle.supervisor.specs.State.{Setting}
use Rattle.supervisor.specs.Local.{Found, fitted}
use Rattle.supervisor_claims.proofs.claims.LastSetLaws.{onto}
use Rattle.tap.specs.Known.{SetSeen, KeyKnown, set_seen, after_set_by, result_by, newest_answered, after_set_answer}
use Rattle.tap.specs.Known.{most_sets, candidates, is_found, is_one_of, is_any_found, is_among_sets, may_find_by, may_find}
use Rattle.tap.specs.Accused.{set_accused_by}
use Rattle.tap_claims.proofs.Fits.{HasOne, AmongSets, SetsFit, KeyFits}

-- ---- the sets that a lookup may answer

-- of the first n sets they are the same, or there is none
candidates-first : (n : ℕ) (xs : List SetSeen) → (candidates (take n xs) ≡ none) ⊎ (candidates (take n xs) ≡ candidates xs)
unfolding candidates
candidates-first zero xs = inl refl
candidates-first (suc n) [] = inl refl
candidates-first (suc n) (x ∷ xs) =
    cond_both (λ a b. (a ≡ none) ⊎ (a ≡ b)) x.answered (λ _. inr refl) (λ _.
    ⊎_map (λ e. rw e) (λ e. rw e) (candidates-first n xs))

module _ (v : Option (List ℕ)) where
  among_first : (n : ℕ) (xs : List SetSeen) → AmongSets (candidates xs) v → AmongSets (candidates (take n xs)) v
  among_first n xs h = by (candidates-first n xs)
    where
      by : (candidates (take n xs) ≡ none) ⊎ (candidates (take n xs) ≡ candidates xs) → AmongSets (candidates (take n xs)) v
      by (inl e) = rw e tt
      by (inr e) = rw e h

  -- one more in front
  among-more : (x : SetSeen) (o : Option (List SetSeen)) → (v ≡ some x.value) ⊎ AmongSets o v
      → AmongSets (map (λ (ys : List SetSeen). x ∷ ys) o) v
  among-more x none h = tt
  among-more x (some ys) h = h

-- ---- a set, and its answer

-- the result of a set that the table takes
abbrev pub stored_result : Setting → ℕ
stored_result z = cond (eqb z.edition last_edition) 4 0

module _ (key n : ℕ) (v : List ℕ) (z : Setting) where
  unknown-set : (xs : List SetSeen) → AmongSets (candidates xs) z.value → (t : Bool) (w : Option (List ℕ))
      → (w ≡ some v) ⊎ (w ≡ z.value) → AmongSets (candidates (cond t [] (take most_sets (set_seen n v ∷ xs)))) w
  unfolding candidates
  unknown-set xs h true w e = tt
  unknown-set xs h false w e =
      among-more w (set_seen n v) (candidates (take 4 xs)) (⊎_map (λ f. f) (λ f. rw f (among_first z.value 4 xs h)) e)

  new-value : ((onto z (some v)).value ≡ some v) ⊎ ((onto z (some v)).value ≡ z.value)
  new-value =
      cond-by (λ (y : Setting). (y.value ≡ some v) ⊎ (y.value ≡ z.value)) (eqb z.edition last_edition) _ _ (λ _. inr refl)
      (λ _. inl refl)

  -- the answer of one that is the newest: stored, or not
  unknown-answer : (xs : List SetSeen) → AmongSets (candidates xs) z.value → (t : Bool)
      → AmongSets (candidates (newest_answered (stored_result z) (cond t [] (take most_sets (set_seen n v ∷ xs))))) (onto z (some v)).value
  unfolding candidates
  unknown-answer xs h true = tt
  unknown-answer xs h false =
      cond_both (λ (r : ℕ) (y : Setting). AmongSets (candidates (newest_answered r (set_seen n v ∷ take 4 xs))) y.value)
      (eqb z.edition last_edition) {x = 4} {y = 0} {v = z} {w = record { edition = suc z.edition; value = some v }}
      (λ _. among_first z.value 4 xs h) (λ _. inl refl)

  pub set-fits : (x : KeyKnown) → KeyFits key x z → let a = after_set_by key (set_seen n v) x.sets x.edition in
      KeyFits key a (onto z (some v)) × KeyFits key (after_set_answer (stored_result z) a) (onto z (some v))
  unfolding after_set_answer
  set-fits x = by x.edition x.sets
    where
      by : (o : Option ℕ) (xs : List SetSeen) → SetsFit key o xs z → let a = after_set_by key (set_seen n v) xs o in
          KeyFits key a (onto z (some v)) × KeyFits key (after_set_answer (stored_result z) a) (onto z (some v))
      by none xs h = (unknown-set xs h (eqb key passphrase_key) _ new-value, unknown-answer xs h (eqb key passphrase_key))
      by (some e) xs h =
          rw (← h.0)
          (cond_both (λ (a : KeyKnown) (y : Setting). KeyFits key a y × KeyFits key (after_set_answer (stored_result z) a) y)
          (eqb z.edition last_edition) (λ _. ((refl, h.1), (refl, h.1))) (λ _. ((refl, λ f. rw f), (refl, λ f. rw f))))

  -- its result is the table's
  pub result-right : (x : KeyKnown) → KeyFits key x z → set_accused_by (result_by x.edition) (stored_result z) ≡ false
  result-right x = by x.edition
    where
      by : (o : Option ℕ) → SetsFit key o x.sets z → set_accused_by (result_by o) (stored_result z) ≡ false
      by none h = cond-by (λ (r : ℕ). set_accused_by none r ≡ false) (eqb z.edition last_edition) 4 0 (λ _. refl) (λ _. refl)
      by (some e) h = rw (← h.0, eq-eqb (stored_result z) (stored_result z) refl)

-- ---- a lookup

-- result and value are the same whatever the edition
found-itself : (most edition : ℕ) (o : Option (List ℕ)) → let f = fitted most edition o in
    is_found f.result f.value (fitted most 0 o) ≡ true
unfolding fitted
found-itself most edition none = equal-refl []
found-itself most edition (some v) =
    cond_both (λ (f g : Found). is_found f.result f.value g ≡ true) (ltb most (length v)) (λ _. equal-refl []) (λ _. equal-refl v)

found-any : (most edition : ℕ) (o : Option (List ℕ)) → is_any_found (fitted most edition o).result ≡ true
unfolding fitted
found-any most edition none = refl
found-any most edition (some v) =
    cond-by (λ (f : Found). is_any_found f.result ≡ true) (ltb most (length v)) _ _ (λ _. refl) (λ _. refl)

module _ (most edition : ℕ) (o : Option (List ℕ)) where
  abbrev looked : Found
  looked = fitted most edition o

  found-one : (xs : List SetSeen) → HasOne xs o → is_one_of most looked.result looked.value xs ≡ true
  unfolding is_one_of
  found-one [] h = absurd h
  found-one (x ∷ xs) (inl e) = rw (← e, found-itself most edition o)
  found-one (x ∷ xs) (inr h) = rw (found-one xs h, or-true)

  found_among : (c : Option (List SetSeen)) → AmongSets c o → is_among_sets most looked.result looked.value c ≡ true
  found_among none h = found-any most edition o
  found_among (some xs) h = found-one xs h

pub find-right : (key most : ℕ) (x : KeyKnown) (z : Setting) → eqb key passphrase_key ≡ false → KeyFits key x z
    → let f = fitted most z.edition z.value in may_find x most f.result f.value ≡ true
unfolding may_find
find-right key most x z n = by x.edition
  where
    by : (o : Option ℕ) → SetsFit key o x.sets z
        → let f = fitted most z.edition z.value in may_find_by most f.result f.value x.sets o ≡ true
    by none h = found_among most z.edition z.value (candidates x.sets) h
    by (some e) h = rw (← h.1 n) (found-itself most z.edition z.value)
