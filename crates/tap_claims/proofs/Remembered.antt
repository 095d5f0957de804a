-- The numbers that are remembered: the newest is among them, and what was among them is among the older ones behind one more.
-- Assumes nothing.
use mathlib.Core.Path.{◌≡◌, refl, sym, ◌∙◌}
use mathlib.Core.Bool.{Bool, true, false, cond, false≢true, ◌||◌, or-true}
use mathlib.Core.List.{List, [], ◌∷◌}
use mathlib.Core.Logic.{◌⊎◌, inl, inr}
use Prim.Native.Nat.{ℕ, zero, suc, max, ◌≤◌}
use native.Mathlib.Omega.{arith}
use lib.Dec.{leb, eqb}
use lib.ListN.{length, take, drop, get_or, length-take}
use borrow.Author.Tests.{leb-true, le-leb, eqb-true, eqb-false, eq-eqb, ne_eqb}
use Rattle.octets.proofs.Conditions.{cond-by}
use Rattle.line.specs.Numbers.{all_ones}
use Rattle.tap.specs.Earned.{most_numbers, Numbers, remember, is_among, may_hold, older_than_newest}

-- as many are kept as there is room for
abbrev pub Long : Numbers → Type 0
Long r = length r.kept ≡ most_numbers

or_left : (a b : Bool) → a ≡ true → (a || b) ≡ true
or_left a b e = rw e

or_right : (a b : Bool) → b ≡ true → (a || b) ≡ true
or_right a b e = rw e (or-true a)

or-either : (a b : Bool) → (a || b) ≡ true → (a ≡ true) ⊎ (b ≡ true)
or-either true b e = inl refl
or-either false b e = inr e

pub remember-long : (n : ℕ) (r : Numbers) → Long r → Long (remember n r)
unfolding remember
remember-long n r l = length-take most_numbers (n ∷ r.kept) ∙ rw l

pub newest-held : (n : ℕ) (r : Numbers) → may_hold (remember n r) n ≡ true
unfolding may_hold remember is_among
newest-held n r = rw (eq-eqb n n refl)

-- the last of some, or among the others
among-last : (n k : ℕ) (xs : List ℕ) → length xs ≡ suc k → is_among n xs ≡ true → (is_among n (take k xs) ≡ true) ⊎ (n ≡ get_or xs k 0)
unfolding is_among
among-last n k [] l e = absurd (omega arith)
among-last n zero (x ∷ []) l e = by (or-either (eqb n x) false e)
  where
    by : (eqb n x ≡ true) ⊎ (false ≡ true) → (false ≡ true) ⊎ (n ≡ x)
    by (inl f) = inr (eqb-true n x f)
    by (inr f) = absurd (false≢true f)
among-last n zero (x ∷ (y ∷ xs)) l e = absurd (omega arith)
among-last n (suc k) (x ∷ xs) l e = by (λ f. among-last n k xs (omega arith) f) (or-either (eqb n x) (is_among n xs) e)
  where
    further : (is_among n (take k xs) ≡ true) ⊎ (n ≡ get_or xs k 0) → ((eqb n x || is_among n (take k xs)) ≡ true) ⊎ (n ≡ get_or xs k 0)
    further (inl f) = inl (or_right (eqb n x) _ f)
    further (inr f) = inr f

    by : (is_among n xs ≡ true → (is_among n (take k xs) ≡ true) ⊎ (n ≡ get_or xs k 0)) → (eqb n x ≡ true) ⊎ (is_among n xs ≡ true)
        → ((eqb n x || is_among n (take k xs)) ≡ true) ⊎ (n ≡ get_or xs k 0)
    by h (inl f) = inl (or_left (eqb n x) _ f)
    by h (inr f) = further (h f)

module _ (n m : ℕ) (r : Numbers) where
  abbrev oldest : ℕ
  oldest = get_or r.kept 31 0

  abbrev forgets : Bool
  forgets = cond (eqb n all_ones) (r.unnumbered || eqb oldest all_ones)
      (leb n (cond (eqb oldest all_ones) r.forgotten (max r.forgotten oldest)))

  -- the number that is forgotten is told
  oldest-told : n ≡ oldest → forgets ≡ true
  oldest-told e =
      cond-by (λ t. t ≡ true) (eqb n all_ones) _ _
      (λ f. or_right r.unnumbered _ (eq-eqb oldest all_ones (sym e ∙ eqb-true n all_ones f)))
      (λ f. rw (ne_eqb oldest all_ones (λ g. eqb-false n all_ones f (e ∙ g))) (le-leb n _ (omega arith)))

  -- and one that was forgotten before
  forgotten-told : cond (eqb n all_ones) r.unnumbered (leb n r.forgotten) ≡ true → forgets ≡ true
  forgotten-told = by (eqb n all_ones)
    where
      by : (t : Bool) → cond t r.unnumbered (leb n r.forgotten) ≡ true
          → cond t (r.unnumbered || eqb oldest all_ones)
          (leb n (cond (eqb oldest all_ones) r.forgotten (max r.forgotten oldest))) ≡ true
      by true e = or_left r.unnumbered _ e
      by false e =
          let h = leb-true n r.forgotten e in
          le-leb n _ (cond-by (λ k. n ≤ k) (eqb oldest all_ones) _ _ (λ _. h) (λ _. omega arith))

  pub held-older : Long r → may_hold r n ≡ true → may_hold (older_than_newest (remember m r)) n ≡ true
  unfolding may_hold remember
  held-older l e = by (or-either (is_among n r.kept) _ e)
    where
      last : (is_among n (take 31 r.kept) ≡ true) ⊎ (n ≡ oldest) → (is_among n (take 31 r.kept) || forgets) ≡ true
      last (inl f) = or_left _ forgets f
      last (inr f) = or_right (is_among n (take 31 r.kept)) forgets (oldest-told f)

      by : (is_among n r.kept ≡ true) ⊎ (cond (eqb n all_ones) r.unnumbered (leb n r.forgotten) ≡ true)
          → (is_among n (take 31 r.kept) || forgets) ≡ true
      by (inl f) = last (among-last n 31 r.kept l f)
      by (inr f) = or_right (is_among n (take 31 r.kept)) forgets (forgotten-told f)

-- an older number is among all
pub older-held : (n : ℕ) (r : Numbers) → may_hold (older_than_newest r) n ≡ true → may_hold r n ≡ true
unfolding may_hold is_among
older-held n r e = by r.kept e
  where
    told : Bool
    told = cond (eqb n all_ones) r.unnumbered (leb n r.forgotten)

    more : (a b : Bool) → (b || told) ≡ true → ((a || b) || told) ≡ true
    more true b f = refl
    more false b f = f

    by : (xs : List ℕ) → (is_among n (drop 1 xs) || told) ≡ true → (is_among n xs || told) ≡ true
    by [] f = f
    by (x ∷ xs) f = more (eqb n x) (is_among n xs) f
