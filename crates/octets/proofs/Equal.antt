-- The laws of the tests whether two lists, or runs of two lists, are equal.
-- Assumes nothing.
use Prim.Native.Nat.{ℕ, ◌+◌, ◌-◌, ◌≤◌}
use mathlib.Core.Path.{◌≡◌, refl, ap}
use lib.Dec.{eqb}
use lib.Pointwise.{pointwise}
use mathlib.Core.Bool.{Bool, true, false, ◌&&◌, and-false, and-eq-true_iff}
use mathlib.Core.List.{List, [], ◌∷◌}
use native.Mathlib.Nat.{add-sub_cancel_left}
use lib.ListN.{length, take, drop}
use borrow.Author.Tests.{eqb-true, eq-eqb, leb-true, le-leb}
use Rattle.octets.specs.Bytes.{run, fits, equal, same_run}

pub equal-refl : (xs : List ℕ) → equal xs xs ≡ true
unfolding equal
equal-refl [] = refl
equal-refl (x ∷ xs) = rw (eq-eqb x x refl) (equal-refl xs)

pub equal-true : (xs ys : List ℕ) → equal xs ys ≡ true → xs ≡ ys
unfolding equal
equal-true [] [] e = refl
equal-true [] (y ∷ ys) e = cc
equal-true (x ∷ xs) [] e = cc
equal-true (x ∷ xs) (y ∷ ys) e =
    let t = (and-eq-true_iff _ (equal xs ys)).0 e in
    cc (eqb-true x y t.0, equal-true xs ys t.1)

-- ---- runs

pub same_run-true : (s : List ℕ) (at : ℕ) (t : List ℕ) (bt n : ℕ) → same_run s at t bt n ≡ true
    → (at + n ≤ length s) × (bt + n ≤ length t) × (run at n s ≡ run bt n t)
unfolding same_run
same_run-true s at t bt n e =
    let a = (and-eq-true_iff (fits at n s) _).0 e in
    let b = (and-eq-true_iff (fits bt n t) _).0 a.1 in
    (leb-true (at + n) (length s) a.0, leb-true (bt + n) (length t) b.0, equal-true _ _ b.1)

pub same_run-equal : (s : List ℕ) (at : ℕ) (t : List ℕ) (bt n : ℕ) → at + n ≤ length s → bt + n ≤ length t
    → run at n s ≡ run bt n t → same_run s at t bt n ≡ true
unfolding same_run
same_run-equal s at t bt n h k e = rw (le-leb (at + n) (length s) h, le-leb (bt + n) (length t) k, e) (equal-refl (run bt n t))

-- as the code compares them
pointwise-equal : (xs ys : List ℕ) → pointwise eqb xs ys ≡ equal xs ys
unfolding equal
pointwise-equal [] [] = refl
pointwise-equal [] (y ∷ ys) = refl
pointwise-equal (x ∷ xs) [] = refl
pointwise-equal (x ∷ xs) (y ∷ ys) = ap (λ (b : Bool). eqb x y && b) (pointwise-equal xs ys)

pub same_run-there : (s : List ℕ) (at : ℕ) (t : List ℕ) (bt n : ℕ) → fits at n s ≡ true → fits bt n t ≡ true
    → pointwise eqb (take (at + n - at) (drop at s)) (take (bt + n - bt) (drop bt t)) ≡ same_run s at t bt n
unfolding same_run
same_run-there s at t bt n e f = rw (pointwise-equal, add-sub_cancel_left at n, add-sub_cancel_left bt n, e, f)

pub same_run-none-left : (s : List ℕ) (at : ℕ) (t : List ℕ) (bt n : ℕ) → fits at n s ≡ false → same_run s at t bt n ≡ false
unfolding same_run
same_run-none-left s at t bt n e = rw e

pub same_run-none-right : (s : List ℕ) (at : ℕ) (t : List ℕ) (bt n : ℕ) → fits bt n t ≡ false → same_run s at t bt n ≡ false
unfolding same_run
same_run-none-right s at t bt n f = rw (f, and-false)
