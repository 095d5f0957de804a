-- The laws of runs of bytes that are not zero.
-- Assumes nothing.
use Prim.Native.Nat.{ℕ, zero, suc, ◌+◌, ◌-◌, ◌≤◌, ◌<◌, min}
use mathlib.Core.Path.{◌≡◌, refl, ap}
use mathlib.Core.Bool.{Bool, true, false, cond}
use mathlib.Core.List.{List, [], ◌∷◌}
use native.Mathlib.Nat.{add-zero, zero-add, suc-add, sub-zero}
use native.Mathlib.Numerals.{add-one, unary_clauses}
use native.Mathlib.Omega.{arith}
use lib.Dec.{eqb, eqb-suc-zero}
use lib.ListN.{length, take, drop, get_or, length-drop, length-take}
use lib.Seq.{drop-cons, drop-drop}
use borrow.Author.Tests.{ltb-true, ltb-false}
use Rattle.std.specs.Prelude.{Some, None, position}
use Rattle.std.specs.List.{list_any, position_or_len}
use Rattle.octets.specs.Bytes.{Each}
use Rattle.line.specs.Runs.{nonzero, run_length}

-- ---- what a run is

pub nonzero-prefix : (most : ℕ) (xs : List ℕ) → nonzero most xs ≡ take (length (nonzero most xs)) xs
unfolding nonzero
nonzero-prefix zero xs = refl
nonzero-prefix (suc most) [] = refl
nonzero-prefix (suc most) (zero ∷ xs) = refl
nonzero-prefix (suc most) (suc b ∷ xs) = ap (λ (l : List ℕ). suc b ∷ l) (nonzero-prefix most xs)

pub nonzero-each : (most : ℕ) (xs : List ℕ) → Each (λ b. 1 ≤ b) (nonzero most xs)
unfolding nonzero
nonzero-each zero xs = tt
nonzero-each (suc most) [] = tt
nonzero-each (suc most) (zero ∷ xs) = tt
nonzero-each (suc most) (suc b ∷ xs) = (omega arith, nonzero-each most xs)

pub nonzero-most : (most : ℕ) (xs : List ℕ) → length (nonzero most xs) ≤ most
unfolding nonzero
nonzero-most zero xs = omega arith
nonzero-most (suc most) [] = omega arith
nonzero-most (suc most) (zero ∷ xs) = omega arith
nonzero-most (suc most) (suc b ∷ xs) = omega (arith, nonzero-most most xs)

pub nonzero-length : (most : ℕ) (xs : List ℕ) → length (nonzero most xs) ≤ length xs
unfolding nonzero
nonzero-length zero xs = omega arith
nonzero-length (suc most) [] = omega arith
nonzero-length (suc most) (zero ∷ xs) = omega arith
nonzero-length (suc most) (suc b ∷ xs) = omega (arith, nonzero-length most xs)

-- a run that is shorter than it may be ends at a zero
pub nonzero-stop : (most : ℕ) (xs : List ℕ) → length (nonzero most xs) < most → length (nonzero most xs) < length xs
    → get_or xs (length (nonzero most xs)) 0 ≡ 0
unfolding nonzero
nonzero-stop zero xs h l = absurd (omega arith)
nonzero-stop (suc most) [] h l = absurd (omega arith)
nonzero-stop (suc most) (zero ∷ xs) h l = refl
nonzero-stop (suc most) (suc b ∷ xs) h l = nonzero-stop most xs (omega arith) (omega arith)

-- the run of a beginning
pub nonzero-take : (m n : ℕ) (xs : List ℕ) → nonzero m (take n xs) ≡ nonzero (min m n) xs
unfolding nonzero
nonzero-take zero n xs = simp unary_clauses
nonzero-take (suc m) zero xs = simp unary_clauses
nonzero-take (suc m) (suc n) [] = simp unary_clauses
nonzero-take (suc m) (suc n) (zero ∷ xs) = simp unary_clauses
nonzero-take (suc m) (suc n) (suc b ∷ xs) = simp (unary_clauses, nonzero-take m n xs)

-- ---- a run byte by byte

pub reached-none : (most : ℕ) (xs : List ℕ) → length (nonzero most xs) ≡ run_length most 0 xs
reached-none most xs = simp (sub-zero, zero-add)

nonzero-more : (most b : ℕ) (xs : List ℕ) → 0 < most → 0 < b → length (nonzero most (b ∷ xs)) ≡ suc (length (nonzero (most - 1) xs))
unfolding nonzero
nonzero-more zero b xs h l = absurd (omega arith)
nonzero-more (suc most) zero xs h l = absurd (omega arith)
nonzero-more (suc most) (suc b) xs h l = simp unary_clauses

nonzero-zero : (most : ℕ) (xs : List ℕ) → nonzero most (0 ∷ xs) ≡ []
unfolding nonzero
nonzero-zero zero xs = refl
nonzero-zero (suc most) xs = refl

-- a byte that is not zero is next, or a zero, or the run's end
module _ (most k : ℕ) (xs : List ℕ) where
  pub reached-more : k < most → k < length xs → 0 < get_or xs k 0 → run_length most k xs ≡ run_length most (k + 1) xs
  reached-more h l b =
      let e : most - k - 1 ≡ most - (k + 1) = omega arith in
      let n = nonzero-more (most - k) (get_or xs k 0) (drop (k + 1) xs) (omega arith) b in
      rw (drop-cons xs k 0 l, ← add-one k) (omega (arith, rw e at n))

  pub reached-zero : k < length xs → get_or xs k 0 ≡ 0 → run_length most k xs ≡ k
  reached-zero l e = rw (drop-cons xs k 0 l, e, nonzero-zero, add-zero)

  pub reached-end : min most (length xs) ≤ k → run_length most k xs ≡ k
  reached-end h =
      let m = nonzero-most (most - k) (drop k xs) in
      let n = nonzero-length (most - k) (drop k xs) in
      omega (arith, length-drop k xs)

-- ---- a run block by block

-- a run that goes on as far as it may, and the run behind it
nonzero-add : (j m : ℕ) (xs : List ℕ) → length (nonzero j xs) ≡ j → length (nonzero (j + m) xs) ≡ j + length (nonzero m (drop j xs))
unfolding nonzero
nonzero-add zero m xs h = simp zero-add
nonzero-add (suc j) m [] h = absurd (omega arith)
nonzero-add (suc j) m (zero ∷ xs) h = absurd (omega arith)
nonzero-add (suc j) m (suc b ∷ xs) h = rw (suc-add j m) (omega (arith, nonzero-add j m xs (omega arith)))

-- j bytes that are not zero are next
pub reached-block : (most k j : ℕ) (xs : List ℕ) → k + j ≤ most → length (nonzero j (drop k xs)) ≡ j
    → run_length most k xs ≡ run_length most (k + j) xs
reached-block most k j xs h l =
    let e : j + (most - (k + j)) ≡ most - k = omega arith in
    omega (arith, rw (e, drop-drop) at (nonzero-add j (most - (k + j)) (drop k xs) l))

-- a run that is shorter than it may be goes no further
nonzero-still : (j most : ℕ) (xs : List ℕ) → j ≤ most → length (nonzero j xs) < j → nonzero most xs ≡ nonzero j xs
unfolding nonzero
nonzero-still zero most xs h l = absurd (omega arith)
nonzero-still (suc j) zero xs h l = absurd (omega arith)
nonzero-still (suc j) (suc most) [] h l = refl
nonzero-still (suc j) (suc most) (zero ∷ xs) h l = refl
nonzero-still (suc j) (suc most) (suc b ∷ xs) h l = ap (λ (l : List ℕ). suc b ∷ l) (nonzero-still j most xs (omega arith) (omega arith))

-- the run ends within the next j bytes
pub reached-stop : (most k j : ℕ) (xs : List ℕ) → k + j ≤ most → length (nonzero j (drop k xs)) < j
    → run_length most k xs ≡ k + length (nonzero j (drop k xs))
reached-stop most k j xs h l = rw (nonzero-still j (most - k) (drop k xs) (omega arith) l)

-- ---- a search for the first zero

first-zero : (xs : List ℕ) → length (nonzero (length xs) xs) ≡ position_or_len (λ b. eqb b 0) xs
unfolding nonzero
first-zero [] = refl
first-zero (zero ∷ xs) = refl
first-zero (suc b ∷ xs) = rw eqb-suc-zero (omega (arith, first-zero xs))

found : (t : Bool) (m n : ℕ) → Some n ≡ cond t (Some m) None → (t ≡ true) × (n ≡ m)
found true m n e = (refl, cc)
found false m n e = (cc, cc)

not_found : (t : Bool) (m : ℕ) → None ≡ cond t (Some m) None → t ≡ false
not_found true m e = cc
not_found false m e = refl

pub zero-at : (xs : List ℕ) {n : ℕ} → Some n ≡ position (λ b. eqb b 0) xs → (n ≡ length (nonzero (length xs) xs)) × (n ≤ length xs)
zero-at xs {n} e =
    let f = found _ _ n e in
    let g = ltb-true _ _ f.0 in
    (omega (arith, first-zero xs, f.1), omega (arith, g, f.1))

pub no-zero : (xs : List ℕ) → None ≡ position (λ b. eqb b 0) xs → length xs ≡ length (nonzero (length xs) xs)
no-zero xs e =
    let g = ltb-false _ _ (not_found _ _ e) in
    omega (arith, first-zero xs, g, nonzero-length (length xs) xs)

-- the bytes of a list behind those that are passed
module _ (k : ℕ) (s : List ℕ) (h : k ≤ length s) where
  abbrev rest : List ℕ
  rest = take (length s - k) (drop k s)

  rest-length : length rest ≡ length s - k
  rest-length = simp (length-take, length-drop) (omega arith)

  rest-run : run_length (length s) k s ≡ k + length (nonzero (length rest) rest)
  rest-run =
      let m : min (length s - k) (length s - k) ≡ length s - k = omega arith in
      rw (rest-length, nonzero-take, m)

  pub zero_found : {n : ℕ} → Some n ≡ position (λ b. eqb b 0) rest → (k + n ≡ run_length (length s) k s) × (k + n ≤ length s)
  zero_found e =
      let z = zero-at rest e in
      (omega (arith, rest-run, z.0), omega (arith, rest-length, z.1))

  pub zero_not_found : None ≡ position (λ b. eqb b 0) rest → length s ≡ run_length (length s) k s
  zero_not_found e = omega (arith, rest-run, rest-length, no-zero rest e)

-- a part of a list
module _ (at n : ℕ) (s : List ℕ) (h : at + n ≤ length s) where
  abbrev part : List ℕ
  part = take (at + n - at) (drop at s)

  pub length-part : length part ≡ n
  length-part = simp (length-take, length-drop) (omega arith)

  pub part-run : nonzero (length part) part ≡ nonzero n (drop at s)
  part-run =
      let e : at + n - at ≡ n = omega arith in
      let m : min n n ≡ n = omega arith in
      rw (length-part, e, nonzero-take, m)

-- none of n bytes is zero
pub any-nonzero : (n : ℕ) (xs : List ℕ) → n ≤ length xs → list_any (λ b. eqb b 0) (take n xs) ≡ false → length (nonzero n xs) ≡ n
unfolding nonzero
any-nonzero zero xs h e = refl
any-nonzero (suc n) [] h e = absurd (omega arith)
any-nonzero (suc n) (zero ∷ xs) h e = cc
any-nonzero (suc n) (suc b ∷ xs) h e = ap suc (any-nonzero n xs (omega arith) (rw eqb-suc-zero at e))
