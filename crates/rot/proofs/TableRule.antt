-- A rule of a table, proved at all of its entries by one computed test.
-- Assumes nothing.
use mathlib.Core.Path.{◌≡◌}
use mathlib.Core.Bool.{Bool, true, ◌&&◌, and-eq-true_iff}
use mathlib.Core.List.{List, [], ◌∷◌}
use Prim.Native.Nat.{ℕ, zero, suc, ◌+◌, ◌<◌}
use native.Mathlib.Nat.{add-zero, zero-add, add-suc, suc-add}
use native.Mathlib.Omega.{arith}
use lib.Dec.{eqb}
use lib.ListN.{length, get_or}
use borrow.Author.Tests.{eqb-true}

-- whether each entry is what the rule says of its index, counted from i
abbrev pub follows : (ℕ → ℕ) → ℕ → List ℕ → Bool
follows rule i [] = true
follows rule i (x ∷ xs) = eqb x (rule i) && follows rule (suc i) xs

module _ (rule : ℕ → ℕ) where
  from : (xs : List ℕ) (i : ℕ) → follows rule i xs ≡ true → (k : ℕ) → k < length xs → get_or xs k 0 ≡ rule (i + k)
  from [] i t k h = absurd (omega arith)
  from (x ∷ xs) i t zero h = rw add-zero (eqb-true x (rule i) ((and-eq-true_iff (eqb x (rule i)) _).0 t).0)
  from (x ∷ xs) i t (suc k) h = rw (add-suc, ← suc-add) (from xs (suc i) ((and-eq-true_iff (eqb x (rule i)) _).0 t).1 k (omega arith))

  pub entry-rule : (xs : List ℕ) → follows rule 0 xs ≡ true → (k : ℕ) → k < length xs → get_or xs k 0 ≡ rule k
  entry-rule xs t k h = rw zero-add at (from xs 0 t k h)
