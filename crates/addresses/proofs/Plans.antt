-- The laws of the plan: when it passes, and its rows.
-- Assumes nothing.
use Prim.Native.Nat.{ℕ, zero, suc, ◌+◌, ◌*◌, ◌-◌, ◌≤◌, ◌<◌, min}
use mathlib.Core.Path.{◌≡◌, refl, sym, ◌∙◌}
use mathlib.Core.Bool.{Bool, true, false}
use mathlib.Core.List.{List, [], ◌∷◌, map}
use native.Mathlib.Nat.{zero-add, add-zero, mul-le-mul_right}
use native.Mathlib.Omega.{arith}
use borrow.Author.Tests.{ltb-true, ltb-false, lt-ltb, le-ltb, eq-eqb, ne_eqb}
use lib.Dec.{ltb}
use lib.ListN.{length, get_or, replicate, set}
use Rattle.addresses.specs.Addresses.{address_number, address_bytes, highest_address, address, passes, zero_row, row, row_numbers}
use Rattle.addresses.specs.Addresses.{addresses_promise}
use Rattle.addresses.proofs.Carry.{next_sum}
use Rattle.addresses.proofs.Number.{bytes-address, address-bytes}
use Rattle.addresses.specs.Item9.{RowNumber, RowNext}

module _ (base : List ℕ) (count stride : ℕ) where
  pub none_passes : count ≡ 0 → false ≡ passes base count stride
  unfolding passes
  none_passes e = rw (eq-eqb count 0 e)

  pub last-passes : (count ≡ 0 → ⊥) → ltb highest_address (address_number base + (count - 1) * stride) ≡ passes base count stride
  unfolding passes address
  last-passes e = rw (ne_eqb count 0 e)

  pub rows-passing : passes base count stride ≡ true → replicate 8 zero_row ≡ addresses_promise base count stride
  unfolding addresses_promise
  rows-passing e = rw e

-- ---- addresses

pub address-first : (base : List ℕ) (stride : ℕ) → length base ≡ 6 → ((i : ℕ) → get_or base i 0 < 256)
    → base ≡ address_bytes (address base stride 0)
unfolding address
address-first base stride e h =
    let z : address_number base + 0 * stride ≡ address_number base = omega arith in
    rw z (sym (bytes-address base e h))

pub address-next : (base : List ℕ) (stride i : ℕ) → address base stride (i + 1) ≡ address base stride i + stride
unfolding address
address-next base stride i = omega arith

-- ---- rows

-- rows i, i + 1 and so on, n of them
abbrev from : (ℕ → List ℕ) → ℕ → ℕ → List (List ℕ)
from f i zero = []
from f i (suc n) = f i ∷ from f (i + 1) n

module _ (f g : ℕ → List ℕ) where
  -- the same row by row
  from-same : (n i : ℕ) → ((j : ℕ) → (i ≤ j) × (j < i + n) → f j ≡ g j) → from f i n ≡ from g i n
  from-same zero i h = refl
  from-same (suc n) i h = cc (h i (omega arith), from-same n (i + 1) (λ j b. h j (omega arith)))

  -- the same but for one, and that one stored
  set-from : (k n i : ℕ) → k < n → ((j : ℕ) → (j ≡ i + k → ⊥) → f j ≡ g j) → set (from f i n) k (g (i + k)) ≡ from g i n
  set-from k zero i l h = absurd (omega arith)
  set-from zero (suc n) i l h = rw (add-zero, from-same n (i + 1) (λ j b. h j (λ e. omega arith)))
  set-from (suc k) (suc n) i l h =
      let e : i + suc k ≡ i + 1 + k = omega arith in
      rw e (cc (h i (λ q. omega arith), set-from k n (i + 1) (omega arith) (λ j q. h j (λ r. q (r ∙ e)))))

-- the rows of a plan that counts i addresses
abbrev pub first_rows : List ℕ → ℕ → ℕ → List (List ℕ)
first_rows base stride i = map (row base i stride) row_numbers

-- a test by what it says
as-test : (t : Bool) (m n : ℕ) → (t ≡ true → m < n) → (t ≡ false → n ≤ m) → t ≡ ltb m n
as-test true m n f g = sym (lt-ltb m n (f refl))
as-test false m n f g = sym (le-ltb m n (g refl))

module _ (base : List ℕ) (stride : ℕ) where
  counted : (count i : ℕ) → i < count → row base count stride i ≡ address_bytes (address base stride i)
  unfolding row
  counted count i h = rw (lt-ltb i count h)

  counted-below : (count i : ℕ) → passes base count stride ≡ false → i < count → address base stride i ≤ highest_address
  unfolding passes address
  counted-below count i e h =
      let f = ne_eqb count 0 (λ z. omega arith) in
      let l = ltb-false highest_address (address_number base + (count - 1) * stride) (rw f at e) in
      omega (arith, l, mul-le-mul_right {m = i} {n = count - 1} stride (omega arith))

  -- a row under two counts that are both above it, or both not
  same_row : (m n i : ℕ) → (i < m → i < n) → (m ≤ i → n ≤ i) → row base m stride i ≡ row base n stride i
  unfolding row
  same_row m n i f g = rw (as-test (ltb i m) i n (λ e. f (ltb-true i m e)) (λ e. g (ltb-false i m e)))

  pub rows_none : replicate 8 zero_row ≡ first_rows base stride 0
  unfolding row
  rows_none = refl

  -- one address more
  pub rows_more : (i : ℕ) → i < 8 → set (first_rows base stride i) i (address_bytes (address base stride i))
      ≡ first_rows base stride (i + 1)
  rows_more i h =
      rw (zero-add, counted (i + 1) i (omega arith)) at
      (set-from (row base i stride) (row base (i + 1) stride) i 8 0 h (λ j q. same_row i (i + 1) j (λ l. omega arith) (λ l. omega arith)))

  -- of a longer plan the eight rows are all counted
  rows-min : (count : ℕ) → first_rows base stride (min count 8) ≡ first_rows base stride count
  rows-min count =
      from-same (row base (min count 8) stride) (row base count stride) 8 0
      (λ j b. same_row (min count 8) count j (λ l. omega arith) (λ l. omega arith))

  pub rows-fitting : (count : ℕ) → passes base count stride ≡ false
      → first_rows base stride (min count 8) ≡ addresses_promise base count stride
  unfolding addresses_promise
  rows-fitting count e = rw e (rows-min count)

  pub row_number : RowNumber base stride
  row_number count i e h = rw (counted count i h) (address-bytes (address base stride i) (counted-below count i e h))

  pub row_next : RowNext base stride
  row_next count i h = rw (counted count (i + 1) h, counted count i (omega arith), next_sum, address-next)
