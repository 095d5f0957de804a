-- Document 02's item 9: when a plan passes, and its eight rows. Each counted row is base plus i times stride, as the 48-bit carry gives it.
-- Assumes nothing: these are definitions and statements.
use Rattle.std.specs.Prelude.{◌≡◌, true, false, List, [], ◌∷◌, ◌↔◌, ℕ, ◌+◌, ◌*◌, ◌-◌, ◌≤◌, ◌<◌, length, get_or, replicate}
use Rattle.std.proofs.Math.Option.{none, some}
use Rattle.octets.specs.Bytes.{Byte, Each, bytes}
use Rattle.addresses.specs.Addresses.{address_number, address_bytes, address, passes, zero_row, row}
use Rattle.addresses.specs.Addresses.{addresses_promise, plan_promise, with_carry, next_row}

abbrev pub RowNumber : List ℕ → ℕ → Type 0
RowNumber base stride = (count i : ℕ) → passes base count stride ≡ false → i < count
    → address_number (row base count stride i) ≡ address base stride i

abbrev pub RowNext : List ℕ → ℕ → Type 0
RowNext base stride = (count i : ℕ) → i + 1 < count → row base count stride (i + 1) ≡ next_row (row base count stride i) stride

abbrev pub CarriedSum : Type 0
CarriedSum = (k v c : ℕ) → with_carry (bytes k v) c ≡ bytes k (v + c)

abbrev pub NextSum : Type 0
NextSum = (v stride : ℕ) → next_row (address_bytes v) stride ≡ address_bytes (v + stride)

-- the last counted address is above ff:ff:ff:ff:ff:ff
abbrev pub LastPasses : List ℕ → ℕ → ℕ → Type 0
LastPasses base count stride = (1 ≤ count) × (0xffffffffffff < address_number base + (count - 1) * stride)

abbrev pub PassesExactly : Type 0
PassesExactly = (base : List ℕ) (count stride : ℕ) → (passes base count stride ≡ true) ↔ LastPasses base count stride

abbrev pub PlanRefusedExactly : Type 0
PlanRefusedExactly = (base : List ℕ) (count stride n : ℕ)
    → (plan_promise base count stride ≡ some n) ↔ ((n ≡ 16) × LastPasses base count stride)

abbrev pub eight_zero_rows : List (List ℕ)
eight_zero_rows = replicate 8 (0 ∷ 0 ∷ 0 ∷ 0 ∷ 0 ∷ 0 ∷ [])

abbrev pub PassingZero : Type 0
PassingZero = (base : List ℕ) (count stride : ℕ) → LastPasses base count stride → addresses_promise base count stride ≡ eight_zero_rows

abbrev pub CountZero : Type 0
CountZero = (base : List ℕ) (stride : ℕ) → (addresses_promise base 0 stride ≡ eight_zero_rows) × (plan_promise base 0 stride ≡ none)

-- row i of the eight, in a plan that does not pass
abbrev pub OfEight : (List ℕ → ℕ → ℕ → ℕ → List ℕ → Type 0) → Type 0
OfEight P = (base : List ℕ) (count stride i : ℕ) → passes base count stride ≡ false → i < 8
    → P base count stride i (get_or (addresses_promise base count stride) i [])

abbrev pub RowsCounted : Type 0
RowsCounted = OfEight (λ base count stride i r. i < count → r ≡ address_bytes (address_number base + i * stride))

abbrev pub RowsPastZero : Type 0
RowsPastZero = OfEight (λ base count stride i r. count ≤ i → r ≡ zero_row)

abbrev pub StrideZero : Type 0
StrideZero = (base : List ℕ) → length base ≡ 6 → Each Byte base → (count i : ℕ) → i < 8 → i < count
    → (passes base count 0 ≡ false) × (get_or (addresses_promise base count 0) i [] ≡ base)

pub record AddressesItem9 : Type 0 where
  -- a plan passes exactly where its last counted address is above ff:ff:ff:ff:ff:ff
  pub passes_exactly : PassesExactly
  -- then it gives eight zero rows
  pub passing_zero : PassingZero
  -- and the second call answers 16 exactly then
  pub plan_refused_exactly : PlanRefusedExactly
  -- else row i is base plus i times stride
  pub rows_counted : RowsCounted
  -- and rows past the count are zero
  pub rows_past_zero : RowsPastZero
  -- count 0 gives eight zero rows, and no refusal
  pub count_zero : CountZero
  -- stride 0 repeats the base
  pub stride_zero : StrideZero
  -- in a plan that fits, the number of each counted row is base plus i times stride
  pub row_number : (base : List ℕ) (stride : ℕ) → RowNumber base stride
  -- each counted row is the next of the one before
  pub row_next : (base : List ℕ) (stride : ℕ) → RowNext base stride
  -- the carry through bytes, the lowest first, adds the number
  pub carried_sum : CarriedSum
  -- so the next row is that of the row's number plus the stride, as far as six bytes hold it
  pub next_sum : NextSum
