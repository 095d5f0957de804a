-- The address plan (document 02, item 9) of base, count and stride, and its first eight addresses as rows of six bytes.
-- `passes` tells when a plan passes the highest address. Assumes nothing: these are definitions.
use Rattle.std.specs.Prelude.{Bool, false, cond, List, [], ◌∷◌, map, reverse, Result, Ok, Err, ⊤}
use Rattle.std.specs.Prelude.{ℕ, ◌+◌, ◌*◌, ◌-◌, ◌/◌, ◌%◌, ltb, eqb, replicate}
use Rattle.std.proofs.Math.Option.{Option, none, some}
use Rattle.octets.specs.Bytes.{number, bytes}
use Rattle.refusals.specs.declared.Refusal.{Refusal}
use Rattle.refusals.specs.Refusals.{table_number}

-- ---- Addresses: six bytes, the most significant first

-- the number of an address
unfoldable pub address_number : List ℕ → ℕ
address_number xs = number (reverse xs)

-- the address of a number up to the highest
unfoldable pub address_bytes : ℕ → List ℕ
address_bytes v = reverse (bytes 6 v)

-- ff:ff:ff:ff:ff:ff
abbrev pub highest_address : ℕ
highest_address = 0xffffffffffff

-- base plus i times stride
unfoldable pub address : List ℕ → ℕ → ℕ → ℕ
address base stride i = address_number base + i * stride

-- ---- The plan

-- whether the last counted address passes ff:ff:ff:ff:ff:ff; where none is counted, none does
unfoldable pub passes : List ℕ → ℕ → ℕ → Bool
passes base count stride = cond (eqb count 0) false (ltb highest_address (address base stride (count - 1)))

abbrev pub zero_row : List ℕ
zero_row = replicate 6 0

-- row i is base plus i times stride; a row past the count is zero
unfoldable pub row : List ℕ → ℕ → ℕ → ℕ → List ℕ
row base count stride i = cond (ltb i count) (address_bytes (address base stride i)) zero_row

abbrev pub row_numbers : List ℕ
row_numbers = 0 ∷ 1 ∷ 2 ∷ 3 ∷ 4 ∷ 5 ∷ 6 ∷ 7 ∷ []

-- the eight rows; all zero where the plan passes
unfoldable pub addresses_promise : List ℕ → ℕ → ℕ → List (List ℕ)
addresses_promise base count stride = cond (passes base count stride) (replicate 8 zero_row) (map (row base count stride) row_numbers)

-- ---- The second call's answer: 16 exactly where the plan passes

unfoldable pub plan_promise : List ℕ → ℕ → ℕ → Option ℕ
plan_promise base count stride = cond (passes base count stride) (some 16) none

-- the number of each case
unfoldable pub plan_report : Result ⊤ Refusal → Option ℕ
plan_report (Ok done) = none
plan_report (Err why) = some (table_number why)

-- ---- The 48-bit carry, row by row

-- bytes, the lowest first, plus a number: each byte with what the one before it carries
unfoldable pub with_carry : List ℕ → ℕ → List ℕ
with_carry [] carry = []
with_carry (b ∷ bs) carry = (b + carry) % 256 ∷ with_carry bs ((b + carry) / 256)

-- the row after a row: the stride added at its last byte, and the carry from there to its first
unfoldable pub next_row : List ℕ → ℕ → List ℕ
next_row row stride = reverse (with_carry (reverse row) stride)
