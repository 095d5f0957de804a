-- A block's two sums without remainders, by bytes and by columns: what the contracts of the checksum's inner functions cite.
-- Assumes nothing: these are definitions.
use Rattle.std.specs.Prelude.{◌≡◌, List, [], ◌∷◌, ℕ, suc, ◌+◌, ◌*◌, ◌≤◌, ◌<◌, length, get_or, zero}
use Rattle.line.specs.Checksum.{sums}

-- a block is rows of bytes below each other
abbrev pub columns : ℕ
columns = 16

abbrev pub column_rows : ℕ
column_rows = 16

abbrev pub block_length : ℕ
block_length = column_rows * columns

-- what bytes add to the first sum
unfoldable pub total : List ℕ → ℕ
total [] = 0
total (x ∷ xs) = x + total xs

-- What bytes add to the second sum where the first is 0 ahead of them.
-- Each is added as often as there are bytes from it to the end.
unfoldable pub weighted : List ℕ → ℕ
weighted [] = 0
weighted (x ∷ xs) = suc (length xs) * x + weighted xs

-- a row added to the columns' sums
unfoldable pub added_row : List ℕ → List ℕ → List ℕ
added_row [] sums = sums
added_row (x ∷ xs) [] = []
added_row (x ∷ xs) (sum ∷ sums) = (sum + x) ∷ added_row xs sums

abbrev pub AtMost : ℕ → List ℕ → Type 0
AtMost most xs = (k : ℕ) → get_or xs k 0 ≤ most

-- a row can be added to the columns' sums: no sum of 16 bits overflows
abbrev pub Addable : List ℕ → List ℕ → Type 0
Addable sums xs = (length sums ≡ columns) × (length xs ≡ columns) × ((k : ℕ) → get_or sums k 0 + get_or xs k 0 < 65536)

-- the most that the second sum of a column comes to in so many rows
unfoldable pub most : ℕ → ℕ
most zero = 0
most (suc n) = 255 * suc n + most n
