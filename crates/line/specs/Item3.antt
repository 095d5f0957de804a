-- Document 02's item 3: the remainder of each sum is taken once for a block, and the checksum's value stays the same.
-- Assumes nothing: these are statements.
use Rattle.std.specs.Prelude.{◌≡◌, List, ◌++◌, ℕ, ◌+◌, ◌*◌, ◌%◌, ◌<◌, length}
use Rattle.line.specs.Checksum.{sums}
use Rattle.line.specs.Columns.{column_rows, total, weighted, most}

abbrev pub SumsAppend : Type 0
SumsAppend = (bs rest : List ℕ) (first second : ℕ)
    → sums (first % 255) (second % 255) (bs ++ rest)
    ≡ sums ((first + total bs) % 255) ((second + (length bs * first + weighted bs)) % 255) rest

abbrev pub AllFit : Type 0
AllFit = most column_rows < 65536

pub record LineItem3 : Type 0 where
  -- the sums over a block of any length and what follows are the same with the remainder taken once, behind the block
  pub sums_append : SumsAppend
  -- in a block of 256 bytes, 16 rows of 16 columns, a column's second sum, the larger one, fits 16 bits
  pub all_fit : AllFit
