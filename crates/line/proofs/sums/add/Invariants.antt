-- `line::sums::add` meets its contract. The loop keeps what is added so far, and that the sums from the offset on are as they were.
-- Assumes nothing.
use mathlib.Core.Path.{◌≡◌}
use mathlib.Core.List.{◌++◌}
use Prim.Native.Nat.{ℕ, ◌≤◌}
use lib.ListN.{length, take, drop, get_or}
use Rattle.line.specs.Columns.{columns, added_row}
use Rattle.line.proofs.sums.add.Given as goal

abbrev pub invariant-loop-i : goal.invariant-loop-i
invariant-loop-i l =
    (length l.sums ≡ columns) × ((k : ℕ) → l.i ≤ k → get_or l.sums k 0 ≡ get_or l.initial.sums k 0)
    × (added_row l.row l.initial.sums ≡ take l.i l.sums ++ added_row (drop l.i l.row) (drop l.i l.sums))
