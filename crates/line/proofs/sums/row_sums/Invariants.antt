-- `line::sums::row_sums` meets its contract. The loop keeps the two sums of what is read so far.
-- Assumes nothing.
use mathlib.Core.Path.{◌≡◌}
use Prim.Native.Nat.{◌*◌, ◌≤◌}
use lib.ListN.{take}
use Rattle.line.specs.Columns.{total, weighted as weighted_of}
use Rattle.line.proofs.sums.row_sums.Given as goal

abbrev pub invariant-loop-x : goal.invariant-loop-x
invariant-loop-x l =
    (l.sum ≤ 65535 * l.x-index) × (l.weighted ≤ 1048560 * l.x-index) × (l.sum ≡ total (take l.x-index l.row))
    × (l.weighted ≡ weighted_of (take l.x-index l.row))
