-- `line::sums::row` meets its contract. The loop keeps that the bytes so far stand in the row, and none above 255 does.
-- Assumes nothing.
use mathlib.Core.Path.{◌≡◌}
use lib.ListN.{length, take}
use Rattle.octets.specs.Bytes.{run}
use Rattle.line.specs.Columns.{columns, AtMost}
use Rattle.line.proofs.sums.row.Given as goal

abbrev pub invariant-loop-i : goal.invariant-loop-i
invariant-loop-i l = (length l.row ≡ columns) × (take l.i l.row ≡ run l.at l.i l.body) × AtMost 255 l.row
