-- `line::sums::block` meets its contract. The loop keeps that the columns' sums are those of the rows so far.
-- Assumes nothing.
use Prim.Native.Nat.{◌*◌}
use Rattle.octets.specs.Bytes.{run}
use Rattle.line.specs.Columns.{columns}
use Rattle.line.proofs.Columns.{Summed}
use Rattle.line.proofs.sums.block.Given as goal

abbrev pub invariant-loop-i : goal.invariant-loop-i
invariant-loop-i l = Summed l.i (run l.at (l.i * columns) l.body) l.firsts l.seconds
