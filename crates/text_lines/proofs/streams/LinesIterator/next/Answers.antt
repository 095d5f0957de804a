-- `Lines` meets the contract of `next`. What a line keeps is arithmetic.
-- Assumes nothing.
use native.Mathlib.Omega.{arith}
use Rattle.text_lines.proofs.streams.LinesIterator.next.Goals as goal

pub invariant_of-result : goal.invariant_of-result
invariant_of-result g c = record { count_bounds = (omega arith, omega arith) }
