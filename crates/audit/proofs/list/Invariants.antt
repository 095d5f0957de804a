-- `audit::list` meets its contract.
-- The loop's invariant: the text up to an offset of the capture is written, and the text is that and what is left.
-- Assumes nothing.
use Prim.Native.Nat.{◌+◌, ◌-◌, ◌≤◌}
use lib.ListN.{length}
use Rattle.audit.proofs.Lines.{Middle}
use Rattle.audit.proofs.list.Given as goal

abbrev pub invariant-loop-n : goal.invariant-loop-n
invariant-loop-n l = (l.at ≤ length l.capture) × Middle l.capture l.text l.at

abbrev pub decreases-loop-n : goal.decreases-loop-n
decreases-loop-n l = length l.capture + 1 - l.at
