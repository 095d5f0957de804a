-- `pass_blocks` meets its contract. The loop's invariant: k bytes of the run are passed.
-- Assumes nothing.
use Prim.Native.Nat.{◌-◌, ◌≤◌}
use mathlib.Core.Path.{◌≡◌}
use lib.ListN.{length}
use Rattle.line.specs.Runs.{run_length}
use Rattle.line.proofs.scan.pass_blocks.Given as goal

abbrev pub invariant-loop-k : goal.invariant-loop-k
invariant-loop-k l = (l.k ≤ length l.s) × (run_length (length l.s) l.passed l.s ≡ run_length (length l.s) l.k l.s)

abbrev pub decreases-loop-k : goal.decreases-loop-k
decreases-loop-k l = length l.s - l.k
