-- `run::read_by` is safe and ends: the state keeps its length, and each iteration takes what was used.
-- Assumes nothing.
use Prim.Native.Nat.{◌-◌, ◌≤◌}
use mathlib.Core.Path.{◌≡◌}
use lib.ListN.{length}
use Rattle.line_cases.proofs.run.read_by.Given as goal

abbrev pub invariant-loop-used : goal.invariant-loop-used
invariant-loop-used g l = (l.at ≤ length l.piece) × (length l.state ≡ length l.initial.state)

abbrev pub decreases-loop-used : goal.decreases-loop-used
decreases-loop-used g l = length l.piece - l.at
