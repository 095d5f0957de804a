-- `valid::alerts_are_valid` meets its contract. The loop's invariant: the alerts before the index are valid.
-- Assumes nothing.
use mathlib.Core.Path.{◌≡◌}
use mathlib.Core.Bool.{true}
use Rattle.supervisor.specs.Valid.{valid_alerts}
use Rattle.supervisor.proofs.valid.alerts_are_valid.Given as goal

abbrev pub invariant-loop-i : goal.invariant-loop-i
invariant-loop-i l = valid_alerts l.registers l.i ≡ true
