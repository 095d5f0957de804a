-- `valid::values_are_valid` meets its contract. The loop's invariant: the settings before the key are valid.
-- Assumes nothing.
use mathlib.Core.Path.{◌≡◌}
use mathlib.Core.Bool.{true}
use Prim.Native.Nat.{◌-◌}
use Rattle.supervisor.specs.Limits.{first_setting}
use Rattle.supervisor.specs.Valid.{valid_values}
use Rattle.supervisor.proofs.valid.values_are_valid.Given as goal

abbrev pub invariant-loop-key : goal.invariant-loop-key
invariant-loop-key l = valid_values l.settings (l.key - first_setting) ≡ true
