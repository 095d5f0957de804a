-- `saving::restore::clear` meets its contract. The loop's invariant: the settings before the key are cleared.
-- Assumes nothing.
use mathlib.Core.Path.{◌≡◌}
use Prim.Native.Nat.{◌-◌}
use lib.ListN.{length}
use Rattle.supervisor.specs.Limits.{first_setting}
use Rattle.saving.specs.Calls.{cleared}
use Rattle.saving.proofs.restore.clear.Given as goal

abbrev pub invariant-loop-key : goal.invariant-loop-key
invariant-loop-key l =
    (length l.settings ≡ length l.initial.settings) × (l.settings ≡ cleared (l.key - first_setting) l.initial.settings)
