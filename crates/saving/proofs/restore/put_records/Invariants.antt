-- `saving::restore::put_records` meets its contract. The loop's invariant: what is left to put makes the settings whole.
-- Assumes nothing.
use mathlib.Core.Path.{◌≡◌}
use Prim.Native.Nat.{◌-◌}
use lib.ListN.{length}
use Rattle.saving.specs.Saving.{read_image}
use Rattle.saving.specs.Calls.{entries_in, put_entries}
use Rattle.saving.proofs.RestoreLaws.{Left}
use Rattle.saving.proofs.restore.put_records.Given as goal

abbrev pub invariant-loop-settings : goal.invariant-loop-settings
invariant-loop-settings l =
    (length l.settings ≡ length l.initial.settings)
    × (Left l.image l.settings l.at (put_entries (entries_in (read_image l.image)) l.initial.settings))

abbrev pub decreases-loop-settings : goal.decreases-loop-settings
decreases-loop-settings l = length l.image - l.at
