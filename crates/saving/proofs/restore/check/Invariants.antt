-- `saving::restore::check` meets its contract. The loop's invariant: the first fault from the offset on is the image's.
-- Assumes nothing.
use mathlib.Core.Path.{◌≡◌}
use Prim.Native.Nat.{◌-◌, ◌≤◌}
use lib.ListN.{length}
use Rattle.saving.specs.Saving.{read_image_from, read_image}
use Rattle.saving.specs.Calls.{fault_in}
use Rattle.saving.proofs.restore.check.Given as goal

abbrev pub invariant-loop-key : goal.invariant-loop-key
invariant-loop-key l = (l.at ≤ length l.image) × (fault_in (read_image_from l.image l.before l.at) ≡ fault_in (read_image l.image))

abbrev pub decreases-loop-key : goal.decreases-loop-key
decreases-loop-key l = length l.image - l.at
