-- `saving::save::image_length` meets its contract.
-- The loop's invariant: n and the length of the records left are the image's length and the end mark's.
-- Assumes nothing.
use mathlib.Core.Path.{◌≡◌}
use Prim.Native.Nat.{◌+◌, ◌-◌, ◌*◌, ◌≤◌}
use lib.ListN.{length}
use Rattle.supervisor.specs.Limits.{first_setting}
use Rattle.saving.specs.Calls.{image_bytes}
use Rattle.saving.proofs.ImageLaws.{records_from}
use Rattle.saving.proofs.save.image_length.Given as goal

abbrev pub invariant-loop-key : goal.invariant-loop-key
invariant-loop-key l =
    (l.n ≤ 2 + (l.key - first_setting) * 65546)
    × (l.n + length (records_from l.settings l.key) ≡ 2 + length (image_bytes l.settings))
