-- `saving::save::write_image` meets its contract. The loop's invariant: the records left, put at the offset, make the image whole.
-- Assumes nothing.
use mathlib.Core.Path.{◌≡◌}
use Prim.Native.Nat.{◌+◌, ◌≤◌}
use lib.ListN.{length}
use Rattle.octets.specs.Bytes.{overlay}
use Rattle.saving.specs.Calls.{image_bytes}
use Rattle.saving.proofs.ImageLaws.{records_from}
use Rattle.saving.proofs.save.write_image.Given as goal

abbrev pub invariant-loop-key : goal.invariant-loop-key
invariant-loop-key l =
    (length l.out ≡ length l.initial.out)
    × (l.at + length (records_from l.settings l.key) ≤ length l.out)
    × (overlay l.at (records_from l.settings l.key) l.out ≡ overlay 0 (image_bytes l.settings) l.initial.out)
