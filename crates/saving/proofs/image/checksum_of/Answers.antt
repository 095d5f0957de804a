-- `saving::image::checksum_of` meets its contract.
-- Assumes nothing.
use Rattle.saving.proofs.image.checksum_of.Goals as goal

pub returns : goal.returns
returns c =
    rw (c.checksum.ensures, c.part.ensures.result_value)
