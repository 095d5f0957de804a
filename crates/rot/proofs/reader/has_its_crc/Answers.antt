-- `rot::reader::has_its_crc` meets its contract.
-- Assumes nothing.
use Rattle.rot.proofs.reader.has_its_crc.Goals as goal

pub returns : goal.returns
returns c =
    rw (
      c.read_u32.ensures,
      c.crc_of_parts.ensures,
      c.part-start.ensures.result_value,
      c.part-payload.ensures.result_value,
      c.requires,
    )
