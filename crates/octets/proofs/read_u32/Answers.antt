-- `read_u32` meets its contract: of 4 bytes the number is their sum, each by its worth.
-- Assumes nothing.
use Rattle.std.proofs.Common.{◌∙◌, rules}
use Rattle.octets.proofs.Numbers.{number-of_4}
use Rattle.octets.proofs.read_u32.Goals as goal

pub returns : goal.returns
returns c = c.from_le_bytes.ensures ∙ (number-of_4 c.bytes_at.result (search rules) ∙ c.bytes_at.ensures)
