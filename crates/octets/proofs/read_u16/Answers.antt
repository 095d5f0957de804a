-- `read_u16` meets its contract: of 2 bytes the number is their sum, each by its worth.
-- Assumes nothing.
use Rattle.std.proofs.Common.{◌∙◌, rules}
use Rattle.octets.proofs.Numbers.{number-of_2}
use Rattle.octets.proofs.read_u16.Goals as goal

pub returns : goal.returns
returns c = c.from_le_bytes.ensures ∙ (number-of_2 c.bytes_at.result (search rules) ∙ c.bytes_at.ensures)
