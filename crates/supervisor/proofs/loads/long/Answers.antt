-- `supervisor::loads::long` meets its contract: of 8 bytes the number is their sum, each by its worth.
-- Assumes nothing.
use mathlib.Core.Path.{ap, ◌∙◌}
use borrow.Author.Rules.{rules}
use Rattle.octets.specs.Bytes.{number}
use Rattle.octets.proofs.Numbers.{number-of_8}
use Rattle.supervisor.proofs.loads.long.Goals as goal

pub returns : goal.returns
returns c =
    c.from_le_bytes.ensures ∙ (number-of_8 c.fixed.result (search rules) ∙ ap number c.fixed.ensures)
