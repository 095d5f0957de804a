-- `supervisor::loads::quad` meets its contract: of 4 bytes the number is their sum, each by its worth.
-- Assumes nothing.
use mathlib.Core.Path.{ap, ◌∙◌}
use borrow.Author.Rules.{rules}
use Rattle.octets.specs.Bytes.{number}
use Rattle.octets.proofs.Numbers.{number-of_4}
use Rattle.supervisor.proofs.loads.quad.Goals as goal

pub returns : goal.returns
returns c =
    c.from_le_bytes.ensures ∙ (number-of_4 c.fixed.result (search rules) ∙ ap number c.fixed.ensures)
