-- `supervisor::loads::word` meets its contract: of 2 bytes the number is their sum, each by its worth.
-- Assumes nothing.
use mathlib.Core.Path.{ap, ◌∙◌}
use borrow.Author.Rules.{rules}
use Rattle.octets.specs.Bytes.{number}
use Rattle.octets.proofs.Numbers.{number-of_2}
use Rattle.supervisor.proofs.loads.word.Goals as goal

pub returns : goal.returns
returns c =
    (c.from.ensures ∙ (c.from_le_bytes.ensures ∙ (number-of_2 c.fixed.result (search rules) ∙ ap number c.fixed.ensures)), search rules)
