-- `supervisor::loads::byte` meets its contract: of one byte the number is the byte.
-- Assumes nothing.
use mathlib.Core.Path.{◌∙◌}
use borrow.Author.Rules.{rules}
use Rattle.octets.proofs.Numbers.{number-one}
use Rattle.supervisor.proofs.loads.byte.Goals as goal

pub returns : goal.returns
returns c =
    let a = c.args in
    (c.from.ensures ∙ number-one a.s.now a.at (search rules), search rules)
