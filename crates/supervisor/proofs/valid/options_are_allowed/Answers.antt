-- `valid::options_are_allowed` meets its contract.
-- Assumes nothing.
use mathlib.Core.Path.{refl}
use borrow.Author.Rules.{rules}
use Rattle.supervisor.specs.Local.{options_allowed}
use Rattle.supervisor.proofs.HighestBit.{zeros-highest}
use Rattle.supervisor.proofs.valid.options_are_allowed.Goals as goal

pub returns : goal.returns
unfolding options_allowed
returns c =
    zeros-highest 64 c.args.options 55 8 (search rules) refl
