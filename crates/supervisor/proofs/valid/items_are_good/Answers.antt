-- `valid::items_are_good` meets its contract: `all` makes the test of each item.
-- Assumes nothing.
use mathlib.Core.Path.{refl}
use borrow.Author.Rules.{rules}
use Rattle.supervisor.specs.Valid.{good_item}
use Rattle.supervisor.proofs.AllLaws.{all-range}
use Rattle.supervisor.proofs.valid.items_are_good.Goals as goal

pub returns : goal.returns
returns c =
    all-range _ _ (good_item c.args.d.now) _ c.all.ensures.ran refl (λ x b q k. search rules)
