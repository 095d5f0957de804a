-- `start::set_factory` meets its contract.
-- Assumes nothing.
use mathlib.Core.Path.{refl}
use borrow.Author.Rules.{rules}
use Rattle.octets.proofs.Numbers.{length-bytes}
use Rattle.supervisor.specs.Layout.{start_length}
use Rattle.supervisor.proofs.StartLaws.{stored}
use Rattle.supervisor.proofs.start.set_factory.Goals as goal

pub returns : goal.returns
returns c =
    stored start_length 4 4 _ _ _ _ _ _ _ (search rules) (length-bytes 4 0) refl (search rules)
    c.copy.ensures c.write_u32.ensures c.copy-2.ensures
