-- `line::reader::get_count` meets its contract.
-- Assumes nothing.
use mathlib.Core.Path.{◌∙◌}
use borrow.Author.Rules.{rules}
use Rattle.line.specs.ReaderLayout.{received_count}
use Rattle.line.proofs.reader.get_count.Goals as goal

pub returns : goal.returns
unfolding received_count
returns c =
    (c.from.ensures ∙ c.read_u16.ensures, search rules)
