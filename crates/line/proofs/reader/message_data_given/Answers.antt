-- `line::reader::message_data_given` meets its contract.
-- Assumes nothing.
use mathlib.Core.Path.{sym, ◌∙◌}
use borrow.Author.Tests.{lt-ltb, le-ltb}
use Rattle.line.specs.Reader.{data_given_promise}
use Rattle.line.proofs.reader.message_data_given.Goals as goal

pub returns-then-not-is_valid : goal.returns-then-not-is_valid
unfolding data_given_promise
returns-then-not-is_valid c =
    rw (sym c.is_valid.ensures ∙ c.if-not-is_valid.true)

pub returns-then-count-gt-LONGEST_DATA : goal.returns-then-count-gt-LONGEST_DATA
unfolding data_given_promise
returns-then-count-gt-LONGEST_DATA c =
    rw (sym c.is_valid.ensures ∙ c.if-not-is_valid.false, lt-ltb _ _ c.if-count-gt-LONGEST_DATA.true)

pub returns : goal.returns
unfolding data_given_promise
returns c =
    rw (sym c.is_valid.ensures ∙ c.if-not-is_valid.false, le-ltb _ _ c.if-count-gt-LONGEST_DATA.false)
