-- `line::reader::is_valid` meets its contract.
-- Assumes nothing.
use borrow.Author.Tests.{le-leb, lt-leb}
use Rattle.line.specs.Reader.{valid_reader}
use Rattle.line.proofs.reader.is_valid.Goals as goal

pub returns-then-state-ge-STATE_LENGTH : goal.returns-then-state-ge-STATE_LENGTH
unfolding valid_reader
returns-then-state-ge-STATE_LENGTH c =
    rw (le-leb _ _ c.if-state-ge-STATE_LENGTH.true, c.get_count.ensures.0)

pub returns-else-state-ge-STATE_LENGTH : goal.returns-else-state-ge-STATE_LENGTH
unfolding valid_reader
returns-else-state-ge-STATE_LENGTH c =
    rw (lt-leb _ _ c.if-state-ge-STATE_LENGTH.false)
