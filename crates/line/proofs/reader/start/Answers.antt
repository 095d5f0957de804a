-- `line::reader::start` meets its contract.
-- Assumes nothing.
use mathlib.Core.List.{List}
use mathlib.Core.Option.{none}
use mathlib.Core.Path.{ap, ◌∙◌}
use Prim.Native.Nat.{ℕ}
use borrow.Author.Tests.{le-leb, lt-leb}
use Rattle.octets.proofs.Zeros.{cleared-fits}
use Rattle.line.specs.Reader.{ReaderStartOutcome, reader_length, reader_fresh, reader_start_promise}
use Rattle.line.proofs.reader.start.Goals as goal

-- what an accepted call answers, and leaves
abbrev done : List ℕ → ReaderStartOutcome
done s = record { refusal = none; state = s }

pub returns-then-state-lt-STATE_LENGTH : goal.returns-then-state-lt-STATE_LENGTH
unfolding reader_start_promise
returns-then-state-lt-STATE_LENGTH c =
    rw (lt-leb _ _ c.if-state-lt-STATE_LENGTH.true)

pub returns : goal.returns
unfolding reader_start_promise reader_fresh
returns c =
    let h = c.if-state-lt-STATE_LENGTH.false in
    rw (le-leb _ _ h) (ap done (c.clear.ensures ∙ cleared-fits 0 c.args.state.now reader_length h))
