-- `start::start` meets its contract: the reader does not refuse bytes that are long enough.
-- Assumes nothing.
use mathlib.Core.Path.{◌∙◌, sym}
use native.Mathlib.Omega.{arith}
use Rattle.supervisor.proofs.StartLaws.{begun, reader-not-refused}
use Rattle.supervisor.proofs.start.start.Goals as goal

pub returns-in_err-start : goal.returns-in_err-start
returns-in_err-start c =
    absurd (reader-not-refused _ _ _ _ c.if-reader-lt-STATE_LENGTH.false c.start.ensures c.in_err-start.was)

pub returns : goal.returns
returns c =
    begun _ _ _ _ (omega arith) (sym c.start_is_good.ensures ∙ c.if-not-start_is_good.false)
    c.start.ensures c.clear.ensures c.set_factory.ensures c.clear-2.ensures
    c.set_registers.ensures
