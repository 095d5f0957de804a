-- `requester::hearing::settle_more` meets its contract.
-- Assumes nothing.
use Rattle.requester.specs.Calls.{handed_report, handed_report_of}
use Rattle.requester.specs.Hearing.{heard_in}
use Rattle.requester.proofs.hearing.settle_more.Goals as goal

pub returns-in-Ok-Longer : goal.returns-in-Ok-Longer
returns-in-Ok-Longer c =
    rw (← c.tail.ensures, c.in-Ok-Longer.is, c.in-Ok-Longer.field-0-is) c.settle_ground.ensures

pub returns-in-Ok-Bytes : goal.returns-in-Ok-Bytes
unfolding heard_in handed_report handed_report_of
returns-in-Ok-Bytes c =
    rw (c.silent.ensures, ← c.tail.ensures, c.in-Ok-Bytes.is, c.in-Ok-Bytes.field-0-is)

pub returns-in-Err : goal.returns-in-Err
unfolding heard_in handed_report handed_report_of
returns-in-Err c =
    rw (c.silent-in-Err.ensures, ← c.tail.ensures, c.in-Err.is)
