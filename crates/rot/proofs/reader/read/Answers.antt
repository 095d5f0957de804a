-- `rot::reader::read` meets its contract.
-- Assumes nothing.
use borrow.Author.Rules.{rules}
use Rattle.rot.specs.Reading.{judged_as, answer_to, rot_read_promise, rot_read_report}
use Rattle.rot.proofs.Reading.{read-echo, read-handed}
use Rattle.rot.proofs.reader.read.Goals as goal

pub returns-in_err-kind : goal.returns-in_err-kind
unfolding judged_as answer_to rot_read_promise rot_read_report
returns-in_err-kind c = search rules

pub returns-in_default : goal.returns-in_default
unfolding judged_as answer_to rot_read_promise rot_read_report
returns-in_default c = search rules

pub returns-then-kind-eq-ECHO_REQUEST : goal.returns-then-kind-eq-ECHO_REQUEST
returns-then-kind-eq-ECHO_REQUEST c =
    let judged = rw c.in-Some.is at c.in_ok-kind.ensures in
    rw (c.echo.ensures, c.part.ensures.result_value, c.payload_length-length.ensures) (read-echo _ judged _ c.if-kind-eq-ECHO_REQUEST.true)

pub returns : goal.returns
unfolding rot_read_report
returns c =
    let judged = rw c.in-Some.is at c.in_ok-kind.ensures in
    rw c.payload_length-length.ensures (read-handed _ judged _ c.if-kind-eq-ECHO_REQUEST.false)
