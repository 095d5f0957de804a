-- `requester::start::start` meets its contract.
-- Assumes nothing.
use Rattle.std.proofs.lemmas.Result.{err_from_is_err_and}
use Rattle.requester.specs.Calls.{main_start_report}
use Rattle.requester.proofs.ValidLaws.{cramped, cramped-reader, cleared, begun}
use Rattle.requester.proofs.start.start.Goals as goal

pub returns-then-requester-lt-REQUESTER_LENGTH : goal.returns-then-requester-lt-REQUESTER_LENGTH
unfolding main_start_report
returns-then-requester-lt-REQUESTER_LENGTH c =
    cramped _ c.if-requester-lt-REQUESTER_LENGTH.true

pub returns-in_err-start : goal.returns-in_err-start
unfolding main_start_report
returns-in_err-start c =
    let p = err_from_is_err_and c.from_residual.result c.from_residual.ensures.1 in
    rw (p.1, p.2) (cramped-reader _ c.in_err-start.ensures)

pub returns : goal.returns
unfolding main_start_report
returns c =
    begun _ c.if-requester-lt-REQUESTER_LENGTH.false c.in_ok-start.ensures
    (cleared _ _ c.if-requester-lt-REQUESTER_LENGTH.false (c.fill.ensures.after (λ y e. e)))
