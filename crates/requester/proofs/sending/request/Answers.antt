-- `requester::sending::request` meets its contract.
-- Assumes nothing.
use mathlib.Core.Path.{sym, ◌∙◌}
use Rattle.std.proofs.lemmas.Result.{err_from_is_err_and}
use Rattle.requester.specs.Calls.{request_report}
use Rattle.requester.proofs.ValidLaws.{requester-valid}
use Rattle.requester.proofs.ProgressLaws.{progress-outstanding}
use Rattle.requester.proofs.SendingLaws.{request-refused, request-long, request-out, request-spent, request-done, request-unwritten}
use Rattle.requester.proofs.sending.request.Goals as goal

pub returns-then-not-requester_is_valid : goal.returns-then-not-requester_is_valid
unfolding request_report
returns-then-not-requester_is_valid c =
    request-refused _ _ _ _ (sym c.if-not-requester_is_valid.ensures)

pub returns-then-data-gt-LONGEST_DATA : goal.returns-then-data-gt-LONGEST_DATA
unfolding request_report
returns-then-data-gt-LONGEST_DATA c =
    request-long _ _ _ _ (sym c.if-not-requester_is_valid.ensures) c.if-data-gt-LONGEST_DATA.true

pub returns-then-is_outstanding : goal.returns-then-is_outstanding
unfolding request_report
returns-then-is_outstanding c =
    request-out _ _ _ _ (sym c.if-not-requester_is_valid.ensures)
    c.if-data-gt-LONGEST_DATA.false
    (sym (progress-outstanding _ _ c.read-now.ensures) ∙ sym c.if-is_outstanding.ensures)

pub returns-then-now-ge-LAST_NUMBER : goal.returns-then-now-ge-LAST_NUMBER
unfolding request_report
returns-then-now-ge-LAST_NUMBER c =
    request-spent _ _ _ _ (sym c.if-not-requester_is_valid.ensures)
    c.if-data-gt-LONGEST_DATA.false
    (sym (progress-outstanding _ _ c.read-now.ensures) ∙ sym c.if-is_outstanding.ensures) c.read-now.ensures.number
    c.if-now-ge-LAST_NUMBER.true

pub keep-requires : goal.keep-requires
keep-requires c =
    record {
      requester_length_in_bounds = (requester-valid _ (sym c.if-not-requester_is_valid.ensures)).long;
      data_len_bound = c.if-data-gt-LONGEST_DATA.false;
    }

pub returns-in_err-n : goal.returns-in_err-n
unfolding request_report
returns-in_err-n c =
    let p = err_from_is_err_and c.from_residual.result c.from_residual.ensures.1 in
    rw (p.1, p.2)
    (request-unwritten _ _ _ _ (sym c.if-not-requester_is_valid.ensures)
    c.if-data-gt-LONGEST_DATA.false
    (sym (progress-outstanding _ _ c.read-now.ensures) ∙ sym c.if-is_outstanding.ensures) c.read-now.ensures.number
    c.if-now-ge-LAST_NUMBER.false c.in_err-n.ensures)

pub returns : goal.returns
unfolding request_report
returns c =
    request-done _ _ _ _ (sym c.if-not-requester_is_valid.ensures)
    c.if-data-gt-LONGEST_DATA.false
    (sym (progress-outstanding _ _ c.read-now.ensures) ∙ sym c.if-is_outstanding.ensures) c.read-now.ensures.number
    c.if-now-ge-LAST_NUMBER.false c.in_ok-n.ensures c.keep.ensures
