-- `requester::sending::send` meets its contract.
-- Assumes nothing.
use mathlib.Core.Path.{sym, ◌∙◌}
use native.Mathlib.Omega.{arith}
use Rattle.std.proofs.lemmas.Result.{err_from_is_err_and}
use Rattle.requester.specs.Calls.{send_report}
use Rattle.requester.proofs.ValidLaws.{requester-valid}
use Rattle.requester.proofs.ProgressLaws.{progress-unsent}
use Rattle.requester.proofs.SendingLaws.{send-refused, send-nothing, send-done, send-unwritten}
use Rattle.requester.proofs.sending.send.Goals as goal

pub returns-then-not-requester_is_valid : goal.returns-then-not-requester_is_valid
unfolding send_report
returns-then-not-requester_is_valid c =
    send-refused _ _ (sym c.if-not-requester_is_valid.ensures)

pub returns-then-not-is_unsent : goal.returns-then-not-is_unsent
unfolding send_report
returns-then-not-is_unsent c =
    send-nothing _ _ (sym c.if-not-requester_is_valid.ensures)
    (sym (progress-unsent _ _ c.read-now.ensures) ∙ sym c.if-not-is_unsent.ensures)

pub write_outstanding-requires : goal.write_outstanding-requires
write_outstanding-requires c =
    record {
      requester_value = sym c.if-not-requester_is_valid.ensures;
      now_value = c.read-now.ensures;
    }

pub bounds-requester-9 : goal.bounds-requester-9
bounds-requester-9 c =
    omega (arith, (requester-valid _ (sym c.if-not-requester_is_valid.ensures)).long)

pub returns-in_err-n : goal.returns-in_err-n
unfolding send_report
returns-in_err-n c =
    let p = err_from_is_err_and c.from_residual.result c.from_residual.ensures.1 in
    rw (p.1, p.2)
    (send-unwritten _ _ (sym c.if-not-requester_is_valid.ensures)
    (sym (progress-unsent _ _ c.read-now.ensures) ∙ sym c.if-not-is_unsent.ensures) c.in_err-n.ensures)

pub returns : goal.returns
unfolding send_report
returns c =
    send-done _ _ (sym c.if-not-requester_is_valid.ensures)
    (sym (progress-unsent _ _ c.read-now.ensures) ∙ sym c.if-not-is_unsent.ensures) c.in_ok-n.ensures
