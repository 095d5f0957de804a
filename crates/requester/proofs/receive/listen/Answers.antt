-- `requester::receive::listen` meets its contract.
-- Assumes nothing.
use mathlib.Core.Path.{◌∙◌}
use native.Mathlib.Omega.{arith}
use Rattle.requester.proofs.ValidLaws.{requester-valid, parts-valid}
use Rattle.requester.proofs.ProgressLaws.{progress-unsent}
use Rattle.requester.proofs.ReaderLaws.{read_by, read-valid, read-given}
use Rattle.requester.proofs.SettlingLaws.{heard-part}
use Rattle.requester.proofs.ReceiveLaws.{heard-received}
use Rattle.requester.proofs.receive.listen.Goals as goal

pub returns-in_err-used : goal.returns-in_err-used
returns-in_err-used c =
    absurd (read-given _ _ (parts-valid _ c.requires.requester_value).reader c.in_err-used.ensures)

pub settle-handed-requires : goal.settle-handed-requires
settle-handed-requires c =
    let v = parts-valid _ c.requires.requester_value in
    let w = read-valid _ _ v.reader (read_by _ _ v.reader c.in_ok-used.ensures) in
    record {
      reader_value = w.0;
      answer_value = w.1;
      number_bound = omega (arith, requester-valid _ v.requester, c.read-2.ensures.number);
    }

pub go_on-ended-requires : goal.go_on-ended-requires
go_on-ended-requires c = (parts-valid _ c.requires.requester_value).requester

pub returns : goal.returns
returns c =
    heard-received _ _ c.requires.requester_value c.requires.reader_value c.min-end.ensures c.in_ok-used.ensures
    (rw (heard-part _ _ _ c.read-2.ensures, c.read-2.ensures.number) at c.settle-handed.ensures) c.go_on-ended.ensures
    (c.is_unsent.ensures ∙ progress-unsent _ _ c.read-3.ensures)
