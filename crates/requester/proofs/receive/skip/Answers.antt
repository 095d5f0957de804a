-- `requester::receive::skip` meets its contract.
-- Assumes nothing.
use mathlib.Core.Path.{◌∙◌}
use Rattle.requester.specs.Calls.{end_report, handed_report}
use Rattle.requester.proofs.ValidLaws.{parts-valid}
use Rattle.requester.proofs.ProgressLaws.{progress-unsent}
use Rattle.requester.proofs.ReaderLaws.{read-given}
use Rattle.requester.proofs.ReceiveLaws.{rest-received}
use Rattle.requester.proofs.receive.skip.Goals as goal

pub returns-in_err-read : goal.returns-in_err-read
returns-in_err-read c =
    absurd (read-given _ _ (parts-valid _ c.requires.requester_value).reader c.in_err-read.ensures)

pub returns : goal.returns
unfolding handed_report end_report
returns c =
    rest-received _ _ c.requires.requester_value c.requires.reader_value c.in_ok-read.ensures
    (c.is_unsent.ensures ∙ progress-unsent _ _ c.read-2.ensures)
