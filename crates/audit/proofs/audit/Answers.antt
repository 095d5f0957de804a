-- `audit::audit` meets its contract.
-- Assumes nothing.
use Rattle.audit.specs.Text.{too_long}
use Rattle.audit.proofs.Lines.{audit-over, audit-text}
use Rattle.audit.proofs.audit.Goals as goal

pub returns-then-capture-gt-LONGEST_CAPTURE : goal.returns-then-capture-gt-LONGEST_CAPTURE
unfolding too_long
returns-then-capture-gt-LONGEST_CAPTURE c =
    rw (audit-over c.args.capture.now c.if-capture-gt-LONGEST_CAPTURE.true) (rw c.requires at c.put.ensures)

pub returns-else-capture-gt-LONGEST_CAPTURE : goal.returns-else-capture-gt-LONGEST_CAPTURE
returns-else-capture-gt-LONGEST_CAPTURE c =
    rw (audit-text c.args.capture.now c.if-capture-gt-LONGEST_CAPTURE.false) c.list.ensures
