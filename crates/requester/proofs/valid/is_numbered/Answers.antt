-- `requester::valid::is_numbered` meets its contract.
-- Assumes nothing.
use Rattle.requester.specs.Valid.{is_numbered}
use Rattle.requester.proofs.ProgressLaws.{progress-outstanding}
use Rattle.requester.proofs.valid.is_numbered.Goals as goal

pub returns-then-not-is_outstanding : goal.returns-then-not-is_outstanding
unfolding is_numbered
returns-then-not-is_outstanding c =
    rw (c.if-not-is_outstanding.true, ← progress-outstanding _ _ c.read-now.ensures, ← c.if-not-is_outstanding.ensures)

pub returns-else-not-is_outstanding : goal.returns-else-not-is_outstanding
unfolding is_numbered
returns-else-not-is_outstanding c =
    rw (c.read-now.ensures.number, ← progress-outstanding _ _ c.read-now.ensures, ← c.if-not-is_outstanding.ensures)
