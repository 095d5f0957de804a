-- `requester::progress::Progress::write` meets its contract.
-- Assumes nothing.
use Rattle.requester.proofs.ProgressLaws.{progress-set}
use Rattle.requester.proofs.progress.Progress.write.Goals as goal

pub returns : goal.returns
returns c =
    rw (c.number.ensures, c.from.ensures, c.from-2.ensures) (progress-set _ c.requires _ _ _ _ c.write_u64.ensures)
