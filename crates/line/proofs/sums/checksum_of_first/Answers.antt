-- `line::sums::checksum_of_first` meets its contract.
-- Assumes nothing.
use lib.Seq.{take_all}
use Rattle.line.proofs.sums.checksum_of_first.Goals as goal

pub returns-else-n-s : goal.returns-else-n-s
returns-else-n-s c =
    cc (take_all c.args.n c.args.s.now c.if-n-s.false)
