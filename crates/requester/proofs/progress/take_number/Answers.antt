-- `requester::progress::take_number` meets its contract.
-- Assumes nothing.
use Rattle.requester.specs.Calls.{end_report, part_moved_to}
use Rattle.requester.proofs.ValidLaws.{requester-valid}
use Rattle.requester.proofs.SettlingLaws.{number-spent, number-left, number-taken, idle-next}
use Rattle.requester.proofs.progress.take_number.Goals as goal

pub write-requires : goal.write-requires
write-requires c = (requester-valid _ c.requires).long

pub write-requires-in-None : goal.write-requires-in-None
write-requires-in-None c = (requester-valid _ c.requires).long

pub returns-in-Some : goal.returns-in-Some
unfolding end_report part_moved_to
returns-in-Some c =
    let k = (requester-valid _ c.requires).kept in
    rw (
      c.write.ensures,
      number-taken _ _ c.read-now.ensures k _ c.in-Some.ensures,
      number-left _ _ c.read-now.ensures k _ c.in-Some.ensures,
    )

pub returns-in-None : goal.returns-in-None
unfolding end_report part_moved_to
returns-in-None c =
    rw (
      number-spent _ _ c.read-now.ensures _ c.in-None.ensures,
      idle-next _ _ c.read-now.ensures (rw c.idle.ensures at c.write-in-None.ensures),
    )
