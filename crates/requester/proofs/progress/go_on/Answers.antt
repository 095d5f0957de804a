-- `requester::progress::go_on` meets its contract: one answer for each kind of what comes next.
-- Assumes nothing.
use mathlib.Core.Path.{ap}
use mathlib.Core.Option.{none}
use native.Mathlib.Omega.{arith}
use Rattle.octets.proofs.Overlay.{overlay-one}
use Rattle.requester.specs.Calls.{end_report, part_moved, part_moved_to}
use Rattle.requester.proofs.ValidLaws.{requester-valid}
use Rattle.requester.proofs.SettlingLaws.{idle-next}
use Rattle.requester.proofs.progress.go_on.Goals as goal

pub bounds-requester-9 : goal.bounds-requester-9
bounds-requester-9 c = omega (arith, (requester-valid _ c.requires).long)

pub write-requires : goal.write-requires
write-requires c = (requester-valid _ c.requires).long

pub returns-in-Same : goal.returns-in-Same
unfolding part_moved_to end_report
returns-in-Same c =
    rw c.in-Same.is

pub returns-in-Again : goal.returns-in-Again
unfolding part_moved_to end_report
returns-in-Again c =
    rw c.in-Again.is (ap (part_moved none) (overlay-one _ _ _ (omega (arith, (requester-valid _ c.requires).long))))

pub returns-in-Idle : goal.returns-in-Idle
unfolding end_report part_moved_to
returns-in-Idle c =
    rw (c.in-Idle.is, idle-next _ _ c.read-now.ensures (rw c.idle.ensures at c.write.ensures))
