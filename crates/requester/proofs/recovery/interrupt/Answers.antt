-- `requester::recovery::interrupt` meets its contract.
-- Assumes nothing.
use mathlib.Core.Path.{sym}
use Rattle.requester.specs.Calls.{interrupt_report, interrupt_promise}
use Rattle.requester.proofs.ValidLaws.{requester-valid}
use Rattle.requester.proofs.ProgressLaws.{progress-recovery}
use Rattle.requester.proofs.SettlingLaws.{number-spent, number-left, number-taken}
use Rattle.requester.proofs.recovery.interrupt.Goals as goal

pub returns-then-not-requester_is_valid : goal.returns-then-not-requester_is_valid
unfolding interrupt_promise interrupt_report
returns-then-not-requester_is_valid c =
    rw (← c.if-not-requester_is_valid.ensures)

pub returns-then-is_some : goal.returns-then-is_some
unfolding interrupt_promise interrupt_report
returns-then-is_some c =
    rw (← c.if-not-requester_is_valid.ensures, progress-recovery _ _ c.read-now.ensures, ← c.if-is_some.ensures)

pub returns-in_default : goal.returns-in_default
unfolding interrupt_promise interrupt_report
returns-in_default c =
    rw (
      ← c.if-not-requester_is_valid.ensures,
      progress-recovery _ _ c.read-now.ensures,
      ← c.if-is_some.ensures,
      number-spent _ _ c.read-now.ensures _ c.in_default.ensures,
    )

pub write-requires : goal.write-requires
write-requires c = (requester-valid _ (sym c.if-not-requester_is_valid.ensures)).long

pub returns : goal.returns
unfolding interrupt_promise interrupt_report
returns c =
    let v = requester-valid _ (sym c.if-not-requester_is_valid.ensures) in
    rw (
      ← c.if-not-requester_is_valid.ensures,
      progress-recovery _ _ c.read-now.ensures,
      ← c.if-is_some.ensures,
      number-left _ _ c.read-now.ensures v.kept _ c.in-Some.ensures,
      c.write.ensures,
      number-taken _ _ c.read-now.ensures v.kept _ c.in-Some.ensures,
    )
