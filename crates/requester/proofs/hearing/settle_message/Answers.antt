-- `requester::hearing::settle_message` meets its contract.
-- Assumes nothing.
use mathlib.Core.Path.{sym}
use Rattle.requester.specs.Calls.{handed_report, handed_report_of}
use Rattle.requester.proofs.SettlingLaws.{settles-none, settles-out}
use Rattle.requester.proofs.hearing.settle_message.Goals as goal

pub returns-then-not-is_outstanding : goal.returns-then-not-is_outstanding
unfolding handed_report handed_report_of
returns-then-not-is_outstanding c =
    rw (c.silent.ensures, settles-none c.args.now _ (sym c.if-not-is_outstanding.ensures))

pub returns-in-Ground : goal.returns-in-Ground
unfolding handed_report handed_report_of
returns-in-Ground c =
    rw (
      c.silent-in-Ground.ensures,
      settles-out c.args.now _ (sym c.if-not-is_outstanding.ensures),
      ← c.in-Ground.ensures c.args.message.data.now,
    )

pub returns-in-Other : goal.returns-in-Other
unfolding handed_report handed_report_of
returns-in-Other c =
    rw (
      c.silent-in-Other.ensures,
      settles-out c.args.now _ (sym c.if-not-is_outstanding.ensures),
      ← c.in-Other.ensures c.args.message.data.now,
    )

pub returns-in-Answer : goal.returns-in-Answer
returns-in-Answer c =
    rw (
      settles-out c.args.now _ (sym c.if-not-is_outstanding.ensures),
      ← c.in-Answer.ensures c.args.message.data.now,
    )
    c.settle_answer.ensures
