-- `requester::hearing::settle_ground` meets its contract.
-- Assumes nothing.
use mathlib.Core.Path.{sym, ◌∙◌}
use Rattle.requester.specs.Calls.{handed_report, handed_report_of}
use Rattle.requester.proofs.SettlingLaws.{settles-none, settles-out}
use Rattle.requester.proofs.hearing.settle_ground.Goals as goal

pub returns-then-is_outstanding : goal.returns-then-is_outstanding
unfolding handed_report handed_report_of
returns-then-is_outstanding c =
    rw (c.silent.ensures, settles-out c.args.now _ (sym c.is_outstanding.ensures ∙ c.if-is_outstanding.true))

pub returns : goal.returns
unfolding handed_report handed_report_of
returns c =
    rw (c.silent-2.ensures, settles-none c.args.now _ (sym c.is_outstanding.ensures ∙ c.if-is_outstanding.false))
