-- `addresses::plan` meets its contract.
-- Assumes nothing.
use Rattle.addresses.specs.Addresses.{plan_promise, plan_report}
use Rattle.addresses.proofs.plan.Goals as goal

pub returns-then-not-last_passes : goal.returns-then-not-last_passes
unfolding plan_promise plan_report
returns-then-not-last_passes c =
    rw (← c.last_passes.ensures, c.if-not-last_passes.true)

pub returns : goal.returns
unfolding plan_promise plan_report
returns c =
    rw (← c.last_passes.ensures, c.if-not-last_passes.false)
