-- `requester::state::state` meets its contract.
-- Assumes nothing.
use mathlib.Core.Path.{ap}
use Rattle.requester.specs.Calls.{state_report, state_promise, stands, standing_report, stage_report}
use Rattle.requester.proofs.ProgressLaws.{progress-outstanding}
use Rattle.requester.proofs.state.state.Goals as goal

pub returns-then-not-requester_is_valid : goal.returns-then-not-requester_is_valid
unfolding state_report state_promise
returns-then-not-requester_is_valid c =
    rw (← c.if-not-requester_is_valid.ensures)

pub returns-then-is_outstanding : goal.returns-then-is_outstanding
unfolding state_report state_promise
returns-then-is_outstanding c =
    rw (
      ← c.if-not-requester_is_valid.ensures,
      ← progress-outstanding _ _ c.read-now.ensures,
      ← c.if-is_outstanding.ensures,
    )
    (ap stands c.read_standing.ensures)

pub returns : goal.returns
unfolding state_report state_promise standing_report stage_report
returns c =
    rw (
      ← c.if-not-requester_is_valid.ensures,
      ← progress-outstanding _ _ c.read-now.ensures,
      ← c.if-is_outstanding.ensures,
    )
