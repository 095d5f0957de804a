-- `requester::state::read_standing` meets its contract.
-- Assumes nothing.
use Rattle.requester.specs.Layout.{kept_request, out_request}
use Rattle.requester.specs.Calls.{stage_report, standing_report, part_standing}
use Rattle.requester.proofs.SendingLaws.{step-request}
use Rattle.requester.proofs.state.read_standing.Goals as goal

pub returns-in-None : goal.returns-in-None
unfolding stage_report standing_report part_standing out_request kept_request
returns-in-None c =
    rw (
      ← c.requires.number,
      ← c.requires.recovery,
      ← c.requires.unsent,
      c.in-None.is,
      c.read_u8.ensures,
    )

pub returns-in-Some : goal.returns-in-Some
unfolding standing_report part_standing out_request
returns-in-Some c =
    rw (
      c.stage_of.ensures,
      c.command.ensures,
      ← c.requires.number,
      ← c.requires.recovery,
      ← c.requires.unsent,
      ← c.requires.kept,
      c.in-Some.is,
      step-request c.in-Some.step (kept_request c.args.requester.now),
    )
