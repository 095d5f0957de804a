-- `replay::Supervisor::replay` meets its contract.
-- Assumes nothing.
use mathlib.Core.List.{[], ◌++◌}
use native.Mathlib.Omega.{arith}
use lib.ListN.{length-append}
use Rattle.replay.proofs.Streaming.{replays-none, replays-more, replayed-all, replayed-over}
use Rattle.replay.proofs.Supervisor.replay.Goals as goal

pub loop-init : goal.loop-init
loop-init g c =
    ([], replays-none _ _ _, omega arith)

pub returns-then-not-branch : goal.returns-then-not-branch
returns-then-not-branch g c =
    let l = c.loop in
    let some = c.in_ok-replay_some.ensures in
    replayed-all _ _ _ _ _ _ _ _ (replays-more l.invariant.1 some.1) (some.3 c.if-not-branch.true)

pub loop-preserved : goal.loop-preserved
loop-preserved g c =
    let l = c.loop in
    let some = c.in_ok-replay_some.ensures in (
      l.invariant.0 ++ some.0,
      replays-more l.invariant.1 some.1,
      omega (arith, length-append l.invariant.0 some.0, l.invariant.2, some.2 c.if-not-branch.false),
    )

pub returns : goal.returns
returns g c =
    let l = c.loop in replayed-over _ _ _ _ _ _ _ _ l.invariant.1 (omega (arith, l.invariant.2))
