-- `replay::Supervisor::replay_some` meets its contract: at the end of the input nothing is replayed.
-- Assumes nothing.
use mathlib.Core.List.{[]}
use native.Mathlib.Omega.{arith}
use Rattle.replay.proofs.Streaming.{replays-end}
use Rattle.replay.proofs.Supervisor.replay_some.Goals as goal

pub returns-then-n-eq0 : goal.returns-then-n-eq0
returns-then-n-eq0 g c =
    let done = c.in_ok-n.ensures in
    ([], replays-end _ _ _ _ (rw c.if-n-eq0.true at done.bytes.0), (λ e. cc), λ e. done.bytes.1 c.if-n-eq0.true (omega arith))
