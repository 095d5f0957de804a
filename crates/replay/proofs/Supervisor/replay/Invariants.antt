-- `replay::Supervisor::replay` meets its contract.
-- The loop's invariant: what was read was replayed, and each iteration but the last reads some.
-- Assumes nothing.
use mathlib.Core.List.{List}
use Prim.Native.Nat.{ℕ, ◌≤◌}
use lib.ListN.{length}
use Rattle.replay.specs.Feed.{parts_held, Replays}
use Rattle.replay.proofs.Supervisor.replay.Given as goal

abbrev pub invariant-loop : goal.invariant-loop
invariant-loop g l =
    (bs : List ℕ)
    × Replays (g.R.Read.remaining l.initial.input) (g.R.Read.remaining l.input) (g.W.Write.contents l.initial.output)
    (g.W.Write.contents l.output) (parts_held l.initial.self) (parts_held l.self) bs
    × (l.counter ≤ length bs)
