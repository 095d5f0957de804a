-- `replay::Supervisor::feed_all` meets its contract.
-- The loop's invariant: the bytes up to an offset were replayed; each iteration reads some.
-- Assumes nothing.
use mathlib.Core.Path.{◌≡◌}
use mathlib.Core.List.{[]}
use Prim.Native.Nat.{◌-◌, ◌≤◌}
use lib.ListN.{length, take}
use Rattle.std.specs.Io.KnownBytes.{Appends}
use Rattle.responder.specs.Replay.{replay_bytes}
use Rattle.replay.specs.Feed.{parts_held}
use Rattle.replay.proofs.Supervisor.feed_all.Given as goal

abbrev pub invariant-loop-at : goal.invariant-loop-at
invariant-loop-at g l =
    let p = parts_held l.initial.self in
    (l.at ≤ length l.bytes)
    × (parts_held l.self ≡ (replay_bytes [] p (take l.at l.bytes)).parts)
    × Appends (g.W.Write.contents l.initial.output) (g.W.Write.contents l.output) (replay_bytes [] p (take l.at l.bytes)).taken

abbrev pub decreases-loop-at : goal.decreases-loop-at
decreases-loop-at g l = length l.bytes - l.at
