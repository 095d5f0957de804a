-- `replay::Supervisor::feed` meets its contract. The loop's invariant: what was read of the bytes was replayed, and what it earned is kept.
-- Assumes nothing.
use mathlib.Core.Path.{◌≡◌}
use lib.ListN.{length}
use Rattle.replay.specs.Feed.{parts_held}
use Rattle.replay.proofs.Feeding.{Feeding}
use Rattle.replay.proofs.Supervisor.feed.Given as goal

abbrev pub invariant-loop-i : goal.invariant-loop-i
invariant-loop-i l = record {
  same : length l.out ≡ length l.initial.out;
  feeding : Feeding l.bytes l.initial.out (parts_held l.initial.self) l.out (parts_held l.self) l.kept l.i;
}
