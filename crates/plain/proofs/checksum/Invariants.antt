-- `plain::checksum` meets its contract. The loop keeps what the two sums come to over the bytes that are left.
-- Assumes nothing.
use mathlib.Core.Path.{◌≡◌}
use Prim.Native.Nat.{◌<◌}
use lib.ListN.{drop}
use Rattle.line.specs.Checksum.{sums, checksum}
use Rattle.plain.proofs.checksum.Given as goal

abbrev pub invariant-loop-b : goal.invariant-loop-b
invariant-loop-b l = (l.first < 255) × (l.second < 255) × (sums l.first l.second (drop l.b-index l.body) ≡ checksum l.body)
