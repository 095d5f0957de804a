-- `line::sums::checksum` meets its contract. The loop keeps what the sums come to over the bytes that are left.
-- Assumes nothing.
use mathlib.Core.Path.{◌≡◌}
use Prim.Native.Nat.{◌*◌, ◌<◌}
use lib.ListN.{drop}
use Rattle.line.specs.Checksum.{sums as sums_of, checksum}
use Rattle.line.specs.Columns.{block_length}
use Rattle.line.proofs.sums.checksum.Given as goal

abbrev pub invariant-loop-i : goal.invariant-loop-i
invariant-loop-i l =
    (l.sums.first < 255) × (l.sums.second < 255)
    × (sums_of l.sums.first l.sums.second (drop (l.i * block_length) l.body) ≡ checksum l.body)
