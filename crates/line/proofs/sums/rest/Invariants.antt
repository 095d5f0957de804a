-- `line::sums::rest` meets its contract. The loop keeps what the remainders of the sums come to over the bytes that are left.
-- Assumes nothing.
use mathlib.Core.Path.{◌≡◌}
use Prim.Native.Nat.{◌+◌, ◌*◌, ◌%◌, ◌≤◌}
use lib.ListN.{drop}
use Rattle.line.specs.Checksum.{sums}
use Rattle.line.proofs.sums.rest.Given as goal

abbrev pub invariant-loop-b : goal.invariant-loop-b
invariant-loop-b l =
    (l.first ≤ 254 + 255 * l.b-index) × (l.second ≤ 254 + 100000 * l.b-index)
    × (sums (l.first % 255) (l.second % 255) (drop l.b-index (drop l.at l.body)) ≡ sums l.initial.first l.initial.second (drop l.at l.body))
