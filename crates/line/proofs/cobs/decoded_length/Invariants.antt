-- `cobs::decoded_length` meets its contract. The loop's invariant: the measured whole is what is counted with the groups that are left.
-- Assumes nothing.
use mathlib.Core.Path.{◌≡◌}
use Prim.Native.Nat.{◌+◌, ◌-◌, ◌≤◌}
use lib.ListN.{take}
use Rattle.line.specs.Cobs.{uncobs}
use Rattle.line.specs.Decoding.{one_if, measured}
use Rattle.line.proofs.Decoding.{Counted, decoded_of}
use Rattle.line.proofs.cobs.decoded_length.Given as goal

abbrev pub invariant-loop-i : goal.invariant-loop-i
invariant-loop-i l =
    (l.i ≤ l.n) × (l.full + one_if l.zero ≤ l.i)
    × (measured (uncobs (take l.n l.s)) ≡ Counted l.s l.n l.i l.zero (decoded_of l.i l.full l.zero))

abbrev pub decreases-loop-i : goal.decreases-loop-i
decreases-loop-i l = l.n - l.i
