-- `encode` meets its contract. The loop's invariant: o bytes of the form are made of the first i bytes of s, and are put.
-- Assumes nothing.
use Prim.Native.Nat.{◌-◌, ◌*◌, ◌≤◌}
use lib.ListN.{take}
use Rattle.line.specs.Cobs.{cobs}
use Rattle.line.proofs.Groups.{Met, Put}
use Rattle.line.proofs.cobs.encode.Given as goal

abbrev pub invariant-loop-i : goal.invariant-loop-i
invariant-loop-i l = record {
  inside : l.i ≤ l.n;
  most : l.o ≤ 2 * l.i;
  met : Met l.s l.n l.i l.o;
  put : Put (cobs (take l.n l.s)) l.o l.initial.out l.out;
}

abbrev pub decreases-loop-i : goal.decreases-loop-i
decreases-loop-i l = l.n - l.i
