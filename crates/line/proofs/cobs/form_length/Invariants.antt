-- `form_length` meets its contract. The loop's invariant: o bytes of the form are made of the first i bytes of s.
-- Assumes nothing.
use Prim.Native.Nat.{◌-◌, ◌*◌, ◌≤◌}
use Rattle.line.proofs.Groups.{Met}
use Rattle.line.proofs.cobs.form_length.Given as goal

abbrev pub invariant-loop-i : goal.invariant-loop-i
invariant-loop-i l = record { inside : l.i ≤ l.n; most : l.o ≤ 2 * l.i; met : Met l.s l.n l.i l.o }

abbrev pub decreases-loop-i : goal.decreases-loop-i
decreases-loop-i l = l.n - l.i
