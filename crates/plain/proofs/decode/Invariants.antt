-- `plain::decode` meets its contract.
-- The loop's invariant: the bytes decoded so far stand at the start of out, and the form decodes to them and what is left.
-- Assumes nothing.
use Rattle.plain.proofs.Groups.{Middle}
use Rattle.plain.proofs.decode.Given as goal

abbrev pub invariant-loop-i : goal.invariant-loop-i
invariant-loop-i l = Middle l.form l.initial.out l.out l.left l.zero l.n l.i
