-- `put_codes` meets its contract. The loop's invariant: k zeros are passed, and their code bytes are put.
-- Assumes nothing.
use mathlib.Core.Path.{◌≡◌}
use lib.ListN.{replicate}
use Rattle.octets.specs.Bytes.{run, overlay}
use Rattle.line.proofs.cobs.put_codes.Given as goal

abbrev pub invariant-loop-k : goal.invariant-loop-k
invariant-loop-k l = (run l.i l.k l.s ≡ replicate l.k 0) × (l.out ≡ overlay l.o (replicate l.k 1) l.initial.out)
