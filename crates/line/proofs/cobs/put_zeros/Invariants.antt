-- `put_zeros` meets its contract. The loop's invariant: k code bytes 01 are passed, and their zeros are put.
-- Assumes nothing.
use mathlib.Core.Path.{◌≡◌}
use lib.ListN.{replicate}
use Rattle.octets.specs.Bytes.{run, overlay}
use Rattle.line.proofs.cobs.put_zeros.Given as goal

abbrev pub invariant-loop-k : goal.invariant-loop-k
invariant-loop-k l = (run l.i l.k l.initial.s ≡ replicate l.k 1) × (l.s ≡ overlay l.o (replicate l.k 0) l.initial.s)
