-- `copy_run` meets its contract. The loop's invariant: k bytes of the run are passed and put.
-- Assumes nothing.
use mathlib.Core.Path.{◌≡◌}
use lib.ListN.{length, drop}
use Rattle.octets.specs.Bytes.{run, overlay}
use Rattle.line.specs.Runs.{nonzero, run_length}
use Rattle.line.proofs.scan.copy_run.Given as goal

abbrev pub invariant-loop-k : goal.invariant-loop-k
invariant-loop-k l =
    (l.dst ≡ overlay l.at (run l.from l.k l.s) l.initial.dst)
    × (length (nonzero l.most (drop l.from l.s)) ≡ run_length l.most l.k (drop l.from l.s))
