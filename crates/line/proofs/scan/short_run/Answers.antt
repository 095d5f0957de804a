-- `short_run` meets its contract.
-- Assumes nothing.
use native.Mathlib.Omega.{arith}
use Rattle.line.proofs.Runs.{zero-at, no-zero}
use Rattle.line.proofs.scan.short_run.Goals as goal

pub returns-in-Some : goal.returns-in-Some
returns-in-Some c =
    let z = zero-at c.args.s.now c.in-Some.ensures in
    record { most = z.1; value = z.0 }

pub returns-in-None : goal.returns-in-None
returns-in-None c = record { most = omega arith; value = no-zero c.args.s.now c.in-None.ensures }
