-- `nonzero_run` meets its contract.
-- Assumes nothing.
use native.Mathlib.Omega.{arith}
use lib.ListN.{length}
use Rattle.line.proofs.Runs.{reached-none, zero_found, zero_not_found}
use Rattle.line.proofs.scan.nonzero_run.Goals as goal

-- no byte is passed, then blocks of both widths, and then the bytes ahead of a zero
pub returns-in-Some : goal.returns-in-Some
returns-in-Some c =
    let s = c.args.s.now in
    let k = c.pass_blocks-k-2 in
    let none = reached-none (length s) s in
    let f = zero_found k.result s k.ensures.0 c.in-Some.ensures in
    record { most = f.1; value = omega arith }

pub returns-in-None : goal.returns-in-None
returns-in-None c =
    let s = c.args.s.now in
    let k = c.pass_blocks-k-2 in
    let none = reached-none (length s) s in
    let f = zero_not_found k.result s k.ensures.0 c.in-None.ensures in
    record { most = omega arith; value = omega arith }
