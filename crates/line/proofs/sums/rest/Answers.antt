-- `line::sums::rest` meets its contract. The loop keeps what the remainders of the sums come to over the bytes that are left.
-- Assumes nothing.
use native.Mathlib.Omega.{arith}
use lib.ListN.{drop}
use Rattle.line.proofs.Checksum.{sums-end}
use Rattle.line.proofs.Columns.{sums_next, sums-start}
use Rattle.line.proofs.Rest.{rest-mid}
use Rattle.line.proofs.sums.rest.Goals as goal

pub loop-b-init : goal.loop-b-init
loop-b-init c =
    (omega arith, omega arith, sums-start _ _ _ (omega arith) (omega arith))

pub loop-b-preserved : goal.loop-b-preserved
loop-b-preserved c =
    let l = c.loop-b in
    let left = drop c.args.at c.args.body.now in
    let whole = rest-mid c.args.body.now c.args.at in
    let b = rw whole at c.from-first.ensures in
    (omega arith, omega arith, sums_next left l.b-index _ _ _ (rw whole at c.loop-b-test.true) b l.invariant.2)

pub returns : goal.returns
returns c =
    let left = drop c.args.at c.args.body.now in
    let end = rw (rest-mid c.args.body.now c.args.at) at c.loop-b-test.false in
    sums-end left c.loop-b.b-index _ _ end c.loop-b.invariant.2
