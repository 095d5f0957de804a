-- `plain::checksum` meets its contract. The loop keeps what the two sums come to over the bytes that are left.
-- Assumes nothing.
use mathlib.Core.Path.{refl}
use native.Mathlib.Omega.{arith}
use Rattle.line.specs.Checksum.{checksum}
use Rattle.line.proofs.Checksum.{sums-end}
use Rattle.plain.proofs.Tests.{sums_next}
use Rattle.plain.proofs.checksum.Goals as goal

pub loop-b-init : goal.loop-b-init
unfolding checksum
loop-b-init c =
    (omega arith, omega arith, refl)

pub loop-b-preserved : goal.loop-b-preserved
loop-b-preserved c =
    (omega arith, omega arith, sums_next c.args.body.now c.loop-b.b-index _ _ (omega arith) c.from.ensures c.loop-b.invariant.2)

pub returns : goal.returns
returns c =
    sums-end c.args.body.now c.loop-b.b-index _ _ (omega arith) c.loop-b.invariant.2
