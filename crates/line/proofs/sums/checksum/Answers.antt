-- `line::sums::checksum` meets its contract. The loop keeps what the sums come to over the bytes that are left.
-- Assumes nothing.
use mathlib.Core.Path.{◌≡◌, refl, ◌∙◌}
use Prim.Native.Nat.{◌+◌, ◌*◌}
use native.Mathlib.Omega.{arith}
use Rattle.line.specs.Checksum.{checksum}
use Rattle.line.specs.Columns.{block_length}
use Rattle.line.proofs.sums.checksum.Goals as goal

pub loop-i-init : goal.loop-i-init
unfolding checksum
loop-i-init c =
    (omega arith, omega arith, refl)

pub loop-i-preserved : goal.loop-i-preserved
loop-i-preserved c =
    let sums = c.block-sums.ensures in
    let e : (c.loop-i.i + 1) * block_length ≡ c.loop-i.i * block_length + block_length = omega arith in
    (sums.0, sums.1, rw e (sums.2 ∙ c.loop-i.invariant.2))
