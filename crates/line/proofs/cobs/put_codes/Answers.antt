-- `put_codes` meets its contract. The loop's invariant: k zeros are passed, and their code bytes are put.
-- Assumes nothing.
use mathlib.Core.Path.{refl, sym}
use native.Mathlib.Omega.{arith}
use Rattle.octets.proofs.Overlay.{overlay-none}
use Rattle.line.proofs.Alike.{run-alike, put-alike}
use Rattle.line.proofs.Rest.{part-filled}
use Rattle.line.proofs.cobs.put_codes.Goals as goal

pub loop-k-init : goal.loop-k-init
loop-k-init c =
    (refl, sym (overlay-none _ _))

pub loop-k-preserved : goal.loop-k-preserved
loop-k-preserved c =
    let l = c.loop-k in
    let a = c.args in (
      run-alike 0 a.i l.k a.s.now (omega arith) l.invariant.0 (omega arith),
      rw l.invariant.1 (put-alike 1 a.o l.k a.out.now (omega arith)),
    )

-- a block
pub returns-then-block_alike : goal.returns-then-block_alike
returns-then-block_alike c =
    let a = c.args in
    let found = c.block_alike.ensures c.if-block_alike.true in
    (found.0, found.1, part-filled 1 a.o 32 a.out.now (omega (arith, found.0)) (c.fill.ensures.after (λ y e. e)))
