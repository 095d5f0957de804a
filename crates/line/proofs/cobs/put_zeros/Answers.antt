-- `put_zeros` meets its contract. The loop's invariant: k code bytes 01 are passed, and their zeros are put.
-- Assumes nothing.
use Prim.Native.Nat.{ℕ, ◌+◌}
use mathlib.Core.Path.{◌≡◌, refl, sym}
use native.Mathlib.Omega.{arith}
use lib.ListN.{get_or, replicate, length-replicate}
use Rattle.octets.proofs.Overlay.{overlay-none, overlay-get_d-after}
use Rattle.line.proofs.Alike.{run-alike, put-alike}
use Rattle.line.proofs.Rest.{part-filled}
use Rattle.line.proofs.cobs.put_zeros.Goals as goal

pub returns-then-not-zero : goal.returns-then-not-zero
returns-then-not-zero c =
    (λ h. absurd (omega arith), omega arith, refl, sym (overlay-none _ _))

pub loop-k-init : goal.loop-k-init
loop-k-init c =
    (refl, sym (overlay-none _ _))

pub loop-k-preserved : goal.loop-k-preserved
loop-k-preserved c =
    let l = c.loop-k in
    let a = c.args in
    let m = length-replicate {A = ℕ} l.k 0 in
    let e = overlay-get_d-after a.o (a.i + l.k) 0 (replicate l.k 0) a.s.now (omega arith) (omega arith) in
    let b : get_or a.s.now (a.i + l.k) 0 ≡ 1 = omega (arith, rw (← l.invariant.1) at e) in (
      run-alike 1 a.i l.k a.s.now (omega arith) l.invariant.0 b,
      rw l.invariant.1 (put-alike 0 a.o l.k a.s.now (omega arith)),
    )

-- a block
pub returns-then-block_alike : goal.returns-then-block_alike
returns-then-block_alike c =
    let a = c.args in
    let found = c.block_alike.ensures c.if-block_alike.true in
    (λ h. c.if-not-zero.false, found.0, found.1, part-filled 0 a.o 32 a.s.now (omega (arith, found.0)) (c.fill.ensures.after (λ y e. e)))
