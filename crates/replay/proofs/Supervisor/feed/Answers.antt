-- `replay::Supervisor::feed` meets its contract. The loop's invariant: what was read of the bytes was replayed, and what it earned is kept.
-- Assumes nothing.
use mathlib.Core.Path.{◌≡◌, refl}
use native.Mathlib.Omega.{arith}
use lib.ListN.{length}
use Rattle.replay.proofs.Feeding.{feeding-start, feeding-long, feeding-short, feeding-end, feeding-next, fed-short}
use Rattle.replay.proofs.Supervisor.feed.Goals as goal

pub loop-i-init : goal.loop-i-init
loop-i-init c = record { same = refl; feeding = feeding-start _ _ _ }

pub returns-then-out-kept-lt-MOST_PENDING : goal.returns-then-out-kept-lt-MOST_PENDING
returns-then-out-kept-lt-MOST_PENDING c = feeding-short c.loop-i.invariant.feeding (omega (arith, c.loop-i.invariant.same))

pub overflow_add-kept : goal.overflow_add-kept
overflow_add-kept c =
    let short = fed-short _ _ c.feed_byte-kept.ensures.value in
    omega (arith, short, c.if-out-kept-lt-MOST_PENDING.false, c.loop-i.invariant.feeding.fits, c.loop-i.invariant.same)

pub loop-i-preserved : goal.loop-i-preserved
loop-i-preserved c =
    let f = feeding-next c.loop-i.invariant.feeding (omega arith) (omega (arith, c.loop-i.invariant.same)) refl c.feed_byte-kept.ensures in
    record { same = feeding-long f; feeding = f }

pub returns : goal.returns
returns c =
    let e : c.loop-i.i ≡ length c.args.bytes.now = omega (arith, c.loop-i.invariant.feeding.within) in
    rw e at (feeding-end c.loop-i.invariant.feeding (omega arith))
