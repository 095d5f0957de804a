-- `replay::Supervisor::feed_all` meets its contract.
-- Assumes nothing.
use mathlib.Core.Path.{refl, sym}
use Prim.Native.Nat.{◌+◌}
use native.Mathlib.Omega.{arith}
use lib.Seq.{take_all, length-take-le}
use Rattle.std.proofs.KnownBytes.{Appends-nil, Appends-trans}
use Rattle.std.proofs.lemmas.Result.{err_from_is_err_and}
use Rattle.responder.specs.Replay.{replay_bytes}
use Rattle.replay.proofs.Feeding.{fed-on}
use Rattle.replay.proofs.Supervisor.feed_all.Goals as goal

pub loop-at-init : goal.loop-at-init
unfolding replay_bytes
loop-at-init g c =
    (omega arith, refl, Appends-nil _)

pub slice_bounds-write_all-end : goal.slice_bounds-write_all-end
slice_bounds-write_all-end g c =
    let l = c.loop-at in
    let f = fed-on _ _ c.feed-fed.result c.loop-at-test.true (omega arith) l.invariant.1 c.feed-fed.ensures in
    f.fits

pub slice_bounds-write_all-end-in-loop-at : goal.slice_bounds-write_all-end-in-loop-at
slice_bounds-write_all-end-in-loop-at g c =
    let l = c.loop-at in
    let f = fed-on _ _ c.feed-fed.result c.loop-at-test.true (omega arith) l.invariant.1 c.feed-fed.ensures in
    sym (length-take-le _ _ f.fits)

pub overflow_add-at : goal.overflow_add-at
overflow_add-at g c =
    let l = c.loop-at in
    let f = fed-on _ _ c.feed-fed.result c.loop-at-test.true (omega arith) l.invariant.1 c.feed-fed.ensures in
    omega (arith, f.within)

pub loop-at-smaller : goal.loop-at-smaller
loop-at-smaller g c =
    let l = c.loop-at in
    let f = fed-on _ _ c.feed-fed.result c.loop-at-test.true (omega arith) l.invariant.1 c.feed-fed.ensures in
    omega (arith, f.some, f.within)

pub loop-at-preserved : goal.loop-at-preserved
loop-at-preserved g c =
    let l = c.loop-at in
    let f = fed-on _ _ c.feed-fed.result c.loop-at-test.true (omega arith) l.invariant.1 c.feed-fed.ensures in
    (f.within, f.leaves, rw f.adds (Appends-trans _ _ _ _ _ l.invariant.2 c.in_ok-write_all.ensures.bytes))

pub returns-in_err-write_all-clause-failed : goal.returns-in_err-write_all-clause-failed
returns-in_err-write_all-clause-failed g c =
    let l = c.loop-at in
    let f = fed-on _ _ c.feed-fed.result c.loop-at-test.true (omega arith) l.invariant.1 c.feed-fed.ensures in
    let p = err_from_is_err_and c.from_residual.result c.from_residual.ensures.1 in
    rw p.1 (l.at + c.feed-fed.result.read, f.leaves)

pub returns : goal.returns
returns g c =
    let l = c.loop-at in
    let e = take_all l.at c.args.bytes.now (omega arith) in
    record { left = rw e at l.invariant.1; written = rw e at l.invariant.2; failed = tt }
