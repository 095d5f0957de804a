-- `encode` meets its contract. The loop's invariant: o bytes of the form are made of the first i bytes of s, and are put.
-- Assumes nothing.
use mathlib.Core.Path.{refl}
use Prim.Native.Nat.{◌+◌}
use native.Mathlib.Omega.{arith}
use lib.ListN.{set, take}
use Rattle.line.specs.Cobs.{cobs}
use Rattle.line.proofs.Alike.{put-no-byte}
use Rattle.line.proofs.Groups.{Put, put-none, put_all, NextGroup, next-group, group-last, group-zero, group-full}
use Rattle.line.proofs.Groups.{next-group-put, room-left, zeros-next, zeros-put}
use Rattle.line.proofs.cobs.encode.Goals as goal
use Rattle.line.proofs.cobs.encode.Goals.{After-copy_group-k}

pub loop-i-init : goal.loop-i-init
loop-i-init c =
    record { inside = omega arith; most = omega arith; met = refl; put = put-none _ _ }

pub put_codes-zeros-requires : goal.put_codes-zeros-requires
put_codes-zeros-requires c =
    let l = c.loop-i in
    let r = room-left c.args.s.now c.args.n l.i l.o c.requires.n_in_bounds l.invariant.met in
    let p = l.invariant.put.size in
    record { i_le_n = (omega arith, omega arith); within = (omega arith, omega arith) }

pub loop-i-preserved-then-zeros-gt0 : goal.loop-i-preserved-then-zeros-gt0
loop-i-preserved-then-zeros-gt0 c =
    let l = c.loop-i in
    let zeros = c.put_codes-zeros in
    let z = zeros-next c.args.s.now c.args.n l.i l.o zeros.result zeros.ensures.0 zeros.ensures.1 l.invariant.met in
    record {
      inside = z.inside;
      most = omega arith;
      met = z.met;
      put = rw zeros.ensures.2 (zeros-put z c.requires.s_in_bounds l.invariant.put);
    }

pub copy_group-k-requires : goal.copy_group-k-requires
copy_group-k-requires c =
    let l = c.loop-i in
    let r = room-left c.args.s.now c.args.n l.i l.o c.requires.n_in_bounds l.invariant.met in
    let p = l.invariant.put.size in
    record { i_le_n = (omega arith, omega arith); within = (omega arith, omega arith) }

-- the group that is next, and its bytes behind those that are put
module _ (c : After-copy_group-k) where
  next : NextGroup c.args.s.now c.args.n c.loop-i.i c.loop-i.o c.copy_group-k.result
  next =
      next-group c.args.s.now c.args.n c.loop-i.i c.loop-i.o c.copy_group-k.result _ c.requires.n_in_bounds c.loop-i.invariant.inside
      c.loop-i.invariant.met refl c.copy_group-k.ensures.value

  next-put : Put (cobs (take c.args.n c.args.s.now)) (c.loop-i.o + (c.copy_group-k.result + 1)) c.args.out.now
      (set c.copy_group-k.new.out c.loop-i.o (c.copy_group-k.result + 1))
  next-put =
      let e = put-no-byte 1 c.loop-i.o c.put_codes-zeros.result c.loop-i.out _ (omega arith) c.put_codes-zeros.ensures.2 in
      next-group-put next c.requires.s_in_bounds c.loop-i.invariant.put e c.copy_group-k.ensures.out_after

pub bounds-out-o : goal.bounds-out-o
bounds-out-o c =
    let l = c.loop-i in
    let r = room-left c.args.s.now c.args.n l.i l.o c.requires.n_in_bounds l.invariant.met in
    let p = l.invariant.put.size in
    omega arith

pub returns-then-i-n : goal.returns-then-i-n
returns-then-i-n c =
    let k = (goal.at.returns-then-i-n c).After-copy_group-k in
    let e = group-last (next k) c.if-i-n.true in
    record { out_after = put_all e (next-put k); value = e }

pub loop-i-preserved-then-k-lt-LONGEST_GROUP : goal.loop-i-preserved-then-k-lt-LONGEST_GROUP
loop-i-preserved-then-k-lt-LONGEST_GROUP c =
    let k = (goal.at.loop-i-preserved-then-k-lt-LONGEST_GROUP c).After-copy_group-k in
    record {
      inside = omega arith;
      most = omega arith;
      met = group-zero (next k) (omega arith) c.if-k-lt-LONGEST_GROUP.true;
      put = next-put k;
    }

pub loop-i-preserved : goal.loop-i-preserved
loop-i-preserved c =
    let k = (goal.at.loop-i-preserved c).After-copy_group-k in
    record {
      inside = omega arith;
      most = omega arith;
      met = group-full (next k) (omega arith) c.if-k-lt-LONGEST_GROUP.false;
      put = next-put k;
    }
