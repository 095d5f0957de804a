-- `audit::read_full` meets its contract.
-- Assumes nothing.
use mathlib.Core.Path.{◌≡◌, refl}
use Prim.Native.Nat.{◌+◌, ◌-◌}
use native.Mathlib.Omega.{arith}
use borrow.Rule.Slice.PartMut.{put_mid}
use lib.ListN.{length}
use borrow.Author.Rules.{rules}
use Rattle.std.proofs.KnownBytes.{Consumes-nil}
use Rattle.audit.proofs.Reading.{read-end, read-full, read-more}
use Rattle.audit.proofs.read_full.Goals as goal

pub loop-done-init : goal.loop-done-init
loop-done-init g c = (refl, omega arith, Consumes-nil _)

pub returns-then-got-eq0-clause-bytes : goal.returns-then-got-eq0-clause-bytes
returns-then-got-eq0-clause-bytes g c =
    let l = c.loop-done in
    let done = c.in_ok-got.ensures in
    let room = put_mid l.done (length l.room - l.done) l.room c.read.new.buf in
    let long : length room ≡ length c.args.room.now = search rules in
    let first =
    read-more _ _ _ l.done c.in_ok-got.got l.room c.read.new.buf (omega arith) (omega arith) (omega (arith, done.bound.0)) l.invariant.2
    done.bytes.0 in
    let same : l.done + c.in_ok-got.got ≡ l.done = omega arith in
    rw long at (read-end _ _ l.done room (omega arith) (rw same at first) (done.bytes.1 c.if-got-eq0.true (omega arith)))

pub loop-done-preserved : goal.loop-done-preserved
loop-done-preserved g c =
    let l = c.loop-done in
    let done = c.in_ok-got.ensures in (
      search rules,
      omega (arith, done.bound.0),
      read-more _ _ _ l.done c.in_ok-got.got l.room c.read.new.buf (omega arith) (omega arith) (omega (arith, done.bound.0)) l.invariant.2
          done.bytes.0,
    )

pub returns-clause-bytes : goal.returns-clause-bytes
returns-clause-bytes g c =
    let l = c.loop-done in
    rw l.invariant.0 at (read-full _ _ l.done l.room (omega arith) l.invariant.2)
