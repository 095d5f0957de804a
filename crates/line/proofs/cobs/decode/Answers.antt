-- `cobs::decode` meets its contract. The loop's invariant: the bytes decoded so far stand at the start, the others are as they were.
-- Assumes nothing.
use mathlib.Core.Path.{refl, ap, ◌∙◌}
use Prim.Native.Nat.{ℕ, min, ◌+◌, ◌-◌}
use borrow.Author.Rules.{rules}
use native.Mathlib.Omega.{arith}
use Rattle.line.proofs.Alike.{put-no-byte}
use Rattle.line.proofs.Decoding.{byte-one-if}
use Rattle.line.proofs.InPlace.{middle-start, middle-next, middle-end, middle-ones}
use Rattle.octets.proofs.Overlay.{part-moved}
use Rattle.line.proofs.cobs.decode.Goals as goal

pub loop-i-init : goal.loop-i-init
loop-i-init c =
    (search rules, refl, middle-start _ _)

-- code bytes 01
pub loop-i-preserved-then-ones-gt0 : goal.loop-i-preserved-then-ones-gt0
loop-i-preserved-then-ones-gt0 c =
    let iteration = c.loop-i in
    let ones = c.put_zeros-ones.ensures in (
      ones.1,
      search rules,
      rw ones.3
          (middle-ones c.args.s.now c.args.n iteration.s iteration.zero iteration.o iteration.i
          c.put_zeros-ones.result (ones.0 c.if-ones-gt0.true) iteration.invariant.2 ones.1 c.requires ones.2),
    )

-- a group
pub loop-i-preserved : goal.loop-i-preserved
loop-i-preserved c =
    let iteration = c.loop-i in
    let e = put-no-byte 0 iteration.o c.put_zeros-ones.result iteration.s _ (omega arith) c.put_zeros-ones.ensures.3 in
    let moved =
    c.copy_within.ensures.after
    ∙ part-moved (iteration.i + 1) (iteration.o + c.from-o.result) c.min-k.result c.put_held.new.s (omega arith) in (
      search rules,
      search rules,
      rw (moved, c.put_held.ensures, c.from-o.ensures, byte-one-if iteration.zero, e)
          (middle-next c.args.s.now c.args.n iteration.s iteration.zero iteration.o iteration.i
          c.from-c.result c.min-k.result
          iteration.invariant.2 c.loop-i-test.true c.requires (rw e at c.from-c.ensures)
          (c.min-k.ensures
          ∙ ap (λ (m : ℕ). min m (c.args.n - (iteration.i + 1))) c.saturating_sub.ensures)),
    )

pub returns : goal.returns
returns c =
    let iteration = c.loop-i in
    middle-end c.args.s.now c.args.n iteration.s iteration.zero iteration.o iteration.i
    iteration.invariant.2 c.loop-i-test.false c.requires
