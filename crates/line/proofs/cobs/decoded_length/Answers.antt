-- `cobs::decoded_length` meets its contract. The loop's invariant: the measured whole is what is counted with the groups that are left.
-- Assumes nothing.
use mathlib.Core.Path.{◌≡◌, sym, ap, ◌∙◌}
use Prim.Native.Nat.{◌-◌}
use native.Mathlib.Omega.{arith}
use lib.Dec.{leb}
use borrow.Author.Rules.{rules}
use Rattle.std.specs.Prelude.{Some}
use mathlib.Core.Bool.{not}
use Rattle.line.specs.Decoding.{one_if}
use Rattle.line.proofs.Decoding.{byte-one-if, one-if-not, decoded_of, counted_start, counted-zero, counted-short, counted-last}
use Rattle.line.proofs.Decoding.{counted-group, counted-ones, counted-end}
use Rattle.line.proofs.cobs.decoded_length.Goals as goal

pub loop-i-init : goal.loop-i-init
loop-i-init c =
    (search rules, search rules, counted_start _)

-- code bytes 01
pub loop-i-preserved-then-ones-gt0 : goal.loop-i-preserved-then-ones-gt0
loop-i-preserved-then-ones-gt0 c =
    let a = c.args in
    let l = c.loop-i in
    let ones = c.next_alike-ones in (
      ones.ensures.0,
      omega arith,
      l.invariant.2
          ∙ counted-ones a.s.now a.n l.i l.full l.zero l.invariant.1 ones.result (omega arith) ones.ensures.0 ones.ensures.1,
    )

-- a code byte 0
pub returns-then-c-eq0 : goal.returns-then-c-eq0
returns-then-c-eq0 c =
    let iteration = c.loop-i in
    counted-zero c.args.s.now c.args.n iteration.i iteration.zero _ c.from-c.result
    c.loop-i-test.true c.requires c.from-c.ensures c.if-c-eq0.true
    ∙ sym iteration.invariant.2

-- a group that runs past the end
pub returns-then-n-i : goal.returns-then-n-i
returns-then-n-i c =
    let iteration = c.loop-i in
    counted-short c.args.s.now c.args.n iteration.i iteration.zero _ c.from-c.result
    c.loop-i-test.true c.requires c.from-c.ensures c.if-n-i.true
    ∙ sym iteration.invariant.2

-- a last 01 after a full group
pub returns-then-last_one_after_full : goal.returns-then-last_one_after_full
returns-then-last_one_after_full c =
    let iteration = c.loop-i in
    counted-last c.args.s.now c.args.n iteration.i iteration.zero _ c.from-c.result
    c.loop-i-test.true c.requires c.from-c.ensures (sym c.if-last_one_after_full.true ∙ c.last_one_after_full.ensures)
    ∙ sym iteration.invariant.2

-- a group
pub loop-i-preserved : goal.loop-i-preserved
loop-i-preserved c =
    let iteration = c.loop-i in
    let next = one-if-not (leb c.from-c.result 254) in
    let full : c.from-full.result ≡ one_if (not (leb c.from-c.result 254)) = c.from-full.ensures ∙ byte-one-if _ in (
      search rules,
      omega arith,
      rw full (iteration.invariant.2
          ∙ counted-group c.args.s.now c.args.n iteration.i iteration.full iteration.zero iteration.invariant.1
          c.from-c.result
          c.loop-i-test.true c.requires c.from-c.ensures c.if-c-eq0.false c.if-n-i.false
          (sym c.if-last_one_after_full.false ∙ c.last_one_after_full.ensures)),
    )

-- the end, at the end of a group
pub returns : goal.returns
returns c =
    let iteration = c.loop-i in
    let held = byte-one-if iteration.zero in
    let e : c.args.n - iteration.full - c.from.result ≡ decoded_of iteration.i iteration.full iteration.zero =
    omega (arith, c.from.ensures) in
    ap Some e
    ∙ counted-end c.args.s.now c.args.n iteration.i iteration.zero _ c.loop-i-test.false c.requires
    ∙ sym iteration.invariant.2
