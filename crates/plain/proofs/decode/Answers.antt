-- `plain::decode` meets its contract.
-- The loop's invariant: the bytes decoded so far stand at the start of out, and the form decodes to them and what is left.
-- Assumes nothing.
use mathlib.Core.Path.{refl, sym, ◌∙◌}
use native.Mathlib.Omega.{arith}
use Rattle.plain.proofs.Groups.{middle-start, middle-byte, middle-code, stop-zero, stop-last, stop-past, stop-end, slice-behind}
use Rattle.plain.proofs.decode.Goals.{then-left-gt0, else-left-gt0+else-b-eq0+else-last_one_after_full}
use Rattle.plain.proofs.decode.Goals.{then-b-eq0-via-then-b-eq0, then-b-eq0-via-else-b-eq0+then-last_one_after_full}
use Rattle.plain.proofs.decode.Goals as goal

pub loop-i-init : goal.loop-i-init
loop-i-init c = middle-start _ _

pub loop-i-preserved : goal.loop-i-preserved
loop-i-preserved c =
    let l = c.loop-i in
    elim c.if-left-gt0.branch [
      | then-left-gt0 w ↦
          rw (w.out-is, w.left-is, w.zero-is, w.n-is)
          (middle-byte _ _ _ _ _ _ _ l.invariant c.loop-i-test.true _ refl w.if-left-gt0.true (omega arith))
      | else-left-gt0+else-b-eq0+else-last_one_after_full w ↦
          rw (w.out-is, w.left-is, w.zero-is, w.n-is, w.from-left.ensures)
          (middle-code _ _ _ _ _ _ _ l.invariant c.loop-i-test.true _ refl w.if-left-gt0.false w.if-b-eq0.false
          (rw (slice-behind _ _) at (sym w.if-last_one_after_full.false ∙ w.last_one_after_full.ensures)) (omega arith)
          w.put_zero-n.ensures.0 w.put_zero-n.ensures.1)
    ]

pub returns-then-b-eq0 : goal.returns-then-b-eq0
returns-then-b-eq0 c =
    let l = c.loop-i in
    elim c.then-b-eq0.branch [
      | then-b-eq0-via-then-b-eq0 w ↦
          stop-zero _ _ _ _ _ _ _ l.invariant c.loop-i-test.true _ refl c.if-left-gt0.false w.if-b-eq0.true
      | then-b-eq0-via-else-b-eq0+then-last_one_after_full w ↦
          stop-last _ _ _ _ _ _ _ l.invariant c.loop-i-test.true _ refl c.if-left-gt0.false
          (rw (slice-behind _ _) at (sym w.if-last_one_after_full.true ∙ w.last_one_after_full.ensures))
    ]

pub returns-then-left-gt0-2 : goal.returns-then-left-gt0-2
returns-then-left-gt0-2 c =
    stop-past _ _ _ _ _ _ _ c.loop-i.invariant c.loop-i-test.false c.if-left-gt0-2.true

pub returns : goal.returns
returns c =
    stop-end _ _ _ _ _ _ _ c.loop-i.invariant c.loop-i-test.false c.if-left-gt0-2.false
