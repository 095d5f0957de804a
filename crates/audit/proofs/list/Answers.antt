-- `audit::list` meets its contract.
-- The loop's invariant: the text up to an offset of the capture is written, and the text is that and what is left.
-- Assumes nothing.
use native.Mathlib.Omega.{arith}
use Rattle.plain.specs.Answers.{next_report}
use Rattle.plain.proofs.Steps.{AtFrame, at-frame, at_tail}
use Rattle.audit.proofs.Lines.{middle-start, middle-next, middle-end}
use Rattle.audit.proofs.list.Goals.{In-Frame}
use Rattle.audit.proofs.list.Goals as goal

-- a frame begins at the offset
begins : (c : In-Frame) → AtFrame c.args.capture.now c.loop-n.at c.in-Frame.n
unfolding next_report
begins c = at-frame c.args.capture.now c.loop-n.at c.in-Frame.ensures

pub loop-n-init : goal.loop-n-init
loop-n-init c = (omega arith, middle-start _ _ c.requires.empty)

pub put_frame-requires-clause-n_in_bounds : goal.put_frame-requires-clause-n_in_bounds
put_frame-requires-clause-n_in_bounds c = omega (arith, (begins (goal.at.put_frame-requires-clause-n_in_bounds c).In-Frame).within)

pub overflow_add-at : goal.overflow_add-at
overflow_add-at c = omega (arith, (begins (goal.at.overflow_add-at c).In-Frame).within)

pub overflow_add-at-in-Frame : goal.overflow_add-at-in-Frame
overflow_add-at-in-Frame c = omega (arith, (begins (goal.at.overflow_add-at-in-Frame c).In-Frame).within)

pub loop-n-preserved : goal.loop-n-preserved
unfolding next_report
loop-n-preserved c =
    let put = c.put_frame.ensures in (
      omega (arith, (begins (goal.at.loop-n-preserved c).In-Frame).within),
      middle-next c.args.capture.now _ c.loop-n.at c.in-Frame.n c.loop-n.invariant.1 c.in-Frame.ensures _ put.wrote put.upper_bound,
    )

pub put_tail-requires-clause-n_le_longest_capture : goal.put_tail-requires-clause-n_le_longest_capture
unfolding next_report
put_tail-requires-clause-n_le_longest_capture c =
    omega (arith, (at_tail c.args.capture.now c.loop-n.at c.in-Tail.ensures).within)

pub returns-in-Tail : goal.returns-in-Tail
unfolding next_report
returns-in-Tail c =
    middle-end c.args.capture.now _ c.loop-n.at c.in-Tail.n c.loop-n.invariant.1 c.in-Tail.ensures _ c.put_tail.ensures
