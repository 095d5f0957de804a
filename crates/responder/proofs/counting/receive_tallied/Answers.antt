-- `responder::counting::receive_tallied` meets its contract: a step for each frame, counted.
-- Assumes nothing.
use mathlib.Core.Path.{sym, ◌∙◌}
use native.Mathlib.Omega.{arith}
use borrow.Author.Rules.{rules}
use Rattle.responder.proofs.StepLaws.{valid-step-used, went}
use Rattle.responder.proofs.CountLaws.{refused-so, counted_none, counted-all, counted-on}
use Rattle.responder.proofs.counting.receive_tallied.Goals as goal

pub returns-then-not-are_valid : goal.returns-then-not-are_valid
returns-then-not-are_valid c = refused-so _ _ _ _ (sym c.are_valid.ensures ∙ c.if-not-are_valid.true)

pub loop-at-init : goal.loop-at-init
loop-at-init c = record { same = search rules; counted = counted_none _ _ _ _ (sym c.are_valid.ensures ∙ c.if-not-are_valid.false) }

pub valid_step-done-requires : goal.valid_step-done-requires
valid_step-done-requires c = c.loop-at.invariant.counted.held.valid

pub overflow_add-at : goal.overflow_add-at
overflow_add-at c =
    let u = valid-step-used c.loop-at.invariant.counted.held c.loop-at-test.true
    (rw c.loop-at.invariant.same.image at c.valid_step-done.ensures.registers_after) in
    omega arith

pub loop-at-smaller : goal.loop-at-smaller
loop-at-smaller c =
    let u = valid-step-used c.loop-at.invariant.counted.held c.loop-at-test.true
    (rw c.loop-at.invariant.same.image at c.valid_step-done.ensures.registers_after) in
    omega arith

pub loop-at-preserved : goal.loop-at-preserved
loop-at-preserved c =
    let stepped = c.valid_step-done.ensures in
    let inv = c.loop-at.invariant.counted in
    let l = c.loop-at-test.true in
    record {
      same = search rules;
      counted =
          counted-on inv l (rw c.loop-at.invariant.same.image at stepped.registers_after) c.bumped-tally.ensures
          (went inv.held l (rw c.loop-at.invariant.same.image at stepped.registers_after) stepped.registers_after_2);
    }

pub returns : goal.returns
returns c =
    let w = counted-all c.loop-at.invariant.counted c.loop-at-test.false in search rules
