-- `responder::receive::receive` meets its contract: an iteration for each frame, and the rest of the piece after it.
-- Assumes nothing.
use mathlib.Core.Path.{sym, ◌∙◌}
use native.Mathlib.Omega.{arith}
use borrow.Author.Rules.{rules}
use Rattle.responder.specs.Receive.{receive_report, receive_promise}
use Rattle.responder.proofs.StepLaws.{begun, over, kept, valid-step-used, went}
use Rattle.responder.proofs.receive.receive.Goals as goal

pub returns-then-not-are_valid : goal.returns-then-not-are_valid
unfolding receive_report receive_promise
returns-then-not-are_valid c = rw (sym c.are_valid.ensures ∙ c.if-not-are_valid.true)

pub returns-then-is_kept : goal.returns-then-is_kept
returns-then-is_kept c =
    let one = c.is_kept.ensures c.if-is_kept.true in
    kept _ _ _ c.collect.result _ (sym c.are_valid.ensures ∙ c.if-not-are_valid.false) one.0 one.1 c.collect.ensures

pub loop-at-init : goal.loop-at-init
loop-at-init c = record { same = search rules; held = begun _ _ _ (sym c.are_valid.ensures ∙ c.if-not-are_valid.false) }

pub valid_step-done-requires : goal.valid_step-done-requires
valid_step-done-requires c = c.loop-at.invariant.held.valid

pub overflow_add-at : goal.overflow_add-at
overflow_add-at c =
    let u = valid-step-used c.loop-at.invariant.held c.loop-at-test.true
    (rw c.loop-at.invariant.same.image at c.valid_step-done.ensures.registers_after) in
    omega arith

pub loop-at-smaller : goal.loop-at-smaller
loop-at-smaller c =
    let u = valid-step-used c.loop-at.invariant.held c.loop-at-test.true
    (rw c.loop-at.invariant.same.image at c.valid_step-done.ensures.registers_after) in
    omega arith

pub loop-at-preserved : goal.loop-at-preserved
loop-at-preserved c =
    let stepped = c.valid_step-done.ensures in
    record {
      same = search rules;
      held = went c.loop-at.invariant.held c.loop-at-test.true (rw c.loop-at.invariant.same.image at stepped.registers_after)
          stepped.registers_after_2;
    }

pub returns : goal.returns
returns c =
    let w = over c.loop-at.invariant.held c.loop-at-test.false in search rules
