-- `responder::receive::step` meets its contract.
-- Assumes nothing.
use mathlib.Core.Path.{◌≡◌, sym, ◌∙◌}
use borrow.Author.Rules.{rules}
use Rattle.supervisor.specs.Calls.{parts}
use Rattle.counters.specs.Ended.{step_report, served_report}
use Rattle.responder.specs.Receive.{step_outcome, step_promise}
use Rattle.responder.specs.Stores.{parts_of}
use Rattle.responder.proofs.receive.step.Goals as goal

pub returns-then-not-are_valid : goal.returns-then-not-are_valid
unfolding step_promise step_report served_report
returns-then-not-are_valid c = rw (sym c.are_valid.ensures ∙ c.if-not-are_valid.true)

pub valid_step-requires : goal.valid_step-requires
valid_step-requires c = sym c.are_valid.ensures ∙ c.if-not-are_valid.false

pub returns : goal.returns
unfolding step_promise
returns c =
    let a = c.args in
    let p = parts a.reader.now a.outbox.now a.factory.now a.settings.now a.registers.now in
    let left = parts_of c.valid_step.new.reader c.valid_step.new.stores in
    let w : step_outcome c.valid_step.result left ≡ step_promise a.image.now p a.piece.now =
    rw (sym c.are_valid.ensures ∙ c.if-not-are_valid.false) c.valid_step.ensures.registers_after in
    search rules
