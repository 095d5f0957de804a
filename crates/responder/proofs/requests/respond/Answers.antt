-- `responder::requests::respond` meets its contract: the tests in their order, each with its failure.
-- Assumes nothing.
use mathlib.Core.Path.{sym, ◌∙◌}
use mathlib.Core.Option.{none, some}
use borrow.Author.Rules.{rules}
use Rattle.line.specs.Numbers.{first_version}
use Rattle.responder.specs.Commands.{command_of_number}
use Rattle.responder.proofs.StepLaws.{other-version, top-bit-set, command-unknown, length-wrong, passed-all, judged-failure}
use Rattle.responder.proofs.StoreLaws.{answered}
use Rattle.responder.proofs.requests.respond.Goals as goal

pub returns-then-not-is_served : goal.returns-then-not-is_served
returns-then-not-is_served c =
    let s = c.args.stores.now in
    answered (search rules)
    (judged-failure s.image.now s.factory.now s.outbox.now s.settings.now s.registers.now 5 first_version (some _)
    c.requires.stores_valid.inner (other-version _ _ _ _ (sym c.is_served.ensures ∙ c.if-not-is_served.true))
    c.head_to-first.ensures c.fail.ensures)

pub returns-then-asked-ge-TOP_BIT : goal.returns-then-asked-ge-TOP_BIT
returns-then-asked-ge-TOP_BIT c =
    let s = c.args.stores.now in
    answered (search rules)
    (judged-failure s.image.now s.factory.now s.outbox.now s.settings.now s.registers.now 6 _ (some _) c.requires.stores_valid.inner
    (top-bit-set _ _ _ _ (sym c.is_served.ensures ∙ c.if-not-is_served.false) c.if-asked-ge-TOP_BIT.true)
    c.head_to-reply.ensures c.fail-then-asked-ge-TOP_BIT.ensures)

pub returns-in_default : goal.returns-in_default
unfolding command_of_number
returns-in_default c =
    let s = c.args.stores.now in
    answered (search rules)
    (judged-failure s.image.now s.factory.now s.outbox.now s.settings.now s.registers.now 3 first_version none
    c.requires.stores_valid.inner
    (command-unknown _ _ _ _ (sym c.is_served.ensures ∙ c.if-not-is_served.false) c.if-asked-ge-TOP_BIT.false
    (rw c.in_default.is at c.try_from.ensures))
    c.unnumbered-none.ensures c.fail-in_default.ensures)

pub returns-then-not-allows : goal.returns-then-not-allows
unfolding command_of_number
returns-then-not-allows c =
    let s = c.args.stores.now in
    answered (search rules)
    (judged-failure s.image.now s.factory.now s.outbox.now s.settings.now s.registers.now 7 _ (some _) c.requires.stores_valid.inner
    (length-wrong _ _ _ _ (sym c.is_served.ensures ∙ c.if-not-is_served.false) c.if-asked-ge-TOP_BIT.false
    (rw c.in-Ok.is at c.try_from.ensures)
    (sym c.allows.ensures ∙ c.if-not-allows.true))
    c.head_to-reply.ensures c.fail-then-not-allows.ensures)

pub serve-requires : goal.serve-requires
unfolding command_of_number
serve-requires c =
    let p = c.requires in
    record {
      stores_valid = p.stores_valid;
      data_len_bound = p.data_len_bound;
      command_value = sym (rw c.in-Ok.is at c.try_from.ensures);
      data_value = sym c.allows.ensures ∙ c.if-not-allows.false;
      version_value = sym c.is_served.ensures ∙ c.if-not-is_served.false;
    }

pub returns : goal.returns
unfolding command_of_number
returns c =
    rw
    (passed-all _ _ _ _ (sym c.is_served.ensures ∙ c.if-not-is_served.false) c.if-asked-ge-TOP_BIT.false
    (rw c.in-Ok.is at c.try_from.ensures)
    (sym c.allows.ensures ∙ c.if-not-allows.false))
    c.serve.ensures
