-- `requester::hearing::hear` meets its contract.
-- Assumes nothing.
use mathlib.Core.Path.{sym, ap, ◌∙◌}
use Rattle.requester.specs.Hearing.{head_message}
use Rattle.requester.specs.declared.number.ReplyNumber.{ReplyNumber}
use Rattle.requester.proofs.SettlingLaws.{hear-version, hear-request, hear-failure, hear-answer, hear-other}
use Rattle.requester.proofs.hearing.hear.Goals as goal

pub returns-then-head-ne-FIRST_VERSION : goal.returns-then-head-ne-FIRST_VERSION
returns-then-head-ne-FIRST_VERSION c =
    λ d. sym (hear-version _ (head_message c.args.head d) c.if-head-ne-FIRST_VERSION.true)

pub returns-then-head-lt-TOP_BIT : goal.returns-then-head-lt-TOP_BIT
returns-then-head-lt-TOP_BIT c =
    λ d. sym (hear-request _ (head_message c.args.head d) c.if-head-ne-FIRST_VERSION.false c.if-head-lt-TOP_BIT.true)

pub returns-then-fails_decode : goal.returns-then-fails_decode
returns-then-fails_decode c =
    let e = ap (λ (n : ReplyNumber). n.0) c.reply_to-expected.ensures in
    λ d.
    sym (hear-failure _ (head_message c.args.head d) c.if-head-ne-FIRST_VERSION.false c.if-head-lt-TOP_BIT.false
    (rw e at (sym c.fails_decode.ensures ∙ c.if-fails_decode.true)))

pub returns-then-head-expected : goal.returns-then-head-expected
returns-then-head-expected c =
    let e = ap (λ (n : ReplyNumber). n.0) c.reply_to-expected.ensures in
    λ d.
    sym (hear-other _ (head_message c.args.head d) c.if-head-ne-FIRST_VERSION.false c.if-head-lt-TOP_BIT.false
    (rw e at (sym c.fails_decode.ensures ∙ c.if-fails_decode.false)) (λ z. c.if-head-expected.true (z ∙ sym e)))

pub returns : goal.returns
returns c =
    let e = ap (λ (n : ReplyNumber). n.0) c.reply_to-expected.ensures in
    λ d.
    sym (hear-answer _ (head_message c.args.head d) c.if-head-ne-FIRST_VERSION.false c.if-head-lt-TOP_BIT.false
    (rw e at (sym c.fails_decode.ensures ∙ c.if-fails_decode.false)) (c.if-head-expected.false ∙ e))
