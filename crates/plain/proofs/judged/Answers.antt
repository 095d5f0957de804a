-- `plain::judged` meets its contract.
-- Assumes nothing.
use mathlib.Core.Path.{◌≡◌}
use native.Mathlib.Omega.{arith}
use Rattle.std.proofs.lemmas.Result.{err_from_is_err_and}
use Rattle.plain.specs.declared.Failure.TheVariants.{Form}
use Rattle.plain.specs.Answers.{plain_verdict}
use Rattle.plain.proofs.Tests.{over-judged, bad-judged, decoded-fits, tested-judged}
use Rattle.plain.proofs.judged.Goals as goal

pub returns-then-frame-gt-LONGEST_FORM : goal.returns-then-frame-gt-LONGEST_FORM
unfolding plain_verdict
returns-then-frame-gt-LONGEST_FORM c =
    let a = c.args in
    let r =
    over-judged a.frame.now a.message.now c.if-frame-gt-LONGEST_FORM.true in
    record { message_after = r.0; message_after_2 = r.1 }

pub tested-requires : goal.tested-requires
tested-requires c =
    let a = c.args in
    decoded-fits a.frame.now a.message.now c.if-frame-gt-LONGEST_FORM.false c.decode.ensures.0 c.decode.ensures.1
    c.in_ok-n.ensures.ok_part (omega arith) (omega arith)

pub returns-in_err-n : goal.returns-in_err-n
unfolding plain_verdict
returns-in_err-n c =
    let a = c.args in
    let r = bad-judged a.frame.now a.message.now c.if-frame-gt-LONGEST_FORM.false c.decode.ensures.0 c.decode.ensures.1
    c.in_err-n.ensures.ok_part in
    let p = err_from_is_err_and c.from_residual.result c.from_residual.ensures.1 in
    let e = rw c.in_err-n.ensures.ok_part at c.in_err-n.ensures.value in
    let why : c.in_err-n.field-0.0 ≡ Form = cc in
    rw (p.1, p.2, why) (record { message_after = r.0; message_after_2 = r.1 })

pub returns : goal.returns
returns c =
    let a = c.args in
    let r = tested-judged a.frame.now a.message.now c.if-frame-gt-LONGEST_FORM.false c.decode.ensures.0 c.decode.ensures.1
    c.in_ok-n.ensures.ok_part c.tested.ensures in
    record { message_after = r.0; message_after_2 = r.1 }
