-- `saving::restore::check` meets its contract. The loop's invariant: the first fault from the offset on is the image's.
-- Assumes nothing.
use mathlib.Core.Path.{◌≡◌, refl, sym, ap, ◌∙◌}
use native.Mathlib.Omega.{arith}
use borrow.Author.Rules.{rules}
use Rattle.std.specs.Prelude.{Err}
use Rattle.std.proofs.lemmas.Result.{err_from_is_err_and}
use Rattle.saving.specs.Saving.{read_image}
use Rattle.saving.specs.Calls.{fault_in}
use Rattle.saving.proofs.ReadLaws.{read_at, further, fault-behind}
use Rattle.saving.proofs.restore.check.Goals as goal

pub loop-key-init : goal.loop-key-init
unfolding read_image
loop-key-init c =
    (search rules, refl)

pub loop-key-smaller : goal.loop-key-smaller
loop-key-smaller c =
    omega (arith, further _ _ _ (sym (rw c.in-Some.is at c.in_ok-key.ensures)))

pub loop-key-preserved : goal.loop-key-preserved
loop-key-preserved c =
    let e = sym (rw c.in-Some.is at c.in_ok-key.ensures) in
    ((further _ _ _ e).1, sym (fault-behind _ _ _ e) ∙ c.loop-key.invariant.1)

pub returns : goal.returns
returns c =
    sym (ap fault_in (read_at _ _ _ (sym (rw c.in_default.is at c.in_ok-key.ensures)))) ∙ c.loop-key.invariant.1

pub returns-in_err-key : goal.returns-in_err-key
returns-in_err-key c =
    let p = err_from_is_err_and c.from_residual.result c.from_residual.ensures.1 in
    let e : c.from_residual.result ≡ Err c.in_err-key.field-0.0 = p.1 ∙ ap Err p.2 in
    rw e (sym (ap fault_in (read_at _ _ _ (sym c.in_err-key.ensures))) ∙ c.loop-key.invariant.1)
