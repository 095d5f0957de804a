-- `supervisor::outbox::take` meets its contract.
-- Assumes nothing.
use mathlib.Core.Path.{◌≡◌, refl, sym, ap, ◌∙◌}
use mathlib.Core.Bool.{Bool, true, false, cond, not}
use mir.Val.{bool_byte}
use native.Mathlib.Omega.{arith}
use lib.ListN.{length}
use Rattle.octets.proofs.Overlay.{length-put}
use Rattle.supervisor.proofs.ValidLaws.{outbox-valid}
use Rattle.supervisor.proofs.OutboxLaws.{take_none, take-some}
use Rattle.supervisor.proofs.outbox.take.Goals as goal

by-zero : (b : Bool) → bool_byte (not b) ≡ cond b 0 1
by-zero true = refl
by-zero false = refl

pub overflow_sub-to : goal.overflow_sub-to
overflow_sub-to c =
    omega (arith, outbox-valid _ (sym c.outbox_is_valid.ensures ∙ c.if-not-outbox_is_valid.false))

pub returns-then-n-eq0 : goal.returns-then-n-eq0
returns-then-n-eq0 c =
    take_none _ _ (sym c.outbox_is_valid.ensures ∙ c.if-not-outbox_is_valid.false)
    (c.from-from.ensures ∙ c.read_u16.ensures) (c.from-to.ensures ∙ c.read_u16-2.ensures) c.min-n.ensures c.if-n-eq0.true

pub bounds-outbox-4 : goal.bounds-outbox-4
bounds-outbox-4 c =
    let v = outbox-valid _ (sym c.outbox_is_valid.ensures ∙ c.if-not-outbox_is_valid.false) in
    omega (arith, v, ap length c.write_u16.ensures ∙ length-put _ _ _)

pub returns : goal.returns
returns c =
    take-some _ _ (sym c.outbox_is_valid.ensures ∙ c.if-not-outbox_is_valid.false)
    (c.from-from.ensures ∙ c.read_u16.ensures) (c.from-to.ensures ∙ c.read_u16-2.ensures) c.min-n.ensures c.if-n-eq0.false
    c.read_u8-last.ensures c.copy.ensures c.write_u16.ensures (c.from.ensures ∙ by-zero _)
