-- `valid::alerts_are_valid` meets its contract. The loop's invariant: the alerts before the index are valid.
-- Assumes nothing.
use mathlib.Core.Path.{sym, ◌∙◌}
use mathlib.Core.Bool.{false≢true}
use native.Mathlib.Omega.{arith}
use Rattle.supervisor.specs.Valid.{valid_alert}
use Rattle.supervisor.proofs.ValidLaws.{untrue, all_none, all_more, all_done, all-each}
use Rattle.supervisor.proofs.valid.alerts_are_valid.Goals as goal

pub loop-i-init : goal.loop-i-init
loop-i-init c = all_none _

pub returns-then-not-alert_is_valid : goal.returns-then-not-alert_is_valid
returns-then-not-alert_is_valid c =
    untrue _ (λ t.
    let here = all-each (valid_alert c.args.registers.now) c.args.n t c.loop-i.i (omega arith) in
    false≢true (sym c.if-not-alert_is_valid.true ∙ (c.alert_is_valid.ensures ∙ here)))

pub loop-i-preserved : goal.loop-i-preserved
loop-i-preserved c = all_more _ c.loop-i.i c.loop-i.invariant (sym c.alert_is_valid.ensures ∙ c.if-not-alert_is_valid.false)

pub returns : goal.returns
returns c = all_done _ _ _ (omega arith) (omega arith) c.loop-i.invariant
