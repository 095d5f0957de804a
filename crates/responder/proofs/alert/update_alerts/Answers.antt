-- `responder::alert::update_alerts` meets its contract.
-- Assumes nothing.
use mathlib.Core.Path.{sym, ◌∙◌}
use Rattle.responder.specs.Receive.{alert_registers}
use Rattle.responder.proofs.alert.update_alerts.Goals as goal

pub returns-then-not-is_retained : goal.returns-then-not-is_retained
unfolding alert_registers
returns-then-not-is_retained c = rw (sym c.is_retained.ensures ∙ c.if-not-is_retained.true) c.take_alert.ensures

pub returns-else-not-is_retained : goal.returns-else-not-is_retained
unfolding alert_registers
returns-else-not-is_retained c = rw (sym c.is_retained.ensures ∙ c.if-not-is_retained.false)
