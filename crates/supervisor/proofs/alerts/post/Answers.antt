-- `supervisor::alerts::post` meets its contract: valid registers are long, and their status has two bits.
-- Assumes nothing.
use mathlib.Core.Path.{sym, ◌∙◌}
use Rattle.supervisor.proofs.ValidLaws.{registers-valid}
use Rattle.supervisor.proofs.alerts.post.Goals as goal

pub add_alert-requires-clause-registers_length_in_bounds : goal.add_alert-requires-clause-registers_length_in_bounds
add_alert-requires-clause-registers_length_in_bounds c =
    (registers-valid _ (sym c.registers_are_valid.ensures ∙ c.if-not-registers_are_valid.false)).long

pub add_alert-requires-clause-registers_bound : goal.add_alert-requires-clause-registers_bound
add_alert-requires-clause-registers_bound c =
    (registers-valid _ (sym c.registers_are_valid.ensures ∙ c.if-not-registers_are_valid.false)).status
