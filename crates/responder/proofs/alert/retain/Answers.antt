-- `responder::alert::retain` meets its contract.
-- Assumes nothing.
use mathlib.Core.Path.{sym, ◌∙◌}
use Rattle.responder.proofs.TakenLaws.{none_retained, oldest-retained}
use Rattle.responder.proofs.alert.retain.Goals as goal

pub returns-then-count-eq0 : goal.returns-then-count-eq0
returns-then-count-eq0 c =
    let p = c.requires in
    none_retained _ _ _ p.version_bound p.registers_length_in_bounds (sym p.count_value ∙ c.if-count-eq0.true) c.write_u64.ensures
    c.write_u16.ensures

pub returns : goal.returns
returns c =
    let p = c.requires in
    oldest-retained _ _ _ p.version_bound p.registers_length_in_bounds (λ e. c.if-count-eq0.false (p.count_value ∙ e))
    c.write_u64.ensures c.copy_within.ensures.after
