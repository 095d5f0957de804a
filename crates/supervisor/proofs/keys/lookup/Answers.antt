-- `supervisor::keys::lookup` meets its contract: the value lies within its store.
-- Assumes nothing.
use mathlib.Core.Path.{sym, ◌∙◌}
use Rattle.supervisor.proofs.KeyLaws.{place-valid}
use Rattle.supervisor.proofs.keys.lookup.Goals as goal

pub returns-clause-ref_ptr_value : goal.returns-clause-ref_ptr_value
returns-clause-ref_ptr_value c =
    let a = c.args in
    let valid = sym c.stores_are_valid.ensures ∙ c.if-not-stores_are_valid.false in
    rw (place-valid a.factory a.settings a.key a.most valid, ← c.find-p.ensures) c.value_at.ensures.ref_ptr_value
