-- `saving::restore::restore` meets its contract.
-- Assumes nothing.
use mathlib.Core.Path.{sym, ◌∙◌}
use borrow.Author.Rules.{rules}
use Rattle.supervisor.proofs.ValidLaws.{settings-valid}
use Rattle.saving.specs.Calls.{restore_promise}
use Rattle.saving.proofs.RestoreLaws.{restored-good, restored-not}
use Rattle.saving.proofs.restore.restore.Goals as goal

pub clear-requires : goal.clear-requires
clear-requires c =
    (settings-valid _ (sym c.settings_are_valid.ensures ∙ c.if-not-settings_are_valid.false)).long

pub put_records-requires-clause-settings_length_in_bounds : goal.put_records-requires-clause-settings_length_in_bounds
put_records-requires-clause-settings_length_in_bounds c =
    let l = (settings-valid _ (sym c.settings_are_valid.ensures ∙ c.if-not-settings_are_valid.false)).long in
    search rules

pub returns-in-Err : goal.returns-in-Err
unfolding restore_promise
returns-in-Err c =
    rw (sym c.settings_are_valid.ensures ∙ c.if-not-settings_are_valid.false) (restored-not _ _ c.in-Err.ensures)

pub returns : goal.returns
unfolding restore_promise
returns c =
    rw (sym c.settings_are_valid.ensures ∙ c.if-not-settings_are_valid.false)
    (restored-good _ _ (sym c.in_default.ensures) c.clear.ensures c.put_records.ensures)
