-- `saving::save::record_length` meets its contract.
-- Assumes nothing.
use mathlib.Core.Path.{sym, ap, ◌∙◌}
use borrow.Author.Rules.{rules}
use lib.ListN.{length}
use Rattle.saving.proofs.ImageLaws.{no_record, held-record}
use Rattle.saving.proofs.save.record_length.Goals as goal

pub returns-then-read_u8-ne1 : goal.returns-then-read_u8-ne1
returns-then-read_u8-ne1 c = (
  sym (ap length (no_record _ _ _ c.setting_offset-from.ensures.0 c.read_u8.ensures c.if-read_u8-ne1.true)),
  search rules,
)

pub returns : goal.returns
returns c =
    let p = c.requires in
    let h =
    held-record _ _ _ c.setting_offset-from.ensures.0 c.read_u8.ensures (c.from.ensures ∙ c.read_u16-n.ensures) c.if-read_u8-ne1.false
    p.settings_value p.settings_key in
    (sym h.size, search rules)
