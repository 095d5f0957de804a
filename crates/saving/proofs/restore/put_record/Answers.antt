-- `saving::restore::put_record` meets its contract.
-- Assumes nothing.
use mathlib.Core.Path.{ap}
use native.Mathlib.Omega.{arith}
use borrow.Author.Rules.{rules}
use Rattle.supervisor.specs.Layout.{setting_offset}
use Rattle.saving.proofs.StoreLaws.{whole_room, entry-put}
use Rattle.saving.proofs.restore.put_record.Goals as goal

pub set_head-requires : goal.set_head-requires
set_head-requires c =
    omega (
      arith,
      c.setting_offset-to.ensures.0,
      ap setting_offset c.read_u8.ensures,
      whole_room _ _ c.requires.whole_record,
    )

pub returns : goal.returns
returns c =
    record {
      value = search rules;
      settings_after = entry-put _ _ c.requires.whole_record _ c.read_u16-n.ensures c.read_u8.ensures
          c.setting_offset-to.ensures.0
          c.read_u32-edition.ensures c.requires.settings_length_in_bounds c.set_head.ensures (rw c.from.ensures at c.copy.ensures);
    }
