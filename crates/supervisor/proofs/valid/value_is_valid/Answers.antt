-- `valid::value_is_valid` meets its contract.
-- Assumes nothing.
use native.Mathlib.Omega.{arith}
use Rattle.supervisor.proofs.OffsetLaws.{offset-within}
use Rattle.supervisor.proofs.valid.value_is_valid.Goals as goal

pub setting_is_valid-requires : goal.setting_is_valid-requires
setting_is_valid-requires c =
    omega (arith, offset-within c.args.key c.requires.settings_key, c.setting_offset.ensures.0)
