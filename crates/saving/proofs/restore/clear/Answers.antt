-- `saving::restore::clear` meets its contract. The loop's invariant: the settings before the key are cleared.
-- Assumes nothing.
use mathlib.Core.Path.{◌≡◌, refl}
use native.Mathlib.Omega.{arith}
use borrow.Author.Rules.{rules}
use Prim.Native.Nat.{◌-◌}
use Rattle.supervisor.specs.Limits.{first_setting}
use Rattle.saving.specs.Saving.{saved_count}
use Rattle.saving.specs.Calls.{cleared}
use Rattle.saving.proofs.RestoreLaws.{head-room, cleared_more}
use Rattle.saving.proofs.restore.clear.Goals as goal

pub loop-key-init : goal.loop-key-init
unfolding cleared
loop-key-init c =
    (search rules, refl)

pub set_head-requires : goal.set_head-requires
set_head-requires c =
    omega (arith, c.setting_offset.ensures.0, head-room c.loop-key.key (omega arith) (omega arith))

pub loop-key-preserved : goal.loop-key-preserved
loop-key-preserved c = (
  search rules,
  cleared_more c.loop-key.key _ (omega arith) c.loop-key.invariant.1 c.setting_offset.ensures.0 c.set_head.ensures,
)

pub returns : goal.returns
returns c =
    let e : c.loop-key.key - first_setting ≡ saved_count = omega arith in rw e at c.loop-key.invariant.1
