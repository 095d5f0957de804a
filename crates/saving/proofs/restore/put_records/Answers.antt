-- `saving::restore::put_records` meets its contract. The loop's invariant: what is left to put makes the settings whole.
-- Assumes nothing.
use mathlib.Core.Path.{sym, ◌∙◌}
use native.Mathlib.Omega.{arith}
use borrow.Author.Rules.{rules}
use Rattle.saving.proofs.RestoreLaws.{all_left, whole_here, on-left, none_left}
use Rattle.saving.proofs.restore.put_records.Goals as goal

pub loop-settings-init : goal.loop-settings-init
loop-settings-init c =
    (search rules, all_left _ _ c.requires.image_value)

pub put_record-at-requires : goal.put_record-at-requires
put_record-at-requires c =
    record {
      settings_length_in_bounds = omega arith;
      whole_record = whole_here _ _ _ _ c.loop-settings.invariant.1
          (sym c.same.ensures ∙ c.loop-settings-test.true);
    }

pub loop-settings-smaller : goal.loop-settings-smaller
loop-settings-smaller c =
    omega (
      arith,
      (whole_here _ _ _ _ c.loop-settings.invariant.1 (sym c.same.ensures ∙ c.loop-settings-test.true)).complete,
      c.put_record-at.ensures.value,
    )

pub loop-settings-preserved : goal.loop-settings-preserved
loop-settings-preserved c =
    let put = c.put_record-at in (
      search rules,
      on-left _ _ _ _ c.loop-settings.invariant.1 (sym c.same.ensures ∙ c.loop-settings-test.true) put.ensures.settings_after
          put.ensures.value,
    )

pub returns : goal.returns
returns c =
    none_left _ _ _ _ c.loop-settings.invariant.1 (sym c.same.ensures ∙ c.loop-settings-test.false)
