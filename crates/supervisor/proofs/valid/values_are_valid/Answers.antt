-- `valid::values_are_valid` meets its contract. The loop's invariant: the settings before the key are valid.
-- Assumes nothing.
use mathlib.Core.Path.{◌≡◌, sym, ◌∙◌}
use mathlib.Core.Bool.{false≢true}
use Prim.Native.Nat.{◌+◌, ◌-◌, ◌<◌}
use native.Mathlib.Omega.{arith}
use Rattle.supervisor.specs.Limits.{first_setting, setting_count}
use Rattle.supervisor.specs.Valid.{valid_value}
use Rattle.supervisor.proofs.ValidLaws.{untrue, all_none, all_more, all_done, all-each}
use Rattle.supervisor.proofs.valid.values_are_valid.Goals as goal

pub loop-key-init : goal.loop-key-init
loop-key-init c =
    all_none _

pub returns-then-not-value_is_valid : goal.returns-then-not-value_is_valid
returns-then-not-value_is_valid c =
    let i = c.loop-key.key - first_setting in
    let e : first_setting + i ≡ c.loop-key.key = omega arith in
    let below : i < setting_count = omega arith in
    untrue _ (λ t.
    let here = rw e at (all-each (λ j. valid_value c.args.settings.now (first_setting + j)) setting_count t i below) in
    false≢true (sym c.if-not-value_is_valid.true ∙ (c.value_is_valid.ensures ∙ here)))

pub loop-key-preserved : goal.loop-key-preserved
loop-key-preserved c =
    let i = c.loop-key.key - first_setting in
    let e : first_setting + i ≡ c.loop-key.key = omega arith in
    let f : c.loop-key.key + 1 - first_setting ≡ i + 1 = omega arith in
    rw f (all_more _ i c.loop-key.invariant (rw e (sym c.value_is_valid.ensures ∙ c.if-not-value_is_valid.false)))

pub returns : goal.returns
returns c =
    all_done _ _ _ (omega arith) (omega arith) c.loop-key.invariant
