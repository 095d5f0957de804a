-- `responder::settings::store` meets its contract.
-- Assumes nothing.
use Prim.Native.Nat.{ℕ, ◌+◌, ◌≤◌}
use borrow.Author.Rules.{rules}
use Rattle.supervisor.specs.Limits.{first_setting, highest_key, longest_setting}
use Rattle.supervisor.specs.Layout.{setting_offset, setting_value_offset, settings_length}
use Rattle.responder.specs.Receive.{store_bytes}
use Rattle.supervisor.proofs.Cases.{cases}
use Rattle.supervisor.proofs.OffsetLaws.{offset-within}
use Rattle.responder.proofs.settings.store.Goals as goal

-- the setting of a settings key lies in the store
within : (key : ℕ) → first_setting ≤ key → key ≤ highest_key
    → setting_offset key + (setting_value_offset + longest_setting key) ≤ settings_length
within key h k = offset-within key (record { lower = h; upper = k })

pub returns-then-key-gt-HIGHEST_KEY : goal.returns-then-key-gt-HIGHEST_KEY
unfolding store_bytes
returns-then-key-gt-HIGHEST_KEY c = search cases

pub returns-then-key-lt-FIRST_SETTING : goal.returns-then-key-lt-FIRST_SETTING
unfolding store_bytes
returns-then-key-lt-FIRST_SETTING c = search cases

pub store_at-requires : goal.store_at-requires
store_at-requires c =
    let e = c.longest_setting.ensures.0 in
    let l = within _ c.if-key-lt-FIRST_SETTING.false c.if-key-gt-HIGHEST_KEY.false in
    search rules

pub returns : goal.returns
unfolding store_bytes
returns c =
    search (
      cases,
      c.store_at.ensures,
      c.cleared_for.ensures.0,
      c.longest_setting.ensures.0,
      c.shortest_setting.ensures,
      c.setting_offset.ensures.0,
    )
