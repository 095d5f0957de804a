-- What the table's 11 requires of start data and its 12 of each lent part (document 01, "When a call says no").
-- Assumes nothing: these are definitions.
use Rattle.std.specs.Prelude.{Bool, true, ◌&&◌, ◌||◌, List, ℕ, zero, suc, ◌+◌, leb, eqb, length, ◌≡◌, ◌⊎◌, ◌≤◌}
use Rattle.octets.specs.Bytes.{number_at, run, equal}
use Rattle.supervisor.specs.Limits
use Rattle.supervisor.specs.Local.{result_allowed, bsu_allowed, options_allowed, pong}
use Rattle.supervisor.specs.Layout

-- every number below n passes the test
unfoldable pub all : (ℕ → Bool) → ℕ → Bool
all p zero = true
all p (suc n) = all p n && p n

-- ---- Start data

unfoldable pub good_item : List ℕ → ℕ → Bool
good_item d i =
    result_allowed (number_at 1 d (Layout.item_offset i))
    && leb (number_at 1 d (Layout.item_offset i + Layout.item_data_length_offset)) Limits.longest_item_data

-- the first n items
abbrev pub good_items : List ℕ → ℕ → Bool
good_items d = all (good_item d)

unfoldable pub good_start : List ℕ → Bool
good_start d =
    bsu_allowed (number_at 1 d Layout.bsu_offset)
    && (leb (Layout.image_id_length d) Limits.longest_image_id
    && (leb (Layout.item_count d) Limits.most_items
    && good_items d (Layout.item_count d)))

-- ---- Lent parts

unfoldable pub valid_outbox : List ℕ → Bool
valid_outbox o =
    leb Layout.outbox_length (length o)
    && (leb (Layout.outbox_from o) (Layout.outbox_to o)
    && (leb (Layout.outbox_to o) Limits.most_pending
    && leb (Layout.outbox_terminator_owed o) 1))

unfoldable pub valid_factory : List ℕ → Bool
valid_factory f =
    leb Layout.factory-length (length f)
    && (good_start f
    && (eqb (number_at 4 f Layout.inventory_version_offset) 0
    && equal (run Layout.pong_offset 4 f) pong))

-- a value is held, as long as its key allows; or none is, and its length and its edition are 0
unfoldable pub valid_setting : List ℕ → ℕ → ℕ → ℕ → Bool
valid_setting s at shortest longest =
    leb (Layout.setting_length s at) longest
    && ((eqb (Layout.setting_held s at) 1 && leb shortest (Layout.setting_length s at))
    || (eqb (Layout.setting_held s at) 0 && (eqb (Layout.setting_length s at) 0 && eqb (Layout.setting_edition s at) 0)))

-- of a key
abbrev pub valid_value : List ℕ → ℕ → Bool
valid_value s key = valid_setting s (Layout.setting_offset key) (Limits.shortest_setting key) (Limits.longest_setting key)

-- of the first n settings keys
abbrev pub valid_values : List ℕ → ℕ → Bool
valid_values s = all (λ i. valid_value s (Limits.first_setting + i))

unfoldable pub valid_settings : List ℕ → Bool
valid_settings s =
    leb Layout.settings_length (length s)
    && valid_values s Limits.setting_count

-- the rest of a record has at most so many bytes
unfoldable pub valid_record : List ℕ → ℕ → ℕ → Bool
valid_record r at most = leb (Layout.record_held r at) 1 && leb (Layout.record_whole r at) most

unfoldable pub valid_text : List ℕ → ℕ → Bool
valid_text r at = leb (Layout.alert_text_length r at) Limits.longest_alert

-- an alert that waits has an action from 1 to 255
unfoldable pub valid_alert : List ℕ → ℕ → Bool
valid_alert r i = valid_text r (Layout.alert_offset i) && leb 1 (Layout.alert_action r (Layout.alert_offset i))

-- the first n alerts
abbrev pub valid_alerts : List ℕ → ℕ → Bool
valid_alerts r = all (valid_alert r)

-- the reason of a boot failure is one byte; a reply is retained in version 1 or 2, or none is
unfoldable pub valid_records_and_alerts : List ℕ → Bool
valid_records_and_alerts r =
    leb (Layout.record_code r Layout.boot_failure_offset) 255
    && (valid_record r Layout.boot_failure_offset Limits.longest_boot_failure
    && (valid_record r Layout.panic_offset Limits.longest_panic
    && (leb (Layout.alert_count r) Limits.most_alerts
    && (valid_alerts r (Layout.alert_count r)
    && (leb (Layout.retained_version r) 2
    && valid_text r Layout.retained_alert_offset)))))

-- status has no bit but 0 and 1
unfoldable pub valid_registers : List ℕ → Bool
valid_registers r =
    leb Layout.registers_length (length r)
    && (leb (Layout.status_of r) 3
    && (options_allowed (Layout.options_of r)
    && (leb (number_at 1 r Layout.reboot_offset) 1
    && (leb (number_at 1 r Layout.power_off_offset) 1
    && valid_records_and_alerts r))))

-- what valid_setting tests, as facts
pub record SettingValid (s : List ℕ) (at shortest longest : ℕ) : Type 0 where
  pub size : Layout.setting_length s at ≤ longest
  pub held : ((Layout.setting_held s at ≡ 1) × (shortest ≤ Layout.setting_length s at))
      ⊎ ((Layout.setting_held s at ≡ 0) × (Layout.setting_length s at ≡ 0) × (Layout.setting_edition s at ≡ 0))

-- what valid_settings tests, as facts
pub record SettingsValid (s : List ℕ) : Type 0 where
  pub long : Layout.settings_length ≤ length s
  pub each : (key : ℕ) → Limits.SettingsKey key
      → SettingValid s (Layout.setting_offset key) (Limits.shortest_setting key) (Limits.longest_setting key)
