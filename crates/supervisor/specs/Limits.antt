-- The supervisor's limits, results and codes, each in one place (document 01, "Requests and what they do", as document 02 has moved them).
-- Assumes nothing: these are definitions.
use Rattle.std.specs.Prelude.{List, [], ◌∷◌, ℕ, ◌+◌, ◌-◌, ◌≤◌, get_or}
use Rattle.line.specs.Limits.{longest_data, longest_form}

-- what a BSU is
abbrev pub bsu_a : ℕ
bsu_a = 0x41

abbrev pub bsu_b : ℕ
bsu_b = 0x42

-- inventory: the result of an item, of an index out of range, of an item that is absent and of one that failed
abbrev pub inventory_item : ℕ
inventory_item = 0

abbrev pub inventory_bad_index : ℕ
inventory_bad_index = 1

abbrev pub inventory_absent : ℕ
inventory_absent = 2

abbrev pub inventory_failed : ℕ
inventory_failed = 3

abbrev pub most_items : ℕ
most_items = 64

abbrev pub longest_item_data : ℕ
longest_item_data = 64

-- keys
abbrev pub longest_image_id : ℕ
longest_image_id = 64

abbrev pub highest_key : ℕ
highest_key = 6

-- the keys of the settings store
abbrev pub first_setting : ℕ
first_setting = 3

abbrev pub setting_count : ℕ
setting_count = highest_key + 1 - first_setting

pub record SettingsKey (key : ℕ) : Type 0 where
  pub lower : first_setting ≤ key
  pub upper : key ≤ highest_key

-- the longest value of each from the first on: 3, 4, 5, the withdrawn-key list, and 6, the wireless passphrase (document 02, item 14)
abbrev pub longest_settings : List ℕ
longest_settings = 256 ∷ 4096 ∷ 4096 ∷ 63 ∷ []

unfoldable pub longest_setting : ℕ → ℕ
longest_setting key = get_or longest_settings (key - first_setting) 0

-- and the shortest
abbrev pub shortest_settings : List ℕ
shortest_settings = 0 ∷ 0 ∷ 0 ∷ 8 ∷ []

unfoldable pub shortest_setting : ℕ → ℕ
shortest_setting key = get_or shortest_settings (key - first_setting) 0

-- the key that is set and never read back
abbrev pub passphrase_key : ℕ
passphrase_key = 6

-- no value is longer
abbrev pub longest_value : ℕ
longest_value = 4096

-- the last edition of a setting, the greatest number of 32 bits (document 02, item 5)
abbrev pub last_edition : ℕ
last_edition = 4294967295

-- alerts
abbrev pub most_alerts : ℕ
most_alerts = 8

abbrev pub longest_alert : ℕ
longest_alert = 256

-- bytes of a record's rest that are kept
abbrev pub most_kept : ℕ
most_kept = 512

-- the rest of a boot failure behind its reason, and of a panic behind its cause
abbrev pub longest_boot_failure : ℕ
longest_boot_failure = longest_data - 1

abbrev pub longest_panic : ℕ
longest_panic = longest_data - 2

-- the highest option bit
abbrev pub highest_option : ℕ
highest_option = 8

-- bytes of an image block
abbrev pub longest_block : ℕ
longest_block = 4096

-- bytes of the outbox: a 00 that is owed, the longest form and its terminator
abbrev pub most_pending : ℕ
most_pending = longest_form + 2
