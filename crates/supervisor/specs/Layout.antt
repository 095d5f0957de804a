-- The lent parts of the supervisor's state: which byte is where. docs/STATE.md repeats this in words.
-- Assumes nothing: these are definitions.
use Rattle.std.specs.Prelude.{ℕ, ◌+◌, ◌-◌, ◌*◌, List, [], ◌∷◌, ◌++◌, length, take}
use Rattle.octets.specs.Bytes.{bytes, number_at}
use Rattle.supervisor.specs.Limits.{most_items, longest_item_data, longest_image_id, first_setting, longest_settings, most_alerts}
use Rattle.supervisor.specs.Limits.{longest_alert, most_kept, most_pending}

-- ---- The outbox: the pending bytes run from `outbox_from` up to `outbox_to` among the bytes at `outbox_bytes_offset`.

abbrev pub outbox_from_offset : ℕ
outbox_from_offset = 0

abbrev pub outbox_to_offset : ℕ
outbox_to_offset = 2

abbrev pub outbox_terminator_owed_offset : ℕ
outbox_terminator_owed_offset = 4

abbrev pub outbox_bytes_offset : ℕ
outbox_bytes_offset = 5

abbrev pub outbox_length : ℕ
outbox_length = outbox_bytes_offset + most_pending

abbrev pub outbox_from : List ℕ → ℕ
outbox_from o = number_at 2 o outbox_from_offset

abbrev pub outbox_to : List ℕ → ℕ
outbox_to o = number_at 2 o outbox_to_offset

abbrev pub outbox_terminator_owed : List ℕ → ℕ
outbox_terminator_owed o = number_at 1 o outbox_terminator_owed_offset

-- ---- The factory store begins with the start data, byte for byte; the version of key 2 and the text of key 0 follow.

abbrev pub bsu_offset : ℕ
bsu_offset = 0

-- model[11], revision u32, serial[11]
abbrev pub identity_offset : ℕ
identity_offset = 1

abbrev pub identity_length : ℕ
identity_length = 26

-- base[6], count u16, stride u8
abbrev pub mac_offset : ℕ
mac_offset = identity_offset + identity_length

abbrev pub mac_length : ℕ
mac_length = 9

abbrev pub hash_offset : ℕ
hash_offset = mac_offset + mac_length

abbrev pub hash_length : ℕ
hash_length = 32

abbrev pub image_id_length_offset : ℕ
image_id_length_offset = hash_offset + hash_length

abbrev pub image_id_offset : ℕ
image_id_offset = image_id_length_offset + 1

abbrev pub items_offset : ℕ
items_offset = image_id_offset + longest_image_id

-- an item: result u8, name[32], type u8, how many bytes of data u8, data
abbrev pub item_data_length_offset : ℕ
item_data_length_offset = 34

abbrev pub item_data_offset : ℕ
item_data_offset = 35

abbrev pub item_length : ℕ
item_length = item_data_offset + longest_item_data

abbrev pub item_offset : ℕ → ℕ
item_offset i = items_offset + i * item_length

-- how many items there are, u32
abbrev pub item_count_offset : ℕ
item_count_offset = items_offset + most_items * item_length

abbrev pub start_length : ℕ
start_length = item_count_offset + 4

abbrev pub inventory_version_offset : ℕ
inventory_version_offset = start_length

abbrev pub pong_offset : ℕ
pong_offset = inventory_version_offset + 4

abbrev pub factory-length : ℕ
factory-length = pong_offset + 4

abbrev pub item_count : List ℕ → ℕ
item_count f = number_at 4 f item_count_offset

abbrev pub image_id_length : List ℕ → ℕ
image_id_length f = number_at 1 f image_id_length_offset

-- ---- The settings store, for each key: whether it has a value, u8; its edition, u32; the value's length, u16; and its bytes.

abbrev pub setting_edition_offset : ℕ
setting_edition_offset = 1

abbrev pub setting_length_offset : ℕ
setting_length_offset = 5

abbrev pub setting_value_offset : ℕ
setting_value_offset = 7

-- of settings with these longest values
abbrev pub settings_size : List ℕ → ℕ
settings_size [] = 0
settings_size (longest ∷ others) = setting_value_offset + longest + settings_size others

-- a key's setting lies behind those of the keys before it
unfoldable pub setting_offset : ℕ → ℕ
setting_offset key = settings_size (take (key - first_setting) longest_settings)

abbrev pub settings_length : ℕ
settings_length = settings_size longest_settings

-- the setting of a key that has an edition and the value v
abbrev pub setting_bytes : ℕ → List ℕ → List ℕ
setting_bytes edition v = bytes 1 1 ++ (bytes 4 edition ++ (bytes 2 (length v) ++ v))

-- of the setting at an offset
abbrev pub setting_held : List ℕ → ℕ → ℕ
setting_held s at = number_at 1 s at

abbrev pub setting_edition : List ℕ → ℕ → ℕ
setting_edition s at = number_at 4 s (at + setting_edition_offset)

abbrev pub setting_length : List ℕ → ℕ → ℕ
setting_length s at = number_at 2 s (at + setting_length_offset)

-- ---- The registers: status u64, options u64, the two flags, the two records, the alerts that wait, the retained reply.

abbrev pub status_offset : ℕ
status_offset = 0

abbrev pub options_offset : ℕ
options_offset = 8

abbrev pub reboot_offset : ℕ
reboot_offset = 16

abbrev pub power_off_offset : ℕ
power_off_offset = 17

-- a record: whether there is one u8, its code u16, the whole length of its rest u16, and the rest's first bytes
abbrev pub record_code_offset : ℕ
record_code_offset = 1

abbrev pub record_whole_offset : ℕ
record_whole_offset = 3

abbrev pub record_kept_offset : ℕ
record_kept_offset = 5

abbrev pub record_length : ℕ
record_length = record_kept_offset + most_kept

abbrev pub boot_failure_offset : ℕ
boot_failure_offset = 18

abbrev pub panic_offset : ℕ
panic_offset = boot_failure_offset + record_length

-- how many alerts wait, u8, and the alerts, the oldest first
abbrev pub alert_count_offset : ℕ
alert_count_offset = panic_offset + record_length

abbrev pub alerts_offset : ℕ
alerts_offset = alert_count_offset + 1

-- an alert: how many bytes of text u16, its action u8, its text
abbrev pub alert_action_offset : ℕ
alert_action_offset = 2

abbrev pub alert_text_offset : ℕ
alert_text_offset = 3

abbrev pub alert_length : ℕ
alert_length = alert_text_offset + longest_alert

abbrev pub alert_offset : ℕ → ℕ
alert_offset i = alerts_offset + i * alert_length

-- the version of the retained reply u8, 0 where none is retained, its request's sequence u64, and its alert
abbrev pub retained_offset : ℕ
retained_offset = alerts_offset + most_alerts * alert_length

abbrev pub retained_sequence_offset : ℕ
retained_sequence_offset = retained_offset + 1

abbrev pub retained_alert_offset : ℕ
retained_alert_offset = retained_offset + 9

abbrev pub registers_length : ℕ
registers_length = retained_alert_offset + alert_length

abbrev pub status_of : List ℕ → ℕ
status_of r = number_at 8 r status_offset

abbrev pub options_of : List ℕ → ℕ
options_of r = number_at 8 r options_offset

abbrev pub alert_count : List ℕ → ℕ
alert_count r = number_at 1 r alert_count_offset

abbrev pub retained_version : List ℕ → ℕ
retained_version r = number_at 1 r retained_offset

abbrev pub alert_text_length : List ℕ → ℕ → ℕ
alert_text_length r at = number_at 2 r at

abbrev pub alert_action : List ℕ → ℕ → ℕ
alert_action r at = number_at 1 r (at + alert_action_offset)

-- of the record at an offset
abbrev pub record_held : List ℕ → ℕ → ℕ
record_held r at = number_at 1 r at

abbrev pub record_code : List ℕ → ℕ → ℕ
record_code r at = number_at 2 r (at + record_code_offset)

abbrev pub record_whole : List ℕ → ℕ → ℕ
record_whole r at = number_at 2 r (at + record_whole_offset)
