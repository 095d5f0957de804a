-- The numbers that both ends put into messages (documents 01, "Reading a request" and "Requests and what they do", and 02, item 5).
-- Assumes nothing: these are definitions. The line layer itself takes any version, sequence and command.
use Rattle.std.specs.Prelude.{ℕ, ◌^◌}

-- ---- Versions: in the second a lookup's reply carries the edition

abbrev pub first_version : ℕ
first_version = 1

abbrev pub second_version : ℕ
second_version = 2

-- ---- Sequences

-- the top bit of 64: clear in a request's, set in a reply's
abbrev pub top_bit : ℕ
top_bit = 2 ^ 63

-- of a decode failure's reply whose request has none
abbrev pub all_ones : ℕ
all_ones = 0xffffffffffffffff

-- ---- Commands of requests

abbrev pub command_reboot : ℕ
command_reboot = 0x01

abbrev pub command_power_off : ℕ
command_power_off = 0x02

abbrev pub command_bsu : ℕ
command_bsu = 0x03

abbrev pub command_identity : ℕ
command_identity = 0x04

abbrev pub command_mac : ℕ
command_mac = 0x05

abbrev pub command_boot_failure : ℕ
command_boot_failure = 0x06

abbrev pub command_panic : ℕ
command_panic = 0x07

abbrev pub command_status : ℕ
command_status = 0x08

abbrev pub command_start_acknowledged : ℕ
command_start_acknowledged = 0x09

abbrev pub command_alert : ℕ
command_alert = 0x0a

abbrev pub command_image_block : ℕ
command_image_block = 0x0d

abbrev pub command_key_lookup : ℕ
command_key_lookup = 0x0e

abbrev pub command_inventory : ℕ
command_inventory = 0x0f

abbrev pub command_key_set : ℕ
command_key_set = 0x10

-- ---- Commands of replies

abbrev pub reply_acknowledged : ℕ
reply_acknowledged = 0x01

abbrev pub reply_decode_failure : ℕ
reply_decode_failure = 0x02

abbrev pub reply_bsu : ℕ
reply_bsu = 0x03

abbrev pub reply_identity : ℕ
reply_identity = 0x04

abbrev pub reply_mac : ℕ
reply_mac = 0x05

abbrev pub reply_status : ℕ
reply_status = 0x06

abbrev pub reply_alert : ℕ
reply_alert = 0x07

abbrev pub reply_image_block : ℕ
reply_image_block = 0x09

abbrev pub reply_key_lookup : ℕ
reply_key_lookup = 0x0a

abbrev pub reply_inventory : ℕ
reply_inventory = 0x0b

abbrev pub reply_key_set : ℕ
reply_key_set = 0x0c

-- the data of a status reply: status u64, options u64
abbrev pub status_length : ℕ
status_length = 16

-- ---- Why a frame fails: the data of a decode failure

abbrev pub reason_form : ℕ
reason_form = 1

abbrev pub reason_checksum : ℕ
reason_checksum = 2

abbrev pub reason_length : ℕ
reason_length = 3

abbrev pub reason_magic : ℕ
reason_magic = 4

abbrev pub reason_version : ℕ
reason_version = 5

abbrev pub reason_sequence : ℕ
reason_sequence = 6

abbrev pub reason_data : ℕ
reason_data = 7
