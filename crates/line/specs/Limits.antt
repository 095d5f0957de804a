-- The line layer's limits, each in one place.
-- Assumes nothing: these are definitions.
use Rattle.std.specs.Prelude.{ℕ, ◌+◌, ◌-◌, ◌/◌}

-- bytes of a message ahead of its data: magic, version, sequence and command
abbrev pub header_length : ℕ
header_length = 17

abbrev pub checksum_length : ℕ
checksum_length = 2

-- the shortest message has no data: 19 bytes
abbrev pub shortest_message : ℕ
shortest_message = header_length + checksum_length

abbrev pub longest_message : ℕ
longest_message = 4123

-- 4,104 bytes
abbrev pub longest_data : ℕ
longest_data = longest_message - shortest_message

-- the bytes that a COBS group carries at most, behind the code byte ff
abbrev pub longest_group : ℕ
longest_group = 254

-- the longest COBS form of a message, without its terminator: 4,140 bytes
abbrev pub longest_form : ℕ
longest_form = longest_message + 1 + longest_message / longest_group
