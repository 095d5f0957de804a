-- The lengths of the root-of-trust link, each in one place (source document 003, "Message Structure"; document 02, item 7).
-- Assumes nothing: these are definitions.
use Rattle.std.specs.Prelude.{ℕ}

-- bytes of the header ahead of its CRC: protocol, type and payload length
abbrev pub crc_field_offset : ℕ
crc_field_offset = 4

-- bytes of the header: its start and the CRC
abbrev pub rot_header_length : ℕ
rot_header_length = 8

abbrev pub longest_payload : ℕ
longest_payload = 512
