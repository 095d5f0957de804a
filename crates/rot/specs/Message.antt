-- A message of version 1 and its bytes (source document 003, "Message Structure", "Message Types").
-- Assumes nothing: these are definitions.
use Rattle.std.specs.Prelude.{Bool, ◌&&◌, List, ◌∷◌, ◌++◌, ℕ, leb, length}
use Rattle.octets.specs.Bytes.{bytes}
use Rattle.rot.specs.Crc.{crc}

-- The protocols: 0, nothing was sent; 1, this one.

abbrev pub null_protocol : ℕ
null_protocol = 0x00

abbrev pub version_1 : ℕ
version_1 = 0x01

-- The types: an error's response, and request and response of the echo, the status, Sprockets and the sink.

abbrev pub error_response : ℕ
error_response = 0x01

abbrev pub echo_request : ℕ
echo_request = 0x02

abbrev pub echo_response : ℕ
echo_response = 0x03

abbrev pub sink_response : ℕ
sink_response = 0x09

-- 01 to 09
abbrev pub listed_type : ℕ → Bool
listed_type type = leb error_response type && leb type sink_response

pub record RotMessage : Type 0 where
  pub type : ℕ
  pub payload : List ℕ

-- the header ahead of its CRC: protocol u8, type u8, payload length u16
unfoldable pub header_start : RotMessage → List ℕ
header_start m = version_1 ∷ m.type ∷ bytes 2 (length m.payload)

-- the CRC over header and payload, without itself
unfoldable pub crc_of : RotMessage → ℕ
crc_of m = crc (header_start m ++ m.payload)

-- all bytes of the message; the CRC is a u32
unfoldable pub rot_message : RotMessage → List ℕ
rot_message m = header_start m ++ (bytes 4 (crc_of m) ++ m.payload)

-- the answer to an echo request: an echo response with the same payload
abbrev pub echoed : RotMessage → RotMessage
echoed m = record { type = echo_response; payload = m.payload }
