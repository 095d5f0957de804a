-- A message and its bytes (document 01, "The message on the wire").
-- Assumes nothing: these are definitions.
use Rattle.std.specs.Prelude.{List, ◌++◌, ℕ, ◌^◌, ◌≤◌, ◌<◌, length}
use Rattle.octets.specs.Bytes.{Byte, Each, bytes}
use Rattle.line.specs.Limits.{longest_data}
use Rattle.line.specs.Checksum.{checksum}

abbrev pub magic : ℕ
magic = 0x01DE19CC

-- `payload` is the paper's data
pub record Message : Type 0 where
  pub version : ℕ
  pub sequence : ℕ
  pub command : ℕ
  pub payload : List ℕ

-- each field fits its width
pub record MessageTyped (m : Message) : Type 0 where
  pub version : m.version < 2 ^ 32
  pub sequence : m.sequence < 2 ^ 64
  pub command : m.command < 2 ^ 8
  pub payload : Each Byte m.payload

-- and there are at most 4,104 bytes of data
pub record InRange (m : Message) : Type 0 where
  pub typed : MessageTyped m
  pub fits : length m.payload ≤ longest_data

-- the bytes ahead of the checksum
unfoldable pub body : Message → List ℕ
body m = bytes 4 magic ++ (bytes 4 m.version ++ (bytes 8 m.sequence ++ (bytes 1 m.command ++ m.payload)))

-- all bytes of the message
unfoldable pub message : Message → List ℕ
message m = body m ++ bytes 2 (checksum (body m))
