-- Where the bytes of a frame stand in the reader's state: how many have come, in two bytes, and then those bytes. What the calls promise
-- of it stands in Reader, and no crate above names this module (tests/layers.py). Assumes nothing: these are definitions.
use Rattle.std.specs.Prelude.{cond, List, [], ◌∷◌, ℕ, suc, ◌+◌}
use Rattle.std.proofs.Math.Option.{Option, none, some}
use Rattle.octets.specs.Bytes.{bytes, run, number_at, overlay}
use Rattle.line.specs.Limits.{header_length, longest_form}
use Rattle.line.specs.Judge.{wrong_length}

abbrev pub frame_offset : ℕ
frame_offset = 2

-- stands for more bytes than the longest form has
abbrev pub overlong : ℕ
overlong = suc longest_form

unfoldable pub received_count : List ℕ → ℕ
received_count s = number_at 2 s 0

-- the state with another count
unfoldable pub with_count : ℕ → List ℕ → List ℕ
with_count n s = overlay 0 (bytes 2 n) s

-- the bytes of the frame that have come
unfoldable pub received_bytes : List ℕ → List ℕ
received_bytes s = run frame_offset (received_count s) s

-- the state with one byte behind those
abbrev pub with_byte : ℕ → List ℕ → List ℕ
with_byte b s = with_count (received_count s + 1) (overlay (frame_offset + received_count s) (b ∷ []) s)

-- the bytes of a form at the frame's offset, where they have a message's length
unfoldable pub unpacked : Option (List ℕ) → List ℕ → List ℕ
unpacked none s = s
unpacked (some xs) s = cond (wrong_length xs) s (overlay frame_offset xs s)

-- where a message's data then stand
abbrev pub data_offset : ℕ
data_offset = frame_offset + header_length
