-- Laws of a message's bytes: how many there are, and that they are what is put into a room one after the other.
-- Assumes nothing.
use mathlib.Core.Path.{◌≡◌, refl, ◌∙◌}
use mathlib.Core.List.{List, [], ◌∷◌, ◌++◌, append_assoc}
use Prim.Native.Nat.{ℕ, ◌+◌, ◌≤◌}
use native.Mathlib.Nat.{zero-add}
use native.Mathlib.Omega.{arith}
use lib.ListN.{length, set, length-append}
use lib.Seq.{take-length}
use Rattle.octets.specs.Bytes.{bytes, overlay, put, copied}
use Rattle.octets.proofs.Numbers.{length-bytes}
use Rattle.octets.proofs.Overlay.{length-overlay, overlay-next, put-fits, pair_put, copied-fits}
use Rattle.rot.specs.Limits.{crc_field_offset, rot_header_length}
use Rattle.rot.specs.Message.{version_1, RotMessage, header_start, crc_of, rot_message}
use Rattle.rot.specs.Writing.{rot_message_with}

pub length-start : (m : RotMessage) → length (header_start m) ≡ crc_field_offset
unfolding header_start
length-start m = simp length-bytes

pub length-message : (m : RotMessage) → length (rot_message m) ≡ rot_header_length + length m.payload
unfolding rot_message
length-message m = simp (length-append, length-start, length-bytes) (omega arith)

-- t is s with xs at its start, and at is the offset behind them: bytes put there, and a whole list copied there
module _ (xs ys s : List ℕ) (at : ℕ) {t : List ℕ} (e : length xs ≡ at) (laid : t ≡ overlay 0 xs s) (room : at + length ys ≤ length s) where
  long : length t ≡ length s
  long = rw laid (length-overlay 0 xs s (omega arith))

  next : overlay at ys t ≡ overlay 0 (xs ++ ys) s
  next = rw laid (rw (zero-add, e) at (overlay-next 0 xs ys s (omega arith)))

  put_next : put at ys t ≡ overlay 0 (xs ++ ys) s
  put_next = let l = long in put-fits at ys t (omega arith) ∙ next

  copy-next : copied ys 0 (length ys) t at ≡ overlay 0 (xs ++ ys) s
  copy-next = let l = long in copied-fits ys 0 (length ys) t at (omega arith) (omega arith) ∙ rw take-length next

-- the stores one after the other: protocol and type, payload length, CRC, payload
pub assembled : (type crc : ℕ) (payload s : List ℕ) {s₁ s₂ s₃ : List ℕ} → rot_header_length + length payload ≤ length s
    → crc ≡ crc_of (rot_message_with type payload) → s₁ ≡ put 2 (bytes 2 (length payload)) (set (set s 0 version_1) 1 type)
    → s₂ ≡ put crc_field_offset (bytes 4 crc) s₁ → s₃ ≡ copied payload 0 (length payload) s₂ rot_header_length
    → s₃ ≡ overlay 0 (rot_message (rot_message_with type payload)) s
unfolding header_start rot_message
assembled type crc payload s room c e₁ e₂ e₃ =
    let l₂ = length-bytes 2 (length payload) in
    let l₄ = length-bytes 4 crc in
    let i = pair_put 0 version_1 type s (omega arith) ∙ put-fits 0 (version_1 ∷ type ∷ []) s (omega arith) in
    let i₁ = e₁ ∙ put_next _ (bytes 2 (length payload)) s 2 refl i (omega arith) in
    let i₂ = e₂ ∙ put_next _ (bytes 4 crc) s crc_field_offset (simp length-bytes) i₁ (omega arith) in
    let i₃ = e₃ ∙ copy-next _ payload s rot_header_length (simp (length-append, length-bytes)) i₂ room in
    rw (append_assoc, c) at i₃
