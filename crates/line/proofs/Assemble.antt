-- Laws of a message that is put together in an array: bytes laid one after the other from the start on.
-- Assumes nothing.
use mathlib.Core.Path.{◌≡◌, refl, sym, ◌∙◌}
use mathlib.Core.List.{List, [], ◌∷◌, ◌++◌, append_assoc}
use Prim.Native.Nat.{ℕ, ◌+◌, ◌%◌, ◌≤◌, ◌<◌}
use native.Mathlib.Nat.{zero-add}
use native.Mathlib.Omega.{arith}
use lib.ListN.{length, take, set, length-append, length-set}
use lib.Seq.{take-length}
use Rattle.octets.specs.Bytes.{bytes, overlay, put, copied}
use Rattle.octets.proofs.Numbers.{length-bytes}
use Rattle.octets.proofs.Overlay.{length-overlay, overlay-inside, overlay-next, overlay-none, overlay-one, put-fits, copied-fits}
use Rattle.octets.proofs.Overlay.{length-put, length-copied}
use Rattle.line.specs.Limits.{header_length, longest_data}
use Rattle.line.specs.Checksum.{checksum}
use Rattle.line.specs.Message.{magic, body, message}
use Rattle.line.specs.Writer.{message_of_parts}
use Rattle.line.proofs.Message.{length-body}

-- t is s with the bytes xs laid at its start; at is the offset after them
module _ (xs s : List ℕ) (at : ℕ) {t : List ℕ} (e : length xs ≡ at) (laid : t ≡ overlay 0 xs s) where
  laid-bytes : take at t ≡ xs
  laid-bytes = rw (laid, ← e) (overlay-inside 0 xs s (omega arith))

  laid-length : at ≤ length s → length t ≡ length s
  laid-length h = rw laid (length-overlay 0 xs s (omega arith))

  more : (ys : List ℕ) → overlay at ys t ≡ overlay 0 (xs ++ ys) s
  more ys = rw laid (rw (zero-add, e) at (overlay-next 0 xs ys s (omega arith)))

  -- bytes, a whole list and one byte, laid after them
  lay : (ys : List ℕ) → at + length ys ≤ length s → put at ys t ≡ overlay 0 (xs ++ ys) s
  lay ys h =
      let l = laid-length (omega arith) in
      put-fits at ys t (omega arith) ∙ more ys

  lay-copy : (ys : List ℕ) → at + length ys ≤ length s → copied ys 0 (length ys) t at ≡ overlay 0 (xs ++ ys) s
  lay-copy ys h =
      let l = laid-length (omega arith) in
      copied-fits ys 0 (length ys) t at (omega arith) (omega arith) ∙ rw take-length (more ys)

  pub lay-byte : (b : ℕ) → at < length s → set t at b ≡ overlay 0 (xs ++ b ∷ []) s
  lay-byte b h =
      let l = laid-length (omega arith) in
      overlay-one at b t (omega arith) ∙ more (b ∷ [])

-- the fields ahead of the data
abbrev header : ℕ → ℕ → ℕ → List ℕ
header v q k = ((bytes 4 magic ++ bytes 4 v) ++ bytes 8 q) ++ k ∷ []

length-header : (v q k : ℕ) → length (header v q k) ≡ header_length
length-header v q k = simp (length-append, length-bytes)

header-body : (v q k : ℕ) (h r : List ℕ) → k < 256 → (header v q k ++ h) ++ r ≡ body (message_of_parts v q k h r)
unfolding body bytes
header-body v q k h r l =
    let e : k % 256 ≡ k = omega arith in
    rw e (simp append_assoc)

-- where the data end
abbrev end : List ℕ → List ℕ → ℕ
end h r = header_length + length h + length r

-- the stores one after the other: magic, version, sequence and command, both parts of the data, and the checksum of what is there by then
pub assembled : (v q k : ℕ) (h r s : List ℕ) {s₁ s₂ s₃ s₄ s₅ s₆ : List ℕ} {sum : ℕ}
    → k < 256 → length h + length r ≤ longest_data → end h r + 2 ≤ length s
    → s₁ ≡ put 0 (bytes 4 magic) s → s₂ ≡ put 4 (bytes 4 v) s₁ → s₃ ≡ put 8 (bytes 8 q) s₂
    → s₄ ≡ copied h 0 (length h) (set s₃ 16 k) header_length → s₅ ≡ copied r 0 (length r) s₄ (header_length + length h)
    → sum ≡ checksum (take (end h r) s₅) → s₆ ≡ put (end h r) (bytes 2 sum) s₅
    → take (end h r + 2) s₆ ≡ message (message_of_parts v q k h r)
unfolding message
assembled v q k h r s {sum} l f n e₁ e₂ e₃ e₄ e₅ c e₆ =
    let b = body (message_of_parts v q k h r) in
    let i₁ = e₁ ∙ lay [] s 0 refl (sym (overlay-none 0 s)) (bytes 4 magic) (simp length-bytes (omega arith)) in
    let i₂ = e₂ ∙ lay _ s 4 (simp length-bytes) i₁ (bytes 4 v) (simp length-bytes (omega arith)) in
    let i₃ = e₃ ∙ lay _ s 8 (simp (length-append, length-bytes)) i₂ (bytes 8 q) (simp length-bytes (omega arith)) in
    let i = lay-byte _ s 16 (simp (length-append, length-bytes)) i₃ k (omega arith) in
    let i₄ = e₄ ∙ lay-copy (header v q k) s header_length (length-header v q k) i h (omega arith) in
    let i₅ = e₅ ∙ lay-copy _ s (header_length + length h) (simp (length-append, length-bytes)) i₄ r (omega arith) in
    let j = rw (header-body v q k h r l) at i₅ in
    let w : length b ≡ end h r = omega (arith, length-body (message_of_parts v q k h r), length-append h r) in
    let y = laid-bytes b s _ w j in
    let i₆ = e₆ ∙ lay b s _ w j (bytes 2 sum) (simp length-bytes (omega arith)) in
    let z = laid-bytes (b ++ bytes 2 sum) s (end h r + 2) (simp (length-append, length-bytes, w)) i₆ in
    cc

-- the stores keep the length
pub assembled-length : (v q k sum at : ℕ) (h r s : List ℕ) {s₁ s₂ s₃ s₄ s₅ s₆ : List ℕ}
    → s₁ ≡ put 0 (bytes 4 magic) s → s₂ ≡ put 4 (bytes 4 v) s₁ → s₃ ≡ put 8 (bytes 8 q) s₂
    → s₄ ≡ copied h 0 (length h) (set s₃ 16 k) header_length → s₅ ≡ copied r 0 (length r) s₄ (header_length + length h)
    → s₆ ≡ put at (bytes 2 sum) s₅ → length s₆ ≡ length s
assembled-length v q k sum at h r s e₁ e₂ e₃ e₄ e₅ e₆ =
    rw (e₆, e₅, e₄, e₃, e₂, e₁) (simp (length-put, length-copied, length-set))
