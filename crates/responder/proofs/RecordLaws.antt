-- Laws of stores right behind one another: a record of the registers, and a value of the settings store.
-- Assumes nothing.
use mathlib.Core.Path.{◌≡◌, refl, sym, ap, ◌∙◌}
use mathlib.Core.Bool.{Bool, true, false, ◌||◌, or-true, false≢true}
use mathlib.Core.List.{List, [], ◌∷◌, ◌++◌, append_assoc}
use Prim.Native.Nat.{ℕ, zero, suc, ◌+◌, ◌-◌, min, ◌≤◌, ◌<◌}
use native.Mathlib.Nat.{min-zero, suc-min-suc}
use native.Mathlib.Numerals.{add-one}
use native.Mathlib.Omega.{arith}
use lib.Dec.{ltb}
use borrow.Author.Tests.{ltb-false, lt-ltb, le-ltb, eq-eqb, ne_eqb}
use lib.ListN.{length, take, drop, set, replicate, length-append, length-drop}
use lib.Seq.{take-nil, take-length}
use Rattle.octets.specs.Bytes.{bytes, overlay, put, copied}
use Rattle.octets.proofs.Numbers.{length-bytes, one_byte}
use Rattle.octets.proofs.Overlay.{length-overlay, overlay-one, put-fits, next-put, next-copied}
use Rattle.octets.proofs.Zeros.{zeros, length-zeros, cleared-fits}
use Rattle.supervisor.specs.Limits.{most_kept, last_edition}
use Rattle.supervisor.specs.Layout.{registers_length, panic_offset, record_code_offset, record_whole_offset, record_kept_offset}
use Rattle.supervisor.specs.Layout.{setting_edition_offset, setting_length_offset, setting_value_offset, setting_edition}
use Rattle.responder.specs.Receive.{with_record, with_value, key_stored, store_bytes_at}

-- a number alone
pub number-stored : (k at : ℕ) (s : List ℕ) {v w : ℕ} {t : List ℕ} → at + k ≤ length s → v ≡ w → t ≡ put at (bytes k v) s
    → t ≡ overlay at (bytes k w) s
number-stored k at s {v} h e f =
    let n = length-bytes k v in
    f ∙ put-fits at (bytes k v) s (omega arith) ∙ rw e

-- a byte that marks what is there, and a number behind it
pub marked : (m k v at : ℕ) (s : List ℕ) → m < 256 → at + 1 + k ≤ length s
    → put (at + 1) (bytes k v) (set s at m) ≡ overlay at (bytes 1 m ++ bytes k v) s
marked m k v at s small h =
    rw (overlay-one at m s (omega arith), one_byte m small)
    (next-put at (at + 1) (m ∷ []) s refl (bytes k v) (omega (arith, length-bytes k v)))

pub length_marked : (m k v : ℕ) → length (bytes 1 m ++ bytes k v) ≡ 1 + k
length_marked m k v = simp (length-append, length-bytes)

-- as many bytes as there are, up to a bound
take_min : (n : ℕ) (l : List ℕ) → take (min (length l) n) l ≡ take n l
take_min n [] = simp take-nil
take_min zero (x ∷ l) = rw min-zero
take_min (suc n) (x ∷ l) = rw suc-min-suc (ap (λ (t : List ℕ). x ∷ t) (take_min n l))

-- ---- a record

pub record-put : (r d : List ℕ) (at code from : ℕ) {whole kept : ℕ} {s t u : List ℕ} → at ≤ panic_offset → registers_length ≤ length r
    → from ≤ length d → whole ≡ length d - from → kept ≡ min whole most_kept → s ≡ put (at + record_code_offset) (bytes 2 code) (set r at 1)
    → t ≡ put (at + record_whole_offset) (bytes 2 whole) s → u ≡ copied d from kept t (at + record_kept_offset)
    → u ≡ with_record r at code (drop from d)
unfolding with_record
record-put r d at code from {whole} {kept} low long l w k f g h =
    let head = bytes 1 1 ++ bytes 2 code in
    let a = length_marked 1 2 code in
    let b : length (head ++ bytes 2 whole) ≡ record_kept_offset = simp (length-append, length-bytes) in
    let m = length-drop from d in
    let n : whole ≡ length (drop from d) = omega arith in
    rw (
      h,
      g,
      f,
      marked 1 2 code at r (omega arith) (omega arith),
      next-put at (at + record_whole_offset) head r (omega arith) (bytes 2 whole) (omega (arith, length-bytes 2 whole)),
      next-copied at (at + record_kept_offset) (head ++ bytes 2 whole) r (omega arith) d from kept (omega arith) (omega arith),
      k,
      n,
      take_min,
    )
    (simp append_assoc)

-- ---- the data behind a key

-- a length that is right, and what its tests say
pub right-length : (shortest longest n : ℕ) → shortest ≤ n → n ≤ longest → (ltb n shortest || ltb longest n) ≡ false
right-length shortest longest n h k = rw (le-ltb n shortest h, le-ltb longest n k)

pub length-right : (shortest longest n : ℕ) → (ltb n shortest || ltb longest n) ≡ false → (shortest ≤ n) × (n ≤ longest)
length-right shortest longest n e = by (ltb n shortest) (ltb longest n) refl refl e
  where
    by : (t u : Bool) → ltb n shortest ≡ t → ltb longest n ≡ u → (t || u) ≡ false → (shortest ≤ n) × (n ≤ longest)
    by true u f g e = absurd (false≢true (sym e))
    by false true f g e = absurd (false≢true (sym e))
    by false false f g e = (ltb-false n shortest f, ltb-false longest n g)

module _ (s d : List ℕ) (at shortest longest cleared : ℕ) where
  pub value-short : length d - 1 < shortest → key_stored 3 s ≡ store_bytes_at s at shortest longest cleared (drop 1 d)
  unfolding store_bytes_at
  value-short h = rw (length-drop 1 d, lt-ltb (length d - 1) shortest h)

  pub value-long : longest < length d - 1 → key_stored 3 s ≡ store_bytes_at s at shortest longest cleared (drop 1 d)
  unfolding store_bytes_at
  value-long h = rw (length-drop 1 d, lt-ltb longest (length d - 1) h, or-true)

  -- by the edition that was read
  module _ {edition : ℕ} (enough : shortest ≤ length d - 1) (short : length d - 1 ≤ longest) (e : edition ≡ setting_edition s at) where
    pub edition-last : edition ≡ last_edition → key_stored 4 s ≡ store_bytes_at s at shortest longest cleared (drop 1 d)
    unfolding store_bytes_at
    edition-last f = rw (length-drop 1 d, right-length shortest longest (length d - 1) enough short, ← e, eq-eqb edition last_edition f)

    pub value-put : {w t u v : List ℕ} → 1 ≤ length d → at + (setting_value_offset + longest) ≤ length s → cleared ≤ longest
        → (edition ≡ last_edition → ⊥) → w ≡ put (at + setting_value_offset) (replicate cleared 0) s
        → t ≡ put (at + setting_edition_offset) (bytes 4 (edition + 1)) (set w at 1)
        → u ≡ put (at + setting_length_offset) (bytes 2 (length d - 1)) t
        → v ≡ copied d 1 (length d - 1) u (at + setting_value_offset)
        → key_stored 0 v ≡ store_bytes_at s at shortest longest cleared (drop 1 d)
    unfolding store_bytes_at with_value
    value-put {w} one l most o z f g h =
        let q : w ≡ overlay (at + setting_value_offset) (zeros cleared) s =
        z ∙ cleared-fits (at + setting_value_offset) s cleared (omega arith) in
        let long : length w ≡ length s =
        rw q (length-overlay (at + setting_value_offset) (zeros cleared) s (omega (arith, length-zeros cleared))) in
        let n = length (drop 1 d) in
        let k = length-drop 1 d in
        let head = bytes 1 1 ++ bytes 4 (edition + 1) in
        let a = length_marked 1 4 (edition + 1) in
        let b : length (head ++ bytes 2 n) ≡ setting_value_offset = simp (length-append, length-bytes) in
        rw (
          h,
          g,
          f,
          ← k,
          right-length shortest longest n (omega arith) (omega arith),
          ← e,
          ne_eqb edition last_edition o,
          marked 1 4 (edition + 1) at w (omega arith) (omega arith),
          next-put at (at + setting_length_offset) head w (omega arith) (bytes 2 n) (omega (arith, length-bytes 2 n)),
          next-copied at (at + setting_value_offset) (head ++ bytes 2 n) w (omega arith) d 1 n (omega arith) (omega arith),
          take-length,
          add-one,
          q,
        )
        (simp append_assoc)
