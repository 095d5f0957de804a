-- Bytes put right behind one another: the head of a setting, a setting, a record.
-- Assumes nothing.
use mathlib.Core.Path.{◌≡◌, refl, ap, ◌∙◌}
use mathlib.Core.List.{List, ◌++◌, append_assoc}
use Prim.Native.Nat.{ℕ, ◌+◌, ◌≤◌, ◌<◌}
use native.Mathlib.Omega.{arith}
use lib.ListN.{length, set, length-append}
use Rattle.octets.specs.Bytes.{bytes, run, overlay, put, copied}
use Rattle.octets.proofs.Numbers.{length-bytes, one_byte}
use Rattle.octets.proofs.Overlay.{length_run, overlay-one, overlay-inside, copied-fits, next-put, next-copied, next-byte}
use Rattle.line.specs.Checksum.{checksum}
use Rattle.supervisor.specs.Limits.{SettingsKey}
use Rattle.supervisor.specs.Layout.{setting_value_offset, setting_offset, settings_length, setting_bytes}
use Rattle.supervisor.proofs.OffsetLaws.{offset-within}
use Rattle.saving.specs.Saving.{record_mark, record_body, saved_record, saved_key_at, saved_edition_at, saved_length_at, saved_entry_at}
use Rattle.saving.specs.Calls
use Rattle.saving.specs.Calls.{setting_head, WholeRecord}

-- ---- a setting

pub length-head : (held edition n : ℕ) → length (setting_head held edition n) ≡ setting_value_offset
length-head held edition n = simp (length-append, length-bytes)

pub head-put : (at held edition n : ℕ) (s : List ℕ) → held < 256 → at + setting_value_offset ≤ length s
    → put (at + 5) (bytes 2 n) (put (at + 1) (bytes 4 edition) (set s at held)) ≡ overlay at (setting_head held edition n) s
head-put at held edition n s small room =
    let a = length-bytes 1 held in
    let b : length (bytes 1 held ++ bytes 4 edition) ≡ 5 = simp (length-append, length-bytes) in
    rw (
      overlay-one at held s (omega arith),
      ← one_byte held small,
      next-put at (at + 1) (bytes 1 held) s (omega arith) (bytes 4 edition) (omega (arith, length-bytes 4 edition)),
      next-put at (at + 5) (bytes 1 held ++ bytes 4 edition) s (omega arith) (bytes 2 n) (omega (arith, length-bytes 2 n)),
      append_assoc,
    )

pub length-setting : (edition : ℕ) (v : List ℕ) → length (setting_bytes edition v) ≡ setting_value_offset + length v
length-setting edition v = simp (length-append, length-bytes) (omega arith)

-- a value behind the head
pub setting-put : (at edition n from : ℕ) (src s : List ℕ) → from + n ≤ length src → at + (setting_value_offset + n) ≤ length s
    → copied src from n (overlay at (setting_head 1 edition n) s) (at + setting_value_offset)
    ≡ overlay at (setting_bytes edition (run from n src)) s
setting-put at edition n from src s f room =
    let a = length-head 1 edition n in
    rw (
      next-copied at (at + setting_value_offset) (setting_head 1 edition n) s (omega arith) src from n f (omega arith),
      length_run from n src f,
    )
    (simp append_assoc)

-- a record of an image in its setting
module _ (image : List ℕ) (at : ℕ) (w : WholeRecord image at) where
  pub whole-key : SettingsKey (saved_key_at image at)
  whole-key = record { lower = w.lower; upper = omega (arith, w.upper) }

  pub whole_room : setting_offset (saved_key_at image at) + (setting_value_offset + saved_length_at image at) ≤ settings_length
  whole_room = omega (arith, offset-within (saved_key_at image at) whole-key, w.short)

  pub entry-put : (s : List ℕ) {n key offset edition : ℕ} {t u : List ℕ} → n ≡ saved_length_at image at → key ≡ saved_key_at image at
      → offset ≡ setting_offset key
      → edition ≡ saved_edition_at image at → settings_length ≤ length s → t ≡ overlay offset (setting_head 1 edition n) s
      → u ≡ copied image (at + 9) n t (offset + setting_value_offset) → u ≡ Calls.put_entry (saved_entry_at image at) s
  entry-put s e k p d room f g =
      rw (g, f, p, k, e, d)
      (setting-put (setting_offset (saved_key_at image at)) (saved_edition_at image at) (saved_length_at image at) (at + 9) image s
      (omega (arith, w.complete)) (omega (arith, whole_room)))

-- ---- a record

pub length-body : (key edition : ℕ) (v : List ℕ) → length (record_body key edition v) ≡ 9 + length v
length-body key edition v = simp (length-append, length-bytes) (omega arith)

pub length-record : (key edition : ℕ) (v : List ℕ) → length (saved_record key edition v) ≡ 11 + length v
unfolding saved_record
length-record key edition v = simp (length-append, length-bytes) (omega arith)

module _ (at key edition n from : ℕ) (src s : List ℕ) (small : key < 256) (f : from + n ≤ length src) (room : at + (9 + n) ≤ length s) where
  abbrev v : List ℕ
  v = run from n src

  pub body-put : copied src from n
      (put (at + 7) (bytes 2 n) (put (at + 3) (bytes 4 edition) (set (copied record_mark 0 2 s at) (at + 2) key))) (at + 9)
      ≡ overlay at (record_body key edition v) s
  body-put =
      let a : length (record_mark ++ bytes 1 key) ≡ 3 = simp length-bytes in
      let b : length ((record_mark ++ bytes 1 key) ++ bytes 4 edition) ≡ 7 = simp (length-append, length-bytes) in
      let d : length (((record_mark ++ bytes 1 key) ++ bytes 4 edition) ++ bytes 2 n) ≡ 9 = simp (length-append, length-bytes) in
      rw (
        copied-fits record_mark 0 2 s at (omega arith) (omega arith),
        next-byte at (at + 2) record_mark s refl key small (omega arith),
        next-put at (at + 3) (record_mark ++ bytes 1 key) s (omega arith) (bytes 4 edition) (omega (arith, length-bytes 4 edition)),
        next-put at (at + 7) ((record_mark ++ bytes 1 key) ++ bytes 4 edition) s (omega arith) (bytes 2 n)
            (omega (arith, length-bytes 2 n)),
        next-copied at (at + 9) (((record_mark ++ bytes 1 key) ++ bytes 4 edition) ++ bytes 2 n) s (omega arith) src from n f (omega arith),
        length_run from n src f,
      )
      (simp append_assoc)

  -- the checksum behind the body
  pub record-put : {t : List ℕ} {sum : ℕ} → at + (11 + n) ≤ length s → t ≡ overlay at (record_body key edition v) s
      → sum ≡ checksum (run at (9 + n) t) → put (at + (9 + n)) (bytes 2 sum) t ≡ overlay at (saved_record key edition v) s
  unfolding saved_record
  record-put more e g =
      let b : length (record_body key edition v) ≡ 9 + n = length-body key edition v ∙ ap (λ (m : ℕ). 9 + m) (length_run from n src f) in
      let i : run at (9 + n) (overlay at (record_body key edition v) s) ≡ record_body key edition v
      = rw b at (overlay-inside at (record_body key edition v) s (omega arith)) in
      rw (g, e, i)
      (next-put at (at + (9 + n)) (record_body key edition v) s (omega arith) _
      (omega (arith, length-bytes 2 (checksum (record_body key edition v)))))
