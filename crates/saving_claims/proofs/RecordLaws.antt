-- A record of an image, written and read. One that was written is read as it was, and one that is read is as it was written.
-- Assumes nothing.
use mathlib.Core.Path.{◌≡◌, refl, sym, ap, ◌∙◌}
use mathlib.Core.Bool.{true, false, and-false}
use mathlib.Core.List.{List, ◌++◌}
use Prim.Native.Nat.{ℕ, ◌+◌, ◌-◌, ◌^◌, ◌≤◌, ◌<◌}
use native.Mathlib.Nat.{add-zero}
use native.Mathlib.Omega.{arith}
use lib.ListN.{length, take, drop, length-append, length-drop, take-append-drop}
use lib.Seq.{drop-drop, take_at, drop_at}
use borrow.Author.Tests.{le-leb, lt-ltb}
use Rattle.octets.specs.Bytes.{Byte, Each, bytes, number, run, number_at, equal, same_run}
use Rattle.octets.proofs.Equal.{same_run-equal}
use Rattle.octets.proofs.Numbers.{number-bytes}
use Rattle.octets.proofs.Overlay.{run-add, run-append, number-run, length_run}
use Rattle.line.specs.Checksum.{checksum}
use Rattle.line.proofs.Checksum.{checksum-bound}
use Rattle.supervisor.specs.Limits.{first_setting, longest_setting}
use Rattle.supervisor.proofs.OffsetLaws.{longest-short}
use Rattle.saving.specs.Saving.{highest_saved, record_mark, end_mark, record_body, saved_record, to, ended}
use Rattle.saving.specs.Saving.{saved_key_at, saved_edition_at, saved_length_at, saved_value_at, saved_body_at, saved_entry_at, follows}
use Rattle.saving.specs.Saving.{image_step}
use Rattle.saving.proofs.StepLaws.{Passed, end-good, key-good, record-good}
use Rattle.saving.proofs.StoreLaws.{length-body, length-record}

-- the bytes of an image from an offset on begin with those of a list
run-here : (image xs rest : List ℕ) (at : ℕ) → drop at image ≡ xs ++ rest → (j n : ℕ) → j + n ≤ length xs
    → run (at + j) n image ≡ run j n xs
run-here image xs rest at e j n h = rw (← drop-drop j at image, e) (run-append xs rest j n h)

length-here : (image xs rest : List ℕ) (at : ℕ) → drop at image ≡ xs ++ rest → length image - at ≡ length xs + length rest
length-here image xs rest at e = sym (length-drop at image) ∙ ap length e ∙ length-append xs rest

-- ---- the end

pub end_read : (image : List ℕ) (before at : ℕ) → drop at image ≡ end_mark → image_step image before at ≡ ended
end_read image before at e =
    let l = sym (length-drop at image) ∙ ap length e in
    sym (end-good image before at (omega arith) refl (same_run-equal image at end_mark 0 2 (omega arith) (omega arith) (rw e))
    (omega arith))

-- ---- a record that was written

module _ (image : List ℕ) (at key edition : ℕ) (v rest : List ℕ) (e : drop at image ≡ saved_record key edition v ++ rest)
    (lower : first_setting ≤ key) (upper : key ≤ highest_saved) (short : length v ≤ longest_setting key) (small : edition < 256 ^ 4) where
  abbrev size : ℕ
  size = 11 + length v

  long : at + size ≤ length image
  long = omega (arith, length-here image (saved_record key edition v) rest at e, length-record key edition v)

  part : (j n : ℕ) → j + n ≤ size → run (at + j) n image ≡ run j n (saved_record key edition v)
  part j n h = run-here image (saved_record key edition v) rest at e j n (omega (arith, length-record key edition v))

  small-length : length v < 256 ^ 2
  small-length = omega (arith, longest-short key)

  mark-here : run at 2 image ≡ record_mark
  unfolding saved_record
  mark-here = rw add-zero at (part 0 2 (omega arith))

  key_here : saved_key_at image at ≡ key
  unfolding saved_record bytes
  key_here = ap number (part 2 1 (omega arith)) ∙ number-bytes 1 key (omega arith)

  edition-here : saved_edition_at image at ≡ edition
  unfolding saved_record bytes
  edition-here = ap number (part 3 4 (omega arith)) ∙ number-bytes 4 edition small

  size-here : saved_length_at image at ≡ length v
  unfolding saved_record bytes
  size-here = ap number (part 7 2 (omega arith)) ∙ number-bytes 2 (length v) small-length

  value-here : saved_value_at image at ≡ v
  unfolding saved_record bytes
  value-here = rw size-here (part 9 (length v) (omega arith) ∙ take_at v _ (length v) refl)

  body-here : run at (9 + length v) image ≡ record_body key edition v
  unfolding saved_record
  body-here =
      rw add-zero at (part 0 (9 + length v) (omega arith))
      ∙ take_at (record_body key edition v) _ (9 + length v) (length-body key edition v)

  sum-here : number_at 2 image (at + (9 + length v)) ≡ checksum (record_body key edition v)
  unfolding saved_record bytes
  sum-here =
      ap number
      (part (9 + length v) 2 (omega arith) ∙ ap (take 2) (drop_at (record_body key edition v) _ (9 + length v) (length-body key edition v)))
      ∙ number-bytes 2 (checksum (record_body key edition v)) (checksum-bound (record_body key edition v))

  a-mark : same_run image at record_mark 0 2 ≡ true
  a-mark = same_run-equal image at record_mark 0 2 (omega (arith, long)) (omega arith) mark-here

  no_end : same_run image at end_mark 0 2 ≡ false
  unfolding same_run equal
  no_end = rw (mark-here, and-false)

  pub record-read : (before : ℕ) → before < key → image_step image before at ≡ to key (at + size)
  unfolding follows
  record-read before above =
      sym
      (record-good image at (length v) key (longest_setting key) (sym size-here) (sym key_here) refl (omega (arith, long)) short _ _ long
      (ap checksum (sym body-here)) (sym sum-here) refl
      ∙ key-good image before at (omega (arith, long)) refl no_end refl (rw a-mark) (omega (arith, long)) (sym key_here) refl
      (rw (le-leb first_setting key lower, le-leb key highest_saved upper, lt-ltb before key above)))

  pub entry_read : saved_entry_at image at ≡ record { key = key; edition = edition; value = v }
  entry_read = cc (key_here, edition-here, value-here)

  pub rest-here : drop (at + size) image ≡ rest
  rest-here = rw (← drop-drop size at image, e) (drop_at (saved_record key edition v) rest size (length-record key edition v))

-- ---- a record that was read

module _ (image : List ℕ) (byte : Each Byte image) {before at key there : ℕ} (p : Passed image before at key there) where
  abbrev n : ℕ
  n = saved_length_at image at

  whole : at + (11 + n) ≤ length image
  whole = p.whole.complete

  body-exact : record_body (saved_key_at image at) (saved_edition_at image at) (saved_value_at image at) ≡ saved_body_at image at
  body-exact =
      let e : 9 + n ≡ 2 + (1 + (4 + (2 + n))) = omega arith in
      let edition : at + 2 + 1 ≡ at + 3 = omega arith in
      let size : at + 3 + 4 ≡ at + 7 = omega arith in
      let value : at + 7 + 2 ≡ at + 9 = omega arith in
      rw (
        length_run (at + 9) n image (omega (arith, whole)),
        number-run 1 (at + 2) image (omega (arith, whole)) byte,
        number-run 4 (at + 3) image (omega (arith, whole)) byte,
        number-run 2 (at + 7) image (omega (arith, whole)) byte,
        e,
        run-add at 2 (1 + (4 + (2 + n))) image,
        run-add (at + 2) 1 (4 + (2 + n)) image,
        edition,
        run-add (at + 3) 4 (2 + n) image,
        size,
        run-add (at + 7) 2 n image,
        value,
        p.mark,
      )

  record-run : saved_record (saved_key_at image at) (saved_edition_at image at) (saved_value_at image at) ≡ run at (11 + n) image
  unfolding saved_record
  record-run =
      let e : 11 + n ≡ 9 + n + 2 = omega arith in
      ap (λ (body : List ℕ). body ++ bytes 2 (checksum body)) body-exact
      ∙ rw (← p.sum, number-run 2 (at + (9 + n)) image (omega (arith, whole)) byte, e, run-add at (9 + n) 2 image)

  pub record-exact : drop at image ≡ saved_record (saved_key_at image at) (saved_edition_at image at) (saved_value_at image at)
      ++ drop there image
  record-exact = rw (record-run, p.behind, ← drop-drop (11 + n) at image) (sym (take-append-drop (11 + n) (drop at image)))
