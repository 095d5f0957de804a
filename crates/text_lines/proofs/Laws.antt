-- The laws of fields, numbers, digests and pieces, by one byte more each.
-- Assumes nothing.
use Prim.Native.Nat.{ℕ, zero, suc, ◌+◌, ◌-◌, ◌*◌, ◌%◌, ◌≤◌, ◌<◌}
use mathlib.Core.Path.{◌≡◌, refl, sym, ap, ◌∙◌}
use mathlib.Core.Bool.{cond}
use mathlib.Core.List.{List, [], ◌∷◌, ◌++◌}
use native.Mathlib.Nat.{mul-le-mul}
use native.Mathlib.Numerals.{add-one}
use native.Mathlib.Omega.{arith}
use lib.Dec.{eqb}
use lib.ListN.{length, take, drop, set, get_or, length-append, length-drop, drop_of_length-le}
use lib.Seq.{take_all, drop-cons}
use borrow.Author.Tests.{ne_eqb, lt-ltb, le-ltb, le-leb, lt-leb}
use Rattle.std.specs.List.{fold}
use Rattle.octets.specs.Bytes.{number, run, number_at, overlay}
use Rattle.octets.specs.Places.{LentBytes, Place, place_in, part_place}
use Rattle.octets.proofs.Parts.{place-there}
use Rattle.octets.proofs.Overlay.{overlay-take, overlay-more, put-fits, put-not}
use Rattle.text_lines.specs.Fields.{field, digit, with_digit, with_digits, pair_at}
use Rattle.text_lines.specs.Pieces.{values, adds, added_at, bytes_added, room_after, count_after}
use Rattle.text_lines.specs.Digest.{digest_on}

-- all from an offset on
pub rest : (at : ℕ) (s : List ℕ) → run at (length s) s ≡ drop at s
rest at s = take_all (length s) (drop at s) (simp length-drop (omega arith))

pub rest-place : (s : LentBytes) (at : ℕ) (t : List ℕ) → at ≤ length s.now → drop at s.now ≡ t
    → part_place s at ≡ place_in s (length s.now - length t)
rest-place s at t h e =
    let l = length-drop at s.now in
    sym (place-there s at h) ∙ ap (place_in s) (rw (← e, l) (omega arith))

-- a part from the start of what stands 0 bytes behind a place
pub room-start : (p : Place) (s : List ℕ) → part_place (record { ref_ptr = (p.0, p.1 + 0); now = s }) 0 ≡ p
room-start p s = sym (place-there _ 0 (omega arith)) ∙ ap (λ at. (p.0, at)) (omega arith)

pub drop-end : (i : ℕ) (s : List ℕ) → length s ≤ i → drop i s ≡ []
drop-end i s h = drop_of_length-le s h

-- ---- fields

pub field-here : (line : List ℕ) → field 0 line ≡ line
unfolding field
field-here [] = refl
field-here (b ∷ line) = refl

-- there is no field behind the end
pub field_end : (k i : ℕ) (line : List ℕ) → length line ≤ i → field k (drop i line) ≡ drop i line
unfolding field
field_end k i line h = rw (drop-end i line h)

-- one byte on
pub field_next : (k i : ℕ) (line : List ℕ) → i < length line → (k ≡ 0 → ⊥)
    → field k (drop i line) ≡ field (cond (eqb (get_or line i 0) 32) (k - 1) k) (drop (i + 1) line)
unfolding field
field_next k i line h n = rw (add-one i, drop-cons line i 0 h, ne_eqb k 0 n)

-- ---- numbers

-- 64 bits hold a number with one digit more
pub digit_room : (v d base : ℕ) → base ≤ 16 → d < base → v % 1152921504606846976 * base + d < 18446744073709551616
digit_room v d base h l =
    let p : v % 1152921504606846976 ≤ 1152921504606846975 = omega arith in
    let q : v % 1152921504606846976 * base ≤ 1152921504606846975 * 16 = mul-le-mul p h in
    omega arith

module _ (base v i : ℕ) (text : List ℕ) (h : i < length text) where
  digits-next : with_digits base v (drop i text) ≡ with_digits base v (get_or text i 0 ∷ drop (i + 1) text)
  digits-next = rw (add-one i, ← drop-cons text i 0 h)

  pub digits-one : digit (get_or text i 0) < base
      → with_digits base v (drop i text) ≡ with_digits base (with_digit base v (digit (get_or text i 0))) (drop (i + 1) text)
  unfolding with_digits
  digits-one l = digits-next ∙ rw (lt-ltb _ _ l)

  pub digits-none : base ≤ digit (get_or text i 0) → with_digits base v (drop i text) ≡ v
  unfolding with_digits
  digits-none l = digits-next ∙ rw (le-ltb _ _ l)

pub digits-end : (base v i : ℕ) (text : List ℕ) → length text ≤ i → with_digits base v (drop i text) ≡ v
unfolding with_digits
digits-end base v i text h = rw (drop-end i text h)

-- a byte past the end counts 0
byte_past : (at : ℕ) (s : List ℕ) → length s ≤ at → number_at 1 s at ≡ 0
unfolding number
byte_past at s h = rw (drop-end at s h)

-- a pair past the end
pub pair-past : (k : ℕ) (text : List ℕ) → length text ≤ 2 * k → pair_at text k ≡ 0
unfolding pair_at digit
pair-past k text h = rw (byte_past (2 * k) text h, byte_past (2 * k + 1) text (omega arith))

-- ---- digests

pub digest-fold : (d : ℕ) (s : List ℕ) → fold (λ d b. (d * 31 + b + 1) % 65521) d s ≡ digest_on d s
unfolding digest_on
digest-fold d [] = refl
digest-fold d (b ∷ s) = digest-fold ((d * 31 + b + 1) % 65521) s

-- ---- pieces

pub length-values : (f : ℕ → ℕ) (n : ℕ) → length (values f n) ≡ n
unfolding values
length-values f zero = refl
length-values f (suc n) = simp (length-append, length-values f n) (omega arith)

pub values-more : (f : ℕ → ℕ) (n : ℕ) → values f (n + 1) ≡ values f n ++ f n ∷ []
unfolding values
values-more f n = rw add-one

module _ (line room : List ℕ) (n : ℕ) where
  -- what a line adds does not fit
  pub add-not : length room < n + adds line → (n ≡ count_after line room n) × (room ≡ room_after line room n)
  unfolding count_after room_after bytes_added
  add-not h =
      let l = length-values (added_at line (take n room)) (adds line) in
      (rw (lt-leb (n + adds line) (length room) h), sym (put-not n _ room (omega arith)))

  -- it fits
  pub add-fits : n + adds line ≤ length room
      → (n + adds line ≡ count_after line room n)
      × (overlay n (values (added_at line (take n room)) (adds line)) room ≡ room_after line room n)
  unfolding count_after room_after bytes_added
  add-fits h =
      let l = length-values (added_at line (take n room)) (adds line) in
      (rw (le-leb (n + adds line) (length room) h), sym (put-fits n _ room (omega arith)))

  -- one byte more: the piece in front of it is still as it was
  pub add-more : (j : ℕ) → n + j < length room
      → set (overlay n (values (added_at line (take n room)) j) room) (n + j)
      (added_at line (take n (overlay n (values (added_at line (take n room)) j) room)) j)
      ≡ overlay n (values (added_at line (take n room)) (j + 1)) room
  add-more j h =
      let f = added_at line (take n room) in
      let l = length-values f j in
      let m = overlay-more n (f j) (values f j) room (omega arith) in
      rw (overlay-take n n (values f j) room (omega arith) (omega arith), values-more f j) (rw l at m)
