-- Laws of decoding a COBS form byte by byte into an array.
-- They tell what it says of `uncobs`, and what stands in the array in its middle. Assumes nothing.
use mathlib.Core.Path.{◌≡◌, refl, sym, ◌∙◌}
use mathlib.Core.Bool.{Bool, true, false, cond, ◌||◌, or-true, and-true, and-false}
use mathlib.Core.List.{List, [], ◌∷◌, ◌++◌, append_assoc, append-nil}
use mathlib.Core.Option.{Option, none, some, map}
use Prim.Native.Nat.{ℕ, zero, suc, ◌+◌, ◌-◌, ◌≤◌, ◌<◌}
use native.Mathlib.Nat.{zero-add}
use native.Mathlib.Numerals.{add-one, unary_clauses}
use native.Mathlib.Omega.{arith}
use borrow.Author.Tests.{eq-eqb, ne_eqb}
use lib.Dec.{eqb, ltb}
use lib.ListN.{length, take, drop, get_or, set, length-append, length-drop, drop_of_length-le}
use lib.Seq.{drop-cons, take_all}
use Rattle.octets.specs.Bytes.{overlay, equal}
use Rattle.octets.proofs.Conditions.{cond-by, cond_map}
use Rattle.octets.proofs.Overlay.{overlay-none, overlay-more, overlay-next}
use Rattle.line.specs.Cobs.{implied_zero, last_one_after_full, group_bytes, uncobs}
use Rattle.plain.specs.Answers.{Decoding, behind, decode_group, decode_form}
use Rattle.plain.specs.Inner.{decoded_report}
use Rattle.std.specs.Prelude.{Some, None}

-- ---- the bytes of a form

-- the bytes, unless the form is none
abbrev pub form_bytes : Decoding → Option (List ℕ)
form_bytes d = cond d.whole (some d.bytes) none

bytes-behind : (ys : List ℕ) (w : Bool) (xs : List ℕ)
    → map (λ xs. ys ++ xs) (form_bytes (record { whole = w; bytes = xs })) ≡ form_bytes (behind ys (record { whole = w; bytes = xs }))
bytes-behind ys true xs = refl
bytes-behind ys false xs = refl

group-bytes : (left : ℕ) (holds : Bool) (bs : List ℕ) → group_bytes left holds bs ≡ form_bytes (decode_group left holds bs)
unfolding group_bytes decode_group
group-bytes zero holds [] = refl
group-bytes (suc left) holds [] = refl
group-bytes (suc left) holds (b ∷ bs) =
    let d = decode_group left holds bs in
    rw (group-bytes left holds bs) (bytes-behind (b ∷ []) d.whole d.bytes)
group-bytes zero holds (c ∷ cs) =
    let d = decode_group (c - 1) (ltb c 255) cs in
    rw (group-bytes (c - 1) (ltb c 255) cs, bytes-behind (implied_zero holds) d.whole d.bytes)
    (cond_map form_bytes (eqb c 0 || last_one_after_full c cs) (λ e. refl) (λ e. refl))

pub decoding-bytes : (form : List ℕ) → uncobs form ≡ form_bytes (decode_form form)
unfolding uncobs decode_form
decoding-bytes form = group-bytes 0 false form

-- ---- one byte of a form

abbrev failed : Decoding
failed = record { whole = false; bytes = [] }

group-byte : (left : ℕ) (z : Bool) (b : ℕ) (bs : List ℕ) → 0 < left
    → decode_group left z (b ∷ bs) ≡ behind (b ∷ []) (decode_group (left - 1) z bs)
unfolding decode_group
group-byte zero z b bs h = absurd (omega arith)
group-byte (suc left) z b bs h = simp unary_clauses

group-past : (left : ℕ) (z : Bool) → 0 < left → decode_group left z [] ≡ failed
unfolding decode_group
group-past zero z h = absurd (omega arith)
group-past (suc left) z h = refl

module _ (z : Bool) (c : ℕ) (cs : List ℕ) where
  code-zero : c ≡ 0 → decode_group 0 z (c ∷ cs) ≡ failed
  unfolding decode_group
  code-zero e = rw (eq-eqb c 0 e)

  code-last : true ≡ last_one_after_full c cs → decode_group 0 z (c ∷ cs) ≡ failed
  unfolding decode_group
  code-last e = rw (← e, or-true)

  code_other : (c ≡ 0 → ⊥) → false ≡ last_one_after_full c cs
      → decode_group 0 z (c ∷ cs) ≡ behind (implied_zero z) (decode_group (c - 1) (ltb c 255) cs)
  unfolding decode_group
  code_other e l = rw (ne_eqb c 0 e, ← l)

zeros-most : (z : Bool) → length (implied_zero z) ≤ 1
zeros-most true = omega arith
zeros-most false = omega arith

group-length : (left : ℕ) (z : Bool) (bs : List ℕ) → length (decode_group left z bs).bytes ≤ length bs + length (implied_zero z)
unfolding decode_group
group-length zero z [] = omega arith
group-length (suc left) z [] = omega arith
group-length (suc left) z (b ∷ bs) = omega (arith, group-length left z bs)
group-length zero z (c ∷ cs) =
    cond-by (λ (d : Decoding). length d.bytes ≤ suc (length cs) + length (implied_zero z)) (eqb c 0 || last_one_after_full c cs) _ _
    (λ e. omega arith) (λ e. rw length-append (omega (arith, group-length (c - 1) (ltb c 255) cs, zeros-most (ltb c 255))))

-- a form decodes to no more bytes than it has
pub decoding-length : (form : List ℕ) → length (decode_form form).bytes ≤ length form
unfolding decode_form
decoding-length form = omega (arith, group-length 0 false form)

-- ---- what the decoding says

report-by : (w : Bool) (xs : List ℕ) (k : ℕ) → Some k ≡ cond w (Some (length xs)) None → (w ≡ true) × (length xs ≡ k)
report-by true xs k e = (refl, cc)
report-by false xs k e = cc

report-not : (w : Bool) (k : ℕ) → None ≡ cond w (Some k) None → w ≡ false
report-not true k e = cc
report-not false k e = refl

module _ (form : List ℕ) where
  pub bad-none : None ≡ decoded_report (decode_form form) → uncobs form ≡ none
  unfolding decoded_report
  bad-none e = decoding-bytes form ∙ rw (report-not (decode_form form).whole (length (decode_form form).bytes) e)

  pub length_some : {k : ℕ} → Some k ≡ decoded_report (decode_form form)
      → (uncobs form ≡ some (decode_form form).bytes) × (length (decode_form form).bytes ≡ k)
  unfolding decoded_report
  length_some {k} e =
      let s = report-by (decode_form form).whole (decode_form form).bytes k e in
      (decoding-bytes form ∙ rw s.0, s.1)

-- ---- in the middle of a form

-- m was m₀ when decoding began. So far i bytes are read and n decoded.
-- Of the group `left` bytes are to come, and z says whether a zero follows it.
pub record Middle (form m₀ m : List ℕ) (left : ℕ) (z : Bool) (n i : ℕ) : Type 0 where
  pub decoded : List ℕ
  pub long : length decoded ≡ n
  pub fits : n + length (implied_zero z) ≤ i
  pub stands : m ≡ overlay 0 decoded m₀
  pub whole : decode_form form ≡ behind decoded (decode_group left z (drop i form))

pub middle-start : (form m : List ℕ) → Middle form m m 0 false 0 0
unfolding decode_form
middle-start form m = record { decoded = []; long = refl; fits = omega arith; stands = sym (overlay-none 0 m); whole = refl }

module _ (form m₀ m : List ℕ) (left : ℕ) (z : Bool) (n i : ℕ) (mid : Middle form m₀ m left z n i) where
  -- no more bytes come
  module _ (w : Bool) (e : decode_group left z (drop i form) ≡ record { whole = w; bytes = [] }) where
    stopped : decode_form form ≡ record { whole = w; bytes = mid.decoded }
    stopped = mid.whole ∙ rw (e, append-nil)

    pub stop : (cond w (Some n) None ≡ decoded_report (decode_form form)) × (m ≡ overlay 0 (decode_form form).bytes m₀)
    unfolding decoded_report
    stop = (rw (stopped, mid.long), rw stopped mid.stands)

  pub stop-past : length form ≤ i → 0 < left → (None ≡ decoded_report (decode_form form)) × (m ≡ overlay 0 (decode_form form).bytes m₀)
  stop-past h l = stop false (rw (drop_of_length-le form h) (group-past left z l))

  pub stop-end : length form ≤ i → left ≤ 0 → (Some n ≡ decoded_report (decode_form form)) × (m ≡ overlay 0 (decode_form form).bytes m₀)
  unfolding decode_group
  stop-end h l =
      let e : left ≡ 0 = omega arith in
      stop true (rw (drop_of_length-le form h, e))

  -- one byte more
  module _ (h : i < length form) (b : ℕ) (e : b ≡ get_or form i 0) where
    at_byte : drop i form ≡ b ∷ drop (i + 1) form
    at_byte = rw (e, add-one) (drop-cons form i 0 h)

    pub middle-byte : 0 < left → i < length m₀ → Middle form m₀ (set m n b) (left - 1) z (n + 1) (i + 1)
    middle-byte l r =
        let d = mid.decoded in
        let f = mid.fits in
        let o = rw zero-add at (overlay-more 0 b d m₀ (omega (arith, mid.long))) in
        record {
          decoded = d ++ b ∷ [];
          long = length-append d (b ∷ []) ∙ rw mid.long;
          fits = omega arith;
          stands = rw (mid.stands, ← mid.long) o;
          whole = mid.whole ∙ rw (at_byte, group-byte left z b (drop (i + 1) form) l) (simp append_assoc);
        }

    module _ (l : left ≤ 0) where
      none_left : left ≡ 0
      none_left = omega arith

      pub stop-zero : b ≡ 0 → (None ≡ decoded_report (decode_form form)) × (m ≡ overlay 0 (decode_form form).bytes m₀)
      stop-zero f = stop false (rw (at_byte, none_left) (code-zero z b (drop (i + 1) form) f))

      pub stop-last : true ≡ last_one_after_full b (drop (i + 1) form)
          → (None ≡ decoded_report (decode_form form)) × (m ≡ overlay 0 (decode_form form).bytes m₀)
      stop-last f = stop false (rw (at_byte, none_left) (code-last z b (drop (i + 1) form) f))

      pub middle-code : (b ≡ 0 → ⊥) → false ≡ last_one_after_full b (drop (i + 1) form) → i < length m₀
          → {m' : List ℕ} {n' : ℕ} → n' ≡ n + length (implied_zero z) → m' ≡ overlay n (implied_zero z) m
          → Middle form m₀ m' (b - 1) (ltb b 255) n' (i + 1)
      middle-code f g r p q =
          let d = mid.decoded in
          let u = mid.fits in
          let o = rw zero-add at (overlay-next 0 d (implied_zero z) m₀ (omega arith)) in
          record {
            decoded = d ++ implied_zero z;
            long = length-append d (implied_zero z) ∙ rw (p, mid.long);
            fits = omega (arith, zeros-most (ltb b 255));
            stands = q ∙ rw (mid.stands, ← mid.long) o;
            whole = mid.whole ∙ rw (at_byte, none_left, code_other z b (drop (i + 1) form) f g) (simp append_assoc);
          }

-- the part of a list from an offset to its end
pub slice-behind : (s : List ℕ) (i : ℕ) → take (length s - i) (drop i s) ≡ drop i s
slice-behind s i = take_all (length s - i) (drop i s) (omega (arith, length-drop i s))

-- ---- a last 01 after a full group

equal-one : (b v : ℕ) → equal (b ∷ []) (v ∷ []) ≡ eqb b v
unfolding equal
equal-one b v = and-true (eqb b v)

equal-not-one : (xs : List ℕ) (v : ℕ) → (length xs ≡ 1 → ⊥) → equal xs (v ∷ []) ≡ false
unfolding equal
equal-not-one [] v h = refl
equal-not-one (x ∷ []) v h = absurd (h refl)
equal-not-one (x ∷ y ∷ ys) v h = and-false (eqb x v)

module _ (c : ℕ) (s : List ℕ) where
  pub last-other : (c ≡ 255 → ⊥) → false ≡ last_one_after_full c s
  last-other h = rw (ne_eqb c 255 h)

  module _ (h : c ≡ 255) where
    last-behind : last_one_after_full c s ≡ equal (drop 254 s) (1 ∷ [])
    last-behind = rw (eq-eqb c 255 h)

    pub last-longer : (length s ≡ 255 → ⊥) → false ≡ last_one_after_full c s
    last-longer f = sym (last-behind ∙ equal-not-one (drop 254 s) 1 (λ e. f (omega (arith, length-drop 254 s))))

    pub last_byte : length s ≡ 255 → eqb (get_or s 254 0) 1 ≡ last_one_after_full c s
    last_byte e =
        let d = drop-cons s 254 0 (omega arith) in
        let n : drop 255 s ≡ [] = drop_of_length-le s {i = 255} (omega arith) in
        sym (last-behind ∙ rw (d, n, equal-one))
