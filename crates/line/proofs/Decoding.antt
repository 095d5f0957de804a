-- The laws of decoding a COBS form: what its measured length says of it, and what one group of it gives.
-- Assumes nothing.
use mathlib.Core.Path.{◌≡◌, refl, sym, ap, ◌∙◌}
use mathlib.Core.Bool.{Bool, true, false, cond, not, ◌||◌, and-true, and-false, or-true}
use mathlib.Core.List.{List, [], ◌∷◌, ◌++◌}
use mathlib.Core.Option.{Option, none, some, map}
use Prim.Native.Nat.{ℕ, zero, suc, ◌+◌, ◌-◌, ◌≤◌, ◌<◌}
use native.Mathlib.Numerals.{add-one}
use native.Mathlib.Omega.{arith}
use lib.Dec.{eqb, leb, ltb, leb-suc-suc}
use lib.ListN.{length, take, drop, get_or, replicate, length-append, drop_of_length-le}
use lib.Seq.{slice, slice-cons, length-slice, length-take-le, drop-drop}
use borrow.Author.Tests.{eq-eqb, ne_eqb}
use mir.Val.{bool_byte}
use Rattle.octets.specs.Bytes.{run, equal}
use Rattle.std.specs.Prelude.{Option as Optional, None, Some}
use Rattle.line.specs.Cobs.{implied_zero, last_one_after_full, group_bytes, uncobs}
use Rattle.line.specs.Decoding.{one_if, measured, plain_group, plain}
use Rattle.line.proofs.Alike.{alike_next}

-- ---- the plain bytes are what a form decodes to, and no longer than the form

-- where anything decodes, it is d
Gives : Option (List ℕ) → List ℕ → Type 0
Gives none d = Unit {0}
Gives (some xs) d = xs ≡ d

gives-map : (ys : List ℕ) (r : Option (List ℕ)) (d : List ℕ) → Gives r d → Gives (map (λ xs. ys ++ xs) r) (ys ++ d)
unfolding Gives
gives-map ys none d h = tt
gives-map ys (some xs) d h = ap (λ (l : List ℕ). ys ++ l) h

gives-unless : (t : Bool) (r : Option (List ℕ)) (d : List ℕ) → Gives r d → Gives (cond t none r) d
unfolding Gives
gives-unless true r d h = tt
gives-unless false r d h = h

gives-end : (left : ℕ) (z : Bool) → Gives (group_bytes left z []) []
unfolding Gives group_bytes
gives-end zero z = refl
gives-end (suc left) z = tt

gives-plain : (left : ℕ) (z : Bool) (bs : List ℕ) → Gives (group_bytes left z bs) (plain_group left z bs)
unfolding group_bytes plain_group
gives-plain left z [] = gives-end left z
gives-plain zero z (c ∷ cs) =
    gives-unless (eqb c 0 || last_one_after_full c cs) _ _ (gives-map (implied_zero z) _ _ (gives-plain (c - 1) (ltb c 255) cs))
gives-plain (suc left) z (b ∷ bs) = gives-map (b ∷ []) _ _ (gives-plain left z bs)

bad-none : (r : Option (List ℕ)) → None ≡ measured r → r ≡ none
unfolding measured
bad-none none e = refl
bad-none (some xs) e = let z : ◌≡◌ {A = ℕ} 0 1 = cc in absurd (omega arith)

length_some : (r : Option (List ℕ)) (d : List ℕ) (k : ℕ) → Gives r d → Some k ≡ measured r → (r ≡ some d) × (length d ≡ k)
unfolding measured Gives
length_some none d k h e = let z : ◌≡◌ {A = ℕ} 0 1 = cc in absurd (omega arith)
length_some (some xs) d k h e = (ap some h, cc)

-- a form that is measured as bad is none
pub measured-bad : (f : List ℕ) → None ≡ measured (uncobs f) → uncobs f ≡ none
measured-bad f e = bad-none (uncobs f) e

-- a form with a length decodes to its plain bytes, and they have that length
pub measured-length : (f : List ℕ) (k : ℕ) → Some k ≡ measured (uncobs f) → (uncobs f ≡ some (plain f)) × (length (plain f) ≡ k)
unfolding uncobs plain
measured-length f k e = length_some (group_bytes 0 false f) (plain_group 0 false f) k (gives-plain 0 false f) e

-- a flag as a number
pub byte-one-if : (z : Bool) → bool_byte z ≡ one_if z
byte-one-if true = refl
byte-one-if false = refl

pub one-if-most : (z : Bool) → one_if z ≤ 1
one-if-most true = omega arith
one-if-most false = omega arith

pub length-zeros : (z : Bool) → length (implied_zero z) ≡ one_if z
length-zeros true = refl
length-zeros false = refl

group-length : (left : ℕ) (z : Bool) (bs : List ℕ) → length (plain_group left z bs) ≤ length bs + one_if z
unfolding plain_group
group-length zero z [] = omega arith
group-length (suc left) z [] = omega arith
group-length (suc left) z (b ∷ bs) = omega (arith, group-length left z bs)
group-length zero z (c ∷ cs) =
    simp (length-append, length-zeros) (omega (arith, one-if-most (ltb c 255), group-length (c - 1) (ltb c 255) cs))

-- ---- one group

-- whether a zero follows a group, as the code tests its code byte
pub holds_test : (c : ℕ) → leb c 254 ≡ ltb c 255
holds_test c = sym (leb-suc-suc c 254)

-- the length of what decodes, with o bytes before it
pub counted : ℕ → Option (List ℕ) → Optional ℕ
counted o none = None
counted o (some xs) = Some (o + length xs)

counted-all : (r : Option (List ℕ)) → measured r ≡ counted 0 r
unfolding measured counted
counted-all none = refl
counted-all (some xs) = ap Some (omega arith)

pub counted_start : (f : List ℕ) → measured (uncobs f) ≡ counted 0 (group_bytes 0 false f)
unfolding uncobs
counted_start f = counted-all (group_bytes 0 false f)

counted-map : (o : ℕ) (ys : List ℕ) (r : Option (List ℕ)) → counted o (map (λ xs. ys ++ xs) r) ≡ counted (o + length ys) r
unfolding counted
counted-map o ys none = refl
counted-map o ys (some xs) = ap Some (omega (arith, length-append ys xs))

-- the bytes of a group that is there as a whole
counted-run : (k o : ℕ) (z : Bool) (bs : List ℕ) → k ≤ length bs
    → counted o (group_bytes k z bs) ≡ counted (o + k) (group_bytes 0 z (drop k bs))
unfolding group_bytes
counted-run zero o z bs h = ap (λ (p : ℕ). counted p (group_bytes 0 z bs)) (omega arith)
counted-run (suc k) o z [] h = absurd (omega arith)
counted-run (suc k) o z (b ∷ bs) h =
    let e : o + 1 + k ≡ o + suc k = omega arith in
    counted-map o (b ∷ []) (group_bytes k z bs) ∙ counted-run k (o + 1) z bs (omega arith) ∙ rw e

-- a group that runs past the end
short_none : (k : ℕ) (z : Bool) (bs : List ℕ) → length bs < k → group_bytes k z bs ≡ none
unfolding group_bytes
short_none zero z bs h = absurd (omega arith)
short_none (suc k) z [] h = refl
short_none (suc k) z (b ∷ bs) h = rw (short_none k z bs (omega arith))

-- a code byte
code-zero : (z : Bool) (c : ℕ) (cs : List ℕ) → c ≡ 0 → group_bytes 0 z (c ∷ cs) ≡ none
unfolding group_bytes
code-zero z c cs e = rw (eq-eqb c 0 e)

code-short : (z : Bool) (c : ℕ) (cs : List ℕ) → length cs < c - 1 → group_bytes 0 z (c ∷ cs) ≡ none
unfolding group_bytes
code-short z c cs h = rw (short_none (c - 1) (ltb c 255) cs h) (either (eqb c 0 || last_one_after_full c cs))
  where
    either : (t : Bool) → cond {A = Option (List ℕ)} t none none ≡ none
    either true = refl
    either false = refl

code-last : (z : Bool) (c : ℕ) (cs : List ℕ) → last_one_after_full c cs ≡ true → group_bytes 0 z (c ∷ cs) ≡ none
unfolding group_bytes
code-last z c cs e = rw (e, or-true)

code_other : (z : Bool) (c : ℕ) (cs : List ℕ) → (c ≡ 0 → ⊥) → last_one_after_full c cs ≡ false
    → group_bytes 0 z (c ∷ cs) ≡ map (λ xs. implied_zero z ++ xs) (group_bytes (c - 1) (ltb c 255) cs)
unfolding group_bytes
code_other z c cs e l = rw (ne_eqb c 0 e, l)

-- ---- a run of code bytes 01

-- behind a group that holds a zero: each gives that zero, and holds another
ones-behind : (j o : ℕ) (cs : List ℕ) → counted o (group_bytes 0 true (replicate j 1 ++ cs)) ≡ counted (o + j) (group_bytes 0 true cs)
unfolding group_bytes
ones-behind zero o cs = ap (λ (p : ℕ). counted p (group_bytes 0 true cs)) (omega arith)
ones-behind (suc j) o cs =
    let e : o + 1 + j ≡ o + suc j = omega arith in
    counted-map o (0 ∷ []) (group_bytes 0 true (replicate j 1 ++ cs)) ∙ ones-behind j (o + 1) cs ∙ rw e

-- behind any group
ones-counted : (z : Bool) (j o : ℕ) (cs : List ℕ)
    → counted o (group_bytes 0 z (replicate (suc j) 1 ++ cs)) ≡ counted (o + one_if z + j) (group_bytes 0 true cs)
unfolding group_bytes
ones-counted z j o cs =
    counted-map o (implied_zero z) (group_bytes 0 true (replicate j 1 ++ cs)) ∙ rw length-zeros (ones-behind j (o + one_if z) cs)

-- ---- the group at an offset of the first n bytes of s

module _ (s : List ℕ) (n i : ℕ) where
  pub slice-next : i < n → n ≤ length s → slice i n s ≡ get_or s i 0 ∷ slice (i + 1) n s
  slice-next h k = rw add-one (slice-cons i n s 0 h k)

  pub slice-past : n ≤ i → n ≤ length s → slice i n s ≡ []
  slice-past h k = let l : length (take n s) ≤ i = rw (length-take-le n s k) h in drop_of_length-le (take n s) l

  module _ (z : Bool) (o : ℕ) where
    -- the length of the whole, where o bytes stand before the group
    abbrev pub Counted : Optional ℕ
    Counted = counted o (group_bytes 0 z (slice i n s))

    pub counted-end : n ≤ i → n ≤ length s → Some o ≡ Counted
    unfolding counted group_bytes
    counted-end h k = rw (slice-past h k) (ap Some (omega arith))

    module _ (c : ℕ) (h : i < n) (k : n ≤ length s) (e : c ≡ get_or s i 0) where
      at_code : slice i n s ≡ c ∷ slice (i + 1) n s
      at_code = rw e (slice-next h k)

      pub counted-zero : c ≡ 0 → None ≡ Counted
      unfolding counted
      counted-zero f = rw (at_code, code-zero z c (slice (i + 1) n s) f)

      pub counted-short : n - i < c → None ≡ Counted
      unfolding counted
      counted-short l =
          let m = length-slice (i + 1) n s k in
          rw (at_code, code-short z c (slice (i + 1) n s) (omega arith))

      pub counted-last : true ≡ last_one_after_full c (slice (i + 1) n s) → None ≡ Counted
      unfolding counted
      counted-last f = rw (at_code, code-last z c (slice (i + 1) n s) (sym f))

      counted-code : (c ≡ 0 → ⊥) → c ≤ n - i → false ≡ last_one_after_full c (slice (i + 1) n s)
          → Counted ≡ counted (o + one_if z + (c - 1)) (group_bytes 0 (leb c 254) (slice (i + c) n s))
      counted-code f l g =
          let m = length-slice (i + 1) n s k in
          let p : i + 1 + (c - 1) ≡ i + c = omega arith in
          rw (
            at_code,
            code_other z c (slice (i + 1) n s) f (sym g),
            counted-map o (implied_zero z),
            length-zeros,
            counted-run (c - 1) (o + one_if z) (ltb c 255) (slice (i + 1) n s) (omega arith),
            drop-drop,
            p,
            holds_test,
          )

-- ---- the length from the number of full groups

-- how many bytes are decoded of the i bytes read: all but one for each full group, and but a zero that is held
abbrev pub decoded_of : ℕ → ℕ → Bool → ℕ
decoded_of i full z = i - (full + one_if z)

-- a group holds a zero, or is full
pub one-if-not : (z : Bool) → one_if (not z) + one_if z ≡ 1
one-if-not true = refl
one-if-not false = refl

after-group : (i full c held less more : ℕ) → full + held ≤ i → (c ≡ 0 → ⊥) → less + more ≡ 1
    → i - (full + held) + held + (c - 1) ≡ i + c - (full + less + more)
after-group i full c held less more b f e = omega arith

module _ (s : List ℕ) (n i full : ℕ) (z : Bool) (b : full + one_if z ≤ i) where
  -- the group with the code byte c
  pub counted-group : (c : ℕ) → i < n → n ≤ length s → c ≡ get_or s i 0 → (c ≡ 0 → ⊥) → c ≤ n - i
      → false ≡ last_one_after_full c (slice (i + 1) n s)
      → Counted s n i z (decoded_of i full z)
      ≡ Counted s n (i + c) (leb c 254) (decoded_of (i + c) (full + one_if (not (leb c 254))) (leb c 254))
  counted-group c h k e f l g =
      let p : decoded_of i full z + one_if z + (c - 1) ≡ decoded_of (i + c) (full + one_if (not (leb c 254))) (leb c 254) =
      after-group i full c (one_if z) (one_if (not (leb c 254))) (one_if (leb c 254)) b f (one-if-not (leb c 254)) in
      rw p at (counted-code s n i z (decoded_of i full z) c h k e f l g)

  -- a run of code bytes 01: a zero each, the last of which is held
  pub counted-ones : (j : ℕ) → 0 < j → i + j ≤ n → run i j s ≡ replicate j 1
      → Counted s n i z (decoded_of i full z) ≡ Counted s n (i + j) true (decoded_of (i + j) full true)
  counted-ones zero l h r = absurd (omega arith)
  counted-ones (suc j) l h r =
      let p : decoded_of i full z + one_if z + j ≡ decoded_of (i + suc j) full true = omega arith in
      rw (alike_next s n i (suc j) 1 h r) (rw p at (ones-counted z j (decoded_of i full z) (slice (i + suc j) n s)))

-- ---- a last 01 after a full group

-- a list compared with one byte
equal-one : (b v : ℕ) → equal (b ∷ []) (v ∷ []) ≡ eqb b v
unfolding equal
equal-one b v = and-true (eqb b v)

equal-not-one : (xs : List ℕ) (v : ℕ) → (length xs ≡ 1 → ⊥) → equal xs (v ∷ []) ≡ false
unfolding equal
equal-not-one [] v h = refl
equal-not-one (x ∷ []) v h = absurd (h refl)
equal-not-one (x ∷ y ∷ ys) v h = and-false (eqb x v)

-- after the group with the code byte c at i, in the first n bytes of s
module _ (s : List ℕ) (n i c : ℕ) where
  module _ (h : 254 < c) (l : c < 256) (k : n ≤ length s) where
    last-behind : last_one_after_full c (slice (i + 1) n s) ≡ equal (slice (i + c) n s) (1 ∷ [])
    last-behind =
        let p : i + 1 + 254 ≡ i + c = omega arith in
        rw (eq-eqb c 255 (omega arith), drop-drop, p)

    pub last-others : (n - i - c ≡ 1 → ⊥) → false ≡ last_one_after_full c (slice (i + 1) n s)
    last-others f =
        let m = length-slice (i + c) n s k in
        sym (last-behind ∙ equal-not-one (slice (i + c) n s) 1 (λ e. f (omega arith)))

    pub last_byte : n - i - c ≡ 1 → eqb (get_or s (i + c) 0) 1 ≡ last_one_after_full c (slice (i + 1) n s)
    last_byte e =
        let p = slice-past s n (i + c + 1) (omega arith) k in
        let q : slice (i + c) n s ≡ get_or s (i + c) 0 ∷ [] = slice-next s n (i + c) (omega arith) k ∙ rw p in
        sym (last-behind ∙ rw (q, equal-one))
