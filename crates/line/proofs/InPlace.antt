-- The middle of decoding a COBS form in place. The bytes decoded so far stand at the start, and what is to be read is as it was.
-- Assumes nothing.
use mathlib.Core.Path.{◌≡◌, refl, sym, ap, ◌∙◌}
use mathlib.Core.Bool.{Bool, true, false, cond}
use mathlib.Core.List.{List, [], ◌∷◌, ◌++◌, append_assoc, append-nil}
use Prim.Native.Nat.{ℕ, zero, suc, min, ◌+◌, ◌-◌, ◌≤◌, ◌<◌}
use native.Mathlib.Nat.{zero-add}
use native.Mathlib.Omega.{arith}
use lib.Dec.{leb, ltb}
use lib.ListN.{length, take, drop, get_or, set, replicate, length-append, length-replicate}
use lib.Seq.{slice, length-slice, drop-drop}
use Rattle.octets.specs.Bytes.{run, overlay}
use Rattle.octets.proofs.Overlay.{length_run, overlay-none, overlay-after, overlay-next, overlay-more, overlay-get_d-after}
use Rattle.line.specs.Cobs.{implied_zero}
use Rattle.line.specs.Decoding.{one_if, plain_group, plain}
use Rattle.line.proofs.Alike.{run-within, alike_next}
use Rattle.line.proofs.Decoding.{one-if-most, length-zeros, holds_test, slice-next, slice-past}

-- the bytes of a group, as many as there are
plain-run : (left k : ℕ) (z : Bool) (bs : List ℕ) → k ≡ min left (length bs)
    → plain_group left z bs ≡ take k bs ++ plain_group 0 z (drop k bs)
unfolding plain_group
plain-run zero zero z bs e = refl
plain-run zero (suc k) z bs e = absurd (omega arith)
plain-run (suc left) zero z [] e = refl
plain-run (suc left) (suc k) z [] e = absurd (omega arith)
plain-run (suc left) zero z (b ∷ bs) e = absurd (omega arith)
plain-run (suc left) (suc k) z (b ∷ bs) e = ap (λ (l : List ℕ). b ∷ l) (plain-run left k z bs (omega arith))

-- a code byte and the bytes of its group
plain_code : (z : Bool) (c k : ℕ) (cs : List ℕ) → k ≡ min (c - 1) (length cs)
    → plain_group 0 z (c ∷ cs) ≡ implied_zero z ++ (take k cs ++ plain_group 0 (ltb c 255) (drop k cs))
unfolding plain_group
plain_code z c k cs e = ap (λ (l : List ℕ). implied_zero z ++ l) (plain-run (c - 1) k (ltb c 255) cs e)

-- a held zero, put after the bytes decoded
zero-put : (z : Bool) (d s : List ℕ) → length d < length s
    → cond z (set (overlay 0 d s) (length d) 0) (overlay 0 d s) ≡ overlay 0 (d ++ implied_zero z) s
zero-put true d s h = rw zero-add at (overlay-more 0 0 d s (omega arith))
zero-put false d s h = rw append-nil

-- k bytes moved from one offset to another
abbrev moved : List ℕ → ℕ → ℕ → ℕ → List ℕ
moved s from to k = overlay to (run from k s) s

-- a run, moved down behind the bytes decoded
run_moved : (d s : List ℕ) (from k : ℕ) → length d ≤ from → from + k ≤ length s
    → moved (overlay 0 d s) from (length d) k ≡ overlay 0 (d ++ run from k s) s
run_moved d s from k h l =
    let n = overlay-next 0 d (run from k s) s (omega arith) in
    rw (overlay-after 0 from k d s (omega arith) (omega arith)) (rw zero-add at n)

length-held : (d : List ℕ) (z : Bool) → length (d ++ implied_zero z) ≡ length d + one_if z
length-held d z = simp (length-append, length-zeros)

-- one group, put after the bytes decoded
group-put : (z : Bool) (d s : List ℕ) (from k : ℕ) → length d + one_if z ≤ from → length d < length s → from + k ≤ length s
    → moved (cond z (set (overlay 0 d s) (length d) 0) (overlay 0 d s)) from (length d + one_if z) k
    ≡ overlay 0 ((d ++ implied_zero z) ++ run from k s) s
group-put z d s from k h l f =
    let e = length-held d z in
    rw (zero-put z d s l, ← e) (run_moved (d ++ implied_zero z) s from k (omega arith) f)

-- one group, read at an offset of the first n bytes of s
group-read : (z : Bool) (s : List ℕ) (n i c k : ℕ) → i < n → n ≤ length s → c ≡ get_or s i 0 → k ≡ min (c - 1) (n - (i + 1))
    → plain_group 0 z (slice i n s) ≡ implied_zero z ++ (run (i + 1) k s ++ plain_group 0 (leb c 254) (slice (i + 1 + k) n s))
group-read z s n i c k h l e f =
    let u = length-slice (i + 1) n s l in
    let p = plain_code z c k (slice (i + 1) n s) (omega arith) in
    rw (slice-next s n i h l, ← e) (rw (run-within (i + 1) k n s (omega arith), drop-drop, ← holds_test) at p)

-- t is s in the middle of the decoding of its first n bytes.
-- So far i bytes are read and o are decoded, and z says whether a zero is held.
pub record Middle (s : List ℕ) (n : ℕ) (t : List ℕ) (z : Bool) (o i : ℕ) : Type 0 where
  pub decoded : List ℕ
  pub long : length decoded ≡ o
  pub behind : o + one_if z ≤ i
  pub stands : t ≡ overlay 0 decoded s
  pub whole : plain (take n s) ≡ decoded ++ plain_group 0 z (slice i n s)

pub middle-start : (s : List ℕ) (n : ℕ) → Middle s n s false 0 0
unfolding plain
middle-start s n = record { decoded = []; long = refl; behind = omega arith; stands = sym (overlay-none 0 s); whole = refl }

pub middle-end : (s : List ℕ) (n : ℕ) (t : List ℕ) (z : Bool) (o i : ℕ) → Middle s n t z o i → n ≤ i → n ≤ length s
    → t ≡ overlay 0 (plain (take n s)) s
unfolding plain_group
middle-end s n t z o i m h l =
    let e : plain (take n s) ≡ m.decoded = m.whole ∙ rw (slice-past s n i h l, append-nil) in
    rw e m.stands

-- one group, whose code byte is c
pub middle-next : (s : List ℕ) (n : ℕ) (t : List ℕ) (z : Bool) (o i c k : ℕ) → Middle s n t z o i → i < n → n ≤ length s
    → c ≡ get_or t i 0 → k ≡ min (c - 1) (n - (i + 1))
    → Middle s n (moved (cond z (set t o 0) t) (i + 1) (o + one_if z) k) (leb c 254) (o + one_if z + k) (i + 1 + k)
middle-next s n t z o i c k m h l e f =
    let d = m.decoded in
    let p : get_or t i 0 ≡ get_or s i 0 = rw m.stands (overlay-get_d-after 0 i 0 d s (omega arith) (omega arith)) in
    let q = length-held d z in
    let r = length_run (i + 1) k s (omega arith) in
    record {
      decoded = (d ++ implied_zero z) ++ run (i + 1) k s;
      long = length-append (d ++ implied_zero z) (run (i + 1) k s) ∙ rw (q, r, m.long);
      behind = omega (arith, one-if-most (leb c 254));
      stands = rw (m.stands, ← m.long) (group-put z d s (i + 1) k (omega arith) (omega arith) (omega arith));
      whole = m.whole ∙ rw (group-read z s n i c k h l (e ∙ p) f) (simp append_assoc);
    }

-- code bytes 01 behind a group that holds a zero
ones-plain : (j : ℕ) (cs : List ℕ) → plain_group 0 true (replicate j 1 ++ cs) ≡ replicate j 0 ++ plain_group 0 true cs
unfolding plain_group
ones-plain zero cs = refl
ones-plain (suc j) cs = ap (λ (l : List ℕ). 0 ∷ l) (ones-plain j cs)

-- j of them, in the place of which j zeros are decoded
pub middle-ones : (s : List ℕ) (n : ℕ) (t : List ℕ) (z : Bool) (o i j : ℕ) → z ≡ true → Middle s n t z o i → i + j ≤ n → n ≤ length s
    → run i j t ≡ replicate j 1 → Middle s n (overlay o (replicate j 0) t) z (o + j) (i + j)
middle-ones s n t false o i j e m h l r = let x : ◌≡◌ {A = ℕ} 0 1 = cc in absurd (omega arith)
middle-ones s n t true o i j e m h l r =
    let d = m.decoded in
    let k = length-replicate {A = ℕ} j 0 in
    let p : run i j s ≡ replicate j 1 = sym (overlay-after 0 i j d s (omega arith) (omega arith)) ∙ rw m.stands at r in
    record {
      decoded = d ++ replicate j 0;
      long = length-append d (replicate j 0) ∙ rw (k, m.long);
      behind = omega (arith, m.behind);
      stands = rw (m.stands, ← m.long) (rw zero-add at (overlay-next 0 d (replicate j 0) s (omega arith)));
      whole = m.whole ∙ rw (alike_next s n i j 1 h p, ones-plain j (slice (i + j) n s)) (simp append_assoc);
    }
