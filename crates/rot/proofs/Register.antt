-- Laws of the CRC's register: eight bits of the message at once, by the table; bytes read from an offset on.
-- Assumes nothing.
use mathlib.Core.Path.{◌≡◌, refl, sym, ap, ◌∙◌}
use mathlib.Core.Bool.{Bool, true, false, cond}
use mathlib.Core.Logic.{◌⊎◌, inl, inr, ⊎_elim}
use mathlib.Core.List.{List, [], ◌∷◌, ◌++◌}
use Prim.Native.Nat.{ℕ, zero, suc, ◌+◌, ◌*◌, ◌-◌, ◌%◌, ◌/◌, ◌^◌, ◌<◌, ◌≤◌}
use native.Mathlib.Omega.{arith}
use native.Mathlib.Numerals.{add-one}
use native.Mathlib.Nat.{pow-suc, mul_assoc, mul_comm, mul_right_comm, add-mul, mul-le-mul_left, mul-lt-mul_of_pos_right, zero-add, zero-mul}
use native.Mathlib.Nat.{div-add-mod', mod-lt, div-lt_iff_lt-mul}
use lib.Pow.{pow_pos}
use lib.Bits.{bit_xor, xor_lt, xor_block, xor_shifted, xor_zero_r}
use lib.Dec.{leb, eqb}
use lib.ListN.{length, drop, get_or, drop_of_length-le}
use lib.Seq.{drop-cons}
use borrow.Author.Tests.{le-leb, lt-leb, leb-true, leb-false}
use Rattle.octets.proofs.Conditions.{cond-by}
use Rattle.rot.specs.Crc.{polynomial, doubled, after_bit, after_bits, bits, after_bytes, crc}
use Rattle.rot.specs.Table.{shift, shifts, table_entry}
use Rattle.rot.proofs.Xor.{xor-double, xor_assoc, xor-swap}

-- ---- the register stays below 2 ^ 32

doubled-lt : (c : ℕ) → doubled c < 2 ^ 32
doubled-lt c = omega arith

pub after-bit-lt : (c b : ℕ) → after_bit c b < 2 ^ 32
unfolding after_bit
after-bit-lt c b =
    cond-by (λ n. n < 2 ^ 32) (eqb (c / 2 ^ 31) b) _ _ (λ _. doubled-lt c)
    (λ _. xor_lt 32 (doubled c) polynomial (doubled-lt c) (omega arith))

pub after-bits-lt : (c : ℕ) (bs : List ℕ) → c < 2 ^ 32 → after_bits c bs < 2 ^ 32
unfolding after_bits
after-bits-lt c [] h = h
after-bits-lt c (b ∷ bs) h = after-bits-lt (after_bit c b) bs (after-bit-lt c b)

pub after-bytes-lt : (c : ℕ) (bs : List ℕ) → c < 2 ^ 32 → after_bytes c bs < 2 ^ 32
unfolding after_bytes
after-bytes-lt c [] h = h
after-bytes-lt c (b ∷ bs) h = after-bytes-lt (after_bits c (bits 8 b)) bs (after-bits-lt c (bits 8 b) h)

pub crc-lt : (bs : List ℕ) → crc bs < 2 ^ 32
unfolding crc
crc-lt bs = omega arith

-- ---- bytes of two lists, and of a list from an offset on

pub after-append : (c : ℕ) (xs ys : List ℕ) → after_bytes c (xs ++ ys) ≡ after_bytes (after_bytes c xs) ys
unfolding after_bytes
after-append c [] ys = refl
after-append c (x ∷ xs) ys = after-append (after_bits c (bits 8 x)) xs ys

pub after-step : (s : List ℕ) (i c next : ℕ) {end : ℕ} → i < length s → next ≡ after_bits c (bits 8 (get_or s i 0))
    → after_bytes c (drop i s) ≡ end → after_bytes next (drop (i + 1) s) ≡ end
unfolding after_bytes
after-step s i c next h n e = rw (n, add-one) (rw (drop-cons s i 0) at e)

pub after-end : (s : List ℕ) (i c : ℕ) {end : ℕ} → length s ≤ i → after_bytes c (drop i s) ≡ end → c ≡ end
unfolding after_bytes
after-end s i c h e = rw (drop_of_length-le s h) at e

-- ---- shifts

split-31 : (a : ℕ) → (a < 2 ^ 31) ⊎ (2 ^ 31 ≤ a)
split-31 a = known (leb (2 ^ 31) a) refl
  where
    known : (t : Bool) → leb (2 ^ 31) a ≡ t → (a < 2 ^ 31) ⊎ (2 ^ 31 ≤ a)
    known true e = inr (leb-true _ _ e)
    known false e = inl (leb-false _ _ e)

-- with the top bit set, and with it clear
shift-set : (r : ℕ) → shift (2 ^ 31 + r) ≡ bit_xor (r * 2) polynomial
unfolding shift
shift-set r =
    let e : 2 ^ 31 + r - 2 ^ 31 ≡ r = omega arith in
    rw (le-leb (2 ^ 31) (2 ^ 31 + r) (omega arith), e)

shift-clear : (r : ℕ) → r < 2 ^ 31 → shift r ≡ r * 2
unfolding shift
shift-clear r h = rw (lt-leb (2 ^ 31) r h)

above : (r l : ℕ) → r < 2 ^ 31 → l < 2 ^ 31 → bit_xor (2 ^ 31 + r) l ≡ 2 ^ 31 + bit_xor r l
above r l h i =
    let e = xor_block 31 1 0 r l h i in
    let p : 1 * 2 ^ 31 + r ≡ 2 ^ 31 + r = omega arith in
    let q : 0 * 2 ^ 31 + l ≡ l = omega arith in
    rw (p, q) at e

-- a part whose top bit is clear goes through a shift by itself
shift_top : (r l : ℕ) → r < 2 ^ 31 → l < 2 ^ 31 → shift (bit_xor (2 ^ 31 + r) l) ≡ bit_xor (shift (2 ^ 31 + r)) (l * 2)
shift_top r l h i =
    rw (above r l h i, shift-set (bit_xor r l), shift-set r, xor-double r l)
    (xor-swap 32 (r * 2) (l * 2) polynomial (omega arith) (omega arith) (omega arith))

shift-low : (a l : ℕ) → a < 2 ^ 32 → l < 2 ^ 31 → shift (bit_xor a l) ≡ bit_xor (shift a) (l * 2)
shift-low a l h i =
    ⊎_elim
    (λ (e : a < 2 ^ 31). rw (shift-clear (bit_xor a l) (xor_lt 31 a l e i), shift-clear a e) (xor-double a l))
    (λ (e : 2 ^ 31 ≤ a).
    let r : 2 ^ 31 + (a - 2 ^ 31) ≡ a = omega arith in
    rw r at (shift_top (a - 2 ^ 31) l (omega arith) i))
    (split-31 a)

shift-lt : (a : ℕ) → a < 2 ^ 32 → shift a < 2 ^ 32
unfolding shift
shift-lt a h =
    cond-by (λ n. n < 2 ^ 32) (leb (2 ^ 31) a) _ _
    (λ t. xor_lt 32 ((a - 2 ^ 31) * 2) polynomial (omega (arith, leb-true (2 ^ 31) a t)) (omega arith))
    (λ t. omega (arith, leb-false (2 ^ 31) a t))

-- n shifts of a part whose n top bits are clear
shifts-low : (n a l : ℕ) → a < 2 ^ 32 → l * 2 ^ n < 2 ^ 32 → shifts n (bit_xor a l) ≡ bit_xor (shifts n a) (l * 2 ^ n)
unfolding shifts
shifts-low zero a l h i = let e : l * 2 ^ 0 ≡ l = omega arith in rw e
shifts-low (suc n) a l h i =
    let p = pow-suc 2 n in
    let e : l * 2 * 2 ^ n ≡ l * 2 ^ suc n = rw p (mul_assoc l 2 (2 ^ n) ∙ ap (λ x. l * x) (mul_comm 2 (2 ^ n))) in
    let o = pow_pos n in
    let m : l * 2 ≤ l * 2 ^ suc n = mul-le-mul_left l (omega arith) in
    let k : l < 2 ^ 31 = omega arith in
    rw (shift-low a l h k, shifts-low n (shift a) (l * 2) (shift-lt a h) (rw e i), e)

-- ---- the message's bits as shifts

-- one bit meets the register's top bit q, above r
bit-meets : (q t r : ℕ) → q < 2 → t < 2 → r < 2 ^ 31
    → cond (eqb q t) (r * 2) (bit_xor (r * 2) polynomial) ≡ shift (bit_xor q t * 2 ^ 31 + r)
bit-meets zero zero r a b h = rw zero-add (sym (shift-clear r h))
bit-meets zero (suc zero) r a b h = sym (shift-set r)
bit-meets (suc zero) zero r a b h = sym (shift-set r)
bit-meets (suc zero) (suc zero) r a b h = rw zero-add (sym (shift-clear r h))
bit-meets zero (suc (suc t)) r a b h = absurd (omega arith)
bit-meets (suc zero) (suc (suc t)) r a b h = absurd (omega arith)
bit-meets (suc (suc q)) t r a b h = absurd (omega arith)

bit-shift : (c t : ℕ) → c < 2 ^ 32 → t < 2 → after_bit c t ≡ shift (bit_xor c (t * 2 ^ 31))
unfolding after_bit
bit-shift c t h i =
    let e = xor_block 31 (c / 2 ^ 31) t (c % 2 ^ 31) 0 (omega arith) (omega arith) in
    let p : c / 2 ^ 31 * 2 ^ 31 + c % 2 ^ 31 ≡ c = omega arith in
    let q : t * 2 ^ 31 + 0 ≡ t * 2 ^ 31 = omega arith in
    rw (rw (p, q, xor_zero_r (c % 2 ^ 31)) at e) (bit-meets (c / 2 ^ 31) t (c % 2 ^ 31) (omega arith) i (omega arith))

-- n bits at the register's top, which p moves there
bits-shift : (n p v c : ℕ) → 0 < p → p * 2 ^ n ≡ 2 ^ 32 → v < 2 ^ n → c < 2 ^ 32 → after_bits c (bits n v) ≡ shifts n (bit_xor c (v * p))
unfolding after_bits bits shifts
bits-shift zero p v c o e h i =
    let none : v ≡ 0 = omega arith in
    rw (none, zero-mul p, xor_zero_r c)
bits-shift (suc n) p v c o e h i =
    let t = v / 2 ^ n in
    let r = v % 2 ^ n in
    let half : p * 2 ^ n ≡ 2 ^ 31 = let d = rw (pow-suc 2 n, ← mul_assoc p (2 ^ n) 2) at e in omega arith in
    let top : t < 2 = (div-lt_iff_lt-mul (pow_pos n)).1 (rw (pow-suc 2 n, mul_comm (2 ^ n) 2) at h) in
    let low : r * p < 2 ^ 31 = omega (arith, mul-lt-mul_of_pos_right {m = r} {n = 2 ^ n} {k = p} (mod-lt v (pow_pos n)) o) in
    let split : v * p ≡ t * 2 ^ 31 + r * p =
    ap (λ (x : ℕ). x * p) (sym (div-add-mod' v (2 ^ n))) ∙ add-mul (t * 2 ^ n) r p
    ∙ ap (λ (x : ℕ). x + r * p) (mul_assoc t (2 ^ n) p ∙ ap (λ (x : ℕ). t * x) (mul_comm (2 ^ n) p ∙ half)) in
    let meets : bit_xor c (v * p) ≡ bit_xor (bit_xor c (t * 2 ^ 31)) (r * p) =
    rw (split, ← xor_shifted t 31 (r * p) low) (sym (xor_assoc 32 c (t * 2 ^ 31) (r * p) i (omega arith) (omega arith))) in
    let twice : p * 2 * 2 ^ n ≡ 2 ^ 32 = omega (arith, mul_right_comm p 2 (2 ^ n)) in
    let there : r * p * 2 ≡ r * (p * 2) = mul_assoc r p 2 in
    rw (meets, shift-low (bit_xor c (t * 2 ^ 31)) (r * p) (xor_lt 32 c (t * 2 ^ 31) i (omega arith)) low, ← bit-shift c t i top, there)
    (bits-shift n (p * 2) r (after_bit c t) (omega arith) twice (mod-lt v (pow_pos n)) (after-bit-lt c t))

-- ---- a byte by the table: one look for the register's top byte and the message's
pub by-table : (c b : ℕ) → c < 2 ^ 32 → b < 2 ^ 8
    → after_bits c (bits 8 b) ≡ bit_xor (table_entry (bit_xor (c / 2 ^ 24) b)) (c % 2 ^ 24 * 2 ^ 8)
unfolding table_entry
by-table c b h i =
    let t = c / 2 ^ 24 in
    let l = c % 2 ^ 24 in
    let p : t * 2 ^ 24 + l ≡ c = omega arith in
    let q : b * 2 ^ 24 + 0 ≡ b * 2 ^ 24 = omega arith in
    let top : bit_xor t b < 2 ^ 8 = xor_lt 8 t b (omega arith) i in
    let met : bit_xor c (b * 2 ^ 24) ≡ bit_xor t b * 2 ^ 24 + l =
    rw (p, q, xor_zero_r l) at (xor_block 24 t b l 0 (omega arith) (omega arith)) in
    rw (bits-shift 8 (2 ^ 24) b c (omega arith) refl i h, met, ← xor_shifted (bit_xor t b) 24 l (omega arith))
    (shifts-low 8 (bit_xor t b * 2 ^ 24) l (omega arith) (omega arith))

-- the laws that the sources name
pub ruleset register_laws = (after-append, by-table)
