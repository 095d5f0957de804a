-- The laws of little-endian numbers and of their bytes, each over the width.
-- Assumes nothing.
use Prim.Native.Nat.{ℕ, zero, suc, ◌+◌, ◌*◌, ◌/◌, ◌%◌, ◌^◌, ◌≤◌, ◌<◌}
use mathlib.Core.Path.{◌≡◌, refl, sym, ap, ◌∙◌}
use mathlib.Core.List.{List, [], ◌∷◌, ◌++◌}
use native.Mathlib.Nat.{add-zero, pow-suc, pow-le-pow_right, div-lt_iff_lt-mul}
use native.Mathlib.Omega.{arith}
use lib.ListN.{length, drop, get_or, replicate, length-take, drop_of_length-le}
use lib.Seq.{take-nil, drop-cons}
use Rattle.octets.specs.Bytes.{Byte, Each, number, bytes, run, number_at}
use Rattle.octets.proofs.Each.{each-run}

-- ---- bytes

pub length-bytes : (k v : ℕ) → length (bytes k v) ≡ k
unfolding bytes
length-bytes zero v = refl
length-bytes (suc k) v = ap suc (length-bytes k (v / 256))

pub bytes-each : (k v : ℕ) → Each Byte (bytes k v)
unfolding bytes
bytes-each zero v = tt
bytes-each (suc k) v = (omega arith, bytes-each k (v / 256))

pub one_byte : (v : ℕ) → v < 256 → bytes 1 v ≡ v ∷ []
unfolding bytes
one_byte v h =
    let e : v % 256 ≡ v = omega arith in
    rw e

-- ---- there and back

pub number-bytes : (k v : ℕ) → v < 256 ^ k → number (bytes k v) ≡ v
unfolding number bytes
number-bytes zero v h = omega arith
number-bytes (suc k) v h =
    let ih = number-bytes k (v / 256) ((div-lt_iff_lt-mul (omega arith)).1 (rw pow-suc at h)) in
    omega arith

bytes-cons : (b n k : ℕ) → b < 256 → bytes (suc k) (b + n * 256) ≡ b ∷ bytes k n
unfolding bytes
bytes-cons b n k h =
    let q : (b + n * 256) / 256 ≡ n = omega arith in
    let r : (b + n * 256) % 256 ≡ b = omega arith in
    rw (q, r)

pub bytes-number : (bs : List ℕ) → Each Byte bs → bytes (length bs) (number bs) ≡ bs
unfolding number bytes
bytes-number [] h = refl
bytes-number (b ∷ bs) h = bytes-cons b (number bs) (length bs) h.0 ∙ ap (λ (l : List ℕ). b ∷ l) (bytes-number bs h.1)

pub number_bound : (bs : List ℕ) → Each Byte bs → number bs < 256 ^ length bs
unfolding number
number_bound [] h = omega arith
number_bound (b ∷ bs) h =
    let ih = number_bound bs h.1 in
    let l = h.0 in
    rw pow-suc (omega arith)

-- ---- a number at an offset

-- of k bytes
pub number_small : (k at : ℕ) (s : List ℕ) → Each Byte s → number_at k s at < 256 ^ k
number_small k at s b =
    let n = number_bound (run at k s) (each-run at k s b) in
    let l = length-take k (drop at s) in
    omega (arith, pow-le-pow_right {n = 256} (omega arith) {i = length (run at k s)} {j = k} (omega arith))

-- past the end it is 0
pub number-none : (k : ℕ) (s : List ℕ) (at : ℕ) → length s ≤ at → 0 ≡ number_at k s at
unfolding number
number-none k s at h = rw (drop_of_length-le s h, take-nil k)

-- of one byte it is the byte
pub number-one : (s : List ℕ) (at : ℕ) → at < length s → get_or s at 0 ≡ number_at 1 s at
unfolding number
number-one s at h = rw (drop-cons s at 0 h) (sym (add-zero (get_or s at 0)))

-- zeros behind add nothing
pub number-padded : (xs : List ℕ) (j n : ℕ) → number (xs ++ drop j (replicate n 0)) ≡ number xs
unfolding number
number-padded [] zero zero = refl
number-padded [] zero (suc n) = let h = number-padded [] zero n in omega arith
number-padded [] (suc j) zero = refl
number-padded [] (suc j) (suc n) = number-padded [] j n
number-padded (x ∷ xs) j n = let h = number-padded xs j n in omega arith

-- the number of bytes by their worth: one byte and those behind it
number-step : (i : ℕ) (bs : List ℕ) → number (drop i bs) ≡ get_or bs i 0 + number (drop (suc i) bs) * 256
unfolding number
number-step zero [] = refl
number-step zero (b ∷ bs) = refl
number-step (suc i) [] = refl
number-step (suc i) (b ∷ bs) = number-step i bs

number-past : (k : ℕ) (bs : List ℕ) → length bs ≡ k → number (drop k bs) ≡ 0
unfolding number
number-past k bs e =
    let h : length bs ≤ k = omega arith in
    rw (drop_of_length-le bs h)

pub number-of_2 : (bs : List ℕ) → length bs ≡ 2 → get_or bs 0 0 + get_or bs 1 0 * 256 ≡ number bs
number-of_2 bs e = omega (arith, number-step 0 bs, number-step 1 bs, number-past 2 bs e)

pub number-of_4 : (bs : List ℕ) → length bs ≡ 4
    → get_or bs 0 0 + get_or bs 1 0 * 256 + get_or bs 2 0 * 65536 + get_or bs 3 0 * 16777216 ≡ number bs
number-of_4 bs e = omega (arith, number-step 0 bs, number-step 1 bs, number-step 2 bs, number-step 3 bs, number-past 4 bs e)

pub number-of_8 : (bs : List ℕ) → length bs ≡ 8
    → get_or bs 0 0 + get_or bs 1 0 * 256 + get_or bs 2 0 * 65536 + get_or bs 3 0 * 16777216
    + get_or bs 4 0 * 4294967296 + get_or bs 5 0 * 1099511627776 + get_or bs 6 0 * 281474976710656 + get_or bs 7 0 * 72057594037927936
    ≡ number bs
number-of_8 bs e =
    omega (
      arith,
      number-step 0 bs,
      number-step 1 bs,
      number-step 2 bs,
      number-step 3 bs,
      number-step 4 bs,
      number-step 5 bs,
      number-step 6 bs,
      number-step 7 bs,
      number-past 8 bs e,
    )

pub bytes-of_2 : (v : ℕ) → v % 256 ∷ v / 256 % 256 ∷ [] ≡ bytes 2 v
unfolding bytes
bytes-of_2 v = refl

pub bytes-of_4 : (v : ℕ) → v % 256 ∷ v / 256 % 256 ∷ v / 65536 % 256 ∷ v / 16777216 % 256 ∷ [] ≡ bytes 4 v
unfolding bytes
bytes-of_4 v =
    let e2 : v / 65536 ≡ v / 256 / 256 = omega arith in
    let e3 : v / 16777216 ≡ v / 256 / 256 / 256 = omega arith in
    rw (e2, e3)

pub bytes-of_8 : (v : ℕ)
    → v % 256 ∷ v / 256 % 256 ∷ v / 65536 % 256 ∷ v / 16777216 % 256
    ∷ v / 4294967296 % 256 ∷ v / 1099511627776 % 256 ∷ v / 281474976710656 % 256 ∷ v / 72057594037927936 % 256 ∷ []
    ≡ bytes 8 v
unfolding bytes
bytes-of_8 v =
    let e2 : v / 65536 ≡ v / 256 / 256 = omega arith in
    let e3 : v / 16777216 ≡ v / 256 / 256 / 256 = omega arith in
    let e4 : v / 4294967296 ≡ v / 256 / 256 / 256 / 256 = omega arith in
    let e5 : v / 1099511627776 ≡ v / 256 / 256 / 256 / 256 / 256 = omega arith in
    let e6 : v / 281474976710656 ≡ v / 256 / 256 / 256 / 256 / 256 / 256 = omega arith in
    let e7 : v / 72057594037927936 ≡ v / 256 / 256 / 256 / 256 / 256 / 256 / 256 = omega arith in
    rw (e2, e3, e4, e5, e6, e7)
