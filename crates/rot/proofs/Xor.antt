-- Exclusive or of numbers: associativity, and numbers moved up by bits.
-- Assumes nothing.
use mathlib.Core.Path.{◌≡◌, refl, sym, ap, ◌∙◌}
use Prim.Native.Nat.{ℕ, zero, suc, ◌+◌, ◌*◌, ◌/◌, ◌%◌, ◌^◌, ◌<◌}
use native.Mathlib.Nat.{pow-suc}
use native.Mathlib.Omega.{arith}
use lib.Bits.{bit_xor, differ, xor_step, xor_comm, xor_block}

differ-lt : (x y : ℕ) → x < 2 → y < 2 → differ x y < 2
differ-lt zero zero a b = omega arith
differ-lt zero (suc zero) a b = omega arith
differ-lt zero (suc (suc y)) a b = absurd (omega arith)
differ-lt (suc zero) zero a b = omega arith
differ-lt (suc zero) (suc zero) a b = omega arith
differ-lt (suc zero) (suc (suc y)) a b = absurd (omega arith)
differ-lt (suc (suc x)) y a b = absurd (omega arith)

differ-assoc : (x y z : ℕ) → x < 2 → y < 2 → z < 2 → differ (differ x y) z ≡ differ x (differ y z)
differ-assoc zero zero zero a b c = refl
differ-assoc zero zero (suc zero) a b c = refl
differ-assoc zero zero (suc (suc z)) a b c = absurd (omega arith)
differ-assoc zero (suc zero) zero a b c = refl
differ-assoc zero (suc zero) (suc zero) a b c = refl
differ-assoc zero (suc zero) (suc (suc z)) a b c = absurd (omega arith)
differ-assoc zero (suc (suc y)) z a b c = absurd (omega arith)
differ-assoc (suc zero) zero zero a b c = refl
differ-assoc (suc zero) zero (suc zero) a b c = refl
differ-assoc (suc zero) zero (suc (suc z)) a b c = absurd (omega arith)
differ-assoc (suc zero) (suc zero) zero a b c = refl
differ-assoc (suc zero) (suc zero) (suc zero) a b c = refl
differ-assoc (suc zero) (suc zero) (suc (suc z)) a b c = absurd (omega arith)
differ-assoc (suc zero) (suc (suc y)) z a b c = absurd (omega arith)
differ-assoc (suc (suc x)) y z a b c = absurd (omega arith)

-- the bits above the lowest, and the lowest
module _ (a b : ℕ) where
  digit : differ (a % 2) (b % 2) < 2
  digit = differ-lt (a % 2) (b % 2) (omega arith) (omega arith)

  xor-half : bit_xor a b / 2 ≡ bit_xor (a / 2) (b / 2)
  xor-half = let d = digit in rw (xor_step a b) (omega arith)

  xor-odd : bit_xor a b % 2 ≡ differ (a % 2) (b % 2)
  xor-odd = let d = digit in rw (xor_step a b) (omega arith)

  pub xor-double : bit_xor a b * 2 ≡ bit_xor (a * 2) (b * 2)
  xor-double =
      let e = xor_block 1 a b 0 0 (omega arith) (omega arith) in
      let p : a * 2 ^ 1 + 0 ≡ a * 2 = omega arith in
      let q : b * 2 ^ 1 + 0 ≡ b * 2 = omega arith in
      let r : bit_xor a b * 2 ^ 1 + bit_xor 0 0 ≡ bit_xor a b * 2 = omega arith in
      sym r ∙ sym e ∙ rw (p, q)

-- numbers of k bits
pub xor_assoc : (k a b c : ℕ) → a < 2 ^ k → b < 2 ^ k → c < 2 ^ k → bit_xor (bit_xor a b) c ≡ bit_xor a (bit_xor b c)
xor_assoc zero a b c h i j =
    let x : a ≡ 0 = omega arith in
    let y : b ≡ 0 = omega arith in
    let z : c ≡ 0 = omega arith in
    rw (x, y, z)
xor_assoc (suc k) a b c h i j =
    let p = pow-suc 2 k in
    let r = xor_assoc k (a / 2) (b / 2) (c / 2) (omega arith) (omega arith) (omega arith) in
    rw (
      xor_step (bit_xor a b) c,
      xor_step a (bit_xor b c),
      xor-half a b,
      xor-half b c,
      xor-odd a b,
      xor-odd b c,
      r,
      differ-assoc (a % 2) (b % 2) (c % 2) (omega arith) (omega arith) (omega arith),
    )

pub xor-swap : (k a b c : ℕ) → a < 2 ^ k → b < 2 ^ k → c < 2 ^ k → bit_xor (bit_xor a b) c ≡ bit_xor (bit_xor a c) b
xor-swap k a b c h i j = xor_assoc k a b c h i j ∙ ap (bit_xor a) (xor_comm b c) ∙ sym (xor_assoc k a c b h j i)
