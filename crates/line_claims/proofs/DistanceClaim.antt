-- The distances at which the checksum misses more than 00 against ff.
-- They are those that share a factor with 255, which is 3 times 5 times 17. Assumes nothing.
use mathlib.Core.Path.{◌≡◌, refl, sym, ap, ◌∙◌}
use mathlib.Core.Bool.{Bool, true, false, cond}
use mathlib.Core.Logic.Iff
use mathlib.Core.Logic.{◌↔◌, ◌⊎◌, inl, inr}
use Prim.Native.Nat.{ℕ, zero, suc, ◌-◌, ◌*◌, ◌/◌, ◌%◌, ◌<◌}
use native.Mathlib.Nat.{zero-mul, mul_comm, zero-mod, mod-lt, mod-add-div, add-mul-mod_self_left}
use native.Mathlib.Omega.{arith}
use native.Mathlib.Decide.{ℕ_discrete}
use lib.Dec.{eqb}
use borrow.Author.Tests.{eqb-true}
use Rattle.octets.proofs.Conditions.{cond-by}
use Rattle.line_claims.specs.Changes.{Multiple, change_at, DividesOne, Factors}
use Rattle.line_claims.proofs.ApartClaim.{checksum_apart}
use Rattle.line_claims.specs.Item12.{ChecksumDistance}

-- ---- A prime number that divides a product divides a factor: tried for all remainders

-- a test holds of every number below n
abbrev below : ℕ → (ℕ → Bool) → Bool
below zero test = true
below (suc n) test = cond (test n) (below n test) false

below_at : (n : ℕ) (test : ℕ → Bool) → below n test ≡ true → (i : ℕ) → i < n → test i ≡ true
below_at zero test e i h = absurd (omega arith)
below_at (suc n) test e i h =
    cond-by (λ b. b ≡ true → test i ≡ true) (test n) (below n test) false
    (λ t r. elim (ℕ_discrete i n) [ yes p ↦ rw p t | no p ↦ below_at n test r i (omega arith) ])
    (λ t r. absurd (let z : ◌≡◌ {A = ℕ} 0 1 = cc in omega arith)) e

-- the product of a and b is no multiple of n unless it is 0; so for all a and b below n
abbrev zero_only : ℕ → ℕ → ℕ → Bool
zero_only n a b = cond (eqb (a * b % n) 0) (eqb (a * b) 0) true

abbrev prime : ℕ → Bool
prime n = below n (λ a. below n (zero_only n a))

-- only remainders count
product-mod : (n k c : ℕ) → k * c % n ≡ k % n * c % n
product-mod n k c =
    ap (λ m. m * c % n) (sym (mod-add-div k n)) ∙ ap (λ m. m % n) (omega arith) ∙ add-mul-mod_self_left (k % n * c) n (k / n * c)

zero-factor : (a b : ℕ) → a * b ≡ 0 → (a ≡ 0) ⊎ (b ≡ 0)
zero-factor zero b e = inl refl
zero-factor (suc a) zero e = inr refl
zero-factor (suc a) (suc b) e = absurd (omega arith)

divides-one : (n k c : ℕ) → 0 < n → prime n ≡ true → (k * c % n ≡ 0) ↔ DividesOne n k c
divides-one n k c h p = (
  λ e.
      let m : k % n * (c % n) % n ≡ 0 = rw mul_comm (sym (product-mod n c (k % n)) ∙ rw mul_comm (sym (product-mod n k c) ∙ e)) in
      let t : zero_only n (k % n) (c % n) ≡ true =
      below_at n (zero_only n (k % n)) (below_at n (λ a. below n (zero_only n a)) p (k % n) (mod-lt k h)) (c % n) (mod-lt c h) in
      zero-factor (k % n) (c % n) (eqb-true _ _ (rw m at t)),
  λ d.
      elim d
      [ inl e ↦ rw (product-mod n k c, e, zero-mul, zero-mod) | inr e ↦ rw (mul_comm k c, product-mod n c k, e, zero-mul, zero-mod) ],
)

-- ---- 255 divides a number where 3, 5 and 17 do

three-primes : (m : ℕ) → Multiple m ↔ ((m % 3 ≡ 0) × ((m % 5 ≡ 0) × (m % 17 ≡ 0)))
three-primes m = (
  λ h. omega arith,
  λ h.
      let t : m ≡ 15 * (2 * (m / 5) - m / 3) = omega arith in
      let u : m ≡ 255 * (8 * (2 * (m / 5) - m / 3) - 9 * (m / 17)) = omega arith in
      omega arith,
)

pub multiple-factors : (k c : ℕ) → Multiple (k * c) ↔ Factors k c
multiple-factors k c =
    Iff.trans (three-primes (k * c))
    (Iff.and (divides-one 3 k c (omega arith) refl)
    (Iff.and (divides-one 5 k c (omega arith) refl) (divides-one 17 k c (omega arith) refl)))

pub checksum_distance : ChecksumDistance
checksum_distance k p xs ys d g h = Iff.trans (checksum_apart k p xs ys d g h) (Iff.and Iff.rfl (multiple-factors k (change_at p xs ys)))
