-- Byte strings of one length that agree except in one byte or two neighbouring bytes: equal checksums exactly at 00 against ff.
-- Assumes nothing.
use mathlib.Core.Logic.{◌↔◌, inl, inr}
use Prim.Native.Nat.{ℕ, ◌+◌}
use native.Mathlib.Omega.{arith}
use native.Mathlib.Decide.{ℕ_discrete}
use lib.ListN.{get_or}
use Rattle.octets.specs.Bytes.{Byte}
use Rattle.line_claims.specs.Changes.{Multiple, byte_change, change_at, SameOr00Ff}
use Rattle.line_claims.proofs.ApartClaim.{byte_at, same-but-two}
use Rattle.line_claims.specs.Demand3.{ChecksumClaim}

-- the change from one byte to another is a multiple of 255 exactly then
alike : (x y : ℕ) → Byte x → Byte y → Multiple (byte_change x y) ↔ SameOr00Ff x y
alike x y h k = (
  λ m. elim (ℕ_discrete x y) [
    | yes p ↦ inl p
    | no p ↦ inr (elim (ℕ_discrete x 0) [ yes q ↦ inl (q, omega arith) | no q ↦ inr (omega arith, omega arith) ])
  ],
  λ a. elim a [ inl p ↦ omega arith | inr q ↦ elim q [ inl p ↦ omega arith | inr p ↦ omega arith ] ],
)

pub checksum_claim : ChecksumClaim
checksum_claim xs ys n h k =
    let p = n.place in
    let r = same-but-two 1 p xs ys (omega arith) n.lengths n.elsewhere h in
    let at : (i : ℕ) → Multiple (change_at i xs ys) ↔ SameOr00Ff (get_or xs i 0) (get_or ys i 0) =
    λ i. alike _ _ (byte_at xs h i) (byte_at ys k i) in (
      λ e i. elim (ℕ_discrete i p) [
        | yes u ↦ (at i).0 (rw u (omega (arith, r.0 e)))
        | no u ↦ elim (ℕ_discrete i (p + 1)) [ yes v ↦ (at i).0 (rw v (omega (arith, r.0 e))) | no v ↦ inl (n.elsewhere i u v) ]
      ],
      λ a. r.1 (omega (arith, (at p).1 (a p), (at (p + 1)).1 (a (p + 1)))),
    )
