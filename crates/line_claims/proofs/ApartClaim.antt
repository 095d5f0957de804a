-- Two bodies of one length that differ at exactly two places: when their checksums agree.
-- Assumes nothing.
use mathlib.Core.Path.{◌≡◌, refl}
use mathlib.Core.Logic.Iff
use mathlib.Core.Logic.{◌↔◌}
use mathlib.Core.List.{List, [], ◌∷◌}
use Prim.Native.Nat.{ℕ, zero, suc, ◌+◌, ◌*◌, ◌≤◌}
use native.Mathlib.Omega.{arith}
use lib.ListN.{length, get_or}
use Rattle.octets.specs.Bytes.{Byte, Each}
use Rattle.line.specs.Checksum.{sums, checksum}
use Rattle.line_claims.specs.Changes.{Multiple, byte_changes, SameButAt, change_at, Missed}
use Rattle.line_claims.proofs.Changes.{checksum_changes, changes-at, times, two-weighed}
use Rattle.line_claims.specs.Item12.{ChecksumApart, Checksum255Apart, Opposite255Apart, Exchanged255Apart}

-- every byte of a list is below 256, and so is what it reads past its end
pub byte_at : (xs : List ℕ) → Each Byte xs → (i : ℕ) → Byte (get_or xs i 0)
byte_at [] h i = omega arith
byte_at (x ∷ xs) h zero = h.0
byte_at (x ∷ xs) h (suc i) = byte_at xs h.1 i

-- the sum of two changes, and of the two each times its place
two-changes : (k p c d : ℕ) → (Multiple (1 * c + 1 * d) × Multiple (p * c + (p + k) * d)) ↔ Missed k c d
two-changes k p c d = (λ m. omega (arith, times (p + k) (c + d) (omega arith)), λ m. omega (arith, times (p + k) (c + d) m.0))

-- lists that are the same but at two places, whether or not they differ there
pub same-but-two : (k p : ℕ) (xs ys : List ℕ) → 1 ≤ k → length xs ≡ length ys → SameButAt p (p + k) xs ys → Each Byte xs
    → (checksum xs ≡ checksum ys) ↔ Missed k (change_at p xs ys) (change_at (p + k) xs ys)
same-but-two k p xs ys h l same b =
    let cs = byte_changes xs ys in
    let none : (i : ℕ) → (i ≡ p → ⊥) → (i ≡ p + k → ⊥) → Multiple (get_or cs i 255) =
    λ i u v. rw (changes-at xs ys i l) (omega (arith, same i u v)) in
    let r = rw (two-weighed (λ i. 1) k p cs h none, two-weighed (λ i. i) k p cs h none) at (checksum_changes xs ys l b) in
    Iff.trans (rw (changes-at xs ys p l, changes-at xs ys (p + k) l) at r) (two-changes k p (change_at p xs ys) (change_at (p + k) xs ys))

pub checksum_apart : ChecksumApart
checksum_apart k p xs ys d g h = same-but-two k p xs ys d.apart d.lengths d.elsewhere g

-- ---- Places 255 apart

pub checksum_255_apart : Checksum255Apart
checksum_255_apart p xs ys d g h = let r = checksum_apart 255 p xs ys d g h in (λ e. (r.0 e).0, λ m. r.1 (m, omega arith))

pub opposite_255_apart : Opposite255Apart
opposite_255_apart p xs ys d g h e = (checksum_255_apart p xs ys d g h).1 (omega (arith, byte_at xs g p, byte_at xs g (p + 255)))

pub exchanged_255_apart : Exchanged255Apart
unfolding checksum sums
exchanged_255_apart = refl
