-- Two bodies of one length, by the changes from the one to the other: when their checksums agree.
-- Assumes nothing.
use mathlib.Core.Path.{◌≡◌, refl, sym, ap, ◌∙◌}
use mathlib.Core.Logic.Iff
use mathlib.Core.Logic.{◌↔◌}
use mathlib.Core.List.{List, [], ◌∷◌}
use Prim.Native.Nat.{ℕ, zero, suc, ◌+◌, ◌*◌, ◌%◌, ◌≤◌, ◌<◌}
use native.Mathlib.Nat.{add-zero, zero-add, suc-add, mod-add-mod, add-mod-mod, dvd_of_mod-eq-zero, mod-eq-zero_of_dvd, dvd-mul_left_of_dvd}
use native.Mathlib.Omega.{arith}
use lib.ListN.{length, get_or}
use Rattle.octets.specs.Bytes.{Byte, Each}
use Rattle.line.specs.Checksum.{sums, checksum}
use Rattle.line_claims.specs.Changes.{Multiple, byte_change, byte_changes, weighed, summed, placed}
use Rattle.line_claims.specs.Item12.{ChecksumChanges}

-- ---- When the checksums agree

-- first sums that differ by d, then bytes x and y
first_on : (s d x y : ℕ) → Byte x → ((s + d) % 255 + y) % 255 ≡ ((s + x) % 255 + (d + byte_change x y)) % 255
first_on s d x y h =
    let e : s + x + (d + byte_change x y) ≡ s + d + y + 255 = omega arith in
    mod-add-mod (s + d) 255 y ∙ omega (arith, e) ∙ sym (mod-add-mod (s + x) 255 (d + byte_change x y))

-- second sums that differ by e, then first sums that differ by d
second-on : (t e n d : ℕ) → ((t + e) % 255 + (n + d) % 255) % 255 ≡ ((t + n) % 255 + (e + d)) % 255
second-on t e n d =
    mod-add-mod (t + e) 255 ((n + d) % 255) ∙ add-mod-mod (t + e) (n + d) 255 ∙ ap (λ m. m % 255) (omega arith)
    ∙ sym (mod-add-mod (t + n) 255 (e + d))

-- weights that are one higher count every change once more
weighed-suc : (weight : ℕ → ℕ) (cs : List ℕ) → weighed (λ i. suc (weight i)) cs ≡ summed cs + weighed weight cs
unfolding weighed
weighed-suc weight [] = refl
weighed-suc weight (c ∷ cs) = let r = weighed-suc (λ i. weight (suc i)) cs in omega arith

-- a change c more, ahead of changes that sum to m and by their places to n
one_more : (d e c m n : ℕ)
    → (Multiple (d + c + m) × ((e + (d + c)) % 255 ≡ n % 255)) ↔ (Multiple (d + (1 * c + m)) × (e % 255 ≡ (0 * c + (m + n)) % 255))
one_more d e c m n = omega arith

-- a checksum shows both sums
both : (s t s' t' : ℕ) → s < 255 → s' < 255 → t * 256 + s ≡ t' * 256 + s' → (s ≡ s') × (t ≡ t')
both s t s' t' h k e = omega arith

-- what a sum differs by is none where the sums are equal
no_difference : (s d : ℕ) → s < 255 → (s ≡ (s + d) % 255) ↔ Multiple d
no_difference s d h = omega arith

-- ahead of these bytes the first sums differ by d and the second ones by e
differing : (xs ys : List ℕ) (s t d e : ℕ) → length xs ≡ length ys → Each Byte xs → s < 255 → t < 255
    → (sums s t xs ≡ sums ((s + d) % 255) ((t + e) % 255) ys)
    ↔ (Multiple (d + summed (byte_changes xs ys)) × (e % 255 ≡ placed (byte_changes xs ys) % 255))
unfolding sums byte_changes weighed
differing [] [] s t d e l b h k = rw add-zero (
  λ f. let r = both s t ((s + d) % 255) ((t + e) % 255) h (omega arith) f in ((no_difference s d h).0 r.0, (no_difference t e k).0 r.1),
  λ m. rw (sym ((no_difference s d h).1 m.0), sym ((no_difference t e k).1 m.1)),
)
differing [] (y ∷ ys) s t d e l b h k = absurd (omega arith)
differing (x ∷ xs) [] s t d e l b h k = absurd (omega arith)
differing (x ∷ xs) (y ∷ ys) s t d e l b h k =
    let c = byte_change x y in
    let r =
    differing xs ys ((s + x) % 255) ((t + (s + x) % 255) % 255) (d + c) (e + (d + c)) (omega arith) b.1 (omega arith) (omega arith) in
    rw (first_on s d x y b.0, second-on t e ((s + x) % 255) (d + c), weighed-suc (λ i. i) (byte_changes xs ys))
    (Iff.trans r (one_more d e c (summed (byte_changes xs ys)) (placed (byte_changes xs ys))))

pub checksum_changes : ChecksumChanges
unfolding checksum
checksum_changes xs ys l b = Iff.trans (differing xs ys 0 0 0 0 l b (omega arith) (omega arith)) (omega arith)

-- ---- Changes at few places

-- a change is read as 255, that is none, past the end
pub changes-at : (xs ys : List ℕ) (i : ℕ) → length xs ≡ length ys → get_or (byte_changes xs ys) i 255
    ≡ byte_change (get_or xs i 0) (get_or ys i 0)
unfolding byte_changes
changes-at [] [] i l = refl
changes-at [] (y ∷ ys) i l = absurd (omega arith)
changes-at (x ∷ xs) [] i l = absurd (omega arith)
changes-at (x ∷ xs) (y ∷ ys) zero l = refl
changes-at (x ∷ xs) (y ∷ ys) (suc i) l = changes-at xs ys i (omega arith)

pub times : (n m : ℕ) → Multiple m → Multiple (n * m)
times n m h = mod-eq-zero_of_dvd 255 (dvd-mul_left_of_dvd 255 (dvd_of_mod-eq-zero 255 h) n)

-- no change but multiples of 255; none but one change; none but two, k places apart
none-weighed : (weight : ℕ → ℕ) (cs : List ℕ) → ((i : ℕ) → Multiple (get_or cs i 255)) → Multiple (weighed weight cs)
unfolding weighed
none-weighed weight [] h = refl
none-weighed weight (c ∷ cs) h = omega (arith, times (weight 0) c (h 0), none-weighed (λ i. weight (suc i)) cs (λ i. h (suc i)))

one-weighed : (weight : ℕ → ℕ) (p : ℕ) (cs : List ℕ) → ((i : ℕ) → (i ≡ p → ⊥) → Multiple (get_or cs i 255))
    → weighed weight cs % 255 ≡ weight p * get_or cs p 255 % 255
unfolding weighed
one-weighed weight p [] h = sym (times (weight p) 255 refl)
one-weighed weight zero (c ∷ cs) h = omega (arith, none-weighed (λ i. weight (suc i)) cs (λ i. h (suc i) (λ u. omega arith)))
one-weighed weight (suc p) (c ∷ cs) h =
    let r = one-weighed (λ i. weight (suc i)) p cs (λ i u. h (suc i) (λ e. u (omega arith))) in
    omega (arith, times (weight 0) c (h 0 (λ u. omega arith)))

pub two-weighed : (weight : ℕ → ℕ) (k p : ℕ) (cs : List ℕ) → 1 ≤ k → ((i : ℕ) → (i ≡ p → ⊥) → (i ≡ p + k → ⊥) → Multiple (get_or cs i 255))
    → weighed weight cs % 255 ≡ (weight p * get_or cs p 255 + weight (p + k) * get_or cs (p + k) 255) % 255
unfolding weighed
two-weighed weight k p [] l h = omega (arith, times (weight p) 255 refl, times (weight (p + k)) 255 refl)
two-weighed weight zero zero (c ∷ cs) l h = elim l [ ]
two-weighed weight (suc k) zero (c ∷ cs) l h =
    let r = one-weighed (λ i. weight (suc i)) k cs (λ i u. h (suc i) (λ e. omega arith) (λ e. u (omega arith))) in rw zero-add (omega arith)
two-weighed weight k (suc p) (c ∷ cs) l h =
    let r = two-weighed (λ i. weight (suc i)) k p cs l (λ i u v. h (suc i) (λ e. u (omega arith)) (λ e. v (omega arith))) in
    rw suc-add (omega (arith, times (weight 0) c (h 0 (λ u. omega arith) (λ u. omega arith))))
