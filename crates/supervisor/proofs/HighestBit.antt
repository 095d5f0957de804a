-- The highest set bit of a number, read off its leading zeros.
-- Assumes nothing.
use mathlib.Core.Path.{◌≡◌, refl}
use mathlib.Core.Bool.{Bool, true, false}
use mathlib.Core.Option.{Option, none, some}
use Prim.Native.Nat.{ℕ, zero, suc, ◌+◌, ◌*◌, ◌-◌, ◌^◌, ◌≤◌, ◌<◌}
use native.Mathlib.Nat.{div-eq_of_lt, div-eq_of_lt-le, pow-suc}
use native.Mathlib.Omega.{arith}
use lib.Dec.{leb}
use lib.Count.{count_leading_zeros, leading_unique}
use borrow.Author.Tests.{leb-true, leb-false, le-leb}
use Rattle.supervisor.specs.Local.{highest, at_most}
use Rattle.supervisor.proofs.ValidLaws.{alike}

-- how many bits reach up to a position; none where no bit is set
abbrev width : Option ℕ → ℕ
width none = 0
width (some k) = suc k

-- x has at most k bits: w holds it, and no shorter width does
abbrev Bounds : ℕ → ℕ → ℕ → Type 0
Bounds k x w = (w ≤ k) × (x < 2 ^ w) × (2 ^ w ≤ 2 * x + 1)

bounds : (k x : ℕ) → x < 2 ^ k → Bounds k x (width (highest k x))
unfolding highest
bounds zero x h = (omega arith, h, omega arith)
bounds (suc k) x h =
    by (leb (2 ^ k) x)
    (λ e.
    let l = leb-true (2 ^ k) x e in
    let p = pow-suc 2 k in
    rw (div-eq_of_lt-le {k = 1} (2 ^ k) {m = x} (omega arith) (omega arith)) (omega arith, h, omega arith))
    (λ e.
    let l = leb-false (2 ^ k) x e in
    let b = bounds k x l in
    rw (div-eq_of_lt l) (omega arith, b.1, b.2))
  where
    by : {A : Type 0} (t : Bool) → (t ≡ true → A) → (t ≡ false → A) → A
    by true f g = f refl
    by false f g = g refl

-- the zeros above the highest set bit
zeros : (k x : ℕ) → x < 2 ^ k → count_leading_zeros k x + width (highest k x) ≡ k
zeros k x h =
    let b = bounds k x h in
    let w = width (highest k x) in
    let e = leading_unique k x (k - w) w (omega arith) b.1 b.2 in
    omega arith

compared : (zs a most k : ℕ) (o : Option ℕ) → zs + width o ≡ k → a + suc most ≡ k → leb a zs ≡ at_most most o
compared zs a most k none e f = le-leb a zs (omega arith)
compared zs a most k (some j) e f =
    alike (leb a zs) (leb j most)
    (λ t. let l = leb-true a zs t in le-leb j most (omega arith)) (λ t. let l = leb-true j most t in le-leb a zs (omega arith))

-- at least so many leading zeros: the highest set bit is at most at the position that they leave
pub zeros-highest : (k x a most : ℕ) → x < 2 ^ k → a + suc most ≡ k → leb a (count_leading_zeros k x) ≡ at_most most (highest k x)
zeros-highest k x a most h e = compared (count_leading_zeros k x) a most k (highest k x) (zeros k x h) e
