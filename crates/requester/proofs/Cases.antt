-- What settles a contract by cases: tests that lead to each other.
-- Assumes nothing.
use mathlib.Core.Path.{◌≡◌, refl}
use mathlib.Core.Bool.{Bool, true, false, not, ◌&&◌, ◌||◌, false≢true, and-eq-true_iff}
use Prim.Native.Nat.{ℕ, ◌≤◌}
use lib.Dec.{leb}
use borrow.Author.Tests.{leb-true, le-leb}

-- a test that leads to what cannot be
pub untrue : (b : Bool) → (b ≡ true → ⊥) → false ≡ b
untrue true f = absurd (f refl)
untrue false f = refl

-- a test that is required where another holds
pub implied : (a b : Bool) → (not a || b) ≡ true → a ≡ true → b ≡ true
implied true b e h = e
implied false b e h = absurd (false≢true h)

pub implies : (a b : Bool) → (a ≡ true → b ≡ true) → (not a || b) ≡ true
implies true b f = f refl
implies false b f = refl

-- two tests, the first an order
pub le-and : (m n : ℕ) (b : Bool) → (leb m n && b) ≡ true → (m ≤ n) × (b ≡ true)
le-and m n b e = let t = (and-eq-true_iff (leb m n) b).0 e in (leb-true m n t.0, t.1)

pub and-le : (m n : ℕ) (b : Bool) → m ≤ n → b ≡ true → (leb m n && b) ≡ true
and-le m n b h k = (and-eq-true_iff (leb m n) b).1 (le-leb m n h, k)
