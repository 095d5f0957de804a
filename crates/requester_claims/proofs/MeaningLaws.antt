-- A law of document 02's words: a byte that does not stop a call of receive.
-- Assumes nothing.
use mathlib.Core.Path.{◌≡◌, refl, sym, ◌∙◌}
use mathlib.Core.Bool.{Bool, true, false, ◌||◌, false≢true}
use Prim.Native.Nat.{ℕ, zero, suc, ◌≤◌}
use native.Mathlib.Omega.{arith}
use lib.Dec.{eqb}
use borrow.Author.Tests.{eqb-false}
use Rattle.line.specs.Judge.{more_received}
use Rattle.requester.specs.State.{MainState}
use Rattle.requester.specs.Requester
use Rattle.requester.specs.Requester.{main_byte, dropped}

either : (a b : Bool) → (a || b) ≡ false → (a ≡ false) × (b ≡ false)
either true b e = absurd (false≢true (sym e))
either false b e = (refl, e)

byte_more : (s : MainState) (b : ℕ) → eqb b 0 ≡ false → main_byte s b ≡ Requester.main_more s.received b s
unfolding main_byte
byte_more s b e = rw e

-- it changes the receive progress alone, and hands nothing out
pub quiet-byte : (s : MainState) (b : ℕ) → Requester.stops s b ≡ false
    → main_byte s b ≡ dropped (Requester.main_with_received s (more_received s.received b))
quiet-byte s b e =
    let h = either (eqb b 0) (Requester.fills s.received) e in
    byte_more s b h.0 ∙ rw h.1

pub positive : (n : ℕ) → (n ≡ 0 → ⊥) → 1 ≤ n
positive zero f = absurd (f refl)
positive (suc n) f = omega arith

-- it is not 00
pub quiet-positive : (s : MainState) (b : ℕ) → Requester.stops s b ≡ false → 1 ≤ b
quiet-positive s b e = let f = eqb-false b 0 (either (eqb b 0) (Requester.fills s.received) e).0 in positive b f
