-- Laws of the bytes of a piece ahead of its first 00, and what a call of `collect` makes of them.
-- They speak of nothing inside the state. The crates above reason by them. Assumes nothing.
use mathlib.Core.Path.{◌≡◌, refl, ap, ◌∙◌}
use mathlib.Core.Bool.{true}
use mathlib.Core.List.{List, [], ◌∷◌, ◌++◌}
use mathlib.Core.Logic.{◌⊎◌, inl, inr}
use Prim.Native.Nat.{ℕ, zero, suc, ◌≤◌, ◌<◌}
use native.Mathlib.Omega.{arith}
use lib.Dec.{eqb-suc-zero}
use lib.ListN.{length, take, drop, get_or, take-append-drop}
use Rattle.octets.specs.Bytes.{Each}
use Rattle.line.specs.Reader.{more, valid_reader, pushed_all, ahead_of00, collect_promise}
use Rattle.line.proofs.Runs.{nonzero-prefix, nonzero-each}
use Rattle.line.proofs.Reading.{ahead-is, collect-keeps}

-- no 00 is among them
pub ahead-nonzero : (p : List ℕ) → Each (λ b. 1 ≤ b) (ahead_of00 p)
ahead-nonzero p = rw (ahead-is p) (nonzero-each (length p) p)

-- they begin the piece, and what is left of it stands behind them
pub ahead-prefix : (p : List ℕ) → ahead_of00 p ≡ take (length (ahead_of00 p)) p
ahead-prefix p = rw (ahead-is p) (nonzero-prefix (length p) p)

pub ahead-join : (p : List ℕ) → ahead_of00 p ++ drop (length (ahead_of00 p)) p ≡ p
ahead-join p =
    let n = length (ahead_of00 p) in ap (λ (l : List ℕ). l ++ drop n p) (ahead-prefix p) ∙ take-append-drop n p

-- they are the whole piece, or a 00 comes next
pub ahead-stops : (p : List ℕ) → let n = length (ahead_of00 p) in (n ≡ length p) ⊎ ((n < length p) × (get_or p n 0 ≡ 0))
unfolding ahead_of00
ahead-stops [] = inl refl
ahead-stops (zero ∷ p) = inr (omega arith, refl)
ahead-stops (suc b ∷ p) = rw eqb-suc-zero (by (ahead-stops p))
  where
    by : (length (ahead_of00 p) ≡ length p) ⊎ ((length (ahead_of00 p) < length p) × (get_or p (length (ahead_of00 p)) 0 ≡ 0))
        → (suc (length (ahead_of00 p)) ≡ suc (length p))
        ⊎ ((suc (length (ahead_of00 p)) < suc (length p)) × (get_or (suc b ∷ p) (suc (length (ahead_of00 p))) 0 ≡ 0))
    by (inl e) = inl (omega arith)
    by (inr h) = inr (omega arith, h.1)

-- a collect of a state that is read
pub collect-more : (s p : List ℕ) → valid_reader s ≡ true
    → collect_promise s p ≡ record { used = length (ahead_of00 p); answer = more; state = pushed_all s (ahead_of00 p) }
collect-more s p v = collect-keeps s p v ∙ rw (ahead-is p)
