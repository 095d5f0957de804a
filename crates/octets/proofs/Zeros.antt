-- Zeros put into a list: one more, all of them, and where they do not fit.
-- Assumes nothing.
use mathlib.Core.Path.{◌≡◌, refl, ap}
use mathlib.Core.List.{List, ◌∷◌, ◌++◌}
use Prim.Native.Nat.{ℕ, zero, suc, ◌+◌, ◌≤◌, ◌<◌}
use native.Mathlib.Omega.{arith}
use lib.ListN.{length, take, set, replicate, length-replicate, replicate-append-replicate}
use Rattle.octets.specs.Bytes.{Each, number, number_at, overlay, put}
use Rattle.octets.proofs.Overlay.{overlay-part, overlay-more, put-fits}

abbrev pub zeros : ℕ → List ℕ
zeros n = replicate n 0

pub zeros-add : (m n : ℕ) → zeros m ++ zeros n ≡ zeros (m + n)
zeros-add m n = replicate-append-replicate m n 0

pub length-zeros : (n : ℕ) → length (zeros n) ≡ n
length-zeros n = length-replicate n 0

module _ (at : ℕ) (s : List ℕ) where
  pub cleared_more : (i : ℕ) → at + i < length s → set (overlay at (zeros i) s) (at + i) 0 ≡ overlay at (zeros (i + 1)) s
  cleared_more i h =
      let m = overlay-more at 0 (zeros i) s (omega (arith, length-zeros i)) in
      rw (length-zeros i, zeros-add i 1) at m

  pub cleared-fits : (n : ℕ) → at + n ≤ length s → put at (zeros n) s ≡ overlay at (zeros n) s
  cleared-fits n h = put-fits at (zeros n) s (omega (arith, length-zeros n))

-- the first bytes of zeros are the number 0
zeros-none : (k : ℕ) → number (zeros k) ≡ 0
unfolding number
zeros-none zero = refl
zeros-none (suc k) = rw (zeros-none k)

pub zeros-number : (n k : ℕ) (s : List ℕ) → k ≤ n → number_at k (overlay 0 (zeros n) s) 0 ≡ 0
zeros-number n k s h =
    let l = length-zeros n in
    rw (overlay-part 0 0 k (zeros n) s (omega arith) (omega arith), take-zeros n k h)
    (zeros-none k)
  where
    take-zeros : (n k : ℕ) → k ≤ n → take k (zeros n) ≡ zeros k
    take-zeros n zero h = refl
    take-zeros zero (suc k) h = absurd (omega arith)
    take-zeros (suc n) (suc k) h = ap (λ (x : List ℕ). 0 ∷ x) (take-zeros n k (omega arith))

pub zeros-each : (P : ℕ → Type 0) (n : ℕ) → P 0 → Each P (zeros n)
zeros-each P zero p = tt
zeros-each P (suc n) p = (p, zeros-each P n p)
