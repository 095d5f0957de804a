-- Laws of the checksum: its range, and its sums at a list's end.
-- Assumes nothing.
use mathlib.Core.Path.{◌≡◌}
use mathlib.Core.List.{List, [], ◌∷◌}
use Prim.Native.Nat.{ℕ, ◌+◌, ◌*◌, ◌/◌, ◌%◌, ◌≤◌, ◌<◌}
use native.Mathlib.Omega.{arith}
use lib.ListN.{length, drop, drop_of_length-le}
use Rattle.line.specs.Checksum.{sums, checksum}

sums-low : (bs : List ℕ) (first second : ℕ) → first < 255 → second < 255
    → (sums first second bs % 256 < 255) × (sums first second bs / 256 < 255)
unfolding sums
sums-low [] first second h k = (omega arith, omega arith)
sums-low (b ∷ bs) first second h k = sums-low bs _ _ (omega arith) (omega arith)

-- neither byte of a checksum is ff
pub checksum-low : (bs : List ℕ) → (checksum bs % 256 < 255) × (checksum bs / 256 < 255)
unfolding checksum
checksum-low bs = sums-low bs 0 0 (omega arith) (omega arith)

pub checksum-bound : (bs : List ℕ) → checksum bs < 65536
checksum-bound bs = omega (arith, checksum-low bs)

-- the sums over what is left of s from i on, at the end
pub sums-end : (s : List ℕ) (i first second : ℕ) {total : ℕ} → length s ≤ i → sums first second (drop i s) ≡ total
    → second * 256 + first ≡ total
unfolding sums
sums-end s i first second h e = rw (drop_of_length-le s h) at e
