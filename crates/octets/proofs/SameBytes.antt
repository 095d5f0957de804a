-- Lists that have the same bytes from an offset on up to another, and what a store leaves the same.
-- Assumes nothing.
use mathlib.Core.Path.{◌≡◌, ap, ◌∙◌}
use mathlib.Core.List.{List}
use Prim.Native.Nat.{ℕ, ◌+◌, ◌^◌, ◌≤◌, ◌<◌}
use native.Mathlib.Omega.{arith}
use lib.ListN.{length, take}
use lib.Seq.{take-take}
use Rattle.octets.specs.Bytes.{number, bytes, run, number_at, overlay}
use Rattle.octets.proofs.Numbers.{length-bytes}
use Rattle.octets.proofs.Overlay.{run_take, length-overlay, overlay-before, overlay-after, put-fits, number_put}

-- s has between the two offsets what r has there
pub record Same (from to : ℕ) (r s : List ℕ) : Type 0 where
  pub runs : (j n : ℕ) → (from ≤ j) × (j + n ≤ to) → run j n s ≡ run j n r

pub same_then : {from to : ℕ} {r s t : List ℕ} → Same from to r s → Same from to s t → Same from to r t
same_then p q = record { runs = λ j n h. q.runs j n h ∙ p.runs j n h }

module _ {from to : ℕ} {r s : List ℕ} (same : Same from to r s) where
  pub same-within : {a b : ℕ} → (from ≤ a) × (b ≤ to) → Same a b r s
  same-within h = record { runs = λ j n k. same.runs j n (omega arith) }

  pub number_same : (k j : ℕ) → (from ≤ j) × (j + k ≤ to) → number_at k s j ≡ number_at k r j
  number_same k j h = ap number (same.runs j k h)

-- lists with the same first n bytes
pub same_first : (n : ℕ) (r s : List ℕ) → take n s ≡ take n r → Same 0 n r s
same_first n r s e = record {
  runs = λ j k h. rw (run_take j k s, run_take j k r, ← take-take (j + k) n s h.1, ← take-take (j + k) n r h.1, e);
}

-- ---- bytes that were put

module _ {from to : ℕ} (at : ℕ) (xs r : List ℕ) (room : at ≤ length r) where
  pub same-before : to ≤ at → Same from to r (overlay at xs r)
  same-before l = record { runs = λ j n h. overlay-before at j n xs r room (omega arith) }

  pub same_after : at + length xs ≤ from → Same from to r (overlay at xs r)
  same_after l = record { runs = λ j n h. overlay-after at j n xs r room (omega arith) }

-- ---- a number that was put

module _ (k at v : ℕ) (r : List ℕ) (room : at + k ≤ length r) where
  pub stored-long : length (overlay at (bytes k v) r) ≡ length r
  stored-long = length-overlay at (bytes k v) r (omega (arith, length-bytes k v))

  pub stored-number : v < 256 ^ k → number_at k (overlay at (bytes k v) r) at ≡ v
  stored-number l = rw (put-fits at (bytes k v) r (omega (arith, length-bytes k v))) at (number_put k at v r room l)

  pub stored-before : {from to : ℕ} → to ≤ at → Same from to r (overlay at (bytes k v) r)
  stored-before l = same-before at (bytes k v) r (omega arith) l

  pub stored-after : {from to : ℕ} → at + k ≤ from → Same from to r (overlay at (bytes k v) r)
  stored-after l = same_after at (bytes k v) r (omega arith) (omega (arith, length-bytes k v))
