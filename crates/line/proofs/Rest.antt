-- A part of a slice, lent and come back.
-- Assumes nothing.
use mathlib.Core.Path.{◌≡◌, ◌∙◌}
use mathlib.Core.List.{List, ◌++◌, append_assoc, append-nil}
use Prim.Native.Nat.{ℕ, ◌+◌, ◌-◌, ◌≤◌}
use native.Mathlib.Nat.{zero-add, add-sub_cancel_left}
use native.Mathlib.Omega.{arith}
use lib.ListN.{length, take, drop, replicate, length-drop, length-replicate, drop_of_length-le}
use lib.Seq.{take_all, drop-drop}
use borrow.Rule.Slice.PartMut.{put_mid, mid_of}
use Rattle.octets.specs.Bytes.{overlay}
use Rattle.octets.proofs.Overlay.{length_run}

module _ (s : List ℕ) (a : ℕ) where
  rest_length : length (drop a s) ≤ length s - a
  rest_length = omega (arith, length-drop a s)

  pub rest-mid : mid_of a (length s - a) s ≡ drop a s
  rest-mid = take_all (length s - a) (drop a s) rest_length

  rest_put : (ys : List ℕ) → put_mid a (length s - a) s ys ≡ take a s ++ ys
  rest_put ys = rw (drop_of_length-le (drop a s) rest_length, append-nil)

  -- bytes put at the start of the part are put at its offset
  pub rest-overlay : (xs : List ℕ) → put_mid a (length s - a) s (overlay 0 xs (drop a s)) ≡ overlay a xs s
  unfolding overlay
  rest-overlay xs = rest_put (overlay 0 xs (drop a s)) ∙ simp (zero-add, drop-drop, append_assoc)

pub part-length : (at n : ℕ) (s : List ℕ) → at + n ≤ length s → length (take (at + n - at) (drop at s)) ≡ n
part-length at n s h = rw add-sub_cancel_left (length_run at n s h)

-- bytes as long as the part are put at its offset
pub part-overlay : (at n : ℕ) (xs s : List ℕ) → length xs ≡ n → put_mid at (at + n - at) s xs ≡ overlay at xs s
unfolding overlay
part-overlay at n xs s h = rw add-sub_cancel_left (simp (drop-drop, append_assoc) (rw h))

-- the part filled with a byte
pub part-filled : (b at n : ℕ) (s : List ℕ) {t : List ℕ} → at + n ≤ length s
    → t ≡ replicate (length (take (at + n - at) (drop at s))) b → put_mid at (at + n - at) s t ≡ overlay at (replicate n b) s
part-filled b at n s h e = rw (e, part-length at n s h) (part-overlay at n (replicate n b) s (length-replicate n b))
