-- Laws of where the bytes from an offset on begin: there, or at the list's beginning if the offset is past its end.
-- Assumes nothing.
use mathlib.Core.Path.{◌≡◌, sym, ap}
use Prim.Native.Nat.{ℕ, ◌+◌, ◌≤◌, ◌<◌}
use native.Mathlib.Nat.{zero-add}
use lib.ListN.{length}
use borrow.Author.Tests.{le-leb, lt-leb}
use Rattle.octets.specs.Places.{LentBytes, Place, place_in, part_place}

pub place-start : (p : Place) → p ≡ (p.0, 0 + p.1)
place-start p = ap (λ at. (p.0, at)) (sym (zero-add p.1))

module _ (s : LentBytes) (at : ℕ) where
  pub place-past : length s.now < at → place_in s 0 ≡ part_place s at
  unfolding part_place
  place-past l = rw (lt-leb _ _ l)

  pub place-there : at ≤ length s.now → place_in s at ≡ part_place s at
  unfolding part_place
  place-there l = rw (le-leb _ _ l)
