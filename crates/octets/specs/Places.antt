-- Where lent bytes lie, and where a part of them begins.
-- Assumes nothing: these are definitions.
use Rattle.std.specs.Prelude.{cond, List, ℕ, ◌+◌, leb, length}
use Rattle.std.specs.Borrow.{Bor}

-- a lent run of bytes: `now` gives the bytes, `.ref_ptr` the place where they begin
abbrev pub LentBytes : Type 0
LentBytes = Bor (List ℕ)

-- a block of memory and an offset in it
abbrev pub Place : Type 0
Place = ℕ × ℕ

-- so many bytes behind the beginning; 0 gives the beginning
abbrev pub place_in : LentBytes → ℕ → Place
place_in s at = (s.ref_ptr.0, at + s.ref_ptr.1)

-- where the part from an offset on begins: there, or at the beginning if the bytes end ahead of the offset
unfoldable pub part_place : LentBytes → ℕ → Place
part_place s at = place_in s (cond (leb at (length s.now)) at 0)
