-- What the contracts of the loops over bytes cite: bytes that 32 bits count, and runs of bytes that are not zero.
-- Assumes nothing: these are definitions.
use Rattle.std.specs.Prelude.{List, [], ◌∷◌, ℕ, zero, suc, ◌+◌, ◌-◌, ◌≤◌, length, drop}

-- the highest index of 32 bits
abbrev pub highest_index : ℕ
highest_index = 4294967295

-- n bytes from an offset on lie within a list, and 32 bits count them
abbrev pub Within : ℕ → ℕ → List ℕ → Type 0
Within at n s = (at + n ≤ length s) × (at + n ≤ highest_index)

-- the bytes ahead of the first zero, at most so many
unfoldable pub nonzero : ℕ → List ℕ → List ℕ
nonzero zero bs = []
nonzero (suc most) [] = []
nonzero (suc most) (zero ∷ bs) = []
nonzero (suc most) (suc b ∷ bs) = suc b ∷ nonzero most bs

-- the length of a run of which k bytes are passed
abbrev pub run_length : ℕ → ℕ → List ℕ → ℕ
run_length most k xs = k + length (nonzero (most - k) (drop k xs))
