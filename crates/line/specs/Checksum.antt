-- The checksum of a message's body (document 01, "The message on the wire").
-- Assumes nothing: these are definitions.
use Rattle.std.specs.Prelude.{List, [], ◌∷◌, ℕ, ◌+◌, ◌*◌, ◌%◌}

-- the checksum that the two sums come to over the bytes that are left
unfoldable pub sums : ℕ → ℕ → List ℕ → ℕ
sums first second [] = second * 256 + first
sums first second (b ∷ bs) = let next : ℕ = (first + b) % 255 in sums next ((second + next) % 255) bs

-- both sums start at 0
unfoldable pub checksum : List ℕ → ℕ
checksum body = sums 0 0 body
