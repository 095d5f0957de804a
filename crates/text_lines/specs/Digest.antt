-- The digest of bytes, as tests/line_cases.py has it.
-- Assumes nothing: these are definitions.
use Rattle.std.specs.Prelude.{List, [], ◌∷◌, ℕ, ◌+◌, ◌*◌, ◌%◌}

-- a digest with more bytes
unfoldable pub digest_on : ℕ → List ℕ → ℕ
digest_on d [] = d
digest_on d (b ∷ s) = digest_on ((d * 31 + b + 1) % 65521) s
