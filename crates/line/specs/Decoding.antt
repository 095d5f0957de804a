-- What the contracts of the decoding in place cite: the length of a COBS form's bytes, and the bytes as far as there are groups.
-- Assumes nothing: these are definitions.
use Rattle.std.specs.Prelude.{Bool, false, cond, List, [], ◌∷◌, ◌++◌, ℕ, zero, suc, ◌-◌, ltb, length, Option as Optional, None, Some}
use Rattle.std.proofs.Math.Option.{Option, none, some}
use Rattle.line.specs.Cobs.{full_code, implied_zero}

abbrev pub one_if : Bool → ℕ
one_if holds = cond holds 1 0

-- the length of what a form decodes to, as the code returns it
unfoldable pub measured : Option (List ℕ) → Optional ℕ
measured none = None
measured (some xs) = Some (length xs)

-- `group_bytes` without its failure: the bytes as far as there are groups
unfoldable pub plain_group : ℕ → Bool → List ℕ → List ℕ
plain_group left holds [] = []
plain_group (suc left) holds (b ∷ bs) = b ∷ plain_group left holds bs
plain_group zero holds (c ∷ cs) = implied_zero holds ++ plain_group (c - 1) (ltb c full_code) cs

unfoldable pub plain : List ℕ → List ℕ
plain form = plain_group 0 false form
