-- A law of rows put one after the other.
-- Assumes nothing.
use mathlib.Core.Path.{◌≡◌, refl, ap}
use mathlib.Core.List.{List, [], ◌∷◌, ◌++◌, flatten}
use Rattle.std.specs.List.{flat_map}

-- a slice of rows as a slice of their elements
pub flattened : {A : Type 0} (rows : List (List A)) → flat_map (λ row. row) rows ≡ flatten rows
unfolding flatten
flattened [] = refl
flattened (row ∷ rows) = ap (λ rest. row ++ rest) (flattened rows)
