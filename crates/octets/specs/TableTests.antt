-- A call's tests in the order in which they run. The table's number is that of the first that fails (document 01, "When a call says no").
-- Assumes nothing: these are definitions.
use Rattle.std.specs.Prelude.{Bool, cond, List, [], ◌∷◌, ℕ}
use Rattle.std.proofs.Math.Option.{Option, none, some}

-- a test: its number, and whether it fails
pub record TableTest : Type 0 where
  pub number : ℕ
  pub failing : Bool

abbrev pub table_test : ℕ → Bool → TableTest
table_test n failing = record { number = n; failing = failing }

-- the number of the first that fails; none where the call is carried out
unfoldable pub first_failing : List TableTest → Option ℕ
first_failing [] = none
first_failing (t ∷ ts) = cond t.failing (some t.number) (first_failing ts)
