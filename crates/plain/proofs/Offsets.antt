-- Laws of what begins at an offset of a capture: a frame where there is a zero from there on, or else the tail.
-- Assumes nothing.
use mathlib.Core.Path.{◌≡◌, refl, sym, ap, ◌∙◌}
use mathlib.Core.Bool.{Bool}
use mathlib.Core.List.{List, [], ◌∷◌}
use Prim.Native.Nat.{ℕ, zero, suc, ◌+◌}
use native.Mathlib.Omega.{arith}
use lib.Dec.{eqb, eqb-suc-zero}
use lib.ListN.{length}
use Rattle.std.specs.Prelude.{Option, Some, None}
use Rattle.std.specs.List.{position_from}
use Rattle.line.specs.Frame.{ahead_of_pieces, split}
use Rattle.plain.specs.Answers.{NextReport, first_of, first_piece}

-- a piece that begins k bytes earlier
abbrev longer : ℕ → NextReport → NextReport
longer k (NextReport.frame n) = NextReport.frame (k + n)
longer k (NextReport.tail n) = NextReport.tail (k + n)

longer-none : (p : NextReport) → longer 0 p ≡ p
longer-none (NextReport.frame n) = ap NextReport.frame (omega arith)
longer-none (NextReport.tail n) = ap NextReport.tail (omega arith)

longer-more : (k : ℕ) (p : NextReport) → longer k (longer 1 p) ≡ longer (k + 1) p
longer-more k (NextReport.frame n) = ap NextReport.frame (omega arith)
longer-more k (NextReport.tail n) = ap NextReport.tail (omega arith)

first-ahead : (b : ℕ) (ps : List (List ℕ)) (rest : List ℕ) → first_piece (ahead_of_pieces b ps rest) ≡ longer 1 (first_of ps rest)
unfolding first_of
first-ahead b [] rest = ap NextReport.tail (omega arith)
first-ahead b (p ∷ ps) rest = ap NextReport.frame (omega arith)

abbrev pub is_zero : ℕ → Bool
is_zero b = eqb b 0

-- what begins k bytes ahead of w, by the place of w's first zero, counted from there
abbrev by_place : ℕ → List ℕ → Option ℕ → NextReport
by_place k w (Some n) = NextReport.frame n
by_place k w None = NextReport.tail (k + length w)

place-more : (k b : ℕ) (w : List ℕ) (o : Option ℕ) → by_place k (b ∷ w) o ≡ by_place (k + 1) w o
place-more k b w (Some n) = refl
place-more k b w None = ap NextReport.tail (omega arith)

first-zero : (k : ℕ) (w : List ℕ) → by_place k w (position_from is_zero k w) ≡ longer k (first_piece (split w))
unfolding split first_of
first-zero k [] = refl
first-zero k (zero ∷ w) = ap NextReport.frame (omega arith)
first-zero k (suc b ∷ w) =
    rw eqb-suc-zero (place-more k (suc b) w (position_from is_zero (k + 1) w)) ∙ first-zero (k + 1) w
    ∙ sym (ap (longer k) (first-ahead (suc b) (split w).closed (split w).rest) ∙ longer-more k (first_piece (split w)))

module _ (w : List ℕ) where
  found : by_place 0 w (position_from is_zero 0 w) ≡ first_piece (split w)
  found = first-zero 0 w ∙ longer-none (first_piece (split w))

  pub found-frame : {n : ℕ} → Some n ≡ position_from is_zero 0 w → NextReport.frame n ≡ first_piece (split w)
  found-frame e = ap (by_place 0 w) e ∙ found

  pub found-tail : None ≡ position_from is_zero 0 w → NextReport.tail (length w) ≡ first_piece (split w)
  found-tail e = ap NextReport.tail (omega arith) ∙ ap (by_place 0 w) e ∙ found
