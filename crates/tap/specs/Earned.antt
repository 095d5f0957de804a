-- The number under which a frame is answered, and the numbers that were earned, in fixed memory.
-- Assumes nothing: these are definitions.
use Rattle.std.specs.Prelude.{Bool, false, cond, ◌||◌, List, [], ◌∷◌, ℕ, ◌-◌, max, leb, eqb, take, drop, get_or, replicate}
use Rattle.line.specs.Numbers.{all_ones}
use Rattle.supervisor.specs.Number.{top_set}
use Rattle.responder.specs.Requests.{Verdict, failure, good, failure_sequence}

-- all ones for reasons 1 and 3, else its sequence with the top bit set
abbrev pub earned : Verdict → ℕ
earned (failure reason version sequence) = failure_sequence sequence
earned (good m) = top_set m.sequence

-- how many numbers are kept
abbrev pub most_numbers : ℕ
most_numbers = 32

-- The newest first, and 0 where there is none: an earned number has the top bit. The highest of those that are forgotten, or 0.
-- All ones stands apart, or no number could be told once it is forgotten.
pub record Numbers : Type 0 where
  pub kept : List ℕ
  pub forgotten : ℕ
  pub unnumbered : Bool

abbrev pub no_numbers : Numbers
no_numbers = record { kept = replicate most_numbers 0; forgotten = 0; unnumbered = false }

-- one number more; the oldest is forgotten
unfoldable pub remember : ℕ → Numbers → Numbers
remember n r =
    let oldest = get_or r.kept (most_numbers - 1) 0 in
    record {
      kept = take most_numbers (n ∷ r.kept);
      forgotten = cond (eqb oldest all_ones) r.forgotten (max r.forgotten oldest);
      unnumbered = r.unnumbered || eqb oldest all_ones;
    }

unfoldable pub is_among : ℕ → List ℕ → Bool
is_among n [] = false
is_among n (m ∷ ms) = eqb n m || is_among n ms

-- whether an earned number may be among those that were remembered
unfoldable pub may_hold : Numbers → ℕ → Bool
may_hold r n = is_among n r.kept || cond (eqb n all_ones) r.unnumbered (leb n r.forgotten)

-- the numbers but the newest
abbrev pub older_than_newest : Numbers → Numbers
older_than_newest r = record { kept = drop 1 r.kept; forgotten = r.forgotten; unnumbered = r.unnumbered }
