-- Document 02's item 14, of the line layer: a start leaves nothing of what the state held.
-- Assumes nothing: these are definitions and statements.
use Rattle.std.specs.Prelude.{◌≡◌, List, ℕ, take}
use Rattle.std.proofs.Math.Option.{none}
use Rattle.line.specs.Reader.{ReaderStartOutcome, reader_length, reader_start_promise}
use Rattle.line_claims.specs.Loans.{Loan}
use Rattle.line_claims.specs.Calls.{lent_state, back}

-- a start on what is lent of a state
abbrev pub started_on : Loan → List ℕ → ReaderStartOutcome
started_on l s = reader_start_promise (lent_state l s)

abbrev pub LineStartForgets : Type 0
LineStartForgets = (s t : List ℕ) (l k : Loan) → (started_on l s).refusal ≡ none → (started_on k t).refusal ≡ none
    → take reader_length (back l s (started_on l s).state) ≡ take reader_length (back k t (started_on k t).state)

pub record LineItem14 : Type 0 where
  -- two accepted starts leave equal states within the published length, whatever the states held
  pub line_start_forgets : LineStartForgets
