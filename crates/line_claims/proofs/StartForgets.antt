-- An accepted start of the reader leaves nothing of what the state held, within its published length.
-- Assumes nothing.
use mathlib.Core.Path.{◌≡◌, refl}
use mathlib.Core.Bool.{Bool, true, false}
use mathlib.Core.List.{List}
use mathlib.Core.Option.{none}
use Prim.Native.Nat.{ℕ, ◌≤◌}
use native.Mathlib.Omega.{arith}
use lib.Dec.{leb}
use lib.ListN.{length, take}
use borrow.Author.Tests.{le-leb, leb-true}
use Rattle.octets.specs.Bytes.{overlay}
use Rattle.octets.proofs.Zeros.{zeros, length-zeros}
use Rattle.line.specs.Reader.{reader_length, reader_fresh, reader_start_promise}
use Rattle.line_claims.specs.Loans.{Loan}
use Rattle.line_claims.specs.Calls.{lent_state, back}
use Rattle.line_claims.specs.Item14.{started_on, LineStartForgets}
use Rattle.line_claims.proofs.LoanLaws.{put_first}

-- the published bytes behind a start
pub cleared : List ℕ
cleared = zeros reader_length

pub length-cleared : length cleared ≡ reader_length
unfolding cleared
length-cleared = length-zeros reader_length

-- a start that is accepted
pub record Begun (s : List ℕ) : Type 0 where
  pub long : reader_length ≤ length s
  pub state : (reader_start_promise s).state ≡ overlay 0 cleared s

pub begun-by : (s : List ℕ) → reader_length ≤ length s → (reader_start_promise s).state ≡ overlay 0 cleared s
unfolding reader_start_promise reader_fresh cleared
begun-by s h = rw (le-leb reader_length (length s) h)

begun : (s : List ℕ) → (reader_start_promise s).refusal ≡ none → Begun s
unfolding reader_start_promise
begun s e = by (leb reader_length (length s)) refl
  where
    by : (b : Bool) → leb reader_length (length s) ≡ b → Begun s
    by true f = let h = leb-true reader_length (length s) f in record { long = h; state = begun-by s h }
    by false f = absurd (let z : ◌≡◌ {A = ℕ} 0 1 = cc in omega arith)

left-bytes : (s : List ℕ) (l : Loan) → (started_on l s).refusal ≡ none → take reader_length (back l s (started_on l s).state) ≡ cleared
left-bytes s l e =
    let b = begun (lent_state l s) e in
    rw b.state (put_first reader_length s cleared l (omega arith) length-cleared b.long)

pub line_start_forgets : LineStartForgets
line_start_forgets s t l k e f = rw (left-bytes s l e, left-bytes t k f)
