-- Demand 1 of the line layer's calls. Each number of the table comes exactly where it is due.
-- A refused call leaves everything lent as it was. Assumes nothing: these are definitions and statements.
use Rattle.std.specs.Prelude.{◌≡◌, true, false, not, List, [], ◌∷◌, ◌++◌, ◌↔◌, ℕ, ◌<◌, ltb, length, drop}
use Rattle.std.proofs.Math.Option.{none, some}
use Rattle.octets.specs.Bytes.{run}
use Rattle.line.specs.Limits.{longest_data}
use Rattle.line.specs.Message.{Message}
use Rattle.line.specs.Frame.{frame}
use Rattle.line.specs.Reader.{refused, reader_length, valid_reader, read_promise, reader_start_promise, TailReport, tail_promise}
use Rattle.line.specs.Reader.{data_given_promise}
use Rattle.line.specs.Reader.{data_promise}
use Rattle.line.specs.Writer as LineWriter
use Rattle.line_claims.specs.Loans.{Loan, within, lent_part, enough_part}
use Rattle.octets.specs.TableTests.{TableTest, table_test, first_failing}
use Rattle.line_claims.specs.Calls.{LineCall, loan_of, lent_state, Reader, after_line_call, OfFreshReader}

-- no call says 12 of this part of a state
pub record NotRefused (part : List ℕ) : Type 0 where
  pub reads : (piece : List ℕ) → (read_promise part piece).answer ≡ refused 12 → ⊥
  pub tails : tail_promise part ≡ TailReport.refused 12 → ⊥
  pub hands : (n : ℕ) → data_given_promise part n ≡ some 12 → ⊥
  pub starts : (reader_start_promise part).refusal ≡ none

-- every call says 12 of this part of a state, reads nothing, and leaves it
pub record AllReadsRefused (part : List ℕ) : Type 0 where
  pub reads : (piece : List ℕ) → read_promise part piece ≡ record { used = 0; answer = refused 12; state = part }
  pub tails : tail_promise part ≡ TailReport.refused 12
  pub hands : (n : ℕ) → data_given_promise part n ≡ some 12
  pub starts : reader_start_promise part ≡ record { refusal = some 12; state = part }

-- ---- The table's number exactly where it is due

abbrev pub LineRefusedExactly : Type 0
LineRefusedExactly = (s piece : List ℕ) → ((read_promise s piece).answer ≡ refused 12) ↔ (valid_reader s ≡ false)

-- 12 of a call that is lent a state
abbrev pub state_test : List ℕ → TableTest
state_test s = table_test 12 (not (valid_reader s))

abbrev pub TailRefusedExactly : Type 0
TailRefusedExactly = (s : List ℕ) (n : ℕ) → (tail_promise s ≡ TailReport.refused n) ↔ (first_failing (state_test s ∷ []) ≡ some n)

abbrev pub DataRefusedExactly : Type 0
DataRefusedExactly = (s : List ℕ) (k : ℕ) → data_given_promise s k ≡ first_failing (state_test s ∷ table_test 9 (ltb longest_data k) ∷ [])

abbrev pub StartRefusedExactly : Type 0
StartRefusedExactly = (room : List ℕ)
    → (reader_start_promise room).refusal ≡ first_failing (table_test 12 (ltb (length room) reader_length) ∷ [])

-- the writer's tests: 9, then 8
abbrev pub writer_tests : Message → List ℕ → List TableTest
writer_tests m room = table_test 9 (ltb longest_data (length m.payload)) ∷ table_test 8 (ltb (length room) (length (frame m))) ∷ []

abbrev pub WriterRefusedExactly : Type 0
WriterRefusedExactly = (m : Message) (room : List ℕ) (n : ℕ)
    → ((LineWriter.write_promise m room).answer ≡ LineWriter.refused n) ↔ (first_failing (writer_tests m room) ≡ some n)

abbrev pub LineNever12 : Reader → Type 0
LineNever12 r = (l : Loan) → enough_part reader_length l ≡ true → NotRefused (lent_state l r.state)

abbrev pub StaysValid : Reader → Type 0
StaysValid r = valid_reader r.state ≡ true

abbrev pub TooLittle12 : Type 0
TooLittle12 = (s : List ℕ) (l : Loan) → enough_part reader_length l ≡ false → AllReadsRefused (lent_state l s)

abbrev pub AnyRun : Type 0
AnyRun = (published at n : ℕ) (s : List ℕ) → n < published → lent_part published (within at n) s ≡ run at n s

pub record LineNumberDue : Type 0 where
  -- a read answers 12 exactly where the state is not as 12 requires
  pub refused_exactly : LineRefusedExactly
  -- so does the call that reports a tail, and no other number
  pub tail_refused_exactly : TailRefusedExactly
  -- the call that hands out data tests 12, then 9: above 4,104 bytes
  pub data_refused_exactly : DataRefusedExactly
  -- a start tests the room alone and not what the state holds
  pub start_refused_exactly : StartRefusedExactly
  -- the writer says 9 exactly where the data have more than 4,104 bytes, else 8 exactly where the room is shorter than the frame
  pub writer_refused_exactly : WriterRefusedExactly
  -- what the layer's own calls left never earns 12, of any call that is lent enough of it
  pub never_12 : OfFreshReader LineNever12
  -- it stays as 12 requires it
  pub stays_valid : OfFreshReader StaysValid
  -- too little of a state, from any offset on, is 12 of every call
  pub too_little_12 : TooLittle12
  -- each run of a part that is shorter than its published length is such a loan
  pub any_run : AnyRun

-- ---- Everything lent as it was

abbrev pub RefusedNothing : Type 0
RefusedNothing = (s piece : List ℕ) → valid_reader s ≡ false → read_promise s piece ≡ record { used = 0; answer = refused 12; state = s }

abbrev pub TooLittleNothing : Type 0
TooLittleNothing = (r : Reader) (c : LineCall) → enough_part reader_length (loan_of c) ≡ false → after_line_call r c ≡ r

abbrev pub StartUntouched : Type 0
StartUntouched = (room : List ℕ) (n : ℕ) → (reader_start_promise room).refusal ≡ some n → (reader_start_promise room).state ≡ room

abbrev pub DataNotHanded : Type 0
DataNotHanded = (s : List ℕ) (k n : ℕ) → data_given_promise s k ≡ some n → data_promise s k ≡ []

abbrev pub WriterUntouched : Type 0
WriterUntouched = (m : Message) (room : List ℕ) (n : ℕ)
    → (LineWriter.write_promise m room).answer ≡ LineWriter.refused n → (LineWriter.write_promise m room).out ≡ room

abbrev pub WriterWrites : Type 0
WriterWrites = (m : Message) (room : List ℕ) → first_failing (writer_tests m room) ≡ none
    → LineWriter.write_promise m room
    ≡ record { answer = LineWriter.wrote (length (frame m)); out = frame m ++ drop (length (frame m)) room }

pub record LineAsItWas : Type 0 where
  -- a refused call reads nothing and leaves the state as it was
  pub refused_nothing : RefusedNothing
  -- so does a call that is lent too little
  pub too_little_nothing : TooLittleNothing
  -- a refused start leaves the room
  pub start_untouched : StartUntouched
  -- of a refused call nothing is handed out
  pub data_not_handed : DataNotHanded
  -- a refused writer leaves the room
  pub writer_untouched : WriterUntouched
  -- any other puts exactly the frame at the room's start and answers its length; every byte behind it stays
  pub writer_writes : WriterWrites
