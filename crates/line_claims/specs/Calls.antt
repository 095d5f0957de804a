-- Calls of a line reader, one after the other, and what they hand out (document 01, "Demand 3's words").
-- Assumes nothing: these are definitions.
use Rattle.std.specs.Prelude.{cond, List, [], ◌∷◌, ◌++◌, map, ℕ, ◌≤◌, ltb, length, take}
use Rattle.std.proofs.Math.Option.{Option, none, some}
use Rattle.line.specs.Message.{Message}
use Rattle.line.specs.Judge.{LineVerdict, failure, good, judge}
use Rattle.line.specs.Limits.{longest_form}
use Rattle.line.specs.Reader.{TailReport, unfinished, longer}
use Rattle.line.specs.Reader.{ReadReport, refused, more, empty, message, failed, verdict_report, reader_length, ReadOutcome, read_promise}
use Rattle.line.specs.Reader.{ReaderStartOutcome, reader_start_promise, data_promise}
use Rattle.line_claims.specs.Loans.{Loan, lent_part, back_part}
use Rattle.line.specs.Frame.{frame}

-- a call that is given a piece to read: what it is lent of the state, and the piece
pub record LineRead : Type 0 where
  pub lent : Loan
  pub piece : List ℕ

-- a call of the reader; a start is lent what it is lent of the state likewise
pub data LineCall : Type 0 where
  read : LineRead → LineCall
  start : Loan → LineCall

-- what a call is lent
abbrev pub loan_of : LineCall → Loan
loan_of (read c) = c.lent
loan_of (start lent) = lent

-- the bytes of the state that are lent, and the state when they have come back
abbrev pub lent_state : Loan → List ℕ → List ℕ
lent_state l s = lent_part reader_length l s

abbrev pub back : Loan → List ℕ → List ℕ → List ℕ
back l s part = back_part reader_length l s part

-- the message that an answer hands out, with its data as the state at the call's return holds them
unfoldable pub messages_handed : ReadReport → List ℕ → List Message
messages_handed (refused number) s = []
messages_handed more s = []
messages_handed empty s = []
messages_handed (message version sequence command n) s =
    (record { version = version; sequence = sequence; command = command; payload = data_promise s n }) ∷ []
messages_handed (failed reason sequence) s = []

-- the reason that an answer reports
unfoldable pub reasons_reported : ReadReport → List ℕ
reasons_reported (refused number) = []
reasons_reported more = []
reasons_reported empty = []
reasons_reported (message version sequence command n) = []
reasons_reported (failed reason sequence) = reason ∷ []

-- an answer to a 00: every answer but a refusal and `more`
unfoldable pub answers_to00 : ReadReport → List ReadReport
answers_to00 (refused number) = []
answers_to00 more = []
answers_to00 empty = empty ∷ []
answers_to00 (message version sequence command n) = message version sequence command n ∷ []
answers_to00 (failed reason sequence) = failed reason sequence ∷ []

-- A reader since its start: the messages that its calls handed out, the reasons that they reported, and their answers to a 00.
-- It also has the bytes that they read, and the state.
pub record Reader : Type 0 where
  pub messages : List Message
  pub failures : List ℕ
  pub answered : List ReadReport
  pub bytes : List ℕ
  pub state : List ℕ

-- a reader that has read nothing
unfoldable pub reader_on : List ℕ → Reader
reader_on s = record { messages = []; failures = []; answered = []; bytes = []; state = s }

-- the reader after an answer: the bytes lent at the call's return, the bytes that it read, and the whole state
abbrev pub extended : Reader → ReadReport → List ℕ → List ℕ → List ℕ → Reader
extended r answer part bs s = record {
  messages = r.messages ++ messages_handed answer part;
  failures = r.failures ++ reasons_reported answer;
  answered = r.answered ++ answers_to00 answer;
  bytes = r.bytes ++ bs;
  state = s;
}

-- the reader after a call that gave this outcome
unfoldable pub after_outcome : Reader → LineRead → ReadOutcome → Reader
after_outcome r c o = extended r o.answer o.state (take o.used c.piece) (back c.lent r.state o.state)

-- a call that is given a piece does what the promise of `read` cites
unfoldable pub after_line_read : Reader → LineRead → Reader
after_line_read r c = after_outcome r c (read_promise (lent_state c.lent r.state) c.piece)

-- a start that is refused changes nothing; any other begins another fresh reader
unfoldable pub after_restart : Reader → List ℕ → Option ℕ → Reader
after_restart r s none = reader_on s
after_restart r s (some number) = r

unfoldable pub after_start : Reader → Loan → ReaderStartOutcome → Reader
after_start r lent t = after_restart r (back lent r.state t.state) t.refusal

unfoldable pub after_line_call : Reader → LineCall → Reader
after_line_call r (read c) = after_line_read r c
after_line_call r (start lent) = after_start r lent (reader_start_promise (lent_state lent r.state))

unfoldable pub after_line_calls : Reader → List LineCall → Reader
after_line_calls r [] = r
after_line_calls r (c ∷ cs) = after_line_calls (after_line_call r c) cs

abbrev pub after_line_reads : Reader → List LineRead → Reader
after_line_reads r cs = after_line_calls r (map read cs)

-- document 01's fresh line reader: the reader just after its start, on a room
unfoldable pub fresh_reader : List ℕ → Reader
fresh_reader room = reader_on (reader_start_promise room).state

-- What the tests make of a stream's pieces: the answer at the 00 that closes these bytes
unfoldable pub frame_report : List ℕ → ReadReport
frame_report [] = empty
frame_report (b ∷ bs) = verdict_report (judge (b ∷ bs))

-- what the verdicts on these lists of bytes give, in order
unfoldable pub gathered : {A : Type 0} → (LineVerdict → List A) → List (List ℕ) → List A
gathered f [] = []
gathered f (p ∷ ps) = f (judge p) ++ gathered f ps

abbrev pub good_of : LineVerdict → List Message
good_of (failure reason sequence) = []
good_of (good m) = m ∷ []

abbrev pub reason_of : LineVerdict → List ℕ
reason_of (failure reason sequence) = reason ∷ []
reason_of (good m) = []

-- the messages, and the reasons of the failures
abbrev pub good_messages : List (List ℕ) → List Message
good_messages = gathered good_of

abbrev pub failure_reasons : List (List ℕ) → List ℕ
failure_reasons = gathered reason_of

-- the report of an unfinished tail
unfoldable pub tail_meant : List ℕ → TailReport
tail_meant t = cond (ltb longest_form (length t)) longer (unfinished (length t))

-- a piece with its 00, where the tests find it good
abbrev pub frame_of : List ℕ → LineVerdict → List (List ℕ)
frame_of p (failure reason sequence) = []
frame_of p (good m) = (p ++ 0 ∷ []) ∷ []

-- those of these pieces, in order
unfoldable pub good_frames : List (List ℕ) → List (List ℕ)
good_frames [] = []
good_frames (p ∷ ps) = frame_of p (judge p) ++ good_frames ps

-- The bytes that answers to a 00 determine, with the messages that they handed out.
-- An empty frame gives a 00, and a message its frame; a failure gives none.
unfoldable pub reported_bytes : List ReadReport → List Message → List ℕ
reported_bytes [] ms = []
reported_bytes (empty ∷ report) ms = 0 ∷ reported_bytes report ms
reported_bytes (message version sequence command n ∷ report) [] = []
reported_bytes (message version sequence command n ∷ report) (m ∷ ms) = frame m ++ reported_bytes report ms
reported_bytes (failed reason sequence ∷ report) ms = []
reported_bytes (refused number ∷ report) ms = []
reported_bytes (more ∷ report) ms = []

-- What holds of a fresh line reader after any list of calls.
-- Its room is of sufficient length and of any contents. A start on the room comes first, and then calls with any loans.
abbrev pub OfFreshReader : (Reader → Type 0) → Type 0
OfFreshReader P = (room : List ℕ) → reader_length ≤ length room → (cs : List LineCall) → P (after_line_calls (fresh_reader room) cs)
