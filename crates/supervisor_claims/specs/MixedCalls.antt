-- Calls of a supervisor and of the line layer on the same reader's part, in one list. The file has what each answers and leaves by the
-- promises, and what the frames of the received bytes make of it. Assumes nothing: these are definitions.
use Rattle.std.specs.Prelude.{◌≡◌, Bool, cond, List, [], ◌∷◌, ◌++◌, ℕ, ltb, length}
use Rattle.std.proofs.Math.Option.{Option, none, some}
use Rattle.std.proofs.Math.ListN as ListN
use Rattle.octets.specs.Bytes.{Each, Byte}
use Rattle.line.specs.Limits.{longest_data}
use Rattle.line.specs.Message.{Message}
use Rattle.line.specs.Frame.{split, closed_behind, with_zeros}
use Rattle.line.specs.Judge.{progress_of}
use Rattle.line.specs.Reader as LineReader
use Rattle.line.specs.Reader.{ReadReport, TailReport, read_promise, ahead_of00, reader_start_promise, tail_promise, data_given_promise}
use Rattle.line.specs.Reader.{data_promise}
use Rattle.line_claims.specs.Loans.{Loan, enough_part}
use Rattle.line_claims.specs.Calls.{lent_state, back, messages_handed, frame_report, tail_meant, good_messages}
use Rattle.supervisor.specs.State.{State, with_received}
use Rattle.supervisor.specs.Calls.{Parts}
use Rattle.supervisor_claims.specs.Sound.{with_reader}
use Rattle.supervisor_claims.specs.Histories as Calls
use Rattle.supervisor_claims.specs.Histories.{Answer, Typed, up_to, enough, Made, made}
use Rattle.supervisor_claims.specs.FrameHistory.{bytes_received_by, starts_anew, received_since, frames_closed_by, carried_made}

-- ---- Calls and answers

-- a call of the supervisor, or one of the line layer's reader with what it is lent of the reader's part
pub data MixedCall : Type 0 where
  supervisor : Made → MixedCall
  line_start : Loan → MixedCall
  -- a piece of the received stream
  line_read : Loan → List ℕ → MixedCall
  -- how many bytes of an unfinished frame have come
  line_tail : Loan → MixedCall
  -- the data of a message, by their length
  line_data : Loan → ℕ → MixedCall

-- a collect: by its promise (`collect_promise`) a line read of the piece's bytes ahead of its first 00
abbrev pub line_collect : Loan → List ℕ → MixedCall
line_collect l piece = line_read l (ahead_of00 piece)

abbrev pub TypedMixed : MixedCall → Type 0
TypedMixed (supervisor m) = Typed m.call
TypedMixed (line_start l) = Unit {0}
TypedMixed (line_read l piece) = Each Byte piece
TypedMixed (line_tail l) = Unit {0}
TypedMixed (line_data l n) = Unit {0}

abbrev pub AllTypedMixed : List MixedCall → Type 0
AllTypedMixed = Each TypedMixed

-- the published length of the reader's part is lent
abbrev pub enough_of_reader : Loan → Bool
enough_of_reader l = enough_part LineReader.reader_length l

-- the published length of each part that a call takes is lent
abbrev pub enough_mixed : MixedCall → Bool
enough_mixed (supervisor m) = enough m.call m.lent
enough_mixed (line_start l) = enough_of_reader l
enough_mixed (line_read l piece) = enough_of_reader l
enough_mixed (line_tail l) = enough_of_reader l
enough_mixed (line_data l n) = enough_of_reader l

pub data MixedAnswer : Type 0 where
  supervisor : Answer → MixedAnswer
  -- the table's number of a refusal; none where the call is carried out
  line_start : Option ℕ → MixedAnswer
  -- how many bytes were read, and the report
  line_read : ℕ → ReadReport → MixedAnswer
  line_tail : TailReport → MixedAnswer
  line_data : Option ℕ → MixedAnswer

-- a refusal with the table's 12
abbrev pub Says12 : MixedAnswer → Type 0
Says12 (supervisor a) = a ≡ Calls.refused 12
Says12 (line_start n) = n ≡ some 12
Says12 (line_read used a) = a ≡ LineReader.refused 12
Says12 (line_tail a) = a ≡ TailReport.refused 12
Says12 (line_data n) = n ≡ some 12

-- ---- By the promises

-- what a call answers, the bytes of the caller's room or those handed out, and the parts that it leaves
pub record DidMixed : Type 0 where
  pub answer : MixedAnswer
  pub out : List ℕ
  pub parts : Parts

abbrev pub did_mixed : MixedAnswer → List ℕ → Parts → DidMixed
did_mixed a bs p = record { answer = a; out = bs; parts = p }

-- the data of the messages handed out: one at most
unfoldable pub data_of : List Message → List ℕ
data_of [] = []
data_of (m ∷ ms) = m.payload

-- what a line read hands out are the data of its message, by a call for them at its return
unfoldable pub made_mixed : Parts → MixedCall → DidMixed
made_mixed p (supervisor m) = let d = made p m in did_mixed (supervisor d.answer) d.out d.parts
made_mixed p (line_start l) =
    let t = reader_start_promise (lent_state l p.reader) in
    did_mixed (line_start t.refusal) [] (with_reader p (back l p.reader t.state))
made_mixed p (line_read l piece) =
    let t = read_promise (lent_state l p.reader) piece in
    did_mixed (line_read t.used t.answer) (data_of (messages_handed t.answer t.state))
    (with_reader p (back l p.reader t.state))
made_mixed p (line_tail l) = did_mixed (line_tail (tail_promise (lent_state l p.reader))) [] p
made_mixed p (line_data l n) =
    let s = lent_state l p.reader in did_mixed (line_data (data_given_promise s n)) (data_promise s n) p

-- ---- The received bytes

-- the bytes that a line read reads: its piece up to and with the first 00; none where too little is lent
unfoldable pub line_bytes_read : Loan → List ℕ → List ℕ
line_bytes_read l piece = cond (enough_of_reader l) (ListN.take (up_to piece) piece) []

-- bytes up to and with their last 00
abbrev pub through_last00 : List ℕ → List ℕ
through_last00 w = with_zeros (split w).closed

-- All bytes since the supervisor's last accepted start, joined: w are those before a call. What a line read reads joins them.
-- An accepted line start drops what was read of an unfinished frame.
unfoldable pub mixed_since : List ℕ → MixedCall → List ℕ
mixed_since w (supervisor m) = received_since w m
mixed_since w (line_start l) = cond (enough_of_reader l) (through_last00 w) w
mixed_since w (line_read l piece) = w ++ line_bytes_read l piece
mixed_since w (line_tail l) = w
mixed_since w (line_data l n) = w

unfoldable pub mixed_since_all : List ℕ → List MixedCall → List ℕ
mixed_since_all w [] = w
mixed_since_all w (c ∷ cs) = mixed_since_all (mixed_since w c) cs

-- ---- One call

-- the bytes handed out are none where neither the received bytes nor the state settle them
pub record MixedMeans : Type 0 where
  pub answer : MixedAnswer
  pub out : Option (List ℕ)
  pub state : State

abbrev pub mixed_means : MixedAnswer → Option (List ℕ) → State → MixedMeans
mixed_means a bs s = record { answer = a; out = bs; state = s }

-- what a line read answers by the frames whose 00 it read: there is one at most
unfoldable pub report_by_frames : List (List ℕ) → ReadReport
report_by_frames [] = LineReader.more
report_by_frames (f ∷ fs) = frame_report f

-- a line read moves the receive progress alone: the frame whose 00 it brings is neither carried out nor answered
unfoldable pub read_by_frames : List ℕ → State → List ℕ → MixedMeans
read_by_frames w s bs =
    mixed_means (line_read (length bs) (report_by_frames (closed_behind w bs))) (some (data_of (good_messages (frames_closed_by w bs))))
    (with_received s (progress_of (split (w ++ bs)).rest))

-- a call on the state s, where the bytes w came before; 12, and nothing changes, where too little is lent
unfoldable pub carried_mixed : List ℕ → State → MixedCall → MixedMeans
carried_mixed w s (supervisor m) = let c = carried_made w s m in mixed_means (supervisor c.answer) (some c.out) c.state
carried_mixed w s (line_start l) =
    cond (enough_of_reader l) (mixed_means (line_start none) (some []) (with_received s (some [])))
    (mixed_means (line_start (some 12)) (some []) s)
carried_mixed w s (line_read l piece) =
    cond (enough_of_reader l) (read_by_frames w s (line_bytes_read l piece)) (mixed_means (line_read 0 (LineReader.refused 12)) (some []) s)
carried_mixed w s (line_tail l) =
    mixed_means (line_tail (cond (enough_of_reader l) (tail_meant (split w).rest) (TailReport.refused 12))) (some []) s
carried_mixed w s (line_data l n) =
    cond (enough_of_reader l)
    (cond (ltb longest_data n) (mixed_means (line_data (some 9)) (some []) s) (mixed_means (line_data none) none s))
    (mixed_means (line_data (some 12)) (some []) s)

-- ---- Lists of calls

-- each call's answer and what it wrote in the caller's room or handed out
pub record MixedOutput : Type 0 where
  pub answer : MixedAnswer
  pub out : List ℕ

unfoldable pub outputs_mixed : Parts → List MixedCall → List MixedOutput
outputs_mixed p [] = []
outputs_mixed p (c ∷ cs) = let d = made_mixed p c in (record { answer = d.answer; out = d.out }) ∷ outputs_mixed d.parts cs

unfoldable pub left_mixed : Parts → List MixedCall → Parts
left_mixed p [] = p
left_mixed p (c ∷ cs) = left_mixed (made_mixed p c).parts cs

-- the bytes handed out are these, where they are settled
abbrev pub SettledAs : List ℕ → Option (List ℕ) → Type 0
SettledAs bs none = Unit {0}
SettledAs bs (some cs) = bs ≡ cs

-- each call on p answers and hands out what the frames make of it
abbrev pub MixedAsFrames : Parts → List ℕ → State → List MixedCall → Type 0
MixedAsFrames p w s [] = Unit {0}
MixedAsFrames p w s (c ∷ cs) =
    let d = made_mixed p c in
    let m = carried_mixed w s c in
    (d.answer ≡ m.answer) × SettledAs d.out m.out × MixedAsFrames d.parts (mixed_since w c) m.state cs

-- the state that they leave
unfoldable pub left_mixed_by_frames : List ℕ → State → List MixedCall → State
left_mixed_by_frames w s [] = s
left_mixed_by_frames w s (c ∷ cs) = left_mixed_by_frames (mixed_since w c) (carried_mixed w s c).state cs

-- The frames that are not empty whose 00 the calls brought since the last accepted start: fs are those before a call.
-- Which of them are carried out or answered says `carried_mixed`: those of the supervisor's calls.
unfoldable pub brought_since : List ℕ → List (List ℕ) → MixedCall → List (List ℕ)
brought_since w fs (supervisor m) = cond (starts_anew m) [] (fs ++ frames_closed_by w (bytes_received_by m))
brought_since w fs (line_start l) = fs
brought_since w fs (line_read l piece) = fs ++ frames_closed_by w (line_bytes_read l piece)
brought_since w fs (line_tail l) = fs
brought_since w fs (line_data l n) = fs

unfoldable pub brought_all : List ℕ → List (List ℕ) → List MixedCall → List (List ℕ)
brought_all w fs [] = fs
brought_all w fs (c ∷ cs) = brought_all (mixed_since w c) (brought_since w fs c) cs
