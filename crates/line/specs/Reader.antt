-- What each call of the reader answers, and what it leaves in the lent state (document 01, "Reading a request", "When a call says no").
-- Which byte of the state is where stands in ReaderLayout. Assumes nothing: these are definitions.
use Rattle.std.specs.Prelude.{Bool, cond, ◌&&◌, List, [], ◌∷◌, ℕ, suc, leb, ltb, eqb, length, replicate, ⊤, Result, Ok, Err}
use Rattle.std.proofs.Math.Option.{Option, none, some}
use Rattle.octets.specs.Bytes.{run, overlay}
use Rattle.octets.specs.Places.{LentBytes, Place, place_in}
use Rattle.line.specs.Limits.{longest_data, longest_form}
use Rattle.line.specs.Numbers.{reason_form, reason_checksum, reason_length, reason_magic}
use Rattle.line.specs.Cobs.{uncobs}
use Rattle.line.specs.Judge.{LineVerdict, failure, good, judge, judge_received, decoded_received}
use Rattle.line.specs.ReaderLayout.{overlong, received_count, with_count, received_bytes, with_byte, unpacked, data_offset}
use Rattle.line.specs.declared.reader.Head.{Head}
use Rattle.line.specs.declared.reader.Failure.{Failure}
use Rattle.line.specs.declared.reader.Failure.TheVariants as reason
use Rattle.line.specs.declared.reader.Answer.{Answer}
use Rattle.line.specs.declared.reader.Answer.TheVariants as answer
use Rattle.line.specs.declared.reader.Reading.{Reading}
use Rattle.line.specs.declared.reader.Unfinished.{Unfinished}
use Rattle.line.specs.declared.reader.Unfinished.TheVariants as tail-answer
use Rattle.refusals.specs.declared.Refusal.{Refusal}
use Rattle.refusals.specs.Refusals.{table_number, refusal_of}

-- the state's published length
abbrev pub reader_length : ℕ
reader_length = 4142

-- what has come of a frame since the last 00: its bytes, none where they are more than a form has
unfoldable pub received_of : List ℕ → Option (List ℕ)
received_of s = cond (ltb longest_form (received_count s)) none (some (received_bytes s))

-- what the table's 12 requires of the state
unfoldable pub valid_reader : List ℕ → Bool
valid_reader s = leb reader_length (length s) && leb (received_count s) overlong

-- the state as a start leaves it: nothing of a frame, and every byte of its published length 0
unfoldable pub reader_fresh : List ℕ → List ℕ
reader_fresh s = overlay 0 (replicate reader_length 0) s

-- What an answer reports: document 01's numbers and values.
pub data ReadReport : Type 0 where
  refused : ℕ → ReadReport
  more : ReadReport
  empty : ReadReport
  -- version, sequence, command and how many bytes of data
  message : ℕ → ℕ → ℕ → ℕ → ReadReport
  -- the reason, and the request's sequence where the table's reply carries it
  failed : ℕ → Option ℕ → ReadReport

abbrev pub message_report : Head → ReadReport
message_report h = message h.version h.sequence h.command h.length

abbrev pub failure_report : Failure → ReadReport
failure_report reason.Form = failed reason_form none
failure_report reason.Length = failed reason_length none
failure_report (reason.Checksum sequence) = failed reason_checksum (some sequence)
failure_report (reason.Magic sequence) = failed reason_magic (some sequence)

-- what a frame that is not empty gives
abbrev pub form_report : Result Head Failure → ReadReport
form_report (Ok h) = message_report h
form_report (Err why) = failure_report why

abbrev pub read_report : Answer → ReadReport
read_report answer.More = more
read_report answer.Empty = empty
read_report (answer.Message h) = message_report h
read_report (answer.Failed why) = failure_report why

-- what an answer reports of a verdict
unfoldable pub verdict_report : LineVerdict → ReadReport
verdict_report (failure reason sequence) = failed reason sequence
verdict_report (good m) = message m.version m.sequence m.command (length m.payload)

-- what a 00 is answered, by the verdict on its frame; an empty frame has none
abbrev pub closed_report : Option LineVerdict → ReadReport
closed_report none = empty
closed_report (some v) = verdict_report v

-- One byte that is not 00: kept, or one too many.
unfoldable pub pushed : List ℕ → ℕ → List ℕ
pushed s b = cond (ltb (received_count s) longest_form) (with_byte b s) (with_count overlong s)

-- bytes that are not 00, one after the other
unfoldable pub pushed_all : List ℕ → List ℕ → List ℕ
pushed_all s [] = s
pushed_all s (b ∷ bs) = pushed_all (pushed s b) bs

-- The 00 of a frame: what is answered, and the state that is left.
pub record FrameOutcome : Type 0 where
  pub answer : ReadReport
  pub state : List ℕ

abbrev pub frame_outcome : ReadReport → List ℕ → FrameOutcome
frame_outcome a s = record { answer = a; state = s }

-- of the form's bytes, in a state with nothing of a frame
unfoldable pub finish_form : List ℕ → List ℕ → FrameOutcome
finish_form form s = frame_outcome (verdict_report (judge form)) (unpacked (uncobs form) s)

-- the state behind a 00: nothing of a frame, and a message's bytes where the frame decodes to a message's length
unfoldable pub closed_state : List ℕ → List ℕ
closed_state s = unpacked (decoded_received (received_of s)) (with_count 0 s)

-- an empty frame has no reason, and one of more than 4,140 bytes has reason 1
unfoldable pub finish : List ℕ → FrameOutcome
finish s = frame_outcome (closed_report (judge_received (received_of s))) (closed_state s)

-- How many bytes a call read, what it answered, and the state that it left.
pub record ReadOutcome : Type 0 where
  pub used : ℕ
  pub answer : ReadReport
  pub state : List ℕ

-- a call that is refused reads nothing
abbrev pub read_outcome : Result Reading Refusal → List ℕ → ReadOutcome
read_outcome (Ok r) s = record { used = r.used; answer = read_report r.answer; state = s }
read_outcome (Err why) s = record { used = 0; answer = refused (table_number why); state = s }

-- the same, one byte later
unfoldable pub one_byte_later : ReadOutcome → ReadOutcome
one_byte_later o = record { used = suc o.used; answer = o.answer; state = o.state }

-- a piece, byte by byte, up to and with its first 00
unfoldable pub read_piece : List ℕ → List ℕ → ReadOutcome
read_piece s [] = record { used = 0; answer = more; state = s }
read_piece s (b ∷ bs) =
    cond (eqb b 0) (record { used = 1; answer = (finish s).answer; state = (finish s).state }) (one_byte_later (read_piece (pushed s b) bs))

-- a call of `read`; one refused as 12 reads nothing and leaves the state
unfoldable pub read_promise : List ℕ → List ℕ → ReadOutcome
read_promise s piece = cond (valid_reader s) (read_piece s piece) (record { used = 0; answer = refused 12; state = s })

-- the bytes of a piece ahead of its first 00, all of them where it has none
unfoldable pub ahead_of00 : List ℕ → List ℕ
ahead_of00 [] = []
ahead_of00 (b ∷ bs) = cond (eqb b 0) [] (b ∷ ahead_of00 bs)

-- A call of `collect`: it reads a piece's bytes ahead of its first 00, as a call of `read` does, and says how many.
unfoldable pub collect_promise : List ℕ → List ℕ → ReadOutcome
collect_promise s piece = read_promise s (ahead_of00 piece)

abbrev pub collect_outcome : Result ℕ Refusal → List ℕ → ReadOutcome
collect_outcome (Ok n) s = record { used = n; answer = more; state = s }
collect_outcome (Err why) s = record { used = 0; answer = refused (table_number why); state = s }

-- A call of `start`: it tests the room alone. `refusal` is the table's number, none where the call is carried out.
pub record ReaderStartOutcome : Type 0 where
  pub refusal : Option ℕ
  pub state : List ℕ

abbrev pub reader_start_report : Result ⊤ Refusal → Option ℕ
reader_start_report = refusal_of

abbrev pub reader_start_outcome : Result ⊤ Refusal → List ℕ → ReaderStartOutcome
reader_start_outcome r s = record { refusal = reader_start_report r; state = s }

unfoldable pub reader_start_promise : List ℕ → ReaderStartOutcome
reader_start_promise s =
    cond (leb reader_length (length s)) (record { refusal = none; state = reader_fresh s }) (record { refusal = some 12; state = s })

-- A call of `tail`: how many bytes of an unfinished frame have come, or that they are more than the longest form has.
pub data TailReport : Type 0 where
  refused : ℕ → TailReport
  unfinished : ℕ → TailReport
  longer : TailReport

abbrev pub tail_report : Result Unfinished Refusal → TailReport
tail_report (Ok (tail-answer.Bytes n)) = unfinished n
tail_report (Ok tail-answer.Longer) = longer
tail_report (Err why) = TailReport.refused (table_number why)

-- by what has come of the frame
abbrev pub tail_of : Option (List ℕ) → TailReport
tail_of none = longer
tail_of (some bs) = unfinished (length bs)

unfoldable pub tail_promise : List ℕ → TailReport
tail_promise s = cond (valid_reader s) (tail_of (received_of s)) (TailReport.refused 12)

-- The bytes from the data's offset on, so many.
-- They are the data of the message that a call of `read` handed out with that length, in the state as that call left it.
-- For any other length, or after another call of `read`, they are the bytes that stand there.
unfoldable pub data_given_promise : List ℕ → ℕ → Option ℕ
data_given_promise s n = cond (valid_reader s) (cond (ltb longest_data n) (some 9) none) (some 12)

abbrev pub data_report : Result ⊤ Refusal → Option ℕ
data_report = refusal_of

-- a refused call hands out an empty part
unfoldable pub part_of : Option ℕ → List ℕ → List ℕ
part_of none part = part
part_of (some number) part = []

unfoldable pub data_promise : List ℕ → ℕ → List ℕ
data_promise s n = part_of (data_given_promise s n) (run data_offset n s)

-- where the part begins: at the data's offset; a refused call's where the state begins
unfoldable pub data_place_by_refusal : Option ℕ → LentBytes → Place
data_place_by_refusal none s = place_in s data_offset
data_place_by_refusal (some number) s = place_in s 0

unfoldable pub data_place : LentBytes → ℕ → Place
data_place s n = data_place_by_refusal (data_given_promise s.now n) s
