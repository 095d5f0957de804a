-- What a call of the reader says and leaves: the first failing test decides (document 02, item 7).
-- Assumes nothing: these are definitions.
use Rattle.std.specs.Prelude.{Bool, cond, not, List, [], ◌++◌, ℕ, ◌+◌, eqb, ltb, length, take, ⊤, Option, None, Some, Result, Ok, Err}
use Rattle.std.proofs.Math.Option.{none, some}
use Rattle.std.proofs.Math.Option as report
use Rattle.octets.specs.Bytes.{run, number_at}
use Rattle.octets.specs.Places.{LentBytes, Place, place_in}
use Rattle.rot.specs.Limits.{crc_field_offset, rot_header_length, longest_payload}
use Rattle.rot.specs.Crc.{crc}
use Rattle.rot.specs.Message.{null_protocol, version_1, echo_request, listed_type, RotMessage, rot_message, echoed}
use Rattle.rot.specs.Answers.{RotReport, refused, nothing, handed, wrote, RotOutcome, rot_outcome, rot_write_into, refusal_number}
use Rattle.rot.specs.declared.reader.Answer.{Answer}
use Rattle.rot.specs.declared.reader.Answer.TheVariants as answer
use Rattle.rot.specs.declared.refusals.Refusal.{Refusal}

-- The fields of what came.

abbrev pub protocol_of : List ℕ → ℕ
protocol_of input = number_at 1 input 0

abbrev pub type_of : List ℕ → ℕ
type_of input = number_at 1 input 1

abbrev pub payload_length : List ℕ → ℕ
payload_length input = number_at 2 input 2

abbrev pub crc_field : List ℕ → ℕ
crc_field input = number_at 4 input crc_field_offset

abbrev pub rot_payload : List ℕ → List ℕ
rot_payload input = run rot_header_length (payload_length input) input

-- what the CRC is taken over: the header ahead of it, and the payload
abbrev pub checked : List ℕ → List ℕ
checked input = take crc_field_offset input ++ rot_payload input

-- What is made of the input: a refusal by its number, nothing sent, or a message.
pub data RotVerdict : Type 0 where
  failure : ℕ → RotVerdict
  unsent : RotVerdict
  good : RotMessage → RotVerdict

-- The tests in the table's order. 20: no input
abbrev pub no_input : List ℕ → Bool
no_input input = eqb (length input) 0

-- protocol 0, whatever follows: nothing was sent
abbrev pub nothing_sent : List ℕ → Bool
nothing_sent input = eqb (protocol_of input) null_protocol

-- 21: protocol neither 0 nor 1
abbrev pub wrong_protocol : List ℕ → Bool
wrong_protocol input = not (eqb (protocol_of input) version_1)

-- 22: fewer than 8 bytes
abbrev pub short_header : List ℕ → Bool
short_header input = ltb (length input) rot_header_length

-- 23: length over 512
abbrev pub long_payload : List ℕ → Bool
long_payload input = ltb longest_payload (payload_length input)

-- 24: payload cut short
abbrev pub cut_short : List ℕ → Bool
cut_short input = ltb (length input) (rot_header_length + payload_length input)

-- 25: wrong CRC
abbrev pub wrong_crc : List ℕ → Bool
wrong_crc input = not (eqb (crc_field input) (crc (checked input)))

-- 26: the type is not 01 to 09
abbrev pub wrong_type : List ℕ → Bool
wrong_type input = not (listed_type (type_of input))

-- The first row whose test fails decides, or else it is a message. A whole message:
unfoldable pub judge_message : List ℕ → RotVerdict
judge_message input =
    cond (wrong_crc input) (failure 25)
    (cond (wrong_type input) (failure 26)
    (good (record { type = type_of input; payload = rot_payload input })))

-- a whole header, and what follows
unfoldable pub judge_length : List ℕ → RotVerdict
judge_length input =
    cond (long_payload input) (failure 23)
    (cond (cut_short input) (failure 24)
    (judge_message input))

-- any input
unfoldable pub rot_judge : List ℕ → RotVerdict
rot_judge input =
    cond (no_input input) (failure 20)
    (cond (nothing_sent input) unsent
    (cond (wrong_protocol input) (failure 21)
    (cond (short_header input) (failure 22)
    (judge_length input))))

-- what a verdict of the code stands for: a message by its type, or nothing sent
unfoldable pub judged_as : List ℕ → Result (Option ℕ) Refusal → RotVerdict
judged_as input (Err why) = failure (refusal_number why)
judged_as input (Ok None) = unsent
judged_as input (Ok (Some kind)) = good (record { type = kind; payload = rot_payload input })

-- a message: an echo request is answered in the room, any other is handed out; 8 is for the echo's answer alone
unfoldable pub serve_message : RotMessage → List ℕ → RotOutcome
serve_message m out =
    cond (eqb m.type echo_request) (rot_write_into (rot_message (echoed m)) out) (rot_outcome (handed m.type (length m.payload)) out)

unfoldable pub answer_to : RotVerdict → List ℕ → RotOutcome
answer_to (failure n) out = rot_outcome (refused n) out
answer_to unsent out = rot_outcome nothing out
answer_to (good m) out = serve_message m out

-- A call of `read`.
unfoldable pub rot_read_promise : List ℕ → List ℕ → RotOutcome
rot_read_promise input out = answer_to (rot_judge input) out

unfoldable pub rot_read_report : Result Answer Refusal → RotReport
rot_read_report (Err why) = refused (refusal_number why)
rot_read_report (Ok answer.Nothing) = nothing
rot_read_report (Ok (answer.Message head)) = handed head.kind head.length
rot_read_report (Ok (answer.Echoed n)) = wrote n

-- A call of `payload`: that of the message that `read` hands out; an empty part where it hands out none.
unfoldable pub handed_part : RotVerdict → List ℕ
handed_part (failure n) = []
handed_part unsent = []
handed_part (good m) = cond (eqb m.type echo_request) [] m.payload

unfoldable pub payload_promise : List ℕ → List ℕ
payload_promise input = handed_part (rot_judge input)

-- A call of `payload_given`: the number with which `read` refuses the input, none where it does not.
unfoldable pub verdict_number : RotVerdict → report.Option ℕ
verdict_number (failure n) = some n
verdict_number unsent = none
verdict_number (good m) = none

unfoldable pub payload_given_promise : List ℕ → report.Option ℕ
payload_given_promise input = verdict_number (rot_judge input)

unfoldable pub payload_given_report : Result ⊤ Refusal → report.Option ℕ
payload_given_report (Err why) = some (refusal_number why)
payload_given_report (Ok _) = none

-- It begins behind the header; an empty part for want of a message begins where the input does.
unfoldable pub payload_offset : RotVerdict → ℕ
payload_offset (failure n) = 0
payload_offset unsent = 0
payload_offset (good m) = cond (eqb m.type echo_request) 0 rot_header_length

unfoldable pub payload_place : LentBytes → Place
payload_place input = place_in input (payload_offset (rot_judge input.now))
