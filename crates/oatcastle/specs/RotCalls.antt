-- The calls of the root-of-trust link in the C interface: the number that each returns, and what it leaves of what it is lent.
-- Assumes nothing: these are definitions.
use Rattle.std.specs.Prelude.{List, [], ◌∷◌, ℕ}
use Rattle.rot.specs.Crc.{crc}
use Rattle.rot.specs.Message.{RotMessage}
use Rattle.rot.specs.Answers as RotAnswers
use Rattle.rot.specs.Reading.{rot_read_promise, payload_given_promise, payload_promise}
use Rattle.rot.specs.Writing.{rot_write_promise}
use Rattle.oatcastle.specs.Answers.{CallOutcome, CallReport, refused, given, part_given, answering, answering_with, filling}

-- ---- Read: kind, type, length
-- - kind 0: nothing was sent
-- - kind 1: a message, with its type and its payload's length
-- - kind 2: an echo request, with the length of its answer in the room

abbrev pub rot_read_given : RotAnswers.RotReport → CallReport
rot_read_given (RotAnswers.refused n) = refused n
rot_read_given RotAnswers.nothing = given (0 ∷ 0 ∷ 0 ∷ [])
rot_read_given (RotAnswers.handed type n) = given (1 ∷ type ∷ n ∷ [])
rot_read_given (RotAnswers.wrote n) = given (2 ∷ 0 ∷ n ∷ [])

-- by what the link's call answers and leaves, here and below
abbrev pub rot_read_call_outcome : RotAnswers.RotOutcome → List ℕ → CallOutcome (List ℕ × List ℕ)
rot_read_call_outcome o answer = answering_with o.out (rot_read_given o.answer) answer

abbrev pub rot_read_call : List ℕ → List ℕ → List ℕ → CallOutcome (List ℕ × List ℕ)
rot_read_call input out answer = rot_read_call_outcome (rot_read_promise input out) answer

-- ---- The payload of the message that is handed out, to a room.
-- It is nothing where none is handed out, and a refusal where a read refuses the input.

abbrev pub rot_payload_call : List ℕ → List ℕ → CallOutcome (List ℕ)
rot_payload_call input room = filling (part_given (payload_given_promise input) (payload_promise input)) room

-- ---- Write: the message's length

abbrev pub rot_write_given : RotAnswers.RotReport → CallReport
rot_write_given (RotAnswers.refused n) = refused n
rot_write_given (RotAnswers.wrote n) = given (n ∷ [])
-- the writer says neither of these
rot_write_given RotAnswers.nothing = given (0 ∷ [])
rot_write_given (RotAnswers.handed type n) = given (0 ∷ [])

abbrev pub rot_write_call_outcome : RotAnswers.RotOutcome → List ℕ → CallOutcome (List ℕ × List ℕ)
rot_write_call_outcome o answer = answering_with o.out (rot_write_given o.answer) answer

abbrev pub rot_write_call : RotMessage → List ℕ → List ℕ → CallOutcome (List ℕ × List ℕ)
rot_write_call m out answer = rot_write_call_outcome (rot_write_promise m out) answer

-- ---- The CRC of some bytes

abbrev pub rot_crc_call : List ℕ → List ℕ → CallOutcome (List ℕ)
rot_crc_call bs answer = answering (given (crc bs ∷ [])) answer
