-- What a call of the writer answers and leaves (document 01, "The message on the wire", "When a call says no").
-- Assumes nothing: these are definitions.
use Rattle.std.specs.Prelude.{cond, List, ◌++◌, ℕ, ltb, length, Result, Ok, Err}
use Rattle.octets.specs.Bytes.{overlay}
use Rattle.line.specs.Limits.{longest_data}
use Rattle.line.specs.Message.{Message}
use Rattle.line.specs.Frame.{frame}
use Rattle.refusals.specs.declared.Refusal.{Refusal}
use Rattle.refusals.specs.Refusals.{table_number}

-- document 01's number and values of an answer: how many bytes were written, or the table's number
pub data WriteReport : Type 0 where
  wrote : ℕ → WriteReport
  refused : ℕ → WriteReport

abbrev pub write_report : Result ℕ Refusal → WriteReport
write_report (Ok n) = wrote n
write_report (Err why) = refused (table_number why)

-- what a call answered, and the room as it left it
pub record WriteOutcome : Type 0 where
  pub answer : WriteReport
  pub out : List ℕ

abbrev pub write_outcome : Result ℕ Refusal → List ℕ → WriteOutcome
write_outcome r out = record { answer = write_report r; out = out }

-- the message of a call: its data stand in two parts
abbrev pub message_of_parts : ℕ → ℕ → ℕ → List ℕ → List ℕ → Message
message_of_parts version sequence command head rest =
    record { version = version; sequence = sequence; command = command; payload = head ++ rest }

-- bytes at the start of the room, where they fit
unfoldable pub write_into : List ℕ → List ℕ → WriteOutcome
write_into bs out =
    cond (ltb (length out) (length bs)) (record { answer = refused 8; out = out })
    (record { answer = wrote (length bs); out = overlay 0 bs out })

-- the frame; too much data, or else too little room, changes nothing
unfoldable pub write_promise : Message → List ℕ → WriteOutcome
write_promise m out = cond (ltb longest_data (length m.payload)) (record { answer = refused 9; out = out }) (write_into (frame m) out)
