-- What a call of the writer says and leaves (document 02, item 7).
-- Assumes nothing: these are definitions.
use Rattle.std.specs.Prelude.{cond, List, ltb, length, ℕ, Result, Ok, Err}
use Rattle.rot.specs.Limits.{longest_payload}
use Rattle.rot.specs.Message.{listed_type, RotMessage, rot_message}
use Rattle.rot.specs.Answers.{RotReport, refused, wrote, RotOutcome, rot_outcome, rot_write_into, refusal_number}
use Rattle.rot.specs.declared.refusals.Refusal.{Refusal}

unfoldable pub rot_write_report : Result ℕ Refusal → RotReport
rot_write_report (Ok n) = wrote n
rot_write_report (Err why) = refused (refusal_number why)

abbrev pub rot_message_with : ℕ → List ℕ → RotMessage
rot_message_with type payload = record { type = type; payload = payload }

-- 23: length over 512; 26: type not 01 to 09; then 8
unfoldable pub rot_write_promise : RotMessage → List ℕ → RotOutcome
rot_write_promise m out =
    cond (ltb longest_payload (length m.payload)) (rot_outcome (refused 23) out)
    (cond (listed_type m.type) (rot_write_into (rot_message m) out) (rot_outcome (refused 26) out))
