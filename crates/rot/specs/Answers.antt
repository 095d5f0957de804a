-- What a call of the root-of-trust link says, by document 02's numbers, and leaves.
-- Assumes nothing: these are definitions.
use Rattle.std.specs.Prelude.{cond, List, ℕ, ltb, length}
use Rattle.octets.specs.Bytes.{overlay}
use Rattle.rot.specs.declared.refusals.Refusal.{Refusal}
use Rattle.rot.specs.declared.refusals.Refusal.TheVariants as refusal

-- the number of a refusal
unfoldable pub refusal_number : Refusal → ℕ
refusal_number refusal.NoRoom = 8
refusal_number refusal.NoInput = 20
refusal_number refusal.BadProtocol = 21
refusal_number refusal.ShortHeader = 22
refusal_number refusal.TooLong = 23
refusal_number refusal.CutShort = 24
refusal_number refusal.BadCrc = 25
refusal_number refusal.BadType = 26

pub data RotReport : Type 0 where
  refused : ℕ → RotReport
  -- nothing was sent
  nothing : RotReport
  -- a message is handed out: its type, and how many bytes its payload has
  handed : ℕ → ℕ → RotReport
  -- so many bytes were written
  wrote : ℕ → RotReport

-- what a call answered, and the room as it left it
pub record RotOutcome : Type 0 where
  pub answer : RotReport
  pub out : List ℕ

abbrev pub rot_outcome : RotReport → List ℕ → RotOutcome
rot_outcome a out = record { answer = a; out = out }

-- bytes at the start of the room; 8 where they do not fit, and nothing changes
unfoldable pub rot_write_into : List ℕ → List ℕ → RotOutcome
rot_write_into bs out =
    cond (ltb (length out) (length bs)) (rot_outcome (refused 8) out) (rot_outcome (wrote (length bs)) (overlay 0 bs out))
