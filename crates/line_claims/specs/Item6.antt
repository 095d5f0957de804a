-- Document 02's item 6: two frames read as equal bytes only if they are the same frame.
-- Assumes nothing: these are definitions and statements.
use Rattle.std.specs.Prelude.{◌≡◌, List, [], ◌∷◌, ◌++◌, map, ℕ, length}
use Rattle.std.proofs.Math.Option.{none, some}
use Rattle.octets.specs.Bytes.{Byte, Each}
use Rattle.line.specs.Message.{Message}
use Rattle.line.specs.Cobs.{cobs, uncobs}
use Rattle.line.specs.Frame.{frame, WireBytes, NonZero, split, non_empty, with_zeros}
use Rattle.line.specs.Judge.{failure, good, judge}
use Rattle.line_claims.specs.Calls.{Reader, OfFreshReader, good_frames, reported_bytes}

-- a form that stands ahead of a 00: bytes 1 to 255, not none
pub record Form (form : List ℕ) : Type 0 where
  pub some_byte : form ≡ [] → ⊥
  pub bytes : Each NonZero form

abbrev pub LastOneReason1 : Type 0
LastOneReason1 = (f g ys : List ℕ) → uncobs f ≡ some ys → length g ≡ 254 → judge (f ++ 0xff ∷ (g ++ 0x01 ∷ [])) ≡ failure 1 none

-- one spelling: what the field calls a unique or canonical encoding
abbrev pub OneSpelling : Type 0
OneSpelling = (f g xs : List ℕ) → Form f → Form g → uncobs f ≡ some xs → uncobs g ≡ some xs → f ≡ g

abbrev pub ReadWritten : Type 0
ReadWritten = (form xs : List ℕ) → Form form → uncobs form ≡ some xs → form ≡ cobs xs

abbrev pub GoodFrame : Type 0
GoodFrame = (form : List ℕ) (m : Message) → Each NonZero form → judge form ≡ good m → form ++ 0 ∷ [] ≡ frame m

-- the bytes ahead of each 00 that a reader has read, in order
abbrev pub pieces_read : Reader → List (List ℕ)
pieces_read r = (split r.bytes).closed

abbrev pub HandedFrames : Reader → Type 0
HandedFrames r = Each Byte r.bytes → good_frames (non_empty (pieces_read r)) ≡ map frame r.messages

abbrev pub HandedWire : Reader → Type 0
HandedWire r = Each Byte r.bytes → r.failures ≡ []
    → WireBytes r.messages (with_zeros (pieces_read r)) × (r.bytes ≡ with_zeros (pieces_read r) ++ (split r.bytes).rest)

abbrev pub AnswersDetermine : Reader → Type 0
AnswersDetermine r = Each Byte r.bytes → r.failures ≡ []
    → r.bytes ≡ reported_bytes r.answered r.messages ++ (split r.bytes).rest

pub record LineItem6 : Type 0 where
  -- A last 01 after a full group, behind any groups that decode, or none, is reason 1 ahead of the length test.
  -- It is so whatever the decoded length.
  pub last_one_reason_1 : LastOneReason1
  -- forms that are read as equal bytes are the same form
  pub one_spelling : OneSpelling
  -- a form that is read as xs is the one that is written of xs
  pub read_written : ReadWritten
  -- a frame that is read as a message is that message's frame
  pub good_frame : GoodFrame
  -- over any calls of a fresh line reader: the frames handed out as messages are those messages' frames, in order
  pub handed_frames : OfFreshReader HandedFrames
  -- where no failure is reported, the bytes read are wire bytes of the messages handed out, and then the unfinished tail
  pub handed_wire : OfFreshReader HandedWire
  -- and the answers determine them
  pub answers_determine : OfFreshReader AnswersDetermine
