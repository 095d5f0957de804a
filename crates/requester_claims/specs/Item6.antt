-- Document 02's item 6 at the main processor's end, which takes over the line layer's promise: what an answer was on the wire.
-- Assumes nothing: these are definitions and statements.
use Rattle.std.specs.Prelude.{◌≡◌, List, [], ◌∷◌, ◌++◌, ℕ, suc, ◌≤◌, take, get_or}
use Rattle.std.proofs.Math.Option.{Option, some}
use Rattle.octets.specs.Bytes.{Byte, Each}
use Rattle.line.specs.Message.{Message}
use Rattle.line.specs.Frame.{frame}
use Rattle.line.specs.Judge.{good, judge}
use Rattle.requester.specs.Calls.{MainParts}
use Rattle.requester_claims.specs.View.{main_view}
use Rattle.requester_claims.specs.Histories
use Rattle.requester_claims.specs.Histories.{MainCall, MainLent, MainMade, main_made, main_left, OfMainStart, OfValid}
use Rattle.requester_claims.specs.Answers.{OfAnswer, MessageMatching}
use Rattle.requester_claims.specs.CameAs.{CameAs, came_as}

-- the last byte that a call read of a piece is a 00; bs is what had come of its frame before the piece
pub record ReadTo00 (piece : List ℕ) (bs : Option (List ℕ)) (used : ℕ) : Type 0 where
  -- the bytes that had come, and how many of the piece stand ahead of the 00
  pub since : List ℕ
  pub ahead : ℕ
  pub begun : bs ≡ some since
  pub read : used ≡ suc ahead
  pub closed : get_or piece ahead 1 ≡ 0

-- the line layer's tests find the message in the bytes since the 00 before
pub record Comes (piece : List ℕ) (bs : Option (List ℕ)) (used : ℕ) (m : Message) : Type 0 where
  pub ended : ReadTo00 piece bs used
  pub whole : Each (λ b. 1 ≤ b) (take ended.ahead piece)
  pub judged : judge (ended.since ++ take ended.ahead piece) ≡ good m

-- these bytes and the 00 are exactly the message's frame
pub record InFrame (piece : List ℕ) (bs : Option (List ℕ)) (used : ℕ) (m : Message) : Type 0 where
  pub ended : ReadTo00 piece bs used
  pub framed : (ended.since ++ take ended.ahead piece) ++ 0 ∷ [] ≡ frame m

-- of the message that a receive hands out, or that a status comes from: it is an answer under the newest number
abbrev pub MainReceives : (List ℕ → Option (List ℕ) → ℕ → Message → Type 0) → MainParts → MainLent → List ℕ → Type 0
MainReceives P p l piece =
    let d = main_made p (record { lent = l; call = Histories.receive piece }) in
    OfAnswer (λ used m. P piece (main_view p).received used m × MessageMatching (main_view p).newest m) d.answer d.out

-- a piece of the received stream is made of bytes
abbrev pub PieceTyped : MainCall → Type 0
PieceTyped Histories.start = Unit {0}
PieceTyped (Histories.request command d room) = Unit {0}
PieceTyped Histories.interrupt = Unit {0}
PieceTyped (Histories.send room) = Unit {0}
PieceTyped (Histories.receive piece) = Each Byte piece
PieceTyped Histories.state = Unit {0}

abbrev pub AllPiecesTyped : List MainMade → Type 0
AllPiecesTyped = Each (λ (m : MainMade). PieceTyped m.call)

abbrev pub AnswerBytes : MainParts → Type 0
AnswerBytes p = (l : MainLent) (piece : List ℕ) → MainReceives Comes p l piece

abbrev pub AnswerFrame : MainParts → Type 0
AnswerFrame p = (ms : List MainMade) → AllPiecesTyped ms → (l : MainLent) (piece : List ℕ) → Each Byte piece
    → MainReceives InFrame (main_left p ms) l piece

-- each message came as its frame
abbrev pub CameFramed : MainParts → Type 0
CameFramed p = (ms : List MainMade) → AllPiecesTyped ms → Each (λ (x : CameAs). x.bytes ≡ frame x.message) (came_as p [] ms)

-- equal messages came as equal frames
abbrev pub FramesEqual : List CameAs → List CameAs → Type 0
FramesEqual xs ys = Each (λ (x : CameAs). Each (λ (y : CameAs). x.message ≡ y.message → x.bytes ≡ y.bytes) ys) xs

abbrev pub EqualFrames : MainParts → MainParts → Type 0
EqualFrames p q = (ms ns : List MainMade) → AllPiecesTyped ms → AllPiecesTyped ns → FramesEqual (came_as p [] ms) (came_as q [] ns)

pub record MainItem6 : Type 0 where
  -- Where a receive on valid parts hands out an answer, an alert's answer or a status, the last byte that it read is a 00.
  -- The message is what the line layer's tests find in the bytes since the 00 before, and an answer under the newest number.
  -- A status is of a message 0x06 with 16 bytes: these two numbers.
  pub answer_bytes : OfValid AnswerBytes
  -- from a start on, behind any calls whose pieces are bytes, these bytes and the 00 are exactly the frame of that message
  pub answer_frame : OfMainStart AnswerFrame
  -- Item 6's words at this end, over any two lists of calls, each behind an accepted start and of pieces that are bytes.
  -- Equal messages handed out came as equal frames.
  -- A status is the reply to the newest number that has its two numbers (`status_reply`), so equal numbers under the same request number.
  pub equal_frames : OfMainStart (λ p. OfMainStart (EqualFrames p))
  -- since over any such list each message handed out came as exactly its frame
  pub came_framed : OfMainStart CameFramed
