-- The replies that frames earn, in order.
-- A stream received byte by byte, everything taken after each byte, in any rooms, with the bytes taken.
-- Assumes nothing: these are definitions.
use Rattle.std.specs.Prelude.{◌≡◌, true, List, [], ◌∷◌, ◌++◌, ℕ, ◌≤◌, ◌<◌, length}
use Rattle.std.proofs.Math.Option.{Option, some}
use Rattle.std.proofs.Math.ListN as ListN
use Rattle.octets.specs.Bytes.{Each, Byte}
use Rattle.supervisor.specs.Limits.{most_pending}
use Rattle.supervisor.specs.State.{State}
use Rattle.responder.specs.Requests.{Verdict, failure, good, Reply, verdict, carry_out, reply_frame, reply_of, failure_reply}
use Rattle.supervisor_claims.specs.LocalCalls.{AnswerKind, kind_of}
use Rattle.supervisor_claims.specs.Histories
use Rattle.supervisor_claims.specs.Histories.{Answer}
use Rattle.supervisor_claims.specs.Histories.{Lent, Made, enough, Output, receive_with, locally}

-- ---- Replies

-- what a frame with this verdict does to the state but for the pending bytes, and the reply that it earns
unfoldable pub after_table : List ℕ → State → Verdict → State
after_table image s (failure reason version sequence) = s
after_table image s (good m) = (carry_out image s m).state

unfoldable pub reply_by : List ℕ → State → Verdict → Option Reply
reply_by image s (failure reason version sequence) = some (failure_reply reason version sequence)
reply_by image s (good m) = reply_of m.sequence (carry_out image s m).reply

-- the reply that a frame that is not empty earns, and the state after it, where the reply is taken
unfoldable pub reply_to_frame : List ℕ → State → List ℕ → Option Reply
reply_to_frame image s f = reply_by image s (verdict f)

unfoldable pub after_frame : List ℕ → State → List ℕ → State
after_frame image s f = after_table image s (verdict f)

-- the frames of the replies to such frames, in order
unfoldable pub replies : List ℕ → State → List (List ℕ) → List ℕ
replies image s [] = []
replies image s (f ∷ fs) = reply_frame (reply_to_frame image s f) ++ replies image (after_frame image s f) fs

-- ---- A stream byte by byte

-- A cycle: a byte is received, and then what is pending is taken in a room.
-- Each of the two calls is lent its own bytes of the parts.
pub record Cycle : Type 0 where
  pub byte : ℕ
  pub receiving : Lent
  pub taking : Lent
  pub room : List ℕ

-- each call is lent enough, and the room, which holds any bytes, is long enough for all that may be pending
pub record Ample (t : Cycle) : Type 0 where
  pub byte : t.byte < 256
  pub receiving : (image : List ℕ) → enough (Histories.receive image (t.byte ∷ [])) t.receiving ≡ true
  pub taking : enough (Histories.local (Histories.take t.room)) t.taking ≡ true
  pub room : Each Byte t.room
  pub long : most_pending ≤ length t.room

abbrev pub byte_received : List ℕ → Cycle → Made
byte_received image t = receive_with image t.receiving (t.byte ∷ [])

abbrev pub taken_in : Cycle → Made
taken_in t = locally t.taking (Histories.take t.room)

unfoldable pub byte_by_byte : List ℕ → List Cycle → List Made
byte_by_byte image [] = []
byte_by_byte image (t ∷ ts) = byte_received image t ∷ (taken_in t ∷ byte_by_byte image ts)

-- the stream that is received
unfoldable pub stream_of : List Cycle → List ℕ
stream_of [] = []
stream_of (t ∷ ts) = t.byte ∷ stream_of ts

-- the bytes that a call moved
abbrev pub moved_by : AnswerKind → List ℕ → List ℕ
moved_by (AnswerKind.number n) out = []
moved_by (AnswerKind.fault n) out = []
moved_by AnswerKind.carried-out out = []
moved_by (AnswerKind.taken n) out = ListN.take n out
moved_by AnswerKind.other out = []

abbrev pub moved_bytes : Answer → List ℕ → List ℕ
moved_bytes a out = moved_by (kind_of a) out

-- and those of a list of calls, in order
unfoldable pub taken_bytes : List Output → List ℕ
taken_bytes [] = []
taken_bytes (t ∷ ts) = moved_bytes t.answer t.out ++ taken_bytes ts
