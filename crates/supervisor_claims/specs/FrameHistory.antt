-- Calls of a supervisor by the frames of the received bytes. Each frame is carried out or answered at the call that brings its 00.
-- A request and its reply follow. Assumes nothing: these are definitions.
use Rattle.std.specs.Prelude.{◌≡◌, Bool, true, false, cond, not, ◌&&◌, List, [], ◌∷◌, ◌++◌, ℕ, length}
use Rattle.std.proofs.Math.Option.{Option, none, some}
use Rattle.std.proofs.Math.ListN as ListN
use Rattle.line.specs.Judge.{progress_of}
use Rattle.line.specs.Message.{Message}
use Rattle.line.specs.Frame.{split, non_empty, closed_behind}
use Rattle.supervisor.specs.State.{Settings, State, with_received, with_pending}
use Rattle.supervisor.specs.Local
use Rattle.supervisor.specs.Calls.{Parts}
use Rattle.responder.specs.Receive.{ended_meant}
use Rattle.responder.specs.Requests.{Verdict, good, verdict, Reply, after_verdict, owed, reply_frame}
use Rattle.counters.specs.Ended.{Ended, Served}
use Rattle.supervisor_claims.specs.View.{factory_of, view}
use Rattle.supervisor_claims.specs.Histories
use Rattle.supervisor_claims.specs.Histories.{Call, Typed, refused, done, stepped, Did, Means, means, up_to, served_meant, meant}
use Rattle.supervisor_claims.specs.Histories.{Lent, Made, enough, untouched, Output, receive_with}

-- ---- The received bytes

-- the bytes that a call reads: a receive its piece, a step its piece up to and with the first 00, any other call none
unfoldable pub piece_read : Call → List ℕ
piece_read (Histories.start d) = []
piece_read (Histories.receive image piece) = piece
piece_read (Histories.step image piece) = ListN.take (up_to piece) piece
piece_read (Histories.local c) = []

-- whether a call is a start with start data that are accepted
unfoldable pub is_accepted_start : Call → Bool
is_accepted_start (Histories.start d) = not (Local.bad_start (factory_of d))
is_accepted_start (Histories.receive image piece) = false
is_accepted_start (Histories.step image piece) = false
is_accepted_start (Histories.local c) = false

-- a call that is lent too little reads nothing and starts nothing
unfoldable pub bytes_received_by : Made → List ℕ
bytes_received_by m = cond (enough m.call m.lent) (piece_read m.call) []

unfoldable pub starts_anew : Made → Bool
starts_anew m = enough m.call m.lent && is_accepted_start m.call

-- all bytes received since the last accepted start, joined: w before a call, and so after it
unfoldable pub received_since : List ℕ → Made → List ℕ
received_since w m = cond (starts_anew m) [] (w ++ bytes_received_by m)

unfoldable pub received_since_all : List ℕ → List Made → List ℕ
received_since_all w [] = w
received_since_all w (m ∷ ms) = received_since_all (received_since w m) ms

-- ---- Their frames

-- the frames that are not empty among those whose 00 stands in bytes that came behind w
unfoldable pub frames_closed_by : List ℕ → List ℕ → List (List ℕ)
frames_closed_by w bs = non_empty (closed_behind w bs)

-- the bytes before a 00; an empty frame is ignored
unfoldable pub frame_carried : List ℕ → State → List ℕ → State
frame_carried image s [] = s
frame_carried image s (b ∷ bs) = after_verdict image s (verdict (b ∷ bs))

-- frames, one after the other
unfoldable pub frames_carried : List ℕ → State → List (List ℕ) → State
frames_carried image s [] = s
frames_carried image s (f ∷ fs) = frames_carried image (frame_carried image s f) fs

-- Those frames in order, with the image lent.
-- A valid request is carried out, any other frame earns its numbered failure (`after_verdict`).
-- The bytes behind the last 00 are the receive progress.
unfoldable pub carried_out : List ℕ → List ℕ → State → List ℕ → State
carried_out image w s bs = with_received (frames_carried image s (frames_closed_by w bs)) (progress_of (split (w ++ bs)).rest)

-- the state after bytes that follow a 00: all their frames, in order, and then the receive progress
abbrev pub after_all_frames : List ℕ → State → List ℕ → State
after_all_frames image s bs = with_received (frames_carried image s (split bs).closed) (progress_of (split bs).rest)

-- the verdict on a frame; none on an empty one
abbrev pub frame_verdict : List ℕ → Option Verdict
frame_verdict [] = none
frame_verdict (b ∷ bs) = some (verdict (b ∷ bs))

-- what is said of the frame whose 00 a step read: there is one at most
unfoldable pub said_by_frames : {A : Type 0} → A → (Option Verdict → A) → List (List ℕ) → A
said_by_frames more closed [] = more
said_by_frames more closed (f ∷ fs) = closed (frame_verdict f)

abbrev pub ended_by_frames : List (List ℕ) → Ended
ended_by_frames fs = said_by_frames Ended.more ended_meant fs

abbrev pub served_by_frames : Settings → List (List ℕ) → Served
served_by_frames z fs = said_by_frames Served.nothing (served_meant z) fs

-- ---- One call

-- a call on the state s, where the bytes w came before: a local call is as document 01 has it
unfoldable pub carried_call : List ℕ → State → Call → Means
carried_call w s (Histories.start d) = meant s (Histories.start d)
carried_call w s (Histories.receive image piece) = means done [] (carried_out image w s piece)
carried_call w s (Histories.step image piece) =
    let bs = piece_read (Histories.step image piece) in
    let fs = closed_behind w bs in
    means (stepped (length bs) (ended_by_frames fs) (served_by_frames s.settings fs)) [] (carried_out image w s bs)
carried_call w s (Histories.local c) = meant s (Histories.local c)

-- 12, and nothing changes, where too little is lent
unfoldable pub carried_made : List ℕ → State → Made → Means
carried_made w s m = cond (enough m.call m.lent) (carried_call w s m.call) (means (refused 12) (untouched m.call) s)

-- ---- Lists of calls

-- each call's answer and what it wrote in the caller's room or handed out
unfoldable pub outputs_by_frames : List ℕ → State → List Made → List Output
outputs_by_frames w s [] = []
outputs_by_frames w s (m ∷ ms) =
    let c = carried_made w s m in (record { answer = c.answer; out = c.out }) ∷ outputs_by_frames (received_since w m) c.state ms

-- the state that they leave
unfoldable pub left_by_frames : List ℕ → State → List Made → State
left_by_frames w s [] = s
left_by_frames w s (m ∷ ms) = left_by_frames (received_since w m) (carried_made w s m).state ms

-- the frames that were carried out or answered since the last accepted start, call after call: fs before, and so after the calls
unfoldable pub carried_frames : List ℕ → List (List ℕ) → List Made → List (List ℕ)
carried_frames w fs [] = fs
carried_frames w fs (m ∷ ms) =
    carried_frames (received_since w m) (cond (starts_anew m) [] (fs ++ frames_closed_by w (bytes_received_by m))) ms

-- ---- A frame behind calls

-- What holds where the frame f comes behind calls: the bytes bs and a 00 are received, and f is what this 00 closes.
-- P speaks of a call with bs alone and of one with the 00 too, both lent the same. They stand for any (`cut_any`, `step_receives`).
abbrev pub OnFrame : List Made → List ℕ → (Made → Made → Type 0) → Type 0
OnFrame ms f P = (j : Lent) (image bs : List ℕ) → let c = receive_with image j bs in Typed c.call → enough c.call j ≡ true
    → (split (received_since_all [] ms ++ bs)).rest ≡ f → P c (receive_with image j (bs ++ (0 ∷ [])))

-- a call on q is done, and leaves this state
abbrev pub DoneLeaving : Did → State → Type 0
DoneLeaving r s = (r.answer ≡ done) × (view r.parts ≡ s)

-- the state s but for the receive progress, which begins anew, and the pending bytes: behind a 00 where one is owed, this reply's frame
abbrev pub answered_with : State → Reply → State
answered_with s r = with_pending (with_received s (some [])) (owed s.terminator_owed ++ reply_frame (some r))

-- ---- A request and its reply

-- a call on q is done, and this reply is pending then, behind a 00 where one is owed
abbrev pub RepliedWith : Parts → Did → List ℕ → Type 0
RepliedWith q r reply = (r.answer ≡ done) × ((view r.parts).pending ≡ owed (view q).terminator_owed ++ reply)

-- What holds where the request m comes behind calls. The bytes bs and a 00 are received, and the frame that this 00 closes is m.
-- A receive whose piece ends with that 00 stands for any. Cutting the stream elsewhere changes nothing (`cut_any`); a step is
-- a receive up to the first 00 (`step_receives`).
abbrev pub OnRequest : List Made → Message → (List ℕ → Made → Type 0) → Type 0
OnRequest ms m P = (j : Lent) (image bs : List ℕ)
    → let c = receive_with image j (bs ++ (0 ∷ [])) in Typed c.call → enough c.call j ≡ true
    → verdict (split (received_since_all [] ms ++ bs)).rest ≡ good m → P bs c
