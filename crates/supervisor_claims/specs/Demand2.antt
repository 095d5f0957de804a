-- Demand 2: from a fresh start, state and replies are those got by carrying out the received stream, with the local calls where they fell.
-- Assumes nothing: these are definitions and statements.
use Rattle.std.specs.Prelude.{◌≡◌, true, cond, not, ◌&&◌, ◌⊎◌, ℕ, zero, suc, ◌≤◌, ◌<◌, eqb, length, take, drop}
use mathlib.Core.List.{List, [], ◌∷◌, ◌++◌, flatten, map}
use Rattle.std.proofs.Math.Option.{Option, none, some}
use Rattle.octets.specs.Bytes.{Each, Byte}
use Rattle.line.specs.Limits.{longest_form}
use Rattle.line.specs.Numbers.{first_version, command_key_set}
use Rattle.line.specs.Message.{Message}
use Rattle.line.specs.Frame.{split, non_empty}
use Rattle.line.specs.Reader.{more, message, ahead_of00}
use Rattle.line_claims.specs.Loans.{Loan}
use Rattle.supervisor.specs.Limits.{last_edition, SettingsKey}
use Rattle.supervisor.specs.Layout
use Rattle.supervisor.specs.State.{Factory, Setting, Settings, State, fresh, with_pending, with_received}
use Rattle.supervisor.specs.Local
use Rattle.supervisor.specs.Calls
use Rattle.supervisor.specs.Calls.{Parts}
use Rattle.responder.specs.Requests.{failure, good, verdict, wrong_value_length, store_value, carry_out, receive_stream}
use Rattle.responder.specs.Requests.{owed, reply_frame, reply_of, failure_reply}
use Rattle.responder.specs.Replay.{replay_bytes}
use Rattle.supervisor_claims.specs.View.{factory_of, view}
use Rattle.supervisor_claims.specs.Sound.{Valid, Bytes, Sound, Lengths}
use Rattle.supervisor_claims.specs.Histories
use Rattle.supervisor_claims.specs.Histories.{Typed, Answer, refused, done, found, did, up_to, Lent, enough, Made, made}
use Rattle.supervisor_claims.specs.Histories.{Output, outputs, left, outputs_meant, left_meant, AllTyped}
use Rattle.supervisor_claims.specs.Histories.{receive_with, locally, FromStart, AfterCalls}
use Rattle.supervisor_claims.specs.FrameHistory.{received_since_all, frame_carried, after_all_frames, outputs_by_frames}
use Rattle.line.specs.Judge.{progress_of}
use Rattle.supervisor_claims.specs.FrameHistory.{left_by_frames, carried_frames, RepliedWith, OnRequest}
use Rattle.supervisor_claims.specs.FrameHistory.{OnFrame, DoneLeaving, answered_with}
use Rattle.supervisor_claims.specs.MixedCalls.{MixedCall, line_read, line_data, line_collect, enough_of_reader, MixedAnswer}
use Rattle.supervisor_claims.specs.MixedCalls.{AllTypedMixed, Says12, made_mixed, mixed_since_all}
use Rattle.supervisor_claims.specs.MixedCalls.{MixedOutput, outputs_mixed, left_mixed, MixedAsFrames, left_mixed_by_frames}
use Rattle.supervisor_claims.specs.MixedCalls.{brought_all}
use Rattle.supervisor_claims.specs.LastSet.{successful, set_after, origin, origin_behind, set_since, Has, fitted_of, lookup_message}
use Rattle.supervisor_claims.specs.LastSet.{lookup_reply, ReadBack}
use Rattle.supervisor_claims.specs.Replies.{Cycle, Ample, byte_by_byte, stream_of, taken_bytes, replies}

-- ---- State and replies are those got by carrying out the valid requests, once each and in order, with the local calls where they fell

-- the frames carried out or answered since the last accepted start, call after call, are all those of the joined bytes that are not empty
abbrev pub CarriedOnce : List Made → Type 0
CarriedOnce ms = carried_frames [] [] ms ≡ non_empty (split (received_since_all [] ms)).closed

abbrev pub HistoryFrames : Type 0
HistoryFrames = FromStart (λ p d q. (ms : List Made) → AllTyped ms
    → (outputs q ms ≡ outputs_by_frames [] (fresh (factory_of d)) ms)
    × (view (left q ms) ≡ left_by_frames [] (fresh (factory_of d)) ms)
    × CarriedOnce ms
    × Sound (left q ms)
    × Lengths p (left q ms))

-- calls on q do what document 01 has of the same calls on the state s, and leave sound parts, as long as p's
abbrev pub Follows : Parts → Parts → State → List Made → Type 0
Follows p q s ms = (outputs q ms ≡ outputs_meant s ms) × (view (left q ms) ≡ left_meant s ms) × Sound (left q ms) × Lengths p (left q ms)

abbrev pub History : Type 0
History = FromStart (λ p d q. (ms : List Made) → AllTyped ms → Follows p q (fresh (factory_of d)) ms)

-- a refusal of a start on p with nothing changed, or valid parts that hold the state
abbrev pub Starts : Parts → Calls.StartOutcome → Local.Done → Type 0
Starts p t (Local.refused n) = t ≡ record { refusal = some n; parts = p }
Starts p t (Local.left s) = (t.refusal ≡ none) × (view t.parts ≡ s) × Valid t.parts

abbrev pub StartMeant : Type 0
StartMeant = (d : List ℕ) → length d ≡ Layout.start_length → (p : Parts) → Calls.long_enough p ≡ true
    → Starts p (Calls.start_promise d p) (Local.start (factory_of d))

abbrev pub EachOnce : Type 0
EachOnce = (ms : List Made) → CarriedOnce ms

abbrev pub FramesInOrder : Type 0
FramesInOrder = (image : List ℕ) (s : State) (bs : List ℕ) → s.received ≡ some [] → receive_stream image s bs ≡ after_all_frames image s bs

-- no 00 is among them
abbrev pub NoZeros : List ℕ → Type 0
NoZeros = Each (λ b. 1 ≤ b)

abbrev pub FramesInOrderBehind : Type 0
FramesInOrderBehind = (image : List ℕ) (s : State) (p bs : List ℕ) → NoZeros p → s.received ≡ progress_of p
    → receive_stream image s bs ≡ after_all_frames image s (p ++ bs)

abbrev pub ReceivedSince : Type 0
ReceivedSince = (f : Factory) (ms : List Made)
    → let p = (split (received_since_all [] ms)).rest in ((left_meant (fresh f) ms).received ≡ progress_of p) × NoZeros p

abbrev pub FramesInOrderAfter : Type 0
FramesInOrderAfter = (f : Factory) (ms : List Made) (image bs : List ℕ)
    → let s = left_meant (fresh f) ms in
    receive_stream image s bs ≡ after_all_frames image s ((split (received_since_all [] ms)).rest ++ bs)

abbrev pub RequestCarried : Type 0
RequestCarried = (image : List ℕ) (s : State) (b : ℕ) (bs : List ℕ) (m : Message) → verdict (b ∷ bs) ≡ good m
    → let c = carry_out image s m in
    frame_carried image s (b ∷ bs) ≡ with_pending c.state (owed s.terminator_owed ++ reply_frame (reply_of m.sequence c.reply))

abbrev pub RepliesInOrder : Type 0
RepliesInOrder = (image : List ℕ) → Each Byte image → FromStart (λ p d q. (ts : List Cycle) → Each Ample ts
    → taken_bytes (outputs q (byte_by_byte image ts)) ≡ replies image (fresh (factory_of d)) (non_empty (split (stream_of ts)).closed))

abbrev pub RepliesReplayed : Type 0
RepliesReplayed = (image : List ℕ) → Each Byte image → FromStart (λ p d q. (bs : List ℕ) → Each Byte bs
    → (replay_bytes image q bs).taken ≡ replies image (fresh (factory_of d)) (non_empty (split bs).closed))

-- a replay of bytes in two stretches
abbrev pub ReplayJoined : Type 0
ReplayJoined = (image : List ℕ) (p : Parts) (xs ys : List ℕ)
    → let c = replay_bytes image p xs in
    let d = replay_bytes image c.parts ys in
    replay_bytes image p (xs ++ ys) ≡ record { taken = c.taken ++ d.taken; parts = d.parts }

abbrev pub ValueLastSet : List Made → Parts → Type 0
ValueLastSet ms q = (k : ℕ) → SettingsKey k → Local.entry_of (view q) k ≡ set_since k (origin k ms)

-- a lookup of key k over the wire is answered with what the key has by the requests before it
abbrev pub LookupAnswered : List Made → Parts → ℕ → Type 0
LookupAnswered ms q k = (version n most : ℕ) → most < 65536
    → OnRequest ms (lookup_message version n k most)
    (λ bs c. RepliedWith q (made q c) (lookup_reply version n most (set_since k (origin_behind k ms bs))))

abbrev pub LastSet : List Made → Parts → Type 0
LastSet ms q = (k : ℕ) → ReadBack k → LookupAnswered ms q k

abbrev pub WithdrawnListAnswered : List Made → Parts → Type 0
WithdrawnListAnswered ms q = LookupAnswered ms q 5

abbrev pub LookupLastSet : List Made → Parts → Type 0
LookupLastSet ms q = (k : ℕ) → ReadBack k → (most : ℕ) → most < 65536 → (j : Lent)
    → enough (Histories.local (Histories.lookup k most)) j ≡ true → let r = made q (locally j (Histories.lookup k most)) in
    let f = fitted_of most (set_since k (origin k ms)) in
    (r.answer ≡ found f.result (length f.value)) × (r.out ≡ f.value)

abbrev pub SetSuccessful : Type 0
SetSuccessful = (z : Settings) (v : List ℕ) (k : ℕ) → SettingsKey k → (x : Setting) → Has z k x
    → eqb (store_value z k v).result 0 ≡ (not (wrong_value_length k (length v)) && not (eqb x.edition last_edition))

abbrev pub SuccessfulExactly : Type 0
SuccessfulExactly = (k : ℕ) → SettingsKey k → (x : Setting) → x.edition ≤ last_edition → (ms : List Message) (z : Settings)
    → Has z k (set_after k x ms) → (m : Message) (v : List ℕ) → m.command ≡ command_key_set → m.payload ≡ k ∷ v
    → successful x.edition k (ms ++ (m ∷ [])) ≡ successful x.edition k ms ++ cond (eqb (store_value z k v).result 0) (v ∷ []) []

pub record RequestsCarriedOut : Type 0 where
  -- Demand 2 in one statement, over any calls, whatever each is lent.
  -- The bytes received since the last accepted start are joined (`received_since_all`).
  -- A receive or step takes, in order, those frames of the joined bytes that are not empty and whose 00 it brings. It carries out each
  -- valid request, with the image lent to it, and answers every other with its numbered failure. A local call does what document 01 has of
  -- it. A call that is lent too little is refused as 12 and does nothing. Every answer, all that is written outside the
  -- state, and the state that is left are those got so. A step answers how its frame ended, and the command that it carried out,
  -- of a key set its key and result (`served_by_frames`).
  -- The frames so taken since the last accepted start are all of them, each exactly once and in order.
  pub history_frames : HistoryFrames
  -- the same byte by byte: every answer, all that is written outside the state, and the state that is left are document 01's
  pub history : History
  -- the fresh start: on any parts of sufficient length, start data are refused as document 01 has it, or leave the fresh state
  pub start_meant : StartMeant
  -- once each: over the bytes of all calls since the last accepted start
  pub each_once : EachOnce
  -- in order: a stream does what its frames do one after the other, and then the unfinished tail is the receive progress
  pub in_order : FramesInOrder
  -- the same in the middle of a frame, of which the bytes p have come
  pub in_order_behind : FramesInOrderBehind
  -- after any calls on a fresh state, the receive progress is what stands behind the last 00 of the joined bytes
  pub received-since : ReceivedSince
  -- a stream behind them: its first frame began in the calls before
  pub in_order_after : FramesInOrderAfter
  -- a valid request is carried out, and its reply, if it earns one, is pending
  pub request_carried : RequestCarried
  -- replies: with everything taken after each byte, the bytes taken are the frames of the replies to the non-empty frames, in order
  pub replies_in_order : RepliesInOrder
  -- the same of the replay of a stream, which the promise of the replay program's function `feed` cites
  pub replies_replayed : RepliesReplayed
  -- replayed in stretches, a stream gives the same, so that what `feed` keeps, call after call, is the replay of the whole
  pub replay_joined : ReplayJoined
  -- A settings key starts from the last accepted start or, of a saved key, from a later restore. The successful sets since then count its
  -- edition on, and its value is that of the last of them.
  pub value_last_set : AfterCalls ValueLastSet
  -- a lookup of any settings key but the passphrase is answered with that, in either version; all requests before its 00 count
  pub last_set : AfterCalls LastSet
  -- so is one of key 5, the withdrawn-key list
  pub withdrawn_list_answered : AfterCalls WithdrawnListAnswered
  -- a lookup by the local call has the same results
  pub lookup_last_set : AfterCalls LookupLastSet
  -- a set is successful, its result being 0, exactly where its value's length is right and the edition is not the last
  pub set_successful : SetSuccessful
  -- a set behind requests counts among the successful ones exactly where its result is 0, whatever the key had ahead of them
  pub successful_exactly : SuccessfulExactly

-- ---- Every other non-empty frame earns exactly its numbered failure

abbrev pub FailureOnlyPending : Type 0
FailureOnlyPending = (image : List ℕ) (s : State) (b : ℕ) (bs : List ℕ) (reason version : ℕ) (sequence : Option ℕ)
    → verdict (b ∷ bs) ≡ failure reason version sequence
    → frame_carried image s (b ∷ bs) ≡ with_pending s (owed s.terminator_owed ++ reply_frame (some (failure_reply reason version sequence)))

abbrev pub FailureAnswered : List Made → Parts → Type 0
FailureAnswered ms q = (b : ℕ) (bs : List ℕ) (reason version : ℕ) (sequence : Option ℕ) → verdict (b ∷ bs) ≡ failure reason version sequence
    → OnFrame ms (b ∷ bs)
    (λ ahead c. DoneLeaving (made q c) (answered_with (view (made q ahead).parts) (failure_reply reason version sequence)))

abbrev pub OverlongAnswered : List Made → Parts → Type 0
OverlongAnswered ms q = (f : List ℕ) → longest_form < length f
    → OnFrame ms f (λ ahead c. DoneLeaving (made q c) (answered_with (view (made q ahead).parts) (failure_reply 1 first_version none)))

abbrev pub EmptyFrameIgnored : List Made → Parts → Type 0
EmptyFrameIgnored ms q = OnFrame ms [] (λ ahead c. DoneLeaving (made q c) (view (made q ahead).parts))

abbrev pub AheadOfZero : List Made → Parts → Type 0
AheadOfZero ms q = (j : Lent) (image bs : List ℕ)
    → let c = receive_with image j bs in Typed c.call → enough c.call j ≡ true → NoZeros bs
    → DoneLeaving (made q c) (with_received (view q) (progress_of ((split (received_since_all [] ms)).rest ++ bs)))

pub record NumberedFailures : Type 0 where
  -- Behind any calls from an accepted start, a 00 closes a frame that is not empty and that the table finds a failure. The call is done.
  -- It leaves the state before that 00 but for the receive progress and the pending bytes.
  -- The pending bytes are the frame of exactly that failure's reply, behind a 00 where one is owed.
  pub failure_answered : AfterCalls FailureAnswered
  -- so of a frame of more than 4,140 bytes: reason 1, version 1, all ones, at its 00
  pub overlong_answered : AfterCalls OverlongAnswered
  -- once: bytes that are not 00 change the receive progress alone
  pub ahead_of_zero : AfterCalls AheadOfZero
  -- an empty frame is ignored
  pub empty_frame_ignored : AfterCalls EmptyFrameIgnored
  -- the same over any state: a failed frame changes nothing but the pending bytes
  pub failure_only_pending : FailureOnlyPending

-- ---- Cutting the stream elsewhere changes nothing

-- pieces received with one image and one loan, one after the other
unfoldable pub receive_calls : List ℕ → Lent → List (List ℕ) → List Made
receive_calls image l [] = []
receive_calls image l (piece ∷ pieces) = receive_with image l piece ∷ receive_calls image l pieces

-- every call answers so, and hands nothing out
abbrev pub AllAnswer : Answer → List Output → Type 0
AllAnswer a = Each (λ (t : Output). t ≡ record { answer = a; out = [] })

-- every call is done; or every call is refused as 12, and no part has changed
abbrev pub AllDone : List ℕ → Lent → Parts → List (List ℕ) → Type 0
AllDone image l p pieces = AllAnswer done (outputs p (receive_calls image l pieces))

abbrev pub AllRefused : List ℕ → Lent → Parts → List (List ℕ) → Type 0
AllRefused image l p pieces = AllAnswer (refused 12) (outputs p (receive_calls image l pieces))
    × (left p (receive_calls image l pieces) ≡ p)

abbrev pub CutAny : Type 0
CutAny = (image : List ℕ) → Each Byte image → (l : Lent) (p : Parts) → Bytes p
    → (ps qs : List (List ℕ)) → Each (Each Byte) ps → Each (Each Byte) qs → flatten ps ≡ flatten qs
    → (left p (receive_calls image l ps) ≡ left p (receive_calls image l qs))
    × ((AllDone image l p ps × AllDone image l p qs) ⊎ (AllRefused image l p ps × AllRefused image l p qs))

abbrev pub Cut : Type 0
Cut = (image : List ℕ) (p : Parts) (a b : List ℕ) → Bytes p → Each Byte image → Each Byte a
    → did p (Histories.receive image (a ++ b)) ≡ did (did p (Histories.receive image a)).parts (Histories.receive image b)

abbrev pub StepReceives : Type 0
StepReceives = (image : List ℕ) (p : Parts) (piece : List ℕ)
    → (did p (Histories.step image piece)).parts ≡ (did p (Histories.receive image (take (up_to piece) piece))).parts

abbrev pub StepThenReceive : Type 0
StepThenReceive = (image : List ℕ) (p : Parts) (piece : List ℕ) → Bytes p → Each Byte image → Each Byte piece
    → did (did p (Histories.step image piece)).parts (Histories.receive image (drop (up_to piece) piece))
    ≡ did p (Histories.receive image piece)

-- calls of step, each on what the one before left of the piece
unfoldable pub step_calls : ℕ → List ℕ → Parts → List ℕ → Parts
step_calls zero image p piece = p
step_calls (suc n) image p piece = step_calls n image (did p (Histories.step image piece)).parts (drop (up_to piece) piece)

abbrev pub StepsReceive : Type 0
StepsReceive = (n : ℕ) (image : List ℕ) (p : Parts) (piece : List ℕ) → Sound p → Each Byte image → Each Byte piece → length piece ≤ n
    → step_calls n image p piece ≡ (did p (Histories.receive image piece)).parts

pub record Cuts : Type 0 where
  -- The same bytes in any two lists of pieces, received with one image and one loan and nothing in between, on any parts.
  -- They leave the same bytes in every part.
  pub cut_any : CutAny
  -- a piece in two calls of receive, on any parts: the same answer, and the same bytes in every part
  pub cut : Cut
  -- a step leaves what a receive of the bytes up to and with the first 00 leaves, on any parts
  pub step_receives : StepReceives
  -- and the bytes left, received then, do what the whole piece does
  pub step_then_receive : StepThenReceive
  -- on sound parts, steps, one for each byte at most, do what a receive of the whole piece does
  pub steps_receive : StepsReceive

-- ---- The line layer's own calls among them

-- The frames that the calls brought since the last accepted start, each by its call.
-- They are all those of the joined bytes that are not empty.
abbrev pub BroughtOnce : List MixedCall → Type 0
BroughtOnce cs = brought_all [] [] cs ≡ non_empty (split (mixed_since_all [] cs)).closed

abbrev pub MixedFrames : Type 0
MixedFrames = FromStart (λ p d q. (cs : List MixedCall) → AllTypedMixed cs
    → MixedAsFrames q [] (fresh (factory_of d)) cs
    × (view (left_mixed q cs) ≡ left_mixed_by_frames [] (fresh (factory_of d)) cs)
    × BroughtOnce cs
    × Sound (left_mixed q cs)
    × Lengths p (left_mixed q cs))

abbrev pub supervisor_output : Output → MixedOutput
supervisor_output o = record { answer = MixedAnswer.supervisor o.answer; out = o.out }

abbrev pub WithoutLineCalls : Type 0
WithoutLineCalls = (q : Parts) (w : List ℕ) (s : State) (ms : List Made) → let cs = map MixedCall.supervisor ms in
    (outputs_mixed q cs ≡ map supervisor_output (outputs q ms))
    × (left_mixed q cs ≡ left q ms)
    × (MixedAsFrames q w s cs → outputs q ms ≡ outputs_by_frames w s ms)
    × (left_mixed_by_frames w s cs ≡ left_by_frames w s ms)
    × (mixed_since_all w cs ≡ received_since_all w ms)
    × ((fs : List (List ℕ)) → brought_all w fs cs ≡ carried_frames w fs ms)

-- a call for the data of the message that a line read just handed out
abbrev pub DataBehindRead : Type 0
DataBehindRead = (p : Parts) → Sound p → (l k : Loan) (piece : List ℕ) → enough_of_reader l ≡ true → enough_of_reader k ≡ true
    → let r = made_mixed p (line_read l piece) in
    (used version sequence command n : ℕ) → r.answer ≡ MixedAnswer.line_read used (message version sequence command n)
    → (made_mixed r.parts (line_data k n)).out ≡ r.out

abbrev pub CollectedReceives : Type 0
CollectedReceives = (p : Parts) (l : Lent) (k : Loan) (image piece : List ℕ) → NoZeros piece
    → let r = made p (receive_with image l piece) in
    let c = made_mixed p (line_read k piece) in
    r.answer ≡ done → (Says12 c.answer → ⊥) → (c.answer ≡ MixedAnswer.line_read (length piece) more) × (c.parts ≡ r.parts)

abbrev pub CollectThenReceive : Type 0
CollectThenReceive = (p : Parts) → Bytes p → (l : Lent) (k : Loan) (image piece : List ℕ) → Each Byte image → Each Byte piece
    → let w = made p (receive_with image l piece) in
    let c = made_mixed p (line_collect k piece) in
    let n = length (ahead_of00 piece) in
    w.answer ≡ done → (Says12 c.answer → ⊥)
    → (c.answer ≡ MixedAnswer.line_read n more) × (made c.parts (receive_with image l (drop n piece)) ≡ w)

pub record MixedLists : Type 0 where
  -- From an accepted start come any calls of the supervisor and of the line layer on the same reader's part.
  -- They do what the frames make of them.
  -- What a line read reads joins the stream. A frame whose 00 a line read brings is neither carried out nor answered, and discards nothing.
  -- An accepted line start drops what was read of an unfinished frame. What a call for data hands out is left open here.
  pub mixed_frames : MixedFrames
  -- without calls of the line layer these are the lists of calls of `history_frames`, and answer as it says
  pub without_line_calls : WithoutLineCalls
  -- behind a line read that hands out a message, a call for its data hands out those that the read did, whatever each is lent
  pub data_behind_read : DataBehindRead
  -- Reading a piece without a 00 with the line layer is receiving it, on any parts where neither is refused.
  -- It leaves the same bytes in every part, and so the same later answers.
  pub collected_receives : CollectedReceives
  -- A piece's bytes ahead of its first 00 are collected, and then what is left of it is received with the same image and loan.
  -- On any parts where neither the collect nor a receive of the whole piece is refused, this is receiving the whole piece.
  -- The collect says how many bytes it took. The receive answers the same and leaves the same bytes in every part, whatever the collect is
  -- lent.
  pub collect_then_receive : CollectThenReceive
