-- Both ends: calls of the two in any order, the wire between them, and what an answer must come from.
-- `Log` has what each has put out and read since the main processor's end was last started. Assumes nothing: these are definitions.
use Rattle.std.specs.Prelude.{◌≡◌, Bool, true, false, cond, ◌&&◌, ◌||◌, List, [], ◌∷◌, ◌++◌, map, ◌⊎◌, ℕ, ◌<◌, eqb, length}
use Rattle.std.proofs.Math.Option.{Option, none, some}
use Rattle.std.specs.Int.Count.{ones}
use Rattle.octets.specs.Bytes.{Each, Byte, bytes}
use Rattle.line.specs.Numbers.{status_length, first_version, command_reboot, command_power_off, command_alert, command_key_lookup}
use Rattle.line.specs.Numbers.{reply_status, reply_key_lookup}
use Rattle.line.specs.Message.{Message}
use Rattle.line.specs.Frame.{frame, split, non_empty, closed_behind}
use Rattle.line_claims.specs.Calls.{good_messages}
use Rattle.requester.specs.State as RequesterState
use Rattle.requester.specs.State.{is_some, Request, outstanding, request_frame, MainState}
use Rattle.requester.specs.Requester.{reply_sequence, message_status, message_options}
use Rattle.requester.specs.Layout
use Rattle.requester.specs.Calls.{MainParts}
use Rattle.requester.specs.Calls as MainCalls
use Rattle.requester_claims.specs.View.{main_view}
use Rattle.requester_claims.specs.Histories.{MainAnswer, MainCall, MainLent, MainMade, main_made}
use Rattle.requester_claims.specs.Histories as Main
use Rattle.requester_claims.specs.Numbers.{Frame, frames_put_out}
use Rattle.requester_claims.specs.CameAs.{bytes_read_by, restarts}
use Rattle.supervisor.specs.State.{Retained, State}
use Rattle.supervisor.specs.Local.{entry_of}
use Rattle.supervisor.specs.Calls as SupervisorCalls
use Rattle.responder.specs.Requests.{Verdict, failure, good, Reply, version_served, tested, verdict, carry_out, reply_of, alert_data}
use Rattle.responder.specs.Requests.{oldest}
use Rattle.supervisor_claims.specs.View.{view}
use Rattle.supervisor_claims.specs.Sound.{Bytes}
use Rattle.supervisor_claims.specs.Histories as Supervisor
use Rattle.supervisor_claims.specs.FrameHistory as Received
use Rattle.supervisor_claims.specs.FrameHistory.{frame_carried}
use Rattle.supervisor_claims.specs.LastSet.{requests_in, set_by, set_after, Origin, since_start, since_more, since_made}
pub use Rattle.supervisor_claims.specs.LastSet.{Stays}
use Rattle.supervisor_claims.specs.LastSet.{set_since, fitted_of, ReadBack}
use Rattle.supervisor_claims.specs.Replies.{reply_by}

-- an element of a list has the property
abbrev pub Any : {A : Type 0} → (A → Type 0) → List A → Type 0
Any P [] = ⊥
Any P (x ∷ xs) = P x ⊎ Any P xs

-- ---- Calls of both ends, in any order

-- a call of one of them, with what it is lent
pub data EndCall : Type 0 where
  main : MainMade → EndCall
  supervisor : Supervisor.Made → EndCall

-- the arguments have the types that the calls give them
abbrev pub MainTyped : MainCall → Type 0
MainTyped Main.start = Unit {0}
MainTyped (Main.request command d room) = (command < 256) × Each Byte d
MainTyped Main.interrupt = Unit {0}
MainTyped (Main.send room) = Unit {0}
MainTyped (Main.receive piece) = Each Byte piece
MainTyped Main.state = Unit {0}

abbrev pub EndCallTyped : EndCall → Type 0
EndCallTyped (main m) = MainTyped m.call
EndCallTyped (supervisor m) = Supervisor.Typed m.call

-- ---- What they have put out and read

-- a frame that is not empty, and the supervisor when it was handled
pub record Handled : Type 0 where
  -- the bytes before its 00
  pub form : List ℕ
  -- the image lent to the call that brought the 00
  pub image : List ℕ
  -- the supervisor's state, the frames before it carried out or answered
  pub state : State
  -- those frames, since the supervisor's last accepted start, without the empty ones
  pub earlier : List (List ℕ)
  -- for each settings key, where its value and edition came from then
  pub origin : ℕ → Origin
  -- the frames that the main processor's end had put out by then, since its last accepted start
  pub asked : List Frame
  -- Whether the supervisor had been started, together with that start or since, or had carried out a reboot or power-off since.
  -- Each drops the retained alert reply.
  pub cleared : Bool

-- the message of a reply
abbrev pub reply_message : Option Reply → Option Message
reply_message none = none
reply_message (some r) = some (record { version = r.version; sequence = r.sequence; command = r.command; payload = r.payload })

-- the reply to a request that is carried out in the state s, with this image lent; none where it earns none
abbrev pub reply_to_request : List ℕ → State → Message → Option Message
reply_to_request image s m = reply_message (reply_of m.sequence (carry_out image s m).reply)

-- the reply that the supervisor made to a frame: a valid request is carried out, any other frame earns its numbered failure
unfoldable pub reply_made : Handled → Option Message
reply_made h = reply_message (reply_by h.image h.state (verdict h.form))

-- all but `received` and `origin` since the main processor's end was last started
pub record Log : Type 0 where
  -- the bytes that the main processor's end has read
  pub read : List ℕ
  -- the frames that it has put out
  pub asked : List Frame
  -- the bytes that the supervisor has received since its own last accepted start
  pub received : List ℕ
  -- For each settings key, where its value and edition come from: the supervisor's last accepted start, and the requests since.
  -- Of a saved key it may be a later accepted restore, and the requests since.
  pub origin : ℕ → Origin
  -- the good messages that the supervisor has read
  pub heard : List Message
  -- the frames that it has carried out or answered
  pub handled : List Handled
  -- whether it has been started, together with the main processor's end or since, or has carried out a reboot or power-off
  pub cleared : Bool
  -- its newest reply, where more of it than its 00 is still to be taken
  pub pending : Option Message
  -- Its replies that were taken, but for their 00 at most. Any 00 behind ends the frame.
  -- One that was made before the main processor's end was started is not among them.
  pub sent : List Message

-- nothing yet; given are whether the supervisor was just started too, the bytes that it had received, and where its keys' values came from
abbrev pub empty_log : Bool → List ℕ → (ℕ → Origin) → Log
empty_log started w o =
    record { read = []; asked = []; received = w; origin = o; heard = []; handled = []; cleared = started; pending = none; sent = [] }

-- both just started
abbrev pub first_log : Log
first_log = empty_log true [] (λ k. since_start)

-- the good messages among the bytes that the main processor's end has read
abbrev pub got : Log → List Message
got l = good_messages (non_empty (split l.read).closed)

-- ---- A call of the main processor's end

-- by its answer, what it wrote outside the state, and the newest number that it left
unfoldable pub main_logged : Log → MainCall → MainAnswer → List ℕ → ℕ → Log
main_logged l c a out n =
    cond (restarts c a) (empty_log false l.received l.origin)
    (record {
      read = l.read ++ bytes_read_by c a;
      asked = l.asked ++ frames_put_out a out n;
      received = l.received;
      origin = l.origin;
      heard = l.heard;
      handled = l.handled;
      cleared = l.cleared;
      pending = l.pending;
      sent = l.sent;
    })

-- ---- A call of the supervisor

-- the image that it is lent
abbrev pub image_lent : Supervisor.Call → List ℕ
image_lent (Supervisor.start d) = []
image_lent (Supervisor.receive image piece) = image
image_lent (Supervisor.step image piece) = image
image_lent (Supervisor.local c) = []

-- whether a frame drops the retained alert reply: a reboot or power-off that is carried out
abbrev pub drops_by : Verdict → Bool
drops_by (failure reason version sequence) = false
drops_by (good m) = eqb m.command command_reboot || eqb m.command command_power_off

unfoldable pub drops : List ℕ → Bool
drops f = drops_by (verdict f)

-- where the keys' values come from behind a frame
abbrev pub origin_by : (ℕ → Origin) → List ℕ → ℕ → Origin
origin_by o f k = since_more (o k) (requests_in (f ∷ []))

-- the frames that it brings, one after the other
unfoldable pub handled_by : List Frame → List ℕ → Bool → State → (ℕ → Origin) → List (List ℕ) → List (List ℕ) → List Handled
handled_by asked image cleared s o earlier [] = []
handled_by asked image cleared s o earlier (f ∷ fs) =
    (record { form = f; image = image; state = s; earlier = earlier; origin = o; asked = asked; cleared = cleared })
    ∷ handled_by asked image (cleared || drops f) (frame_carried image s f) (origin_by o f) (earlier ++ (f ∷ [])) fs

unfoldable pub cleared_by : Bool → List (List ℕ) → Bool
cleared_by cleared [] = cleared
cleared_by cleared (f ∷ fs) = cleared_by (cleared || drops f) fs

-- the newest reply: each frame discards what is unsent
abbrev pub newest_reply : Option Message → List Handled → Option Message
newest_reply r [] = r
newest_reply r (h ∷ hs) = newest_reply (reply_made h) hs

-- by the bytes that wait: the reply, as long as more of it than its 00 is to be taken
abbrev pub still_pending : List ℕ → Option Message → Option Message
still_pending [] r = none
still_pending (b ∷ []) r = none
still_pending (b ∷ (c ∷ bs)) r = r

-- the reply, once no more than its 00 is left: put out
abbrev pub taken_by : List ℕ → Option Message → List Message
taken_by bs none = []
taken_by [] (some r) = r ∷ []
taken_by (b ∷ []) (some r) = r ∷ []
taken_by (b ∷ (c ∷ bs)) (some r) = []

-- the frames that a call brings, on the state s
unfoldable pub brought : Log → State → Supervisor.Made → List Handled
brought l s m =
    handled_by l.asked (image_lent m.call) l.cleared s l.origin (non_empty (split l.received).closed)
    (Received.frames_closed_by l.received (Received.bytes_received_by m))

-- by the state before it, and the bytes that are pending after it
unfoldable pub supervisor_logged : Log → State → Supervisor.Made → List ℕ → Log
supervisor_logged l s m waiting =
    let hs = brought l s m in
    let r = cond (Received.starts_anew m) none (newest_reply l.pending hs) in
    record {
      read = l.read;
      asked = l.asked;
      received = Received.received_since l.received m;
      origin = λ k. since_made k l.received (l.origin k) m;
      heard = l.heard ++ good_messages (Received.frames_closed_by l.received (Received.bytes_received_by m));
      handled = l.handled ++ hs;
      cleared = Received.starts_anew m || cleared_by l.cleared (Received.frames_closed_by l.received (Received.bytes_received_by m));
      pending = still_pending waiting r;
      sent = l.sent ++ taken_by waiting r;
    }

-- ---- Both ends after calls

pub record Ends : Type 0 where
  pub main : MainParts
  pub supervisor : SupervisorCalls.Parts
  pub log : Log

-- the parts, and what was put out and read, after one call by the definitions that the promises cite
unfoldable pub ends_after : Ends → EndCall → Ends
ends_after e (main m) =
    let d = main_made e.main m in
    record {
      main = d.parts;
      supervisor = e.supervisor;
      log = main_logged e.log m.call d.answer d.out (Layout.newest_number d.parts.requester);
    }
ends_after e (supervisor m) =
    let d = Supervisor.made e.supervisor m in
    record {
      main = e.main;
      supervisor = d.parts;
      log = supervisor_logged e.log (view e.supervisor) m (view d.parts).pending;
    }

-- a start of each end that is accepted, on any bytes
pub record BothStarts : Type 0 where
  pub main-parts : MainParts
  pub main_lent : MainLent
  pub main_accepted : (main_made main-parts (record { lent = main_lent; call = Main.start })).answer ≡ Main.done
  pub supervisor_parts : SupervisorCalls.Parts
  pub supervisor_bytes : Bytes supervisor_parts
  pub supervisor_lent : Supervisor.Lent
  pub start_data : List ℕ
  pub start_typed : Supervisor.Typed (Supervisor.start start_data)
  pub supervisor_accepted :
      (Supervisor.made supervisor_parts (record { lent = supervisor_lent; call = Supervisor.start start_data })).answer
      ≡ Supervisor.done

-- both ends then
abbrev pub ends_begun : BothStarts → Ends
ends_begun s = record {
  main = (main_made s.main-parts (record { lent = s.main_lent; call = Main.start })).parts;
  supervisor = (Supervisor.made s.supervisor_parts (record { lent = s.supervisor_lent; call = Supervisor.start s.start_data })).parts;
  log = first_log;
}

unfoldable pub ends_after_all : Ends → List EndCall → Ends
ends_after_all e [] = e
ends_after_all e (t ∷ ts) = ends_after_all (ends_after e t) ts

-- both ends as the main processor's end was just started: together with the supervisor, or later, after any calls of both over any wire
pub data Begun : Ends → Type 0 where
  together : (s : BothStarts) → Begun (ends_begun s)
  later : (s : BothStarts) (ts : List EndCall) → Each EndCallTyped ts → (l : MainLent)
      → (main_made (ends_after_all (ends_begun s) ts).main (record { lent = l; call = Main.start })).answer ≡ Main.done
      → Begun (ends_after (ends_after_all (ends_begun s) ts) (main (record { lent = l; call = Main.start })))

-- a claim about each call, with both ends as it found them
abbrev pub Always : (Ends → EndCall → Type 0) → Ends → List EndCall → Type 0
Always C e [] = Unit {0}
Always C e (t ∷ ts) = C e t × Always C (ends_after e t) ts

-- a claim about one of the calls
abbrev pub Ever : (Ends → EndCall → Type 0) → Ends → List EndCall → Type 0
Ever C e [] = ⊥
Ever C e (t ∷ ts) = C e t ⊎ Ever C (ends_after e t) ts

-- ---- The wire

-- a request of either version under the number n
abbrev pub RequestUnder : ℕ → Message → Type 0
RequestUnder n m = (m.sequence ≡ n) × (version_served m.version ≡ true)

-- The good messages of which P holds and which the supervisor has read since the main processor's end was last started.
-- Each is, byte for byte, a frame that that end has put out since.
abbrev pub FromMain : (Message → Type 0) → Log → Type 0
FromMain P l = Each (λ (m : Message). P m → Any (λ (x : Frame). x.bytes ≡ frame m) l.asked) l.heard

-- whether an answer, a status or an alert's answer is handed out
abbrev pub hands_report : MainCalls.HandedReport → Bool
hands_report (MainCalls.HandedReport.refused n) = false
hands_report MainCalls.nothing = false
hands_report (MainCalls.answered v q c n) = true
hands_report (MainCalls.status x o k) = true
hands_report (MainCalls.alerted v q c n) = true

abbrev pub hands_out : MainAnswer → Bool
hands_out (Main.refused n) = false
hands_out Main.done = false
hands_out (Main.put n) = false
hands_out (Main.received used t e u) = hands_report t
hands_out (Main.stands x) = false

-- The good messages that a call of the main processor's end reads and takes as an answer, behind the bytes w.
-- Where it hands out an answer, a status or an alert's answer, they are those whose 00 it reads, which is one at most.
-- Else there are none.
abbrev pub taken_behind : List ℕ → MainCall → MainAnswer → List Message
taken_behind w c a = cond (hands_out a) (good_messages (non_empty (closed_behind w (bytes_read_by c a)))) []

abbrev pub taken_as_answer : Ends → EndCall → List Message
taken_as_answer e (main m) = taken_behind e.log.read m.call (main_made e.main m).answer
taken_as_answer e (supervisor m) = []

-- a message that is, byte for byte, a reply that the supervisor has put out since that start
abbrev pub FromSupervisor : Log → Message → Type 0
FromSupervisor l r = Any (λ (y : Message). frame y ≡ frame r) l.sent

-- where n is the newest number: so is what is taken as the answer
abbrev pub ToMain : ℕ → Ends → EndCall → Type 0
ToMain n e t = (main_view e.main).newest ≡ n → Each (FromSupervisor e.log) (taken_as_answer e t)

-- The wire as far as the number n goes, at a call. Bytes may be lost, delayed, cut and damaged. Frames may come late, twice and in another
-- order. Other programs may put frames out under other numbers. A reply that is not taken as an answer may come from anywhere.
pub record WireUnder (n : ℕ) (e : Ends) (t : EndCall) : Type 0 where
  -- a request under n that the supervisor has read is one that the main processor's end has put out
  pub to_supervisor : FromMain (RequestUnder n) (ends_after e t).log
  -- a reply that is taken as the answer under n is one that the supervisor has put out
  pub to_main : ToMain n e t

-- a claim about a call, where n is the newest number
abbrev pub UnderNumber : ℕ → (Ends → EndCall → Type 0) → Ends → EndCall → Type 0
UnderNumber n C e t = (main_view e.main).newest ≡ n → C e t

-- ---- The order of the sets of a key

abbrev pub passes_table : Verdict → Bool
passes_table (failure reason version sequence) = false
passes_table (good m) = true

-- whether a message is a set of key k: the whole table passes it, and key k takes a value of its length
unfoldable pub is_set_of : ℕ → Message → Bool
is_set_of k m = passes_table (tested m) && is_some (set_by k m)

-- the sets of key k among messages
unfoldable pub sets_among : ℕ → List Message → List Message
sets_among k [] = []
sets_among k (m ∷ ms) = cond (is_set_of k m) (m ∷ sets_among k ms) (sets_among k ms)

-- a list whose elements stand in another, in order: some were lost, and one may come again, but not behind a later one
pub data InTurn (A : Type 0) : List A → List A → Type 0 where
  empty : InTurn A [] []
  past : {y : A} {xs ys : List A} → InTurn A xs ys → InTurn A xs (y ∷ ys)
  read : {x : A} {xs ys : List A} → InTurn A xs (x ∷ ys) → InTurn A (x ∷ xs) (x ∷ ys)

-- The sets of key k that the supervisor has read since that start.
-- Each is, byte for byte, a frame that the main processor's end has put out since.
-- They are read in the order in which they were put out. One may be read again before a later one is.
abbrev pub SetsInOrder : ℕ → Log → Type 0
SetsInOrder k l = InTurn (List ℕ) (map frame (sets_among k l.heard)) (map (λ (x : Frame). x.bytes) l.asked)

abbrev pub SetsInOrderAfter : ℕ → Ends → EndCall → Type 0
SetsInOrderAfter k e t = SetsInOrder k (ends_after e t).log

-- ---- A plain wire

-- a list whose elements stand in another, in order and each once at most: some were lost
pub data Among (A : Type 0) : List A → List A → Type 0 where
  over : Among A [] []
  lost : {y : A} {xs ys : List A} → Among A xs ys → Among A xs (y ∷ ys)
  came : {x : A} {xs ys : List A} → Among A xs ys → Among A (x ∷ xs) (x ∷ ys)

-- Each good message that an end has read since that start is, byte for byte, a frame that the other has put out since.
-- The order is kept, and each frame is read once at most.
pub record InOrder (l : Log) : Type 0 where
  pub to_supervisor : Among (List ℕ) (map frame l.heard) (map (λ (x : Frame). x.bytes) l.asked)
  pub to_main : Among (List ℕ) (map frame (got l)) (map frame l.sent)

abbrev pub InOrderAfter : Ends → EndCall → Type 0
InOrderAfter e t = InOrder (ends_after e t).log

-- ---- What an answer comes from

-- the message of a request under a number
abbrev pub as_message : ℕ → Request → Message
as_message n q = record { version = 1; sequence = n; command = q.command; payload = q.payload }

-- The supervisor carried out exactly this request under this number, after the main processor's end had put it out.
-- The reply that it made is r.
pub record CarriedOut (n : ℕ) (q : Request) (r : Message) (h : Handled) : Type 0 where
  -- the frame is the one put out under n, byte for byte
  pub form : h.form ++ (0 ∷ []) ≡ request_frame n q
  -- it passes the whole table, as that message
  pub passed : verdict h.form ≡ good (as_message n q)
  -- it had been put out by then
  pub put-out : Any (λ (x : Frame). (x.number ≡ n) × (x.bytes ≡ request_frame n q)) h.asked
  -- its reply
  pub reply : reply_to_request h.image h.state (as_message n q) ≡ some r

-- a message that the main processor's end takes for the answer to the request that is outstanding, in the state s
pub record Fresh (s : MainState) (l : Log) (r : Message) : Type 0 where
  pub request : Request
  pub waiting : outstanding s ≡ some request
  pub made : Any (CarriedOut s.newest request r) l.handled

-- What is handed out:
-- - outside a recovery an answer
-- - in a recovery, to the status request, a status with its number of set bits
-- - in a recovery, to the alert request, an alert's answer
abbrev pub FreshReport : MainState → Log → MainCalls.HandedReport → List ℕ → Type 0
FreshReport s l (MainCalls.HandedReport.refused n) d = Unit {0}
FreshReport s l MainCalls.nothing d = Unit {0}
FreshReport s l (MainCalls.answered v q c n) d =
    (s.recovery ≡ none) × Fresh s l (record { version = v; sequence = q; command = c; payload = d })
FreshReport s l (MainCalls.status x o k) d =
    (s.recovery ≡ some RequesterState.fetch) × (r : Message) × Fresh s l r × (message_status r ≡ x) × (message_options r ≡ o) × (ones x ≡ k)
    × (r.command ≡ reply_status)
    × (length r.payload ≡ status_length)
FreshReport s l (MainCalls.alerted v q c n) d =
    (s.recovery ≡ some RequesterState.alert) × Fresh s l (record { version = v; sequence = q; command = c; payload = d })

abbrev pub FreshBy : MainState → Log → MainAnswer → List ℕ → Type 0
FreshBy s l (Main.refused n) d = Unit {0}
FreshBy s l Main.done d = Unit {0}
FreshBy s l (Main.put n) d = Unit {0}
FreshBy s l (Main.received used t e u) d = FreshReport s l t d
FreshBy s l (Main.stands x) d = Unit {0}

-- of each call, with what was put out and read before it
abbrev pub CallFresh : Ends → EndCall → Type 0
CallFresh e (main m) = let d = main_made e.main m in FreshBy (main_view e.main) e.log d.answer d.out
CallFresh e (supervisor m) = Unit {0}

-- ---- What an alert's answer comes from

-- whether a reply is retained under this number
abbrev pub retained_under : ℕ → Option Retained → Bool
retained_under n none = false
retained_under n (some t) = eqb t.sequence n

-- in carrying the request out, the supervisor took the oldest alert that waited then, or action 0 and no data where none did
pub record AlertTaken (n : ℕ) (q : Request) (r : Message) (h : Handled) : Type 0 where
  pub carried-out : CarriedOut n q r h
  pub none_retained : retained_under n h.state.retained ≡ false
  pub oldest_waiting : r.payload ≡ alert_data (oldest h.state.waiting)

-- An answer to an alert request holds an alert that was taken in carrying out that request, after it was put out.
-- This asks that no alert reply from before the main processor's end was started was still retained.
-- That is so if the supervisor was started together with that end or since, or carried out a reboot or power-off since.
-- It must have carried this request out after that.
abbrev pub AlertNotRetained : MainState → Log → Message → Type 0
AlertNotRetained s l r =
    (q : Request) → outstanding s ≡ some q → q.command ≡ command_alert
    → Any (λ (h : Handled). CarriedOut s.newest q r h × (h.cleared ≡ true)) l.handled → Any (AlertTaken s.newest q r) l.handled

-- the message that is handed out as an answer or an alert's answer
abbrev pub message_reported : MainCalls.HandedReport → List ℕ → Option Message
message_reported (MainCalls.HandedReport.refused n) d = none
message_reported MainCalls.nothing d = none
message_reported (MainCalls.answered v q c n) d = some (record { version = v; sequence = q; command = c; payload = d })
message_reported (MainCalls.status x o k) d = none
message_reported (MainCalls.alerted v q c n) d = some (record { version = v; sequence = q; command = c; payload = d })

abbrev pub message_handed : MainAnswer → List ℕ → Option Message
message_handed (Main.refused n) d = none
message_handed Main.done d = none
message_handed (Main.put n) d = none
message_handed (Main.received used t e u) d = message_reported t d
message_handed (Main.stands x) d = none

-- of each message that a call hands out so, with both ends as it found them
abbrev pub CallOf : (MainState → Log → Message → Type 0) → Ends → EndCall → Type 0
CallOf P e (main m) =
    let d = main_made e.main m in (r : Message) → message_handed d.answer d.out ≡ some r → P (main_view e.main) e.log r
CallOf P e (supervisor m) = Unit {0}

-- ---- What a lookup's answer comes from

-- a lookup of key k with maxresponse `most`
abbrev pub lookup_request : ℕ → ℕ → Request
lookup_request k most = record { command = command_key_lookup; payload = bytes 1 k ++ bytes 2 most }

-- the supervisor carried the lookup out, after it was put out
pub record ValueThen (n k most : ℕ) (r : Message) (h : Handled) : Type 0 where
  pub carried-out : CarriedOut n (lookup_request k most) r h
  -- The answer is the value that key k had then. Its result is 2 where the key had none, and 3 where the value is longer than maxresponse.
  -- Else the result is 0, and the value follows.
  pub value : let f = fitted_of most (entry_of h.state k) in r.payload ≡ f.result ∷ f.value
  -- That is the value of the last successful set of key k, or what the last accepted restore left if that is later.
  -- Both are among what the supervisor had carried out since its last start. A restored image may itself be old.
  pub last_set : entry_of h.state k ≡ set_since k (h.origin k)

-- of a lookup that is outstanding, of a settings key that is read back
abbrev pub FreshValue : MainState → Log → Message → Type 0
FreshValue s l r =
    (k most : ℕ) → ReadBack k → most < 65536 → outstanding s ≡ some (lookup_request k most)
    → (r.version ≡ first_version) × (r.sequence ≡ reply_sequence s.newest) × (r.command ≡ reply_key_lookup)
    × Any (ValueThen s.newest k most r) l.handled

-- the frames that the supervisor has received since its last accepted start, without the empty ones
abbrev pub handled_frames : Ends → List (List ℕ)
handled_frames e = non_empty (split e.log.received).closed

abbrev pub CallStays : EndCall → Type 0
CallStays (main m) = Unit {0}
CallStays (supervisor m) = Stays m

-- no frame under this number had been put out by an earlier moment, since the main processor's last accepted start before it
abbrev pub NotAsked : Ends → ℕ → Type 0
NotAsked e n = Each (λ (x : Frame). x.number ≡ n → ⊥) e.log.asked

-- `ValueThen`, and how the value follows from an earlier moment e
pub record ValueSince (e : Ends) (n k most : ℕ) (r : Message) (h : Handled) : Type 0 where
  pub value_then : ValueThen n k most r h
  -- the frames since that moment
  pub later : List (List ℕ)
  pub behind : h.earlier ≡ handled_frames e ++ later
  -- the value is that of the last successful set since then, or else the one that key k had then
  pub last_since : entry_of h.state k ≡ set_after k (entry_of (view e.supervisor) k) (requests_in later)

-- A lookup of key k is outstanding under a number under which nothing had been put out by the moment e.
-- Then P holds of a moment at which it was carried out.
abbrev pub ValueAgainst : Ends → ℕ → (ℕ → ℕ → ℕ → Message → Handled → Type 0) → MainState → Log → Message → Type 0
ValueAgainst e k P s l r =
    (most : ℕ) → ReadBack k → most < 65536 → outstanding s ≡ some (lookup_request k most) → NotAsked e s.newest
    → Any (P s.newest k most r) l.handled

-- ---- What an alert's answer comes from, against an earlier moment

-- a call that is no accepted start of the main processor's end
abbrev pub MainGoesOn : Ends → EndCall → Type 0
MainGoesOn e (main m) = restarts m.call (main_made e.main m).answer ≡ false
MainGoesOn e (supervisor m) = Unit {0}

-- The answer is to an alert request that had not been put out at that moment.
-- It holds an alert that was taken in carrying out that request, after the request was put out.
abbrev pub AlertAgainst : Ends → MainState → Log → Message → Type 0
AlertAgainst e s l r = (q : Request) → outstanding s ≡ some q → q.command ≡ command_alert → NotAsked e s.newest
    → Any (AlertTaken s.newest q r) l.handled

-- ---- On a wire that keeps the order

-- a call that is no accepted start of either end, nor an accepted restore
abbrev pub GoesOn : Ends → EndCall → Type 0
GoesOn e (main m) = MainGoesOn e (main m)
GoesOn e (supervisor m) = Stays m

-- the sets of key k that the supervisor had read by an earlier moment, since the main processor's last accepted start
abbrev pub sets_read_by : ℕ → Ends → List Message
sets_read_by k e = sets_among k e.log.heard

-- a set of key k with a higher number than all of those; or the newest of them once more
abbrev pub NotOlder : ℕ → Ends → Message → Type 0
NotOlder k e m = Each (λ (y : Message). (y.sequence < m.sequence) ⊎ (y ≡ m)) (sets_read_by k e)

-- against that moment: no set of key k carried out since is older
pub record ValueNotOlder (e : Ends) (n k most : ℕ) (r : Message) (h : Handled) : Type 0 where
  pub value_since : ValueSince e n k most r h
  pub not_older : Each (NotOlder k e) (sets_among k (requests_in value_since.later))
  -- so the value is the one that key k had then, or was set since by such a set
  pub from : let v = (entry_of h.state k).value in
      (v ≡ (entry_of (view e.supervisor) k).value)
      ⊎ Any (λ (m : Message). (set_by k m ≡ v) × NotOlder k e m) (sets_among k (requests_in value_since.later))

-- the same with higher numbers only
pub record ValueNewer (e : Ends) (n k most : ℕ) (r : Message) (h : Handled) : Type 0 where
  pub value_since : ValueSince e n k most r h
  -- The value is the one that key k had then, or it was set since.
  -- The set that did so has a higher number than all sets of key k that the supervisor had read by then.
  pub from : let v = (entry_of h.state k).value in
      (v ≡ (entry_of (view e.supervisor) k).value)
      ⊎ Any (λ (m : Message). (set_by k m ≡ v) × Each (λ (y : Message). y.sequence < m.sequence) (sets_read_by k e))
      (sets_among k (requests_in value_since.later))

-- ---- What a lookup's answer is where nothing more is put out

-- the request that a call is to put out
abbrev pub request_of : MainCall → Option Request
request_of Main.start = none
request_of (Main.request command d room) = some (record { command = command; payload = d })
request_of Main.interrupt = none
request_of (Main.send room) = none
request_of (Main.receive piece) = none
request_of Main.state = none

-- whether it is one that was put out: a refused one changes nothing
abbrev pub puts_request : MainCall → MainAnswer → Bool
puts_request c (Main.refused n) = false
puts_request c Main.done = false
puts_request c (Main.put n) = is_some (request_of c)
puts_request c (Main.received used t e u) = false
puts_request c (Main.stands x) = false

-- a set of key k is outstanding under the number i: put out, or to be put out
abbrev pub SetOutstanding : ℕ → ℕ → Ends → EndCall → Type 0
SetOutstanding k i e t =
    let s = main_view e.main in
    (s.newest ≡ i) × (q : Request) × (outstanding s ≡ some q) × (is_set_of k (as_message i q) ≡ true)

-- a call that puts no new request of the caller's out
abbrev pub NoRequest : Ends → EndCall → Type 0
NoRequest e (main m) = puts_request m.call (main_made e.main m).answer ≡ false
NoRequest e (supervisor m) = Unit {0}

-- The answer to this lookup is the value that key k had at an earlier moment.
-- Its result is 2 where the key had none, and 3 where the value is longer than maxresponse. Else the result is 0, and the value follows.
abbrev pub HadValue : Ends → ℕ → ℕ → MainState → Log → Message → Type 0
HadValue e k most s l r =
    outstanding s ≡ some (lookup_request k most)
    → let f = fitted_of most (entry_of (view e.supervisor) k) in r.payload ≡ f.result ∷ f.value
