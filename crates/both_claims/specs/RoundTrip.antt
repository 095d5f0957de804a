-- A request and its reply over a wire that loses nothing.
-- The file has its frame in any cuts, the takes that move the reply, and what is then handed out. Assumes nothing: these are definitions.
use Rattle.std.specs.Prelude.{◌≡◌, Bool, false, List, [], ◌∷◌, ◌++◌, ℕ, length}
use Rattle.std.proofs.Math.Option.{Option, none, some}
use Rattle.std.specs.Int.Count.{ones}
use Rattle.octets.specs.Bytes.{Each, Byte}
use Rattle.line.specs.Message.{Message}
use Rattle.line.specs.Frame.{form}
use Rattle.requester.specs.State.{Request, RecoveryStep, fetch, acknowledge, alert, MainState, main_state, is_some}
use Rattle.requester.specs.Requester.{answered, status, alerted, nothing, anew, idle, HeardOutcome, heard_outcome, serve, message_status}
use Rattle.requester.specs.Requester.{message_options, main_moved_to}
use Rattle.requester.specs.Layout
use Rattle.requester.specs.Calls.{MainParts, handed_report_of}
use Rattle.requester.specs.Calls as MainCalls
use Rattle.requester_claims.specs.View.{main_view}
use Rattle.requester_claims.specs.Histories.{handed_data}
use Rattle.requester_claims.specs.Cuts.{HandedEvent, handed_events, MainRead, Listener, listening, after_main_reads}
use Rattle.supervisor.specs.Calls.{Parts}
use Rattle.responder.specs.Requests.{good, verdict}
use Rattle.supervisor_claims.specs.View.{view}
use Rattle.supervisor_claims.specs.Histories as Supervisor
use Rattle.supervisor_claims.specs.FrameHistory.{bytes_received_by}
use Rattle.supervisor_claims.specs.Replies.{taken_bytes}
use Rattle.both_claims.specs.Ends.{reply_to_request, as_message}
use Rattle.both_claims.specs.Pending.{Takes}

-- a call that is given a piece to receive
abbrev pub TakesPiece : Supervisor.Call → Type 0
TakesPiece (Supervisor.start d) = ⊥
TakesPiece (Supervisor.receive image piece) = Unit {0}
TakesPiece (Supervisor.step image piece) = Unit {0}
TakesPiece (Supervisor.local c) = ⊥

-- with this image lent to it
abbrev pub ReceivesWith : List ℕ → Supervisor.Call → Type 0
ReceivesWith i (Supervisor.start d) = ⊥
ReceivesWith i (Supervisor.receive image piece) = image ≡ i
ReceivesWith i (Supervisor.step image piece) = image ≡ i
ReceivesWith i (Supervisor.local c) = ⊥

-- the bytes that calls receive, joined
unfoldable pub all_received : List Supervisor.Made → List ℕ
all_received [] = []
all_received (m ∷ ms) = bytes_received_by m ++ all_received ms

-- A frame in any cuts: calls that receive, and the last, which brings the 00 and is lent this image.
-- Some may be refused, and read nothing.
pub record Delivery (image frame : List ℕ) : Type 0 where
  pub before : List Supervisor.Made
  pub last : Supervisor.Made
  pub before_typed : Supervisor.AllTyped before
  pub last_typed : Supervisor.Typed last.call
  pub receive : Each (λ (m : Supervisor.Made). TakesPiece m.call) before
  pub with_image : ReceivesWith image last.call
  -- the bytes of the last piece ahead of the 00
  pub ahead : List ℕ
  pub closed : bytes_received_by last ≡ ahead ++ (0 ∷ [])
  pub whole : all_received before ++ bytes_received_by last ≡ frame

-- the parts that it leaves
abbrev pub delivered_to : {image frame : List ℕ} → Parts → Delivery image frame → Parts
delivered_to q c = (Supervisor.made (Supervisor.left q c.before) c.last).parts

-- takes after which nothing is pending
pub record Taking (q : Parts) : Type 0 where
  pub takes : List Supervisor.Made
  pub typed : Supervisor.AllTyped takes
  pub take : Each (λ (m : Supervisor.Made). Takes m.call) takes
  pub all : (view (Supervisor.left q takes)).pending ≡ []

-- the bytes that they move
abbrev pub taken_of : {q : Parts} → Taking q → List ℕ
taken_of {q} t = taken_bytes (Supervisor.outputs q t.takes)

-- ---- A reply that is taken as the answer

-- What is handed out and what comes next, by the recovery's step and whether a request is kept (document 02, item 2).
-- Outside a recovery the answer is handed out, and none is outstanding. The reply to a fetch is handed out as a status; the lowest bit set
-- is served, or the original goes out. Of the replies to services only an alert's is handed out, and the status is read again.
unfoldable pub answer_taken : Option RecoveryStep → Bool → Message → HeardOutcome
answer_taken none original r = heard_outcome (answered r) idle
answer_taken (some fetch) original r =
    heard_outcome (status (message_status r) (message_options r) (ones (message_status r))) (serve original (message_status r))
answer_taken (some acknowledge) original r = heard_outcome nothing (anew (some fetch))
answer_taken (some alert) original r = heard_outcome (alerted r) (anew (some fetch))

-- Receives in the state s have taken the reply r as the answer: what comes of that is handed out, once, and nothing else is. The state is
-- the next one. Where a new number is needed and there is none, the recovery and any original end with 14 (`main_moved_to`).
abbrev pub TakenAs : MainState → Message → Listener → Type 0
TakenAs s r x =
    let o = answer_taken s.recovery (is_some s.kept) r in
    let y = main_moved_to o.next s in
    (x.handed ≡ handed_events (handed_report_of o.handed) (handed_data o.handed) y.ended)
    × (main_view x.parts ≡ y.state)

-- a message that is handed out as the answer
abbrev pub handed_out : Message → HandedEvent
handed_out r = record {
  report = MainCalls.answered r.version r.sequence r.command (length r.payload);
  payload = r.payload;
  ended = none;
}

-- outside a recovery, where n is the newest number: exactly r is handed out, once, and none is outstanding
abbrev pub Answered : ℕ → Message → Listener → Type 0
Answered n r x = (x.handed ≡ handed_out r ∷ []) × (main_view x.parts ≡ main_state n none none false (some []))

-- ---- There and back

-- The frame fr of the request a was just put out, which left the parts p. It is delivered to the supervisor's parts q in any cuts; the
-- whole table passes it and it earns a reply of version 1. The reply is taken whole, behind a 00 where one is owed, and delivered in any
-- cuts. Then P holds of the reply that carrying out that request gives in the supervisor's state, and of what was heard.
abbrev pub Trip : (Message → Listener → Type 0) → Parts → MainParts → Request → List ℕ → Type 0
Trip P q p a fr =
    let m = as_message (Layout.newest_number p.requester) a in
    (image : List ℕ) → Each Byte image → verdict (form m) ≡ good m → (r : Message) → reply_to_request image (view q) m ≡ some r
    → r.version ≡ 1
    → (b : Delivery image fr) (t : Taking (delivered_to q b)) (cs : List MainRead) → let x = after_main_reads (listening p) cs in
    x.bytes ≡ taken_of t → P r x
