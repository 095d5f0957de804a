-- Alerts over both ends: those that are posted at the supervisor, those that the main processor's end hands out, and the wire between.
-- Assumes nothing: these are definitions.
use Rattle.std.specs.Prelude.{◌≡◌, Bool, true, false, cond, ◌&&◌, List, [], ◌∷◌, ◌++◌, map, ℕ, eqb}
use Rattle.std.proofs.Math.Option.{Option, none, some}
use Rattle.octets.specs.Bytes.{Each}
use Rattle.line.specs.Numbers.{command_alert, reply_alert}
use Rattle.line.specs.Message.{Message}
use Rattle.line.specs.Frame.{frame}
use Rattle.requester.specs.State.{Request, is_some, outstanding}
use Rattle.requester.specs.Calls as MainCalls
use Rattle.requester_claims.specs.View.{main_view}
use Rattle.requester_claims.specs.Histories.{MainAnswer, main_made}
use Rattle.requester_claims.specs.Histories as Main
use Rattle.requester_claims.specs.Numbers.{Frame}
use Rattle.supervisor.specs.State.{Alert}
use Rattle.responder.specs.Requests.{tested, alert_data}
use Rattle.supervisor_claims.specs.Histories as Supervisor
use Rattle.supervisor_claims.specs.FrameHistory as Received
use Rattle.supervisor_claims.specs.Alerts.{alerts_added}
use Rattle.both_claims.specs.Ends.{Ends, EndCall, main, supervisor, ends_after, Log, Always, Ever, WireUnder, MainGoesOn, InTurn}
use Rattle.both_claims.specs.Ends.{passes_table, drops_by, puts_request, request_of}

-- ---- The alerts posted

-- the alerts that a call of the supervisor with this answer adds: that of an accepted post
abbrev pub added_in : Supervisor.Call → Supervisor.Answer → List Alert
added_in (Supervisor.start d) a = []
added_in (Supervisor.receive image piece) a = []
added_in (Supervisor.step image piece) a = []
added_in (Supervisor.local c) a = alerts_added c a

-- as data: the action, then the text
abbrev pub call_posted : Ends → EndCall → List (List ℕ)
call_posted e (main m) = []
call_posted e (supervisor m) = map alert_data (added_in m.call (Supervisor.made e.supervisor m).answer)

-- by calls, one after the other
unfoldable pub all_posted : Ends → List EndCall → List (List ℕ)
all_posted e [] = []
all_posted e (t ∷ ts) = call_posted e t ++ all_posted (ends_after e t) ts

-- ---- The alerts handed out

-- an alert's data, where the action is not 0: action 0 tells that none waited
abbrev pub with_action : List ℕ → List (List ℕ)
with_action [] = []
with_action (action ∷ text) = cond (eqb action 0) [] ((action ∷ text) ∷ [])

-- the answer to a recovery's alert request; or to the caller's own, which has command 0x07
abbrev pub alert_reported : MainCalls.HandedReport → List ℕ → List (List ℕ)
alert_reported (MainCalls.HandedReport.refused n) d = []
alert_reported MainCalls.nothing d = []
alert_reported (MainCalls.answered v q c n) d = cond (eqb c reply_alert) (with_action d) []
alert_reported (MainCalls.status x o k) d = []
alert_reported (MainCalls.alerted v q c n) d = with_action d

abbrev pub alert_handed : MainAnswer → List ℕ → List (List ℕ)
alert_handed (Main.refused n) d = []
alert_handed Main.done d = []
alert_handed (Main.put n) d = []
alert_handed (Main.received used t e u) d = alert_reported t d
alert_handed (Main.stands x) d = []

abbrev pub call_alerts : Ends → EndCall → List (List ℕ)
call_alerts e (main m) = let d = main_made e.main m in alert_handed d.answer d.out
call_alerts e (supervisor m) = []

-- by calls, one after the other
unfoldable pub all_alerts : Ends → List EndCall → List (List ℕ)
all_alerts e [] = []
all_alerts e (t ∷ ts) = call_alerts e t ++ all_alerts (ends_after e t) ts

-- ---- The wire

-- a request is outstanding under the number n: put out, or to be put out
abbrev pub OutstandingUnder : ℕ → Ends → EndCall → Type 0
OutstandingUnder n e t = let s = main_view e.main in (s.newest ≡ n) × (is_some (outstanding s) ≡ true)

-- the main processor's end is not started again, and the wire is as `WireUnder` says of each number under which a request was outstanding
pub record AlertsWire (e : Ends) (ts : List EndCall) : Type 0 where
  pub goes_on : Always MainGoesOn e ts
  pub wire : (n : ℕ) → Ever (OutstandingUnder n) e ts → Always (WireUnder n) e ts

-- ---- Recoveries alone, in order

-- whether a message is an alert request, of either version, that the whole table passes
unfoldable pub is_alert_request : Message → Bool
is_alert_request m = passes_table (tested m) && eqb m.command command_alert

-- the alert requests among messages
unfoldable pub alert_requests : List Message → List Message
alert_requests [] = []
alert_requests (m ∷ ms) = cond (is_alert_request m) (m ∷ alert_requests ms) (alert_requests ms)

-- Each alert request that the supervisor has read is, byte for byte, a frame that the main processor's end has put out.
-- They are read in the order in which they were put out. One may be read again before a later one is.
abbrev pub AlertsInTurn : Log → Type 0
AlertsInTurn l = InTurn (List ℕ) (map frame (alert_requests l.heard)) (map (λ (x : Frame). x.bytes) l.asked)

-- none of the requests that it has read is a reboot or power-off: each drops the retained alert reply
abbrev pub NoneDrops : Log → Type 0
NoneDrops l = Each (λ (m : Message). drops_by (tested m) ≡ false) l.heard

-- a call that is no accepted start of the supervisor
abbrev pub SupervisorGoesOn : EndCall → Type 0
SupervisorGoesOn (main m) = Unit {0}
SupervisorGoesOn (supervisor m) = Received.starts_anew m ≡ false

abbrev pub asks_alert : Option Request → Bool
asks_alert none = false
asks_alert (some q) = eqb q.command command_alert

-- a call that puts no alert request of the caller's out
abbrev pub NoOwnAlert : Ends → EndCall → Type 0
NoOwnAlert e (main m) = (puts_request m.call (main_made e.main m).answer && asks_alert (request_of m.call)) ≡ false
NoOwnAlert e (supervisor m) = Unit {0}

-- at every call, what else it takes for no alert to be lost
pub record RecoveriesAlone (e : Ends) (t : EndCall) : Type 0 where
  pub supervisor_goes_on : SupervisorGoesOn t
  pub no_own : NoOwnAlert e t
  pub none_drops : NoneDrops (ends_after e t).log
  pub in_turn : AlertsInTurn (ends_after e t).log
