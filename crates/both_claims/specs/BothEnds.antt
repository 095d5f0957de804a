-- What is claimed of both ends: which replies count as put out, what an answer comes from, and how old a list can be.
-- The last claims are of exchanges in which nothing is lost. Assumes nothing: these are definitions and statements.
use Rattle.std.specs.Prelude.{◌≡◌, true, List, [], ◌∷◌, ◌++◌, ◌⊎◌, ℕ, suc, ◌≤◌, ◌<◌, length, take}
use Rattle.std.proofs.Math.Option.{some}
use Rattle.octets.specs.Bytes.{Each, Byte, bytes}
use Rattle.line.specs.Limits.{longest_data}
use Rattle.line.specs.Numbers.{command_key_lookup}
use Rattle.line.specs.Message.{Message}
use Rattle.line.specs.Frame.{form}
use Rattle.requester.specs.State.{Request, RecoveryStep, alert, step_request, outstanding}
use Rattle.requester.specs.Layout
use Rattle.requester.specs.Limits.{last_number}
use Rattle.requester.specs.Calls.{MainParts}
use Rattle.requester_claims.specs.View.{main_view}
use Rattle.requester_claims.specs.Histories.{MainLent, MainMade, main_left, main_made}
use Rattle.requester_claims.specs.Histories as Main
use Rattle.supervisor.specs.State.{State}
use Rattle.supervisor.specs.Calls as SupervisorCalls
use Rattle.responder.specs.Requests.{good, verdict}
use Rattle.supervisor_claims.specs.View.{view}
use Rattle.supervisor_claims.specs.Histories as Supervisor
use Rattle.supervisor_claims.specs.LastSet.{ReadBack}
use Rattle.supervisor_claims.specs.Item5.{SentAgain}
use Rattle.both_claims.specs.Ends.{Ends, EndCall, main, EndCallTyped, ends_after, ends_after_all, BothStarts, ends_begun, Begun}
use Rattle.both_claims.specs.Ends.{Always, Ever, WireUnder, UnderNumber, SetsInOrderAfter, SetOutstanding}
use Rattle.both_claims.specs.Ends.{InOrderAfter, CallFresh, CallOf, AlertNotRetained, MainGoesOn, AlertAgainst}
use Rattle.both_claims.specs.Ends.{lookup_request, reply_to_request, as_message}
use Rattle.both_claims.specs.Ends.{FreshValue}
use Rattle.both_claims.specs.Ends.{CallStays, GoesOn, ValueAgainst, ValueSince, ValueNotOlder, ValueNewer, NoRequest, HadValue}
use Rattle.both_claims.specs.Ends.{Among}
use Rattle.both_claims.specs.AlertsTaken.{all_posted, all_alerts, AlertsWire, RecoveriesAlone}
use Rattle.both_claims.specs.Pending.{CallPends, CallSends}
use Rattle.both_claims.specs.RoundTrip.{TakenAs, Answered, Trip}
use Rattle.both_claims.specs.Exchanges.{Exchanges, Clean, RepliedRequest, set_request, ExchangesOf}
use Rattle.both_claims.specs.SetThenGot.{OlderFirstAfter, SetAndBehind, at_answer, all_calls, SetDone, GetsValue}
use Rattle.both_claims.specs.Witness.{Eventful}

-- ---- What the claims are over: calls of both ends in any order, with arguments of their types.
-- Further starts are among them. Each call is lent any run of each part.

-- C holds of each call behind a start of each end, over any wire
abbrev pub FromStarts : (Ends → EndCall → Type 0) → Type 0
FromStarts C = (s : BothStarts) (ts : List EndCall) → Each EndCallTyped ts → Always C (ends_begun s) ts

-- Let n be any number. Since the main processor's end was just started, the wire is at every moment as `WireUnder` says of n.
-- Then C holds of each call under n since that start.
abbrev pub OverWire : (Ends → EndCall → Type 0) → Type 0
OverWire C =
    (n : ℕ) (e : Ends) → Begun e → (ts : List EndCall) → Each EndCallTyped ts → Always (WireUnder n) e ts → Always (UnderNumber n C) e ts

-- No call is an accepted start of either end, nor an accepted restore.
-- At every moment the wire is as `WireUnder` says of n, and the sets of key k are read in order.
pub record GoesOnInOrder (n k : ℕ) (e : Ends) (ts : List EndCall) : Type 0 where
  pub goes_on : Always GoesOn e ts
  pub wire : Always (WireUnder n) e ts
  pub sets : Always (SetsInOrderAfter k) e ts

-- Take any moment since the main processor's end was just started, where H holds of the calls by then.
-- Then P holds of both ends at that moment, and of the calls behind it.
abbrev pub AtMoment : (Ends → List EndCall → Type 0) → (Ends → List EndCall → Type 0) → Type 0
AtMoment H P = (b : Ends) → Begun b → (ts us : List EndCall) → Each EndCallTyped ts → Each EndCallTyped us → H b ts
    → P (ends_after_all b ts) us

-- ---- Replies that count as put out

abbrev pub PendingBytes : Type 0
PendingBytes = FromStarts CallPends

abbrev pub SentByTake : Type 0
SentByTake = FromStarts CallSends

pub record RepliesPutOut : Type 0 where
  -- The newest reply since the main processor's end was started may count as not put out.
  -- As long as it does, the bytes pending are what is left of its frame.
  -- They are more than its 00, and a 00 may be owed ahead of it.
  pub pending_bytes : PendingBytes
  -- Only a take puts a reply out, and only the one that was pending. It moves all that is left of its frame but the 00 at most.
  -- Only an accepted start of the main processor's end drops replies from those put out.
  pub sent_by_take : SentByTake

-- ---- What an answer comes from

abbrev pub InOrderWire : Type 0
InOrderWire =
    (e : Ends) (ts : List EndCall) → Always InOrderAfter e ts → (n k : ℕ) → Always (WireUnder n) e ts × Always (SetsInOrderAfter k) e ts

abbrev pub FreshAnswer : Type 0
FreshAnswer = OverWire CallFresh

abbrev pub AlertAnswer : Type 0
AlertAnswer = OverWire (CallOf AlertNotRetained)

abbrev pub AlertSince : Type 0
AlertSince =
    (n : ℕ)
    → AtMoment (Always (WireUnder n)) (λ e us. e.log.cleared ≡ true → Always MainGoesOn e us → Always (WireUnder n) e us
    → Always (UnderNumber n (CallOf (AlertAgainst e))) e us)

-- Take any moment since both ends were started together, where `AlertsWire` and H hold of the calls by then.
-- Then C holds of the alerts handed out and of those posted by then.
abbrev pub OverAlerts : (Ends → List EndCall → Type 0) → (List (List ℕ) → List (List ℕ) → Type 0) → Type 0
OverAlerts H C =
    (s : BothStarts) (ts : List EndCall) → Each EndCallTyped ts → AlertsWire (ends_begun s) ts → H (ends_begun s) ts
    → C (all_alerts (ends_begun s) ts) (all_posted (ends_begun s) ts)

abbrev pub AlertsPosted : Type 0
AlertsPosted = OverAlerts (λ e ts. Unit {0}) (Among (List ℕ))

abbrev pub AlertsInOrder : Type 0
AlertsInOrder = OverAlerts (Always RecoveriesAlone) (λ handed posted. (later : List (List ℕ)) × (handed ++ later ≡ posted))

pub record Answers : Type 0 where
  -- The wire keeps the order of all frames, and each is read once at most.
  -- Then it is as `WireUnder` says of every number, and the sets of every key are read in order.
  pub in_order_wire : InOrderWire
  -- What is handed out under n was made by the supervisor in carrying out exactly the request outstanding, after it was put out under n.
  -- Frames of other programs under other numbers do not matter, nor do replies that are not taken as an answer.
  -- A reply of version 2 is never taken as one. Where a request is outstanding, such a reply is a ground for a resend.
  -- The same bytes go out again under n, and the supervisor may carry the request out again.
  pub fresh_answer : FreshAnswer
  -- An alert's answer is the oldest alert that waited as that very request was carried out, or action 0 and no data.
  -- This holds where no alert reply can be retained from before the main processor's end was
  -- started (document 02, item 1; `AlertNotRetained`).
  pub alert-answer : AlertAnswer
  -- The same of an alert request that had not been put out at a moment by which none could be (`cleared`).
  -- It holds until the main processor's end is started again.
  pub alert_since : AlertSince
  -- Both ends were started together, and the main processor's end is not started again. The wire is as `WireUnder` says of its numbers.
  -- Then the alerts handed out, in a recovery or as the answer to the caller's own request, stand among those posted.
  -- They stand there in order, each once at most. Other programs may take alerts, and the supervisor may be started or told to reboot.
  pub alerts_posted : AlertsPosted
  -- Besides, recoveries alone put alert requests out, and these are read in order.
  -- Nobody's reboot or power-off is read, and the supervisor is not started again.
  -- Then the alerts handed out are the first ones posted, in order and each once.
  -- With alert requests of the caller's own one can be lost. The reply to such a request is lost, an interrupt cuts the request off, and
  -- the recovery's takes the next alert.
  pub alerts_in_order : AlertsInOrder

-- ---- How old a list can be: the withdrawn-key list (key 5), and every other settings key but the passphrase

abbrev pub ListAge : Type 0
ListAge = OverWire (CallOf FreshValue)

abbrev pub NotReplaced : Type 0
NotReplaced =
    (n k : ℕ)
    → AtMoment (Always (WireUnder n)) (λ e us. Each CallStays us → Always (WireUnder n) e us
    → Always (UnderNumber n (CallOf (ValueAgainst e k (ValueSince e)))) e us)

abbrev pub ListNotOlder : Type 0
ListNotOlder =
    (n k : ℕ)
    → AtMoment (Always (WireUnder n)) (λ e us. GoesOnInOrder n k e us
    → Always (UnderNumber n (CallOf (ValueAgainst e k (ValueNotOlder e)))) e us)

abbrev pub NeverReplaced : Type 0
NeverReplaced =
    (n k : ℕ)
    → AtMoment (GoesOnInOrder n k) (λ e us. GoesOnInOrder n k e us
    → Always (UnderNumber n (CallOf (ValueAgainst e k (ValueNewer e)))) e us)

-- the wire is as `WireUnder` says of every number under which a set of key k was outstanding
abbrev pub SetsAnswered : ℕ → Ends → List EndCall → Type 0
SetsAnswered k e ts = (i : ℕ) → Ever (SetOutstanding k i) e ts → Always (WireUnder i) e ts

-- a lookup is put out at the moment, and no further request of the caller's behind it;
-- interrupts, recoveries and repetitions may come in between
abbrev pub ValueAsked : Type 0
ValueAsked = (n k : ℕ) → AtMoment (λ b ts. GoesOnInOrder n k b ts × SetsAnswered k b ts) (λ e us.
    (most : ℕ) → ReadBack k → most < 65536 → (j : MainLent) (room : List ℕ) (count : ℕ)
    → let c : MainMade = record { lent = j; call = Main.request command_key_lookup (bytes 1 k ++ bytes 2 most) room } in
    (main_made e.main c).answer ≡ Main.put count → GoesOnInOrder n k e (main c ∷ us)
    → let a = ends_after e (main c) in Always NoRequest a us → Always (UnderNumber n (CallOf (HadValue e k most))) a us)

-- where the sets of key k are read in order, no older one is read behind a newer one, from any moment on
abbrev pub InOrderOlderFirst : Type 0
InOrderOlderFirst =
    (k : ℕ) (e : Ends) (us : List EndCall) → Always GoesOn e us → Always (SetsInOrderAfter k) e us → Always (OlderFirstAfter k e) e us

abbrev pub SetThenGot : Type 0
SetThenGot =
    (k : ℕ) (v : List ℕ) → ReadBack k → (s : SetAndBehind) → SetDone k v s → (n most : ℕ) → most < 65536
    → Always (WireUnder n) s.begun (all_calls s)
    → Always (UnderNumber n (CallOf (GetsValue k most v))) (ends_after (at_answer s) (main s.answered)) s.behind

pub record ListAges : Type 0 where
  -- A lookup's answer is the value of the key's last successful set since the supervisor's start, or what a later restore left.
  -- It is so at a moment after the lookup was put out.
  pub list_age : ListAge
  -- Against any moment by which the lookup had not been put out: the answer is the value set last since, or else the one then.
  -- Behind that moment the supervisor is neither started nor accepts a restore, which can bring an older list back.
  pub not_replaced : NotReplaced
  -- Besides, the sets of the key are read in order.
  -- Then the answer is the value at that moment, or one set since by a set newer than all of that key read by then.
  -- Or it was set by the newest of those once more, which undoes a restore or a start of the supervisor ahead of that moment.
  pub list_not_older : ListNotOlder
  -- Besides, there is no restore and no start of the supervisor since the main processor's end was started.
  -- Then the answer is the value at that moment, or one that was set since.
  -- That set has a higher number than all sets of that key read by then.
  -- So no list that was replaced before the lookup was put out is its answer, unless a newer set sets it.
  pub never_replaced : NeverReplaced
  -- And where the caller puts no further request out, it is exactly the value that the key had as the lookup was put out.
  -- By then the wire was also as `WireUnder` says of each number under which a set of that key was outstanding.
  pub value_asked : ValueAsked
  -- a wire on which the sets of the key are read in order is as `set_then_got` asks
  pub in_order_older_first : InOrderOlderFirst
  -- What I set is what I get, from what the main processor itself saw. A set was answered with result 0, then a lookup is answered.
  -- The answer is the value that was set, or result 3 where that is longer than maxresponse.
  -- Nothing is asked of the supervisor's state. For key 5: the withdrawn-key list is the one that was set.
  pub set_then_got : SetThenGot

-- ---- Exchanges in which nothing is lost

-- each end after any calls from its start, with its reader between two frames: P holds of the parts
abbrev pub BetweenFrames : (MainParts → SupervisorCalls.Parts → Type 0) → Type 0
BetweenFrames P =
    (s : BothStarts) (mains : List MainMade) (sups : List Supervisor.Made) → Supervisor.AllTyped sups
    → let p = main_left (ends_begun s).main mains in let q = Supervisor.left (ends_begun s).supervisor sups in
    (main_view p).received ≡ some [] → (view q).received ≡ some [] → P p q

-- a request is put out: any number, any command and data; reboot, power off and boot failure earn no reply
abbrev pub RoundTrip : Type 0
RoundTrip = BetweenFrames (λ p q.
    (j : MainLent) (command : ℕ) (d room : List ℕ) → command < 256 → Each Byte d
    → let asks = main_made p (record { lent = j; call = Main.request command d room }) in
    (count : ℕ) → asks.answer ≡ Main.put count
    → Trip (Answered (Layout.newest_number asks.parts.requester)) q asks.parts (record { command = command; payload = d })
    (take count asks.out))

-- The one outstanding goes out by a send, in any state in which a send puts it out.
-- It is a request of the caller again, after any number of failed tries, or anew behind a recovery.
-- Or, inside a recovery, it is the recovery's own request, for the first time or again.
abbrev pub Progress : Type 0
Progress = BetweenFrames (λ p q.
    (j : MainLent) (a : Request) (room : List ℕ) → outstanding (main_view p) ≡ some a → Each Byte a.payload
    → let sends = main_made p (record { lent = j; call = Main.send room }) in
    (count : ℕ) → sends.answer ≡ Main.put (suc count)
    → Trip (TakenAs (main_view sends.parts)) q sends.parts a (take (suc count) sends.out))

-- the request of a recovery's step under any number, and its reply in any state
abbrev pub RecoveryServed : Type 0
RecoveryServed = (t : RecoveryStep) (n : ℕ) → n ≤ last_number → let m = as_message n (step_request t) in
    (verdict (form m) ≡ good m)
    × ((image : List ℕ) (s : State) → (r : Message) × (reply_to_request image s m ≡ some r)
    × ((r.version ≡ 1) ⊎ ((t ≡ alert) × SentAgain s m r.version)))

abbrev pub CleanExchange : Type 0
CleanExchange = (s : BothStarts) (ts : List EndCall) (xs : Exchanges (ends_begun s) ts) → Clean xs

abbrev pub ServedExchanges : Type 0
ServedExchanges = (s : BothStarts) (qs : List Request) → Each RepliedRequest qs → length qs ≤ last_number → ExchangesOf (ends_begun s) qs

abbrev pub LookupServed : Type 0
LookupServed = (k most : ℕ) → RepliedRequest (lookup_request k most)

abbrev pub SetServed : Type 0
SetServed = (k : ℕ) (v : List ℕ) → Each Byte v → suc (length v) ≤ longest_data → RepliedRequest (set_request k v)

pub record NothingLost : Type 0 where
  -- a request and its reply in any cuts: exactly the reply that carrying it out gives is handed out, once, and none is outstanding
  pub round_trip : RoundTrip
  -- The same wherever a send puts the frame of the one outstanding out, after any calls before, inside a recovery too.
  -- The reply is taken as the answer. It is handed out, but for that to a recovery's 0x09, and a recovery goes on by a step.
  pub progress : Progress
  -- The whole table passes a recovery's requests, and each earns a reply of version 1. Only an alert request may be sent the retained reply
  -- again that was first written in another version.
  pub recovery_served : RecoveryServed
  -- In any number of exchanges from two starts the wire is as `InOrder` says at every moment.
  -- So the hypotheses can be met, for every number and key (`in_order_wire`).
  -- Exactly the replies are handed out as answers, in order.
  pub clean_exchange : CleanExchange
  -- served requests, as many as there are numbers, make such exchanges
  pub served_exchanges : ServedExchanges
  -- every lookup is served
  pub lookup_served : LookupServed
  -- and so is every set whose value fits a message
  pub set_served : SetServed

-- ---- A history in which the hypotheses hold

abbrev pub EventfulHistory : Type 0
EventfulHistory = (s : BothStarts) → Eventful s

pub record HypothesesMet : Type 0 where
  -- there are two starts that are accepted
  pub some_starts : BothStarts
  -- The hypotheses can be met in a history with a resend, a recovery, two late replies and a later start of the main processor's end.
  -- `WireUnder` and `SetsInOrder` hold from two starts on, at every moment, for every number and key. Up to that later start so does what
  -- `set_then_got` asks.
  pub eventful_history : EventfulHistory

-- all of it
pub record OverBothEnds : Type 0 where
  pub replies_put_out : RepliesPutOut
  pub answers : Answers
  pub list_ages : ListAges
  pub nothing_lost : NothingLost
  pub hypotheses_met : HypothesesMet
