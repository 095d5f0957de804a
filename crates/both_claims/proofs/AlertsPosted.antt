-- The alerts handed out stand among those posted, in order and each once at most.
-- Assumes nothing.
use mathlib.Core.Path.{◌≡◌, refl}
use mathlib.Core.Bool.{Bool, true, false}
use mathlib.Core.List.{List, [], ◌∷◌, ◌++◌, map, append_assoc, append-nil, map-append}
use mathlib.Core.Logic.{◌⊎◌, inl, inr}
use mathlib.Core.Option.{Option, none, some}
use Prim.Native.Nat.{ℕ, suc, ◌≤◌, ◌<◌}
use native.Mathlib.Omega.{arith}
use borrow.Author.Tests.{eq-eqb}
use Rattle.octets.specs.Bytes.{Each}
use Rattle.line.specs.Message.{Message}
use Rattle.requester.specs.State.{Request, is_some, outstanding, request_frame, MainState}
use Rattle.requester_claims.specs.View.{main_view}
use Rattle.requester_claims.specs.Histories.{MainMade, main_made}
use Rattle.requester_claims.specs.Numbers.{Frame}
use Rattle.supervisor.specs.State.{fresh}
use Rattle.responder.specs.Requests.{alert_data}
use Rattle.supervisor_claims.specs.View.{view}
use Rattle.supervisor_claims.specs.Histories as Supervisor
use Rattle.supervisor_claims.specs.FrameHistory as Received
use Rattle.supervisor_claims.proofs.claims.History as SupervisorHistory
use Rattle.both_claims.specs.Ends
use Rattle.both_claims.specs.Ends.{Any, Log, Handled, EndCallTyped, ends_after, ends_after_all, BothStarts, ends_begun, together, Always}
use Rattle.both_claims.specs.Ends.{Ever, UnderNumber, MainGoesOn, CallFresh, CallOf, AlertTaken, AlertAgainst, brought}
use Rattle.both_claims.specs.Ends.{supervisor_logged, message_handed, Among, over}
use Rattle.both_claims.specs.AlertsTaken.{call_posted, all_posted, with_action, call_alerts, all_alerts, OutstandingUnder}
use Rattle.both_claims.specs.AlertsTaken.{AlertsWire, asks_alert}
use Rattle.both_claims.specs.BothEnds.{AlertsPosted}
use Rattle.both_claims.proofs.FreshAnswer.{fresh_answer}
use Rattle.both_claims.proofs.AlertAnswer.{RetainsIn, call-retains, together-retains, alert_since}
use Rattle.both_claims.proofs.laws.Lists.{each-then, each-so, among_none, among_same, among-behind, among-among, among-append}
use Rattle.both_claims.proofs.laws.Kept.{PutOut, Known}
use Rattle.both_claims.proofs.laws.BothCalls.{Both, keeps-both, begun-both, always-so}
use Rattle.both_claims.proofs.laws.AlertQueue.{with_actions, actions-append, Taken, taken_data, taken, taken-append}
use Rattle.both_claims.proofs.laws.AlertPosts.{line_in, started-line, supervisor-line}
use Rattle.both_claims.proofs.laws.AlertsOut.{out-waits, lowest, lowest-asks, log-after, out-moves, lowest-after}
use Rattle.both_claims.proofs.laws.AlertsHanded.{AlertOutstanding, AlertOut, answer-alert, TakenAs, taken_in, none-handed}
use Rattle.both_claims.proofs.laws.AlertsHanded.{any-either}

-- ---- calls from both starts

-- an answer to an alert request holds an alert that was taken in carrying that request out
abbrev TakenFor : MainState → Log → Message → Type 0
TakenFor s l r = (q : Request) → outstanding s ≡ some q → q.command ≡ 0x0a → Any (AlertTaken s.newest q r) l.handled

-- where a request is outstanding
abbrev pub Waiting : (Ends.Ends → Ends.EndCall → Type 0) → Ends.Ends → Ends.EndCall → Type 0
Waiting C e t = is_some (outstanding (main_view e.main)) ≡ true → C e t

-- what is given of each call
pub record Given (e : Ends.Ends) (t : Ends.EndCall) : Type 0 where
  pub goes_on : MainGoesOn e t
  pub fresh : Waiting CallFresh e t
  taken_for : Waiting (CallOf TakenFor) e t

always-waiting : (C : Ends.Ends → Ends.EndCall → Type 0) (e : Ends.Ends) (ts : List Ends.EndCall)
    → ((n : ℕ) → Ever (OutstandingUnder n) e ts → Always (UnderNumber n C) e ts) → Always (Waiting C) e ts
always-waiting C e [] h = tt
always-waiting C e (t ∷ ts) h =
    (λ o. (h (main_view e.main).newest (inl (refl, o))).0 refl, always-waiting C (ends_after e t) ts (λ n v. (h n (inr v)).1))

all-given : (e : Ends.Ends) (ts : List Ends.EndCall) → Always MainGoesOn e ts → Always (Waiting CallFresh) e ts
    → Always (Waiting (CallOf TakenFor)) e ts → Always Given e ts
all-given e [] c f a = tt
all-given e (t ∷ ts) c f a =
    (record { goes_on = c.0; fresh = f.0; taken_for = a.0 }, all-given (ends_after e t) ts c.1 f.1 a.1)

pub given : (s : BothStarts) (ts : List Ends.EndCall) → Each EndCallTyped ts → AlertsWire (ends_begun s) ts → Always Given (ends_begun s) ts
unfolding ends_after_all
given s ts typed w =
    let e = ends_begun s in
    all-given e ts w.goes_on
    (always-waiting CallFresh e ts (λ n v. fresh_answer n e (together s) ts typed (w.wire n v)))
    (always-waiting (CallOf TakenFor) e ts (λ n v.
    always-so (AlertAgainst e) TakenFor n (λ x l r a q out alert. a q out alert tt) e ts
    (alert_since n e (together s) [] ts tt typed tt refl w.goes_on (w.wire n v))))

-- with the alerts handed out and those posted by then
module _ (Holds : Ends.Ends → List (List ℕ) → List (List ℕ) → Type 0) (G : Ends.Ends → Ends.EndCall → Type 0)
    (of-call : (e : Ends.Ends) (handed posted : List (List ℕ)) → Both e → Holds e handed posted → (t : Ends.EndCall) → EndCallTyped t
    → G e t → Holds (ends_after e t) (handed ++ call_alerts e t) (posted ++ call_posted e t)) where
  pub after-all : (e : Ends.Ends) (handed posted : List (List ℕ)) → Both e → Holds e handed posted → (ts : List Ends.EndCall)
      → Each EndCallTyped ts → Always G e ts → Holds (ends_after_all e ts) (handed ++ all_alerts e ts) (posted ++ all_posted e ts)
  unfolding ends_after_all all_alerts all_posted
  after-all e handed posted both h [] typed g = rw (append-nil, append-nil) h
  after-all e handed posted both h (t ∷ ts) typed g =
      rw (← append_assoc handed (call_alerts e t), ← append_assoc posted (call_posted e t))
      (after-all (ends_after e t) (handed ++ call_alerts e t) (posted ++ call_posted e t) (keeps-both e both t typed.0)
      (of-call e handed posted both h t typed.0 g.0) ts typed.1 g.1)

-- both just started: no alert is in line
pub begun-state : (s : BothStarts) → ((view (ends_begun s).supervisor).waiting ≡ []) × ((view (ends_begun s).supervisor).retained ≡ none)
unfolding fresh
begun-state s =
    let k =
    (SupervisorHistory.started s.supervisor_parts s.supervisor_bytes s.supervisor_lent s.start_data s.start_typed
    s.supervisor_accepted).0 in
    rw k (refl, refl)

pub begun-line : (s : BothStarts) → line_in (ends_begun s) ≡ []
unfolding taken with_actions
begun-line s = rw (begun-state s).0

-- ---- a call of the main processor's end that hands an alert out

abbrev pub CallOut : Ends.Ends → MainMade → Type 0
CallOut e m = let d = main_made e.main m in AlertOut (main_view e.main) d.answer d.out

module _ (e : Ends.Ends) (both : Both e) (m : MainMade) (g : Given e (Ends.main m)) where
  pub out-or-none : (call_alerts e (Ends.main m) ≡ []) ⊎ CallOut e m
  out-or-none = let d = main_made e.main m in by (message_handed d.answer d.out) refl
    where
      by : (o : Option Message) → (let d = main_made e.main m in message_handed d.answer d.out ≡ o)
          → (call_alerts e (Ends.main m) ≡ []) ⊎ CallOut e m
      by none k = let d = main_made e.main m in inl (none-handed d.answer d.out k)
      by (some r) k =
          let d = main_made e.main m in
          answer-alert (main_view e.main) e.log d.answer d.out (g.fresh (out-waits e both m g.goes_on r k))

  -- the alert was taken in carrying out the request outstanding
  out-carried : (o : CallOut e m) → Any (AlertTaken (main_view e.main).newest o.waits.0 o.reply) e.log.handled
  out-carried o = let (q, out, alert) = o.waits in g.taken_for (rw out) o.reply o.handed q out alert

  pub out-taken : (o : CallOut e m) → Any (TakenAs (main_view e.main).newest o.reply.payload) (taken e.log.handled)
  out-taken o = taken_in (main_view e.main).newest o.waits.0 o.reply o.waits.2 e.log.handled (out-carried o)

pub asks : (s : MainState) → AlertOutstanding s → asks_alert (outstanding s) ≡ true
asks s (q, out, alert) = rw out (eq-eqb q.command 0x0a alert)

-- ---- the claim

-- handled when only lower numbers had been put out
abbrev AskedBelow : ℕ → Handled → Type 0
AskedBelow low h = Each (λ (x : Frame). x.number < low) h.asked

-- those handed out are among those taken in the first part of the frames that were handled
record HandedAmong (low : ℕ) (hs : List Handled) (handed : List (List ℕ)) : Type 0 where
  before : List Handled
  since : List Handled
  whole : hs ≡ before ++ since
  below : Each (AskedBelow low) before
  among : Among (List ℕ) handed (with_actions (map taken_data (taken before)))

record Holds (e : Ends.Ends) (handed posted : List (List ℕ)) : Type 0 where
  retains : RetainsIn e
  line : Among (List ℕ) (line_in e) posted
  out : HandedAmong (lowest (main_view e.main)) e.log.handled handed

-- the lowest number rises, or more frames are handled
among-low : {low high : ℕ} {hs : List Handled} {handed : List (List ℕ)} → low ≤ high → HandedAmong low hs handed
    → HandedAmong high hs handed
among-low {low} {high} h o = record {
  before = o.before;
  since = o.since;
  whole = o.whole;
  below =
      each-then (AskedBelow low) (AskedBelow high) (λ k f. each-then _ _ (λ (x : Frame) i. omega (arith, h, i)) k.asked f) o.before
      o.below;
  among = o.among;
}

among-more : {low : ℕ} {hs : List Handled} {handed : List (List ℕ)} (new : List Handled) → HandedAmong low hs handed
    → HandedAmong low (hs ++ new) handed
among-more new o = record {
  before = o.before;
  since = o.since ++ new;
  whole = rw o.whole (append_assoc o.before o.since new);
  below = o.below;
  among = o.among;
}

-- one of those taken
among_one : (n : ℕ) (d : List ℕ) (us : List Taken) → Any (TakenAs n d) us
    → Among (List ℕ) (with_action d) (with_actions (map taken_data us))
unfolding with_actions
among_one n d [] h = absurd h
among_one n d (u ∷ us) (inl h) = rw h.1 (among-behind (with_actions (map taken_data us)) (among_same (with_action d)))
among_one n d (u ∷ us) (inr h) = among-append (among_none (with_action (taken_data u))) (among_one n d us h)

-- an alert is handed out under n, which was taken when its request had been put out: so in the second part
module _ (n : ℕ) (q : Request) (r : Message) (alert : q.command ≡ 0x0a) (hs : List Handled) (most : Each (AskedBelow (suc n)) hs)
    (handed : List (List ℕ)) (o : HandedAmong n hs handed) where
  taken-since : Any (AlertTaken n q r) hs → Any (AlertTaken n q r) o.since
  taken-since a = by (any-either (AlertTaken n q r) o.before o.since (rw o.whole at a))
    where
      by : Any (AlertTaken n q r) o.before ⊎ Any (AlertTaken n q r) o.since → Any (AlertTaken n q r) o.since
      by (inl h) =
          absurd (each-so (AskedBelow n) (AlertTaken n q r)
          (λ k f t.
          each-so (λ (x : Frame). x.number < n) (λ (x : Frame). (x.number ≡ n) × (x.bytes ≡ request_frame n q))
          (λ x i j. omega (arith, i, j.0)) k.asked f t.carried-out.put-out) o.before o.below h)
      by (inr h) = h

  among_next : Any (AlertTaken n q r) hs → HandedAmong (suc n) hs (handed ++ with_action r.payload)
  among_next a = record {
    before = o.before ++ o.since;
    since = [];
    whole = rw (append-nil, o.whole);
    below = rw o.whole at most;
    among =
        rw (taken-append o.before, map-append taken_data (taken o.before), actions-append)
        (among-append o.among
        (among_one n r.payload (taken o.since) (taken_in n q r alert o.since (taken-since a))));
  }

-- a call of the supervisor
after_more : (e : Ends.Ends) (m : Supervisor.Made) {handed : List (List ℕ)}
    → HandedAmong (lowest (main_view e.main)) e.log.handled handed
    → let a = ends_after e (Ends.supervisor m) in HandedAmong (lowest (main_view a.main)) a.log.handled handed
unfolding ends_after supervisor_logged
after_more e m o = among-more (brought e.log (view e.supervisor) m) o

-- they are in line
out_line : (e : Ends.Ends) {low : ℕ} {handed : List (List ℕ)} → HandedAmong low e.log.handled handed
    → Among (List ℕ) handed (line_in e)
out_line e o =
    let ds = map taken_data (taken o.before) in
    rw (o.whole, taken-append o.before, map-append taken_data (taken o.before), append_assoc ds, actions-append ds)
    (among-behind _ o.among)

module _ (e : Ends.Ends) (handed posted : List (List ℕ)) (both : Both e) (h : Holds e handed posted) where
  -- no frame had a higher number
  all-below : Each (AskedBelow (suc (main_view e.main).newest)) e.log.handled
  all-below =
      each-then (Known (main_view e.main)) _
      (λ k i. each-then (PutOut (main_view e.main)) _ (λ (x : Frame) p. omega (arith, p.agrees.most)) k.asked i.asked)
      e.log.handled both.kept.handled

  main-holds : (m : MainMade) → EndCallTyped (Ends.main m) → Given e (Ends.main m)
      → let t = Ends.main m in Holds (ends_after e t) (handed ++ call_alerts e t) (posted ++ [])
  unfolding ends_after
  main-holds m typed g =
      let l = log-after e both m g.goes_on in
      record {
        retains = call-retains e both h.retains (Ends.main m) typed;
        line = rw (append-nil, l.0) h.line;
        out = rw l.0 (by (out-or-none e both m g));
      }
    where
      n : ℕ
      n = (main_view e.main).newest

      after : ℕ
      after = lowest (main_view (ends_after e (Ends.main m)).main)

      by : (call_alerts e (Ends.main m) ≡ []) ⊎ CallOut e m → HandedAmong after e.log.handled (handed ++ call_alerts e (Ends.main m))
      by (inl k) = rw (k, append-nil) (among-low (lowest-after e both m g.goes_on) h.out)
      by (inr k) =
          let z = lowest-asks (main_view e.main) (asks (main_view e.main) k.waits) in
          let o : HandedAmong n e.log.handled handed = rw z at h.out in
          rw k.alerts
          (among-low (out-moves e both m g.goes_on k.reply k.handed)
          (among_next n k.waits.0 k.reply k.waits.2 e.log.handled all-below handed o (out-carried e both m g k)))

  -- a start of the supervisor drops those that wait
  line_after : (m : Supervisor.Made) → EndCallTyped (Ends.supervisor m)
      → let t = Ends.supervisor m in Among (List ℕ) (line_in (ends_after e t)) (posted ++ call_posted e t)
  line_after m typed = by (Received.starts_anew m) refl
    where
      by : (b : Bool) → Received.starts_anew m ≡ b
          → let t = Ends.supervisor m in Among (List ℕ) (line_in (ends_after e t)) (posted ++ call_posted e t)
      by true k =
          let s = started-line e both h.retains m typed k in
          let ds = map taken_data (taken e.log.handled) in
          let front = among-behind (with_actions (map alert_data (view e.supervisor).waiting)) (among_same (with_actions ds)) in
          rw (s.0, s.1, append-nil) (among-among (rw (← actions-append ds) at front) h.line)
      by false k =
          rw (supervisor-line e both h.retains m typed k)
          (among-append h.line (among_same (call_posted e (Ends.supervisor m))))

  supervisor-holds : (m : Supervisor.Made) → EndCallTyped (Ends.supervisor m)
      → let t = Ends.supervisor m in Holds (ends_after e t) (handed ++ []) (posted ++ call_posted e t)
  supervisor-holds m typed = record {
    retains = call-retains e both h.retains (Ends.supervisor m) typed;
    line = line_after m typed;
    out = rw append-nil (after_more e m h.out);
  }

  call-holds : (t : Ends.EndCall) → EndCallTyped t → Given e t
      → Holds (ends_after e t) (handed ++ call_alerts e t) (posted ++ call_posted e t)
  call-holds (Ends.main m) typed g = main-holds m typed g
  call-holds (Ends.supervisor m) typed g = supervisor-holds m typed

pub alerts_posted : AlertsPosted
unfolding taken with_actions
alerts_posted s ts typed w u =
    let e = ends_begun s in
    let first : Holds e [] [] = record {
      retains = together-retains s;
      line = rw (begun-line s) over;
      out = record { before = []; since = []; whole = refl; below = tt; among = over };
    } in
    let h = after-all Holds Given call-holds e [] [] (begun-both e (together s)) first ts typed (given s ts typed w) in
    among-among (out_line (ends_after_all e ts) h.out) h.line
