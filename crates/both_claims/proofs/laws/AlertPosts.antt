-- A call of the supervisor: the alerts posted are those taken, and then those that wait, also behind it.
-- Assumes nothing.
use mathlib.Core.Path.{◌≡◌, refl, sym, ap, ◌∙◌}
use mathlib.Core.Bool.{Bool, true, false, false≢true, and-eq-true_iff}
use mathlib.Core.List.{List, [], ◌∷◌, ◌++◌, map, append-nil}
use Prim.Native.Nat.{ℕ, ◌<◌, ◌%◌}
use native.Mathlib.Omega.{arith}
use lib.Dec.{ltb, eqb}
use lib.ListN.{length}
use borrow.Author.Tests.{eqb-false, ne_eqb}
use Rattle.octets.specs.Bytes.{bytes}
use Rattle.octets.proofs.Conditions.{cond-by}
use Rattle.line.specs.Message.{InRange}
use Rattle.line_claims.specs.Calls.{good_messages}
use Rattle.requester_claims.specs.View.{main_view}
use Rattle.supervisor.specs.Limits.{longest_alert, most_alerts}
use Rattle.supervisor.specs.State.{Alert, State, fresh}
use Rattle.supervisor.specs.Local
use Rattle.responder.specs.Requests.{alert_data}
use Rattle.supervisor_claims.specs.View.{view}
use Rattle.supervisor_claims.specs.LocalCalls.{Change, local_row}
use Rattle.supervisor_claims.specs.Alerts.{added_by, alerts_added}
use Rattle.supervisor_claims.specs.Histories as Supervisor
use Rattle.supervisor_claims.specs.Histories.{LocalCall, Call, Lent, Made, enough, meant, done_means}
use Rattle.supervisor_claims.specs.FrameHistory as Received
use Rattle.supervisor_claims.specs.FrameHistory.{frames_carried}
use Rattle.supervisor_claims.proofs.claims.AlertClaim.{local_keeps}
use Rattle.supervisor_claims.proofs.claims.FramesClaim.{made-carried}
use Rattle.supervisor_claims.proofs.claims.History as SupervisorHistory
use Rattle.both_claims.specs.Ends
use Rattle.both_claims.specs.Ends.{Log, image_lent, ends_after, handled_by, brought, supervisor_logged}
use Rattle.both_claims.specs.AlertsTaken.{added_in, call_posted, alert_requests, AlertsInTurn, NoneDrops}
use Rattle.both_claims.proofs.laws.Lists.{each_right}
use Rattle.both_claims.proofs.laws.SupervisorFrames.{frames-none, LocallyKept, made_kept, made-field, made-started}
use Rattle.both_claims.proofs.laws.BothCalls.{Both, keeps-both}
use Rattle.both_claims.proofs.laws.AlertQueue.{with_actions, taken_data, taken, taken-append, in_line, frames-line, posted-line}
use Rattle.both_claims.proofs.laws.AlertNumbers.{requests-each, Numbered, same-numbered, frames-numbered}
use Rattle.both_claims.proofs.AlertAnswer.{RetainsIn}
use Rattle.both_claims.proofs.InOrderAge.{Pairs, Ordered, turn-ordered}

-- ---- what waits behind a call

refused-adds : (n : ℕ) (k : Change) → added_by k (Supervisor.refused n) ≡ []
refused-adds n Change.nothing = refl
refused-adds n Change.outbox = refl
refused-adds n (Change.registers added) = refl
refused-adds n (Change.settings image) = refl

abbrev call_of : Lent → Call → Made
call_of l c = record { lent = l; call = c }

module _ (w : List ℕ) (x : State) (l : Lent) where
  abbrev Waits : Call → Type 0
  Waits c =
      let m = call_of l c in
      (Received.carried_made w x m).state.waiting
      ≡ (frames_carried (image_lent c) x (Received.frames_closed_by w (Received.bytes_received_by m))).waiting
      ++ added_in c (Received.carried_made w x m).answer

  frames-waiting : (c : Call) → Received.starts_anew (call_of l c) ≡ false → LocallyKept (λ (y : State). y.waiting) x c
      → (let m = call_of l c in added_in c (Received.carried_made w x m).answer ≡ []) → Waits c
  frames-waiting c e k none = rw (none, append-nil) (made_kept (λ (y : State). y.waiting) (λ s r. refl) w x (call_of l c) e k)

  local-waiting : (c : LocalCall) → Waits (Supervisor.local c)
  unfolding Received.carried_made Received.carried_call Received.bytes_received_by Received.piece_read frames_carried
  local-waiting c = by (enough (Supervisor.local c) l) refl
    where
      by : (b : Bool) → enough (Supervisor.local c) l ≡ b → Waits (Supervisor.local c)
      by true e = rw (e, frames-none w) (local_keeps x c).1
      by false e = rw (e, frames-none w, refused-adds 12 (local_row c).change, append-nil)

  pub call-waiting : (c : Call) → Received.starts_anew (call_of l c) ≡ false → Waits c
  call-waiting (Supervisor.start d) e = frames-waiting (Supervisor.start d) e tt refl
  call-waiting (Supervisor.receive image piece) e = frames-waiting (Supervisor.receive image piece) e tt refl
  call-waiting (Supervisor.step image piece) e = frames-waiting (Supervisor.step image piece) e tt refl
  call-waiting (Supervisor.local c) e = local-waiting c

-- an accepted start reads nothing and adds nothing
start-brings : (m : Made) → Received.starts_anew m ≡ true
    → (Received.bytes_received_by m ≡ []) × ((a : Supervisor.Answer) → map alert_data (added_in m.call a) ≡ [])
unfolding Received.starts_anew Received.bytes_received_by Received.is_accepted_start Received.piece_read
start-brings m s =
    let b = (and-eq-true_iff (enough m.call m.lent) (Received.is_accepted_start m.call)).0 s in
    rw b.0 (by m.call b.1)
  where
    by : (c : Call) → Received.is_accepted_start c ≡ true
        → (Received.piece_read c ≡ []) × ((a : Supervisor.Answer) → map alert_data (added_in c a) ≡ [])
    by (Supervisor.start d) e = (refl, λ a. refl)
    by (Supervisor.receive image piece) e = absurd (false≢true e)
    by (Supervisor.step image piece) e = absurd (false≢true e)
    by (Supervisor.local c) e = absurd (false≢true e)

-- ---- what it adds has an action other than 0

abbrev HasActions : List Alert → Type 0
HasActions added = with_actions (map alert_data added) ≡ map alert_data added

posted-action : (action : ℕ) (text : List ℕ) → action < 256 → eqb action 0 ≡ false
    → HasActions (record { action = action; text = text } ∷ [])
unfolding with_actions bytes
posted-action action text low e =
    let z : eqb (action % 256) 0 ≡ false = ne_eqb (action % 256) 0 (let k = eqb-false action 0 e in λ h. k (omega (arith, h, low))) in
    rw z

module _ (x : State) where
  post-adds : (action : ℕ) (text : List ℕ) → action < 256
      → HasActions (alerts_added (Supervisor.post action text) (meant x (Supervisor.local (Supervisor.post action text))).answer)
  unfolding meant Local.post with_actions
  post-adds action text low =
      let P : Local.Done → Type 0 = λ d. HasActions (alerts_added (Supervisor.post action text) (done_means x d).answer) in
      cond-by P (eqb action 0) _ _ (λ _. refl) (λ e.
      cond-by P (ltb longest_alert (length text)) _ _ (λ _. refl) (λ _.
      cond-by P (ltb (length x.waiting) most_alerts) _ _ (λ _. posted-action action text low e) (λ _. refl)))

  options-add : (o : ℕ)
      → HasActions (alerts_added (Supervisor.set_options o) (meant x (Supervisor.local (Supervisor.set_options o))).answer)
  unfolding meant Local.set_options with_actions
  options-add o =
      cond-by (λ (d : Local.Done). HasActions (alerts_added (Supervisor.set_options o) (done_means x d).answer)) (Local.options_allowed o)
      _ _
      (λ _. refl) (λ _. refl)

  local-adds : (c : LocalCall) → Supervisor.Typed (Supervisor.local c) → HasActions (alerts_added c (meant x (Supervisor.local c)).answer)
  unfolding with_actions
  local-adds (Supervisor.take room) t = refl
  local-adds (Supervisor.post action text) t = post-adds action text t.0
  local-adds (Supervisor.set_options o) t = options-add o
  local-adds (Supervisor.lookup key most) t = refl
  local-adds (Supervisor.edition key) t = refl
  local-adds Supervisor.signal t = refl
  local-adds Supervisor.flags t = refl
  local-adds (Supervisor.read_record k) t = refl
  local-adds (Supervisor.save room) t = refl
  local-adds (Supervisor.restore image) t = refl

  pub call-adds : (w : List ℕ) (l : Lent) (c : Call) → Supervisor.Typed c
      → HasActions (added_in c (Received.carried_made w x (call_of l c)).answer)
  unfolding with_actions Received.carried_made Received.carried_call
  call-adds w l (Supervisor.start d) t = refl
  call-adds w l (Supervisor.receive image piece) t = refl
  call-adds w l (Supervisor.step image piece) t = refl
  call-adds w l (Supervisor.local c) t = by (enough (Supervisor.local c) l) refl
    where
      by : (b : Bool) → enough (Supervisor.local c) l ≡ b
          → HasActions (alerts_added c (Received.carried_made w x (call_of l (Supervisor.local c))).answer)
      by true e = rw e (local-adds c t)
      by false e = rw (e, refused-adds 12 (local_row c).change)

-- ---- both ends

abbrev pub line_in : Ends.Ends → List (List ℕ)
line_in e = in_line (view e.supervisor) (taken e.log.handled)

abbrev pub NumberedIn : Ends.Ends → Type 0
NumberedIn e = Numbered (view e.supervisor) (taken e.log.handled) e.log.heard

-- numbers never fall among the alert requests that were read
requests-ordered : (e : Ends.Ends) → Both e → AlertsInTurn e.log → Pairs Ordered (alert_requests e.log.heard)
requests-ordered e both o =
    turn-ordered (main_view e.main) e.log both.kept (alert_requests e.log.heard)
    (requests-each InRange e.log.heard both.kept.heard) o

module _ (e : Ends.Ends) (both : Both e) (retains : RetainsIn e) (m : Made) (typed : Supervisor.Typed m.call) where
  abbrev x : State
  x = view e.supervisor

  abbrev l : Log
  l = e.log

  abbrev fs : List (List ℕ)
  fs = Received.frames_closed_by l.received (Received.bytes_received_by m)

  abbrev framed : State
  framed = frames_carried (image_lent m.call) x fs

  abbrev after : Ends.Ends
  after = ends_after e (Ends.supervisor m)

  carried : Received.carried_made l.received x m ≡ Supervisor.meant_made x m
  carried = (made-carried l.received x retains.since m).0

  state-left : view after.supervisor ≡ (Received.carried_made l.received x m).state
  unfolding ends_after
  state-left =
      (SupervisorHistory.one_call e.supervisor m both.supervisor typed).leaves.0
      ∙ ap (λ (y : Supervisor.Means). y.state) (sym carried)

  answered : (Supervisor.made e.supervisor m).answer ≡ (Received.carried_made l.received x m).answer
  answered =
      (SupervisorHistory.one_call e.supervisor m both.supervisor typed).answer
      ∙ ap (λ (y : Supervisor.Means). y.answer) (sym carried)

  -- what is taken is added
  pub taken-brought : taken after.log.handled ≡ taken l.handled ++ taken (brought l x m)
  unfolding ends_after supervisor_logged
  taken-brought = taken-append l.handled (brought l x m)

  -- a start leaves none waiting
  pub started-line : Received.starts_anew m ≡ true → (line_in after ≡ with_actions (map taken_data (taken l.handled)))
      × (call_posted e (Ends.supervisor m) ≡ [])
  unfolding brought handled_by taken fresh
  started-line s =
      let k = start-brings m s in
      let f = made-started l.received x m s in
      let none = ap (Received.frames_closed_by l.received) k.0 ∙ frames-none l.received in
      (rw (taken-brought, none, append-nil, state-left, f.1, append-nil), k.1 _)

  -- any other call adds what is posted
  module _ (goes : Received.starts_anew m ≡ false) where
    pub supervisor-line : line_in after ≡ line_in e ++ call_posted e (Ends.supervisor m)
    unfolding brought
    supervisor-line =
        let made = Received.carried_made l.received x m in
        rw (taken-brought, state-left, answered)
        (posted-line framed made.state (taken l.handled ++ taken (brought l x m)) (added_in m.call made.answer)
        (call-adds x l.received m.lent m.call typed) (call-waiting l.received x m.lent m.call goes)
        ∙ ap (λ ds. ds ++ map alert_data (added_in m.call made.answer))
        (frames-line l.asked (image_lent m.call) fs l.cleared x l.origin _ (taken l.handled)))

    brought-numbered : NumberedIn e → NoneDrops after.log → Pairs Ordered (alert_requests after.log.heard)
        → Numbered framed (taken after.log.handled) after.log.heard
    unfolding ends_after supervisor_logged brought
    brought-numbered q none order =
        rw (taken-append l.handled)
        (frames-numbered l.asked (image_lent m.call) fs l.cleared x l.origin _ (taken l.handled) l.heard q
        (each_right _ l.heard (good_messages fs) none) order)

    pub supervisor-numbered : NumberedIn e → NoneDrops after.log → AlertsInTurn after.log → NumberedIn after
    supervisor-numbered q none turn =
        let order = requests-ordered after (keeps-both e both (Ends.supervisor m) typed) turn in
        rw state-left
        (same-numbered framed (Received.carried_made l.received x m).state _ _
        (made-field (λ (y : State). y.retained) (λ s p. refl) l.received x (λ s c. (local_keeps s c).0) m goes)
        (brought-numbered q none order))
