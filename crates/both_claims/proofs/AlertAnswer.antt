-- An answer to an alert request:
-- which alert it holds, where no alert reply from before the main processor's end was started was still retained.
-- Assumes nothing.
use mathlib.Core.Path.{◌≡◌, refl, sym, ap, ◌∙◌}
use mathlib.Core.Bool.{Bool, true, false, ◌||◌, or-true, false≢true}
use mathlib.Core.List.{List, [], ◌∷◌, ◌++◌}
use mathlib.Core.Logic.{◌⊎◌, inl, inr}
use mathlib.Core.Option.{Option, none, some}
use Prim.Native.Nat.{ℕ}
use Rattle.octets.specs.Bytes.{Each}
use Rattle.octets.proofs.Conditions.{cond-by}
use Rattle.octets.proofs.Each.{each_append}
use Rattle.line.specs.Message.{Message}
use Rattle.line.specs.Frame.{split}
use Rattle.requester.specs.State.{Request, outstanding, MainState}
use Rattle.requester_claims.specs.View.{main_view}
use Rattle.requester_claims.specs.Histories.{MainAnswer, MainCall}
use Rattle.requester_claims.specs.Numbers.{Frame}
use Rattle.supervisor.specs.State.{Alert, Retained, State, fresh}
use Rattle.responder.specs.Requests.{ReplyContent, reply_of, oldest}
use Rattle.supervisor_claims.specs.View.{view, factory_of}
use Rattle.supervisor_claims.specs.Histories as Supervisor
use Rattle.supervisor_claims.specs.FrameHistory as Received
use Rattle.supervisor_claims.specs.FrameHistory.{frame_carried}
use Rattle.supervisor_claims.specs.LastSet.{Origin}
use Rattle.supervisor_claims.proofs.laws.Progress.{Since}
use Rattle.supervisor_claims.proofs.claims.AlertClaim.{local_keeps}
use Rattle.supervisor_claims.proofs.claims.FramesClaim.{made-carried, by_frames}
use Rattle.supervisor_claims.proofs.claims.History as SupervisorHistory
use Rattle.requester_claims.specs.CameAs.{restarts}
use Rattle.both_claims.specs.Ends
use Rattle.both_claims.specs.Ends.{Any, Handled, Log, CarriedOut, Fresh, AlertTaken, AlertNotRetained, CallOf, retained_under}
use Rattle.both_claims.specs.Ends.{reply_message}
use Rattle.both_claims.specs.Ends.{as_message}
use Rattle.both_claims.specs.Ends.{MainGoesOn, AlertAgainst, ends_after_all, handled_by, origin_by, RequestUnder, WireUnder, UnderNumber}
use Rattle.both_claims.specs.Ends.{EndCallTyped, ends_after, BothStarts, ends_begun, Begun, main_logged, supervisor_logged, brought}
use Rattle.both_claims.specs.Ends.{cleared_by, image_lent}
use Rattle.both_claims.proofs.laws.Lists.{Front, none-some, any-or, each-then, each-any}
use Rattle.both_claims.proofs.laws.Kept.{KnownFrom, known_from, AllFromMain, Kept, not-asked-by}
use Rattle.both_claims.proofs.laws.ThatRequest.{answered}
use Rattle.both_claims.proofs.laws.SupervisorFrames.{made-field, made-started}
use Rattle.both_claims.proofs.laws.RetainedSince.{alert_answer, sends-again, takes-alert, Takes, RetainedBy, retained-later, under-is}
use Rattle.both_claims.proofs.laws.RetainedSince.{frames-kept}
use Rattle.both_claims.proofs.FreshAnswer.{FromMainUnder, keeps-from-main, answer-fresh}
use Rattle.both_claims.proofs.laws.FromMain.{begun-from-main}
use Rattle.both_claims.proofs.laws.BothCalls.{Both, each-call, after-calls, always-and, begun-both, begun-else}
use Rattle.both_claims.specs.BothEnds.{AlertAnswer, AlertSince}

-- ---- what holds of the supervisor's state

pub record Retains (x : State) (l : Log) : Type 0 where
  pub since : Since (split l.received).rest x
  pub kept : l.cleared ≡ true → RetainedBy l.handled x.retained
  pub each : Each (λ (h : Handled). h.cleared ≡ true → RetainedBy l.handled h.state.retained) l.handled

-- a call of the supervisor
module _ (x : State) (l : Log) (r : Retains x l) (m : Supervisor.Made) (waiting : List ℕ) where
  abbrev w : List ℕ
  w = l.received

  abbrev fs : List (List ℕ)
  fs = Received.frames_closed_by w (Received.bytes_received_by m)

  abbrev left : State
  left = (Supervisor.meant_made x m).state

  carried-left : (Received.carried_made w x m).state ≡ left
  carried-left = ap (λ (y : Supervisor.Means). y.state) (made-carried w x r.since m).0

  left-retained : Received.starts_anew m ≡ false → left.retained ≡ (Received.frames_carried (image_lent m.call) x fs).retained
  left-retained e =
      ap (λ (y : State). y.retained) (sym carried-left)
      ∙ made-field (λ (y : State). y.retained) (λ s p. refl) w x (λ s c. (local_keeps s c).0) m e

  started-retained : Received.starts_anew m ≡ true → left.retained ≡ none
  unfolding fresh
  started-retained e = let k = made-started w x m e in ap (λ (y : State). y.retained) (sym carried-left ∙ k.1)

  pub supervisor-retains : Retains left (supervisor_logged l x m waiting)
  unfolding supervisor_logged brought
  supervisor-retains =
      let k = frames-kept l.asked (image_lent m.call) fs l.cleared x _ _ l.handled r.kept in
      record {
        since = (made-carried w x r.since m).1;
        kept = by (Received.starts_anew m) refl k.0;
        each = each_append _ l.handled (brought l x m)
            (each-then _ _ (λ h f c. retained-later l.handled (brought l x m) h.state.retained (f c)) l.handled r.each) k.1;
      }
    where
      by : (t : Bool) → Received.starts_anew m ≡ t
          → (cleared_by l.cleared fs ≡ true
          → RetainedBy (l.handled ++ brought l x m) (Received.frames_carried (image_lent m.call) x fs).retained)
          → (t || cleared_by l.cleared fs) ≡ true → RetainedBy (l.handled ++ brought l x m) left.retained
      by true e k c = λ t f. absurd (none-some (sym (started-retained e) ∙ f))
      by false e k c = rw (left-retained e) (k c)

-- a call of the main processor's end
main-retains : (x : State) (l : Log) → Retains x l → (c : MainCall) (a : MainAnswer) (out : List ℕ) (n : ℕ)
    → Retains x (main_logged l c a out n)
unfolding main_logged
main-retains x l r c a out n =
    cond-by (Retains x) (restarts c a) _ _
    (λ _. record { since = r.since; kept = λ e. absurd (false≢true e); each = tt })
    (λ _. record { since = r.since; kept = r.kept; each = r.each })

-- ---- an answer

reply-data : (n : ℕ) (a : ReplyContent) (r : Message) → reply_message (reply_of n (some a)) ≡ some r → r.payload ≡ a.payload
unfolding reply_of
reply-data n a r e = cc

replied : (k : ℕ) {n : ℕ} → k ≡ n → (o : Option ReplyContent) (z : ReplyContent) → o ≡ some z → reply_of k o ≡ reply_of n (some z)
replied k e o z f = rw (e, f)

module _ (s : MainState) (l : Log) (kept : Kept s l) (from : AllFromMain (RequestUnder s.newest) l) (x : State) (retains : Retains x l)
    (r : Message) (q : Request) (waiting : outstanding s ≡ some q) (alert : q.command ≡ 0x0a) where
  abbrev n : ℕ
  n = s.newest

  abbrev Replies : ℕ → Alert → Type 0
  Replies v a = reply_message (reply_of n (some (alert_answer v a))) ≡ some r

  -- a request that took the alert of the retained reply
  took : (t : Retained) → t.sequence ≡ n → Replies t.version t.alert → (h : Handled) → KnownFrom s h → Takes t h → AlertTaken n q r h
  took t e f h k z =
      let m = z.request in
      let i : m.sequence ≡ n = z.number ∙ e in
      let u : retained_under m.sequence h.state.retained ≡ false = rw z.number z.none_retained in
      let a = (takes-alert h.image h.state m z.alert u).1 in
      let g : Replies m.version (oldest h.state.waiting) = rw (z.oldest_waiting, ← z.version) at f in
      record {
        carried-out =
            answered s kept.ranged q waiting r h k.0 k.1 m z.passed i (ap reply_message (replied m.sequence i _ _ a) ∙ g);
        none_retained = rw (← e) z.none_retained;
        oldest_waiting = reply-data n _ r g;
      }

  module _ (h : Handled) (c : CarriedOut n q r h) where
    -- it took an alert itself
    takes : retained_under n h.state.retained ≡ false → AlertTaken n q r h
    takes e =
        let a = (takes-alert h.image h.state (as_message n q) alert e).1 in
        record { carried-out = c; none_retained = e; oldest_waiting = reply-data n _ r (rw a at c.reply) }

    -- the retained reply was sent again
    again : RetainedBy l.handled h.state.retained → retained_under n h.state.retained ≡ true → Any (AlertTaken n q r) l.handled
    again k e =
        let u = under-is n h.state.retained e in
        let a = (sends-again h.image h.state (as_message n q) alert u.0 u.1 u.2).1 in
        each-any (KnownFrom s) (Takes u.0) (AlertTaken n q r) (took u.0 u.2 (rw a at c.reply)) l.handled
        (known_from s l kept from) (k u.0 u.1)

    taken-from : RetainedBy l.handled h.state.retained → AlertTaken n q r h ⊎ Any (AlertTaken n q r) l.handled
    taken-from k = by (retained_under n h.state.retained) refl
      where
        by : (b : Bool) → retained_under n h.state.retained ≡ b → AlertTaken n q r h ⊎ Any (AlertTaken n q r) l.handled
        by true e = inr (again k e)
        by false e = inl (takes e)

  alert-taken : Any (λ (h : Handled). CarriedOut n q r h × (h.cleared ≡ true)) l.handled → Any (AlertTaken n q r) l.handled
  alert-taken a =
      either (any-or (AlertTaken n q r) l.handled
      (each-any (λ (h : Handled). h.cleared ≡ true → RetainedBy l.handled h.state.retained) _ _
      (λ h k c. taken-from h c.0 (k c.1))
      l.handled retains.each a))
    where
      either : {A : Type 0} → A ⊎ A → A
      either (inl a) = a
      either (inr a) = a

-- ---- the claim

abbrev pub RetainsIn : Ends.Ends → Type 0
RetainsIn e = Retains (view e.supervisor) e.log

pub call-retains : (e : Ends.Ends) → Both e → RetainsIn e → (t : Ends.EndCall) → EndCallTyped t → RetainsIn (ends_after e t)
unfolding ends_after
call-retains e both r (Ends.main m) typed = main-retains (view e.supervisor) e.log r m.call _ _ _
call-retains e both r (Ends.supervisor m) typed =
    let k = (SupervisorHistory.one_call e.supervisor m both.supervisor typed).leaves.0 in
    rw k (supervisor-retains (view e.supervisor) e.log r m _)

-- under the number n
abbrev RetainsUnder : ℕ → Ends.Ends → Type 0
RetainsUnder n e = RetainsIn e × FromMainUnder n e

call-alert : (n : ℕ) (e : Ends.Ends) → Both e → RetainsUnder n e → (t : Ends.EndCall) → EndCallTyped t → WireUnder n e t
    → UnderNumber n (CallOf AlertNotRetained) e t × RetainsUnder n (ends_after e t)
call-alert n e both (r, from) t typed w = (λ z. by z t, (call-retains e both r t typed, keeps-from-main n e from t w))
  where
    by : (main_view e.main).newest ≡ n → (t : Ends.EndCall) → CallOf AlertNotRetained e t
    by z (Ends.main m) =
        λ x o. alert-taken (main_view e.main) e.log both.kept (rw (← z) at from) (view e.supervisor) r x
    by z (Ends.supervisor m) = tt

pub together-retains : (s : BothStarts) → RetainsIn (ends_begun s)
unfolding Received.received_since_all Supervisor.left_meant fresh
together-retains s =
    let k =
    (SupervisorHistory.started s.supervisor_parts s.supervisor_bytes s.supervisor_lent s.start_data s.start_typed
    s.supervisor_accepted).0 in
    rw k (record { since = (by_frames (factory_of s.start_data) []).2; kept = λ e t f. absurd (none-some f); each = tt })

begun-retains : (n : ℕ) (e : Ends.Ends) → Begun e → RetainsUnder n e
begun-retains n e b = (begun-else RetainsIn together-retains call-retains e b, begun-from-main (RequestUnder n) e b)

pub alert-answer : AlertAnswer
alert-answer n e b ts t w = each-call (RetainsUnder n) (WireUnder n) _ (call-alert n) e (begun-both e b) (begun-retains n e b) ts t w

-- ---- against an earlier moment

-- once it is so it stays so
cleared-stays : (fs : List (List ℕ)) → cleared_by true fs ≡ true
unfolding cleared_by
cleared-stays [] = refl
cleared-stays (f ∷ fs) = cleared-stays fs

module _ (e₀ : Ends.Ends) where
  -- what was handled since then was handled so; what was handled before came when no more had been put out
  abbrev Placed : Handled → Type 0
  Placed h = (h.cleared ≡ true) ⊎ Front h.asked e₀.log.asked

  record Cleared (l : Log) : Type 0 where
    now : l.cleared ≡ true
    each : Each Placed l.handled

  frames-placed : (asked : List Frame) (image : List ℕ) (fs : List (List ℕ)) (x : State) (o : ℕ → Origin) (earlier : List (List ℕ))
      → Each Placed (handled_by asked image true x o earlier fs)
  unfolding handled_by
  frames-placed asked image [] x o earlier = tt
  frames-placed asked image (f ∷ fs) x o earlier =
      (inl refl, frames-placed asked image fs (frame_carried image x f) (origin_by o f) (earlier ++ (f ∷ [])))

  supervisor-clears : (x : State) (l : Log) (m : Supervisor.Made) (waiting : List ℕ) → Cleared l → Cleared (supervisor_logged l x m waiting)
  unfolding supervisor_logged brought
  supervisor-clears x l m waiting c = record {
    now = rw (c.now, cleared-stays (Received.frames_closed_by l.received (Received.bytes_received_by m)))
        (or-true (Received.starts_anew m));
    each = each_append Placed l.handled _ c.each (rw c.now (frames-placed l.asked (image_lent m.call) _ x _ _));
  }

  main-clears : (l : Log) → Cleared l → (c : MainCall) (a : MainAnswer) (out : List ℕ) (n : ℕ) → restarts c a ≡ false
      → Cleared (main_logged l c a out n)
  unfolding main_logged
  main-clears l h c a out n e = rw e (record { now = h.now; each = h.each })

  call-clears : (e : Ends.Ends) (t : Ends.EndCall) → MainGoesOn e t → Cleared e.log → Cleared (ends_after e t).log
  unfolding ends_after
  call-clears e (Ends.main m) g c = main-clears e.log c m.call _ _ _ g
  call-clears e (Ends.supervisor m) g c = supervisor-clears _ e.log m _ c

  -- a request that had not been put out then was carried out since
  since : (s : MainState) (l : Log) → Cleared l → (r : Message) → Fresh s l r → AlertNotRetained s l r → AlertAgainst e₀ s l r
  since s l c r f a q waiting alert new =
      let e : f.request ≡ q = (let w = f.waiting in cc) in
      a q waiting alert (each-any Placed (CarriedOut s.newest q r) _ later l.handled c.each (rw e at f.made))
    where
      later : (h : Handled) → Placed h → CarriedOut s.newest q r h → CarriedOut s.newest q r h × (h.cleared ≡ true)
      later h (inl b) o = (o, b)
      later h (inr front) o = absurd (not-asked-by e₀ s.newest new h front _ o.put-out)

  abbrev Keeps : ℕ → Ends.Ends → Type 0
  Keeps n e = RetainsUnder n e × Cleared e.log

  call-since : (n : ℕ) (e : Ends.Ends) → Both e → Keeps n e → (t : Ends.EndCall) → EndCallTyped t → WireUnder n e t × MainGoesOn e t
      → UnderNumber n (CallOf (AlertAgainst e₀)) e t × Keeps n (ends_after e t)
  call-since n e both (k, c) t typed (w, g) =
      let a = call-alert n e both k t typed w in
      (λ z. by t (answer-fresh n e both k.1 t typed w z) (a.0 z), (a.1, call-clears e t g c))
    where
      by : (t : Ends.EndCall) → CallOf Fresh e t → CallOf AlertNotRetained e t → CallOf (AlertAgainst e₀) e t
      by (Ends.main m) f a = λ r o. since (main_view e.main) e.log c r (f r o) (a r o)
      by (Ends.supervisor m) f a = tt

pub alert_since : AlertSince
alert_since n b begins ts us t u w c g v =
    let e = ends_after_all b ts in
    let k = after-calls (RetainsUnder n) (WireUnder n) _ (call-alert n) b (begun-both b begins) (begun-retains n b begins) ts t w in
    let before : Cleared e e.log =
    record { now = c; each = each-then _ _ (λ (h : Handled) f. inr f) e.log.handled k.0.kept.before } in
    each-call (Keeps e n) (λ x y. WireUnder n x y × MainGoesOn x y) _ (call-since e n) e k.0 (k.1, before) us u
    (always-and (WireUnder n) MainGoesOn e us v g)
