-- The retained alert reply, where one from before the main processor's end was started has been dropped.
-- A request that took an alert made it since. Assumes nothing.
use mathlib.Core.Path.{◌≡◌, refl, sym, ap, ◌∙◌}
use mathlib.Core.Bool.{Bool, true, false, ◌||◌, false≢true}
use mathlib.Core.List.{List, [], ◌∷◌, ◌++◌, append-nil}
use mathlib.Core.Logic.{inl}
use mathlib.Core.Option.{Option, none, some}
use Prim.Native.Nat.{ℕ}
use lib.Dec.{eqb}
use lib.Seq.{append_snoc}
use borrow.Author.Tests.{eqb-true, eq-eqb}
use Rattle.octets.specs.Bytes.{Each}
use Rattle.line.specs.Message.{Message}
use Rattle.supervisor.specs.State.{Alert, Retained, State}
use Rattle.responder.specs.Commands.{command_number, with_number, command_of_number}
use Rattle.responder.specs.Requests
use Rattle.responder.specs.Requests.{Verdict, failure, good, ReplyContent, Carried, verdict, carry_out, effect, after_verdict, sent, oldest}
use Rattle.responder.specs.Requests.{alert_data, others}
use Rattle.supervisor_claims.specs.FrameHistory.{frame_carried, frames_carried}
use Rattle.supervisor_claims.specs.LastSet.{Origin}
use Rattle.supervisor_claims.proofs.claims.RetainedClaim.{retained_stays, reboot_forgets, power_off_forgets}
use Rattle.supervisor_claims.proofs.claims.WithdrawnKeys.{empty-none}
use Rattle.requester_claims.specs.Numbers.{Frame}
use Rattle.both_claims.specs.Ends.{Any, Handled, drops_by, drops, origin_by, handled_by, cleared_by, retained_under}
use Rattle.both_claims.proofs.laws.Lists.{none-some, any_left, any-right}

-- ---- an alert request

-- a reply is retained under its number, and is sent again as first written
asked-again : (v : ℕ) (s : State) (n : ℕ) (t : Retained) → t.sequence ≡ n
    → Requests.alert_asked v s n (some t) ≡ Requests.reply_with s t.version 0x07 (alert_data t.alert)
unfolding Requests.alert_asked
asked-again v s n t e = rw (eq-eqb t.sequence n e)

-- none is, and the oldest alert that waits is taken
asked-anew : (v : ℕ) (s : State) (n : ℕ) (o : Option Retained) → retained_under n o ≡ false
    → Requests.alert_asked v s n o ≡ Requests.alert_taken v s n
unfolding Requests.alert_asked
asked-anew v s n none e = refl
asked-anew v s n (some t) e = rw e

-- the answer to an alert request
abbrev pub alert_answer : ℕ → Alert → ReplyContent
alert_answer version a = record { version = version; command = 0x07; payload = alert_data a }

module _ (image : List ℕ) (s : State) (m : Message) (alert : m.command ≡ 0x0a) where
  carried-alert : carry_out image s m ≡ Requests.alert_asked m.version s m.sequence s.retained
  unfolding carry_out command_of_number with_number command_number effect
  carried-alert = rw alert

  pub sends-again : (t : Retained) → s.retained ≡ some t → t.sequence ≡ m.sequence
      → ((carry_out image s m).state.retained ≡ s.retained) × ((carry_out image s m).reply ≡ some (alert_answer t.version t.alert))
      × ((carry_out image s m).state.waiting ≡ s.waiting)
  sends-again t e f =
      let c = carried-alert ∙ ap (Requests.alert_asked m.version s m.sequence) e ∙ asked-again m.version s m.sequence t f in
      (ap (λ (x : Carried). x.state.retained) c, ap (λ (x : Carried). x.reply) c, ap (λ (x : Carried). x.state.waiting) c)

  pub takes-alert : retained_under m.sequence s.retained ≡ false
      → ((carry_out image s m).state.retained ≡ some (record { version = m.version; sequence = m.sequence; alert = oldest s.waiting }))
      × ((carry_out image s m).reply ≡ some (alert_answer m.version (oldest s.waiting)))
      × ((carry_out image s m).state.waiting ≡ others s.waiting)
  unfolding Requests.alert_taken
  takes-alert e =
      let c = carried-alert ∙ asked-anew m.version s m.sequence s.retained e in
      (ap (λ (x : Carried). x.state.retained) c, ap (λ (x : Carried). x.reply) c, ap (λ (x : Carried). x.state.waiting) c)

-- ---- the retained reply

-- the frame h took the alert of the retained reply t
pub record Takes (t : Retained) (h : Handled) : Type 0 where
  pub request : Message
  pub passed : verdict h.form ≡ good request
  pub alert : request.command ≡ 0x0a
  pub number : request.sequence ≡ t.sequence
  pub version : request.version ≡ t.version
  pub none_retained : retained_under t.sequence h.state.retained ≡ false
  pub oldest_waiting : t.alert ≡ oldest h.state.waiting

-- it was made to one of these
abbrev pub RetainedBy : List Handled → Option Retained → Type 0
RetainedBy hs o = (t : Retained) → o ≡ some t → Any (Takes t) hs

pub retained-later : (hs ks : List Handled) (o : Option Retained) → RetainedBy hs o → RetainedBy (hs ++ ks) o
retained-later hs ks o h t e = any_left (Takes t) hs ks (h t e)

-- by the retained reply
pub under-is : (n : ℕ) (o : Option Retained) → retained_under n o ≡ true → (t : Retained) × (o ≡ some t) × (t.sequence ≡ n)
under-is n none e = absurd (false≢true e)
under-is n (some t) e = (t, refl, eqb-true t.sequence n e)

not-either : (a b : Bool) → (a || b) ≡ true → b ≡ false → a ≡ true
not-either true b e f = refl
not-either false b e f = absurd (false≢true (sym f ∙ e))

empty-drops : drops [] ≡ false
unfolding drops
empty-drops = by (verdict []) refl
  where
    by : (v : Verdict) → verdict [] ≡ v → drops_by v ≡ false
    by (failure reason version sequence) e = refl
    by (good m) e = absurd (empty-none m e)

-- a frame
module _ (h : Handled) (before : List Handled) (kept : h.cleared ≡ true → RetainedBy before h.state.retained) where
  abbrev Kept : Option Retained → Type 0
  Kept = RetainedBy (before ++ (h ∷ []))

  -- as it was
  stays-kept : (o : Option Retained) → o ≡ h.state.retained → h.cleared ≡ true → Kept o
  stays-kept o e c = rw e (retained-later before (h ∷ []) h.state.retained (kept c))

  none_kept : (o : Option Retained) → o ≡ none → Kept o
  none_kept o e t f = absurd (none-some (sym e ∙ f))

  module _ (m : Message) (v : verdict h.form ≡ good m) where
    alert-kept : m.command ≡ 0x0a → h.cleared ≡ true → Kept (carry_out h.image h.state m).state.retained
    alert-kept a c = by (retained_under m.sequence h.state.retained) refl
      where
        by : (b : Bool) → retained_under m.sequence h.state.retained ≡ b → Kept (carry_out h.image h.state m).state.retained
        by true e =
            let u = under-is m.sequence h.state.retained e in
            stays-kept _ (sends-again h.image h.state m a u.0 u.1 u.2).0 c
        by false e =
            let k = (takes-alert h.image h.state m a e).0 in
            λ t f.
            let g : (m.sequence ≡ t.sequence) × (t.alert ≡ oldest h.state.waiting) × (m.version ≡ t.version) = (cc, cc, cc) in
            any-right (Takes t) before (h ∷ [])
            (inl (record {
              request = m;
              passed = v;
              alert = a;
              number = g.0;
              version = g.2;
              none_retained = rw (← g.0) e;
              oldest_waiting = g.1;
            }))

    good-kept : (h.cleared || drops_by (good m)) ≡ true → Kept (carry_out h.image h.state m).state.retained
    good-kept c = by (eqb m.command 0x01) (eqb m.command 0x02) (eqb m.command 0x0a) refl refl refl
      where
        by : (x y z : Bool) → eqb m.command 0x01 ≡ x → eqb m.command 0x02 ≡ y → eqb m.command 0x0a ≡ z
            → Kept (carry_out h.image h.state m).state.retained
        by true y z e f g = none_kept _ (reboot_forgets h.image h.state m (eqb-true _ _ e)).retained
        by false true z e f g = none_kept _ (power_off_forgets h.image h.state m (eqb-true _ _ f)).retained
        by false false true e f g = alert-kept (eqb-true _ _ g) (not-either h.cleared _ c (rw (e, f)))
        by false false false e f g =
            stays-kept _ (retained_stays h.image h.state m e f g).0 (not-either h.cleared _ c (rw (e, f)))

  judged-kept : (v : Verdict) → verdict h.form ≡ v → (h.cleared || drops_by v) ≡ true
      → Kept (after_verdict h.image h.state v).retained
  unfolding after_verdict sent
  judged-kept (failure reason version sequence) e c = stays-kept _ refl (not-either h.cleared false c refl)
  judged-kept (good m) e c = good-kept m e c

  framed_kept : (h.cleared || drops h.form) ≡ true → Kept (frame_carried h.image h.state h.form).retained
  unfolding drops frame_carried
  framed_kept c = by h.form refl
    where
      by : (f : List ℕ) → h.form ≡ f → Kept (frame_carried h.image h.state f).retained
      by [] e = stays-kept _ refl (not-either h.cleared (drops h.form) c (rw e empty-drops))
      by (b ∷ bs) e = judged-kept (verdict (b ∷ bs)) (ap verdict e) (rw e at c)

-- frames, one after the other
module _ (asked : List Frame) (image : List ℕ) where
  pub frames-kept : (fs : List (List ℕ)) (cleared : Bool) (x : State) (o : ℕ → Origin) (earlier : List (List ℕ)) (before : List Handled)
      → (cleared ≡ true → RetainedBy before x.retained) → let hs = handled_by asked image cleared x o earlier fs in
      (cleared_by cleared fs ≡ true → RetainedBy (before ++ hs) (frames_carried image x fs).retained)
      × Each (λ (h : Handled). h.cleared ≡ true → RetainedBy (before ++ hs) h.state.retained) hs
  unfolding handled_by cleared_by frames_carried
  frames-kept [] cleared x o earlier before kept = rw append-nil (kept, tt)
  frames-kept (f ∷ fs) cleared x o earlier before kept =
      let h : Handled = record { form = f; image = image; state = x; earlier = earlier; origin = o; asked = asked; cleared = cleared } in
      let hs = handled_by asked image (cleared || drops f) (frame_carried image x f) (origin_by o f) (earlier ++ (f ∷ [])) fs in
      let i =
      frames-kept fs (cleared || drops f) (frame_carried image x f) (origin_by o f) (earlier ++ (f ∷ [])) (before ++ (h ∷ []))
      (framed_kept h before kept) in
      let j = rw (append_snoc before h hs) at i in
      (j.0, (λ c. retained-later before (h ∷ hs) x.retained (kept c), j.1))
