-- The alerts that the supervisor took from those that wait, by the requests that took them: each took the oldest.
-- Assumes nothing.
use mathlib.Core.Path.{◌≡◌, refl, sym, ap, ◌∙◌}
use mathlib.Core.Bool.{Bool, true, false, cond, not, ◌&&◌, ◌||◌}
use mathlib.Core.List.{List, [], ◌∷◌, ◌++◌, map, append_assoc, append-nil, map-append}
use mathlib.Core.Logic.{◌⊎◌, inl, inr}
use mathlib.Core.Option.{some}
use Prim.Native.Nat.{ℕ}
use lib.Dec.{eqb}
use borrow.Author.Tests.{eqb-true}
use Rattle.octets.specs.Bytes.{bytes}
use Rattle.line.specs.Message.{Message}
use Rattle.line.specs.Judge as Line
use Rattle.line.specs.Judge.{judge}
use Rattle.requester_claims.specs.Numbers.{Frame}
use Rattle.supervisor.specs.State.{Alert, State}
use Rattle.responder.specs.Requests.{Verdict, failure, good, tested, verdict, carry_out, after_verdict, sent, oldest, others, alert_data}
use Rattle.supervisor_claims.specs.FrameHistory.{frame_carried, frames_carried}
use Rattle.supervisor_claims.specs.LastSet.{Origin}
use Rattle.supervisor_claims.proofs.claims.AlertClaim.{failed_keeps}
use Rattle.supervisor_claims.proofs.claims.RetainedClaim.{retained_stays, reboot_forgets, power_off_forgets}
use Rattle.supervisor_claims.proofs.claims.WithdrawnKeys.{empty-none}
use Rattle.both_claims.specs.Ends.{Handled, retained_under, drops_by, drops, origin_by, handled_by}
use Rattle.both_claims.specs.AlertsTaken.{with_action}
use Rattle.both_claims.proofs.laws.Table.{passes}
use Rattle.both_claims.proofs.laws.SetsAmong.{tested-again}
use Rattle.both_claims.proofs.laws.RetainedSince.{sends-again, takes-alert, under-is}

-- ---- lists

-- the data with an action other than 0
unfoldable pub with_actions : List (List ℕ) → List (List ℕ)
with_actions [] = []
with_actions (d ∷ ds) = with_action d ++ with_actions ds

pub actions-append : (ds es : List (List ℕ)) → with_actions (ds ++ es) ≡ with_actions ds ++ with_actions es
unfolding with_actions
actions-append [] es = refl
actions-append (d ∷ ds) es = rw (actions-append ds es) (sym (append_assoc (with_action d) (with_actions ds) (with_actions es)))

-- ---- the alerts taken

-- the number of the request, and the oldest alert that waited then; action 0 where none did
pub record Taken : Type 0 where
  pub number : ℕ
  pub alert : Alert

abbrev pub taken_data : Taken → List ℕ
taken_data u = alert_data u.alert

abbrev pub taken_by : State → Verdict → List Taken
taken_by x (failure reason version sequence) = []
taken_by x (good m) =
    cond (eqb m.command 0x0a && not (retained_under m.sequence x.retained))
    (record { number = m.sequence; alert = oldest x.waiting } ∷ []) []

-- by the frames that were handled
unfoldable pub taken : List Handled → List Taken
taken [] = []
taken (h ∷ hs) = taken_by h.state (verdict h.form) ++ taken hs

pub taken-append : (hs ks : List Handled) → taken (hs ++ ks) ≡ taken hs ++ taken ks
unfolding taken
taken-append [] ks = refl
taken-append (h ∷ hs) ks = rw (taken-append hs ks) (sym (append_assoc (taken_by h.state (verdict h.form)) (taken hs) (taken ks)))

-- ---- what a frame does

-- nothing to alerts; or it is a reboot or power-off; or an alert request that takes one
pub data Does (x : State) (f : List ℕ) (y : State) (new : List Taken) : Type 0 where
  leaves : y.retained ≡ x.retained → y.waiting ≡ x.waiting → new ≡ [] → Does x f y new
  forgets : (m : Message) → judge f ≡ Line.good m → drops_by (tested m) ≡ true → y.waiting ≡ x.waiting → new ≡ [] → Does x f y new
  takes : (m : Message) → judge f ≡ Line.good m → tested m ≡ good m → m.command ≡ 0x0a
      → retained_under m.sequence x.retained ≡ false
      → y.retained ≡ some (record { version = m.version; sequence = m.sequence; alert = oldest x.waiting })
      → y.waiting ≡ others x.waiting → new ≡ record { number = m.sequence; alert = oldest x.waiting } ∷ [] → Does x f y new

carried-good : (image : List ℕ) (x : State) (f : List ℕ) (m : Message) → verdict f ≡ good m
    → ((frame_carried image x f).retained ≡ (carry_out image x m).state.retained)
    × ((frame_carried image x f).waiting ≡ (carry_out image x m).state.waiting)
unfolding frame_carried after_verdict sent
carried-good image x [] m e = absurd (empty-none m e)
carried-good image x (b ∷ bs) m e = rw e (refl, refl)

module _ (image : List ℕ) (x : State) (f : List ℕ) where
  abbrev Framed : Verdict → Type 0
  Framed v = Does x f (frame_carried image x f) (taken_by x v)

  -- a request that the whole table passes
  module _ (m : Message) (v : verdict f ≡ good m) where
    carried : ((frame_carried image x f).retained ≡ (carry_out image x m).state.retained)
        × ((frame_carried image x f).waiting ≡ (carry_out image x m).state.waiting)
    carried = carried-good image x f m v

    judged : judge f ≡ Line.good m
    judged = (passes f m v).judged

    alert-does : eqb m.command 0x0a ≡ true → Framed (good m)
    alert-does g = by (retained_under m.sequence x.retained) refl
      where
        a : m.command ≡ 0x0a
        a = eqb-true _ _ g

        by : (b : Bool) → retained_under m.sequence x.retained ≡ b → Framed (good m)
        by true e =
            let u = under-is m.sequence x.retained e in
            let k = sends-again image x m a u.0 u.1 u.2 in
            leaves (carried.0 ∙ k.0) (carried.1 ∙ k.2) (rw (g, e))
        by false e =
            let k = takes-alert image x m a e in
            takes m judged (tested-again f m v) a e (carried.0 ∙ k.0) (carried.1 ∙ k.2) (rw (g, e))

    request-does : Framed (good m)
    request-does = by (eqb m.command 0x01) (eqb m.command 0x02) (eqb m.command 0x0a) refl refl refl
      where
        drops-so : (eqb m.command 0x01 || eqb m.command 0x02) ≡ true → drops_by (tested m) ≡ true
        drops-so h = rw (tested-again f m v) h

        other : (m.command ≡ 0x01) ⊎ (m.command ≡ 0x02) → taken_by x (good m) ≡ []
        other (inl e) = rw e
        other (inr e) = rw e

        by : (b c d : Bool) → eqb m.command 0x01 ≡ b → eqb m.command 0x02 ≡ c → eqb m.command 0x0a ≡ d → Framed (good m)
        by true c d e i g =
            let k = eqb-true _ _ e in
            forgets m judged (drops-so (rw e)) (carried.1 ∙ (reboot_forgets image x m k).waiting) (other (inl k))
        by false true d e i g =
            let k = eqb-true _ _ i in
            forgets m judged (drops-so (rw (e, i))) (carried.1 ∙ (power_off_forgets image x m k).waiting) (other (inr k))
        by false false true e i g = alert-does g
        by false false false e i g = let k = retained_stays image x m e i g in leaves (carried.0 ∙ k.0) (carried.1 ∙ k.1) (rw g)

  pub frame-does : Framed (verdict f)
  frame-does = by (verdict f) refl
    where
      by : (v : Verdict) → verdict f ≡ v → Framed v
      by (failure reason version sequence) e = let k = failed_keeps image x f reason version sequence e in leaves k.0 k.1 refl
      by (good m) e = request-does m e

-- ---- the alerts in line: those taken, and then those that wait

abbrev pub in_line : State → List Taken → List (List ℕ)
in_line x us = with_actions (map taken_data us ++ map alert_data x.waiting)

-- where none waits
none-waits : with_actions (alert_data (oldest []) ∷ []) ≡ []
unfolding with_actions oldest bytes
none-waits = refl

-- the oldest alert is taken
oldest-first : (ds : List (List ℕ)) (w : List Alert)
    → with_actions (ds ++ map alert_data w) ≡ with_actions ((ds ++ (alert_data (oldest w) ∷ [])) ++ map alert_data (others w))
unfolding oldest
oldest-first ds [] = rw (append-nil, append-nil, actions-append, none-waits, append-nil)
oldest-first ds (a ∷ w) = ap with_actions (sym (append_assoc ds (alert_data a ∷ []) (map alert_data w)))

frame-line : {x y : State} {f : List ℕ} {new : List Taken} (us : List Taken) → Does x f y new → in_line y (us ++ new) ≡ in_line x us
frame-line us (leaves e w n) = rw (n, append-nil, w)
frame-line us (forgets m j d w n) = rw (n, append-nil, w)
frame-line {x} us (takes m j p a r e w n) = rw (n, w, map-append taken_data us) (sym (oldest-first (map taken_data us) x.waiting))

-- frames, one after the other
pub frames-line : (asked : List Frame) (image : List ℕ) (fs : List (List ℕ)) (cleared : Bool) (x : State) (o : ℕ → Origin)
    (earlier : List (List ℕ)) (us : List Taken)
    → in_line (frames_carried image x fs) (us ++ taken (handled_by asked image cleared x o earlier fs)) ≡ in_line x us
unfolding handled_by frames_carried taken
frames-line asked image [] cleared x o earlier us = rw append-nil
frames-line asked image (f ∷ fs) cleared x o earlier us =
    let new = taken_by x (verdict f) in
    rw (← append_assoc us new)
    (frames-line asked image fs (cleared || drops f) (frame_carried image x f) (origin_by o f) (earlier ++ (f ∷ [])) (us ++ new)
    ∙ frame-line us (frame-does image x f))

-- alerts are posted
pub posted-line : (y z : State) (us : List Taken) (added : List Alert) → with_actions (map alert_data added) ≡ map alert_data added
    → z.waiting ≡ y.waiting ++ added → in_line z us ≡ in_line y us ++ map alert_data added
posted-line y z us added actions f =
    let old = map taken_data us ++ map alert_data y.waiting in
    rw (
      f,
      map-append alert_data y.waiting,
      ← append_assoc (map taken_data us) (map alert_data y.waiting) (map alert_data added),
      actions-append old (map alert_data added),
      actions,
    )
