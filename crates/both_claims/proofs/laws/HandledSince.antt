-- The frames that the supervisor has handled since a moment.
-- Each stands among those that it has received since its last start, behind the ones before it. Assumes nothing.
use mathlib.Core.Path.{◌≡◌, refl, ◌∙◌}
use mathlib.Core.Bool.{Bool, ◌||◌}
use mathlib.Core.List.{List, [], ◌∷◌, ◌++◌}
use mathlib.Core.Logic.{◌⊎◌, inl, inr}
use Prim.Native.Nat.{ℕ}
use lib.Seq.{append_snoc}
use Rattle.octets.specs.Bytes.{Each}
use Rattle.octets.proofs.Each.{each_append}
use Rattle.line.specs.Frame.{split, non_empty, closed_behind}
use Rattle.line.proofs.Pieces.{non_empty-append, closed-join}
use Rattle.requester_claims.specs.Numbers.{Frame}
use Rattle.supervisor.specs.State.{State}
use Rattle.supervisor_claims.specs.Histories as Supervisor
use Rattle.supervisor_claims.specs.FrameHistory as Received
use Rattle.supervisor_claims.specs.FrameHistory.{frame_carried}
use Rattle.supervisor_claims.specs.LastSet.{Origin}
use Rattle.both_claims.specs.Ends
use Rattle.both_claims.specs.Ends.{Handled, Log, drops, origin_by, handled_by, image_lent, brought, supervisor_logged, main_logged}
use Rattle.both_claims.specs.Ends.{ends_after, Stays, GoesOn}
use Rattle.both_claims.proofs.laws.Lists.{Front, front-more, each-then}
use Rattle.both_claims.proofs.laws.BothCalls.{Both}

module _ (e₀ : Ends.Ends) where
  -- What was handled since then stands at the front of these frames, behind the ones before it.
  -- What was handled before came when no more had been put out.
  abbrev pub Stands : List (List ℕ) → Handled → Type 0
  Stands fs h = Front (h.earlier ++ (h.form ∷ [])) fs ⊎ Front h.asked e₀.log.asked

  abbrev pub AllStand : Log → Type 0
  AllStand l = Each (Stands (non_empty (split l.received).closed)) l.handled

  stands-more : (fs new : List (List ℕ)) (h : Handled) → Stands fs h → Stands (fs ++ new) h
  stands-more fs new h (inl s) = inl (front-more new s)
  stands-more fs new h (inr s) = inr s

  frames-stand : (asked : List Frame) (image : List ℕ) (whole fs : List (List ℕ)) (cleared : Bool) (x : State) (o : ℕ → Origin)
      (earlier : List (List ℕ)) → earlier ++ fs ≡ whole
      → Each (Stands whole) (handled_by asked image cleared x o earlier fs)
  unfolding handled_by
  frames-stand asked image whole [] cleared x o earlier e = tt
  frames-stand asked image whole (f ∷ fs) cleared x o earlier e =
      let i : (earlier ++ (f ∷ [])) ++ fs ≡ whole = append_snoc earlier f fs ∙ e in (
        inl (record { more = fs; whole = i }),
        frames-stand asked image whole fs (cleared || drops f) (frame_carried image x f) (origin_by o f) (earlier ++ (f ∷ [])) i,
      )

  supervisor-stands : (x : State) (l : Log) (m : Supervisor.Made) (waiting : List ℕ) → Stays m → AllStand l
      → AllStand (supervisor_logged l x m waiting)
  unfolding supervisor_logged brought Received.received_since Received.frames_closed_by
  supervisor-stands x l m waiting n h =
      let w = l.received in
      let bs = Received.bytes_received_by m in
      let fs = non_empty (split w).closed in
      let new = non_empty (closed_behind w bs) in
      let e : non_empty (split (w ++ bs)).closed ≡ fs ++ new =
      rw (closed-join w bs, non_empty-append (split w).closed (closed_behind w bs)) in
      rw (n.no_start, e)
      (each_append (Stands (fs ++ new)) l.handled _ (each-then (Stands fs) _ (stands-more fs new) l.handled h)
      (frames-stand l.asked (image_lent m.call) (fs ++ new) new l.cleared x l.origin fs refl))

  pub call-stands : (e : Ends.Ends) (t : Ends.EndCall) → GoesOn e t → AllStand e.log → AllStand (ends_after e t).log
  unfolding ends_after main_logged
  call-stands e (Ends.main m) g h = rw g h
  call-stands e (Ends.supervisor m) g h = supervisor-stands _ e.log m _ g h

  -- at the moment itself
  pub moment-stands : Both e₀ → AllStand e₀.log
  moment-stands both = each-then _ _ (λ (h : Handled) f. inr f) e₀.log.handled both.kept.before
