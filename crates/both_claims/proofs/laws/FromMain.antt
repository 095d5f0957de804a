-- The frames that the supervisor handled: those whose good messages are the main processor's own requests, where those that were read are.
-- Assumes nothing.
use mathlib.Core.Path.{◌≡◌}
use mathlib.Core.Bool.{Bool, ◌||◌}
use mathlib.Core.List.{List, [], ◌∷◌, ◌++◌}
use Prim.Native.Nat.{ℕ}
use Rattle.octets.specs.Bytes.{Each}
use Rattle.octets.proofs.Conditions.{cond-by}
use Rattle.octets.proofs.Each.{each_append}
use Rattle.line.specs.Message.{Message}
use Rattle.line.specs.Frame.{frame}
use Rattle.line.specs.Judge.{LineVerdict, failure, good, judge}
use Rattle.line.proofs.Judged.{never}
use Rattle.line_claims.specs.Calls.{gathered, good_of, good_messages}
use Rattle.requester_claims.specs.Histories.{MainAnswer, MainCall}
use Rattle.requester_claims.specs.Numbers.{Frame}
use Rattle.requester_claims.specs.CameAs.{restarts}
use Rattle.supervisor.specs.State.{State}
use Rattle.supervisor_claims.specs.Histories as Supervisor
use Rattle.supervisor_claims.specs.FrameHistory as Received
use Rattle.supervisor_claims.specs.FrameHistory.{frame_carried}
use Rattle.supervisor_claims.specs.LastSet.{Origin}
use Rattle.both_claims.specs.Ends
use Rattle.both_claims.specs.Ends.{Any, Handled, Log, origin_by, handled_by, drops, brought, image_lent, main_logged, supervisor_logged}
use Rattle.both_claims.specs.Ends.{ends_after, Begun, together, FromMain}
use Rattle.both_claims.proofs.laws.Lists.{each_right}
use Rattle.both_claims.proofs.laws.Kept.{HandledFromMain, AllFromMain}

-- the first of frames, and the others
pub good-first : (P : Message → Type 0) (f : List ℕ) (ms : List Message) → Each P (good_of (judge f) ++ ms)
    → ((m : Message) → judge f ≡ good m → P m) × Each P ms
good-first P f ms h = by (judge f) h
  where
    by : (v : LineVerdict) → Each P (good_of v ++ ms) → ((m : Message) → v ≡ good m → P m) × Each P ms
    by (failure reason sequence) h = (λ m e. never e, h)
    by (good k) h = (λ m e. let z : k ≡ m = cc in rw (← z) h.0, h.1)

-- of the good messages of frames, with what had been put out
pub frames-good : (Q : List Frame → Message → Type 0) (asked : List Frame) (image : List ℕ) (fs : List (List ℕ)) (cleared : Bool)
    (x : State) (o : ℕ → Origin) (earlier : List (List ℕ))
    → Each (Q asked) (good_messages fs)
    → Each (λ (h : Handled). (m : Message) → judge h.form ≡ good m → Q h.asked m) (handled_by asked image cleared x o earlier fs)
unfolding handled_by gathered
frames-good Q asked image [] cleared x o earlier h = tt
frames-good Q asked image (f ∷ fs) cleared x o earlier h =
    let g = good-first _ f (good_messages fs) h in
    (g.0, frames-good Q asked image fs (cleared || drops f) (frame_carried image x f) (origin_by o f) (earlier ++ (f ∷ [])) g.1)

module _ (P : Message → Type 0) where
  supervisor-from-main : (x : State) (l : Log) (m : Supervisor.Made) (waiting : List ℕ) → AllFromMain P l
      → FromMain P (supervisor_logged l x m waiting) → AllFromMain P (supervisor_logged l x m waiting)
  unfolding supervisor_logged brought
  supervisor-from-main x l m waiting h w =
      let fs = Received.frames_closed_by l.received (Received.bytes_received_by m) in
      each_append (HandledFromMain P) l.handled _ h
      (frames-good (λ asked k. P k → Any (λ (y : Frame). y.bytes ≡ frame k) asked) l.asked (image_lent m.call) fs l.cleared x
      l.origin _ (each_right _ l.heard (good_messages fs) w))

  main-from-main : (l : Log) (c : MainCall) (a : MainAnswer) (out : List ℕ) (n : ℕ) → AllFromMain P l
      → AllFromMain P (main_logged l c a out n)
  unfolding main_logged
  main-from-main l c a out n h = cond-by (AllFromMain P) (restarts c a) _ _ (λ _. tt) (λ _. h)

  pub call-from-main : (e : Ends.Ends) → AllFromMain P e.log → (t : Ends.EndCall) → FromMain P (ends_after e t).log
      → AllFromMain P (ends_after e t).log
  unfolding ends_after
  call-from-main e h (Ends.main m) w = main-from-main e.log m.call _ _ _ h
  call-from-main e h (Ends.supervisor m) w = supervisor-from-main _ e.log m _ h w

  pub begun-from-main : (b : Ends.Ends) → Begun b → AllFromMain P b.log
  unfolding ends_after main_logged
  begun-from-main b (together s) = tt
  begun-from-main b (Ends.later s ts t l a) = rw a tt
