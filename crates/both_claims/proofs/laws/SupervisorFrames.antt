-- What a call of the supervisor leaves of a field that only frames change, by the frames that it brings.
-- Assumes nothing.
use mathlib.Core.Path.{◌≡◌, refl, sym, ◌∙◌}
use mathlib.Core.Bool.{Bool, true, false, cond, not, false≢true, and-eq-true_iff}
use mathlib.Core.List.{List, []}
use mathlib.Core.Option.{Option}
use Prim.Native.Nat.{ℕ}
use Rattle.supervisor.specs.State.{Factory, State, fresh, with_received}
use Rattle.supervisor.specs.Local
use Rattle.supervisor_claims.specs.View.{factory_of}
use Rattle.supervisor_claims.specs.Histories
use Rattle.supervisor_claims.specs.Histories.{LocalCall, Call, Made, done_means, meant, enough}
use Rattle.supervisor_claims.specs.FrameHistory.{piece_read, is_accepted_start, bytes_received_by, starts_anew, frames_closed_by}
use Rattle.supervisor_claims.specs.FrameHistory.{frames_carried}
use Rattle.supervisor_claims.specs.FrameHistory.{carried_out, carried_call, carried_made}
pub use Rattle.supervisor_claims.proofs.claims.StaysLaws.{frames-none}
use Rattle.both_claims.specs.Ends.{image_lent}

-- a local call leaves this field
abbrev pub LocallyKept : {A : Type 0} → (State → A) → State → Call → Type 0
LocallyKept g x (Histories.start d) = Unit {0}
LocallyKept g x (Histories.receive image piece) = Unit {0}
LocallyKept g x (Histories.step image piece) = Unit {0}
LocallyKept g x (Histories.local c) = g (meant x (Histories.local c)).state ≡ g x

-- a field that the receive progress leaves
module _ {A : Type 0} (g : State → A) (progress : (s : State) (r : Option (List ℕ)) → g (with_received s r) ≡ g s) (w : List ℕ)
    (x : State) where
  abbrev framed-so : Call → List ℕ → State
  framed-so c bs = frames_carried (image_lent c) x (frames_closed_by w bs)

  nothing-brought : (c : Call) → g x ≡ g (framed-so c [])
  unfolding frames_carried
  nothing-brought c = rw (frames-none w)

  call-field : (c : Call) → is_accepted_start c ≡ false → LocallyKept g x c → g (carried_call w x c).state ≡ g (framed-so c (piece_read c))
  unfolding carried_call carried_out piece_read is_accepted_start meant Local.start
  call-field (Histories.start d) e l = by (Local.bad_start (factory_of d)) e
    where
      by : (bad : Bool) → not bad ≡ false
          → g (done_means x (cond bad (Local.refused 11) (Local.left (fresh (factory_of d))))).state ≡ g (framed-so (Histories.start d) [])
      by true e = nothing-brought (Histories.start d)
      by false e = absurd (false≢true (sym e))
  call-field (Histories.receive image piece) e l = progress _ _
  call-field (Histories.step image piece) e l = progress _ _
  call-field (Histories.local c) e l = l ∙ nothing-brought (Histories.local c)

  pub made_kept : (m : Made) → starts_anew m ≡ false → LocallyKept g x m.call
      → g (carried_made w x m).state ≡ g (frames_carried (image_lent m.call) x (frames_closed_by w (bytes_received_by m)))
  unfolding carried_made starts_anew bytes_received_by
  made_kept m e l = by (enough m.call m.lent) refl
    where
      by : (t : Bool) → enough m.call m.lent ≡ t
          → g (carried_made w x m).state ≡ g (frames_carried (image_lent m.call) x (frames_closed_by w (bytes_received_by m)))
      by true f = rw f (call-field m.call (rw f at e) l)
      by false f = rw f (nothing-brought m.call)

  -- and every local call
  pub made-field : ((s : State) (c : LocalCall) → g (meant s (Histories.local c)).state ≡ g s) → (m : Made) → starts_anew m ≡ false
      → g (carried_made w x m).state ≡ g (frames_carried (image_lent m.call) x (frames_closed_by w (bytes_received_by m)))
  made-field locally m e = made_kept m e (by m.call)
    where
      by : (c : Call) → LocallyKept g x c
      by (Histories.start d) = tt
      by (Histories.receive image piece) = tt
      by (Histories.step image piece) = tt
      by (Histories.local c) = locally x c

-- an accepted start
module _ (w : List ℕ) (x : State) where
  call-started : (c : Call) → is_accepted_start c ≡ true → (f : Factory) × ((carried_call w x c).state ≡ fresh f)
  unfolding carried_call is_accepted_start meant Local.start
  call-started (Histories.start d) e = by (Local.bad_start (factory_of d)) e
    where
      by : (bad : Bool) → not bad ≡ true
          → (f : Factory) × ((done_means x (cond bad (Local.refused 11) (Local.left (fresh (factory_of d))))).state ≡ fresh f)
      by true e = absurd (false≢true e)
      by false e = (factory_of d, refl)
  call-started (Histories.receive image piece) e = absurd (false≢true e)
  call-started (Histories.step image piece) e = absurd (false≢true e)
  call-started (Histories.local c) e = absurd (false≢true e)

  pub made-started : (m : Made) → starts_anew m ≡ true → (f : Factory) × ((carried_made w x m).state ≡ fresh f)
  unfolding carried_made starts_anew
  made-started m e =
      let b = (and-eq-true_iff (enough m.call m.lent) (is_accepted_start m.call)).0 e in rw b.0 (call-started m.call b.1)
