-- What holds of the bytes received and of the state after any calls, where a fresh start, received bytes and a local call keep it.
-- Assumes nothing.
use mathlib.Core.Path.{◌≡◌, refl}
use mathlib.Core.Bool.{Bool, true, false, cond, not}
use mathlib.Core.List.{List, [], ◌∷◌, ◌++◌, append-nil}
use Prim.Native.Nat.{ℕ}
use lib.ListN as ListN
use Rattle.supervisor.specs.State.{Factory, State, fresh}
use Rattle.supervisor.specs.Local
use Rattle.supervisor_claims.specs.View.{factory_of}
use Rattle.supervisor_claims.specs.Histories
use Rattle.supervisor_claims.specs.Histories.{LocalCall, Call, done_means, up_to, meant, Made, enough}
use Rattle.supervisor_claims.specs.FrameHistory.{piece_read, is_accepted_start, bytes_received_by, starts_anew, received_since}
use Rattle.supervisor_claims.specs.FrameHistory.{received_since_all}
use Rattle.supervisor_claims.specs.FrameHistory.{carried_out, carried_call, carried_made, left_by_frames}

-- P of the bytes received since the last accepted start and of the state
module _ (P : List ℕ → State → Type 0)
    (begun : (f : Factory) → P [] (fresh f))
    (brought : (w : List ℕ) (s : State) → P w s → (image bs : List ℕ) → P (w ++ bs) (carried_out image w s bs))
    (stays : (w : List ℕ) (s : State) → P w s → (c : LocalCall) → P w (meant s (Histories.local c)).state) where
  module _ (w : List ℕ) (s : State) (x : P w s) where
    call-keeps : (c : Call) → P (cond (is_accepted_start c) [] (w ++ piece_read c)) (carried_call w s c).state
    unfolding is_accepted_start piece_read carried_call meant Local.start
    call-keeps (Histories.start d) = by (Local.bad_start (factory_of d))
      where
        by : (bad : Bool)
            → P (cond (not bad) [] (w ++ [])) (done_means s (cond bad (Local.refused 11) (Local.left (fresh (factory_of d))))).state
        by true = rw append-nil x
        by false = begun (factory_of d)
    call-keeps (Histories.receive image piece) = brought w s x image piece
    call-keeps (Histories.step image piece) = brought w s x image (ListN.take (up_to piece) piece)
    call-keeps (Histories.local c) = rw append-nil (stays w s x c)

    made-keeps : (m : Made) → P (received_since w m) (carried_made w s m).state
    unfolding received_since starts_anew bytes_received_by carried_made
    made-keeps m = by (enough m.call m.lent) refl
      where
        by : (t : Bool) → enough m.call m.lent ≡ t → P (received_since w m) (carried_made w s m).state
        by true e = rw e (call-keeps m.call)
        by false e = rw (e, append-nil) x

  pub calls-keep : (ms : List Made) (w : List ℕ) (s : State) → P w s → P (received_since_all w ms) (left_by_frames w s ms)
  unfolding received_since_all left_by_frames
  calls-keep [] w s x = x
  calls-keep (m ∷ ms) w s x = calls-keep ms (received_since w m) (carried_made w s m).state (made-keeps w s x m)
