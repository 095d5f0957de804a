-- What a call leaves by document 01. The bytes since the last 00 are the receive progress.
-- A local call leaves the progress as it is, and but for a restore the settings. Assumes nothing.
use mathlib.Core.Path.{◌≡◌, refl, ap, ◌∙◌}
use mathlib.Core.Bool.{Bool, true, false, cond, not}
use mathlib.Core.List.{List, [], ◌∷◌, ◌++◌, append-nil}
use Prim.Native.Nat.{ℕ, zero, suc, ◌≤◌}
use native.Mathlib.Omega.{arith}
use lib.ListN as ListN
use Rattle.octets.specs.Bytes.{Each}
use Rattle.line.specs.Frame.{split, ahead_of_pieces}
use Rattle.line.specs.Judge.{progress_of}
use Rattle.line.proofs.Pieces.{split-join}
use Rattle.supervisor.specs.State.{State, fresh}
use Rattle.supervisor.specs.Local
use Rattle.responder.specs.Requests.{receive_stream}
use Rattle.supervisor_claims.specs.View.{factory_of}
use Rattle.supervisor_claims.specs.LocalCalls.{Change, local_row}
use Rattle.supervisor_claims.specs.Histories
use Rattle.supervisor_claims.specs.Histories.{LocalCall, Call, Means, done_means, meant, up_to}
use Rattle.supervisor_claims.specs.FrameHistory.{is_accepted_start, piece_read}
use Rattle.supervisor_claims.specs.LastSet.{records_by, records_restored}
use Rattle.supervisor_claims.proofs.calls.RowLaws.{settings_by, state_by}
use Rattle.supervisor_claims.proofs.calls.LocalLaws.{row_laws}
use Rattle.supervisor_claims.proofs.claims.InOrder.{in_order_behind}

-- ---- a local call

module _ (s : State) (c : LocalCall) where
  abbrev local-meant : Means
  local-meant = meant s (Histories.local c)

  -- it leaves the receive progress as it is
  pub local-stays : local-meant.state.received ≡ s.received
  local-stays = ap (λ (t : State). t.received) ((row_laws c).keeps_rest s) ∙ by (local_row c).change
    where
      by : (x : Change) → (state_by x local-meant.answer s local-meant.state).received ≡ s.received
      by Change.nothing = refl
      by Change.outbox = refl
      by (Change.registers added) = refl
      by (Change.settings image) = refl

  -- the settings, by what it restores
  pub local-settings : local-meant.state.settings ≡ settings_by (records_restored c) s.settings
  unfolding records_restored
  local-settings = ap (λ (t : State). t.settings) ((row_laws c).keeps_rest s) ∙ by (local_row c).change
    where
      by : (x : Change)
          → (state_by x local-meant.answer s local-meant.state).settings ≡ settings_by (records_by x) s.settings
      by Change.nothing = refl
      by Change.outbox = refl
      by (Change.registers added) = refl
      by (Change.settings image) = refl

-- ---- the bytes since the last 00

abbrev NonZero : List ℕ → Type 0
NonZero = Each (λ b. 1 ≤ b)

ahead-rest : (b : ℕ) (ps : List (List ℕ)) (rest : List ℕ) → NonZero rest → NonZero (ahead_of_pieces (suc b) ps rest).rest
ahead-rest b [] rest h = (omega arith, h)
ahead-rest b (p ∷ ps) rest h = h

-- no 00 stands behind the last one
pub rest-nonzero : (w : List ℕ) → NonZero (split w).rest
unfolding split
rest-nonzero [] = tt
rest-nonzero (zero ∷ w) = rest-nonzero w
rest-nonzero (suc b ∷ w) = ahead-rest b (split w).closed (split w).rest (rest-nonzero w)

-- the bytes p since the last 00 in the state s
pub record Since (p : List ℕ) (s : State) : Type 0 where
  pub received : s.received ≡ progress_of p
  pub nonzero : Each (λ b. 1 ≤ b) p

-- a call that is lent enough, where the bytes w came before
module _ (w : List ℕ) (s : State) (h : Since (split w).rest s) where
  streamed : (image bs : List ℕ) → Since (split (w ++ bs)).rest (receive_stream image s bs)
  streamed image bs =
      rw (split-join w bs)
      (record {
        received = ap (λ (x : State). x.received) (in_order_behind image s (split w).rest bs h.nonzero h.received);
        nonzero = rest-nonzero ((split w).rest ++ bs);
      })

  -- it reads nothing
  unread : {t : State} → t.received ≡ s.received → Since (split (w ++ [])).rest t
  unread e = rw append-nil (record { received = e ∙ h.received; nonzero = h.nonzero })

  pub called : (c : Call) → Since (split (cond (is_accepted_start c) [] (w ++ piece_read c))).rest (meant s c).state
  unfolding is_accepted_start piece_read meant fresh progress_of split Local.start
  called (Histories.start d) = by (Local.bad_start (factory_of d))
    where
      by : (bad : Bool)
          → Since (split (cond (not bad) [] (w ++ []))).rest
          (done_means s (cond bad (Local.refused 11) (Local.left (fresh (factory_of d))))).state
      by true = unread refl
      by false = record { received = refl; nonzero = tt }
  called (Histories.receive image piece) = streamed image piece
  called (Histories.step image piece) = streamed image (ListN.take (up_to piece) piece)
  called (Histories.local c) = unread (local-stays s c)
