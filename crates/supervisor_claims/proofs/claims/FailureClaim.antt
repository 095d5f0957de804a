-- What a frame that the table finds a failure leaves behind any calls; the bytes ahead of a 00, and an empty frame.
-- Assumes nothing.
use mathlib.Core.Path.{◌≡◌, ◌∙◌}
use mathlib.Core.Bool.{true}
use mathlib.Core.List.{List, [], ◌∷◌, ◌++◌}
use mathlib.Core.Option.{Option, none}
use Prim.Native.Nat.{ℕ, ◌≤◌}
use native.Mathlib.Omega.{arith}
use Rattle.octets.specs.Bytes.{Byte}
use Rattle.octets.proofs.Each.{each_append}
use Rattle.line.specs.Frame.{split}
use Rattle.line.proofs.Pieces.{split-none}
use Rattle.supervisor.specs.State.{State, with_received}
use Rattle.supervisor.specs.Calls.{Parts}
use Rattle.responder.specs.Requests.{failure, verdict, receive_stream, failure_reply}
use Rattle.supervisor_claims.specs.View.{factory_of, view}
use Rattle.supervisor_claims.specs.Sound.{Bytes}
use Rattle.supervisor_claims.specs.Histories
use Rattle.supervisor_claims.specs.Histories.{Typed, done, Lent, Made, enough, meant, meant_made, made, AllTyped}
use Rattle.supervisor_claims.specs.Histories.{reached, start_with, receive_with}
use Rattle.supervisor_claims.specs.FrameHistory.{frames_closed_by, received_since_all, frame_carried, frames_carried}
use Rattle.line.specs.Judge.{progress_of}
use Rattle.supervisor_claims.specs.FrameHistory.{carried_out}
use Rattle.supervisor_claims.specs.FrameHistory.{DoneLeaving, answered_with}
use Rattle.supervisor_claims.specs.Demand2.{NoZeros, FailureAnswered, OverlongAnswered, EmptyFrameIgnored, AheadOfZero}
use Rattle.supervisor_claims.proofs.laws.Progress.{Since}
use Rattle.supervisor_claims.proofs.claims.History.{history, one_call}
use Rattle.supervisor_claims.proofs.claims.InOrder.{verdict-over, failure_only_pending, in_order_behind}
use Rattle.line.proofs.Judged.{tail_within}
use Rattle.supervisor_claims.proofs.claims.FramesClaim.{stream-carried, stream-closes, by_frames}

-- ---- on a state whose receive progress is what stands behind the last 00 of w

module _ (w : List ℕ) (s : State) (h : Since (split w).rest s) (image bs : List ℕ) where
  stream-fails : (b : ℕ) (f : List ℕ) (reason version : ℕ) (sequence : Option ℕ) → (split (w ++ bs)).rest ≡ b ∷ f
      → verdict (b ∷ f) ≡ failure reason version sequence
      → receive_stream image s (bs ++ (0 ∷ [])) ≡ answered_with (receive_stream image s bs) (failure_reply reason version sequence)
  unfolding carried_out
  stream-fails b f reason version sequence e v =
      rw (stream-closes w s h image bs, e, ← stream-carried w s h image bs)
      (rw (failure_only_pending image (frames_carried image s (frames_closed_by w bs)) b f reason version sequence v))

  stream-empty : (split (w ++ bs)).rest ≡ [] → receive_stream image s (bs ++ (0 ∷ [])) ≡ receive_stream image s bs
  unfolding carried_out frame_carried
  stream-empty e = rw (stream-closes w s h image bs, ← stream-carried w s h image bs, e, tail_within [] (omega arith))

  stream-ahead : NoZeros bs → receive_stream image s bs ≡ with_received s (progress_of ((split w).rest ++ bs))
  unfolding frames_carried
  stream-ahead n =
      let z = each_append (λ b. 1 ≤ b) (split w).rest bs h.nonzero n in
      in_order_behind image s (split w).rest bs h.nonzero h.received ∙ rw (split-none ((split w).rest ++ bs) z)

-- ---- a start that is accepted, on any bytes, then any calls

module _ (p : Parts) (b : Bytes p) (l : Lent) (d : List ℕ) (typed : Typed (Histories.start d))
    (accepted : (made p (start_with l d)).answer ≡ done) (ms : List Made) (t : AllTyped ms) where
  abbrev q : Parts
  q = reached p l d ms

  -- a receive leaves what its bytes do to the state
  received-leaves : (j : Lent) (image bs : List ℕ) → let c = receive_with image j bs in Typed c.call → enough c.call j ≡ true
      → DoneLeaving (made q c) (receive_stream image (view q) bs)
  unfolding meant_made meant
  received-leaves j image bs c e =
      let k = rw e at (one_call q (receive_with image j bs) (history p b l d typed accepted ms t).2 c) in
      (k.answer, k.leaves.0)

  since : Since (split (received_since_all [] ms)).rest (view q)
  since = rw (history p b l d typed accepted ms t).1 (by_frames (factory_of d) ms).2

  -- the 00 behind the bytes of a call
  closed-leaves : (j : Lent) (image bs : List ℕ) → let c = receive_with image j bs in Typed c.call → enough c.call j ≡ true
      → (f : State → State)
      → receive_stream image (view q) (bs ++ (0 ∷ [])) ≡ f (receive_stream image (view q) bs)
      → DoneLeaving (made q (receive_with image j (bs ++ (0 ∷ [])))) (f (view (made q c).parts))
  unfolding enough
  closed-leaves j image bs c e f g =
      let k = received-leaves j image (bs ++ (0 ∷ [])) (c.0, each_append Byte bs (0 ∷ []) c.1 (omega arith, tt)) e in
      (k.0, k.1 ∙ rw (received-leaves j image bs c e).1 g)

  pub failure_answered : FailureAnswered ms q
  failure_answered b f reason version sequence v j image bs c e g =
      closed-leaves j image bs c e (λ s. answered_with s (failure_reply reason version sequence))
      (stream-fails (received_since_all [] ms) (view q) since image bs b f reason version sequence g v)

  pub overlong_answered : OverlongAnswered ms q
  overlong_answered [] o = absurd (omega arith)
  overlong_answered (x ∷ f) o = failure_answered x f 1 _ none (verdict-over (x ∷ f) o)

  pub empty_frame_ignored : EmptyFrameIgnored ms q
  empty_frame_ignored j image bs c e g =
      closed-leaves j image bs c e (λ s. s) (stream-empty (received_since_all [] ms) (view q) since image bs g)

  pub ahead_of_zero : AheadOfZero ms q
  ahead_of_zero j image bs c e n =
      let k = received-leaves j image bs c e in
      (k.0, k.1 ∙ stream-ahead (received_since_all [] ms) (view q) since image bs n)
