-- The bytes pending, as long as the newest reply counts as not put out: what is left of its frame.
-- It stands behind a 00 where one was owed. Only a take puts the reply out. Assumes nothing.
use mathlib.Core.Path.{◌≡◌, refl, sym, ap, ◌∙◌}
use mathlib.Core.Bool.{Bool, true, false, cond, ◌||◌}
use mathlib.Core.List.{List, [], ◌∷◌, ◌++◌, append_assoc, append-nil}
use mathlib.Core.Logic.{◌⊎◌, inl, inr}
use mathlib.Core.Option.{Option, none, some}
use Prim.Native.Nat.{ℕ, ◌≤◌}
use native.Mathlib.Omega.{arith}
use lib.ListN.{length}
use Rattle.octets.specs.Bytes.{Each}
use Rattle.octets.proofs.Conditions.{cond-by}
use Rattle.line.specs.Message.{Message}
use Rattle.line.specs.Frame.{frame, split, non_empty, closed_behind}
use Rattle.requester_claims.specs.Histories.{MainAnswer, MainCall}
use Rattle.requester_claims.specs.Numbers.{Frame}
use Rattle.supervisor.specs.State.{State}
use Rattle.responder.specs.Requests.{Reply, verdict, owed, reply_frame}
use Rattle.supervisor_claims.specs.View.{view, factory_of}
use Rattle.supervisor_claims.specs.LocalCalls.{Change, local_row}
use Rattle.supervisor_claims.specs.Histories as Supervisor
use Rattle.supervisor_claims.specs.FrameHistory as Received
use Rattle.supervisor_claims.specs.FrameHistory.{frame_carried, frames_carried}
use Rattle.supervisor_claims.specs.LastSet.{Origin}
use Rattle.supervisor_claims.specs.Replies.{reply_by, taken_bytes}
use Rattle.supervisor_claims.proofs.calls.RowLaws.{state_by, OfChange}
use Rattle.supervisor_claims.proofs.calls.LocalLaws.{row_laws}
use Rattle.supervisor_claims.proofs.claims.InOrder.{judged-is}
use Rattle.supervisor_claims.proofs.laws.Progress.{Since}
use Rattle.supervisor_claims.proofs.claims.FramesClaim.{made-carried, by_frames}
use Rattle.supervisor_claims.proofs.claims.History as SupervisorHistory
use Rattle.requester_claims.specs.CameAs.{restarts}
use Rattle.both_claims.specs.Ends
use Rattle.both_claims.specs.Ends.{EndCallTyped, ends_after, BothStarts, ends_begun, Always, main_logged, image_lent}
use Rattle.both_claims.specs.Ends.{still_pending, taken_by, brought, supervisor_logged}
use Rattle.both_claims.specs.Ends.{Log, reply_message, reply_made, origin_by, handled_by, newest_reply, drops}
use Rattle.both_claims.proofs.laws.Table.{frame-some}
use Rattle.both_claims.proofs.laws.SupervisorFrames.{frames-none, LocallyKept, made_kept}
use Rattle.both_claims.specs.Pending.{Takes, Waits, CallPends, SentBy, CallSends}
use Rattle.both_claims.proofs.laws.Delivered.{all_moved}
use Rattle.supervisor_claims.specs.Sound.{Sound}
use Rattle.both_claims.proofs.laws.Lists.{none-some}
use Rattle.both_claims.specs.BothEnds.{PendingBytes, SentByTake}

-- ---- a frame

some_bytes : (b : Bool) (r : Message) → 2 ≤ length (owed b ++ frame r)
some_bytes true r = let k = frame-some r in omega (arith, k)
some_bytes false r = frame-some r

-- a reply as it is made
reply-waits : (b : Bool) (o : Option Reply) → Waits (reply_message o) (owed b ++ reply_frame o)
unfolding reply_frame
reply-waits b none r e = absurd (none-some e)
reply-waits b (some y) r e =
    let z : record { version = y.version; sequence = y.sequence; command = y.command; payload = y.payload } ≡ r = cc in
    rw z (record { behind_zero = b; front = []; whole = refl; some_left = some_bytes b r })

frame-waits : (image : List ℕ) (x : State) (b : ℕ) (bs : List ℕ)
    → Waits (reply_message (reply_by image x (verdict (b ∷ bs)))) (frame_carried image x (b ∷ bs)).pending
unfolding frame_carried
frame-waits image x b bs =
    rw (ap (λ (s : State). s.pending) (judged-is image x (verdict (b ∷ bs))))
    (reply-waits x.terminator_owed (reply_by image x (verdict (b ∷ bs))))

-- frames, one after the other
module _ (asked : List Frame) (image : List ℕ) where
  frames-wait : (ps : List (List ℕ)) (cleared : Bool) (x : State) (o : ℕ → Origin) (earlier : List (List ℕ)) (r : Option Message)
      → Waits r x.pending
      → Waits (newest_reply r (handled_by asked image cleared x o earlier (non_empty ps))) (frames_carried image x (non_empty ps)).pending
  unfolding non_empty handled_by frames_carried reply_made
  frames-wait [] cleared x o earlier r h = h
  frames-wait ([] ∷ ps) cleared x o earlier r h = frames-wait ps cleared x o earlier r h
  frames-wait ((b ∷ bs) ∷ ps) cleared x o earlier r h =
      frames-wait ps (cleared || drops (b ∷ bs)) (frame_carried image x (b ∷ bs)) (origin_by o (b ∷ bs)) (earlier ++ ((b ∷ bs) ∷ [])) _
      (frame-waits image x b bs)

-- ---- a call takes some of the pending bytes, or is no local call, or leaves them

takes-or : (s : State) (c : Supervisor.Call) → Takes c ⊎ LocallyKept (λ (y : State). y.pending) s c
takes-or s (Supervisor.start d) = inr tt
takes-or s (Supervisor.receive image piece) = inr tt
takes-or s (Supervisor.step image piece) = inr tt
takes-or s (Supervisor.local c) = by (local_row c).change (row_laws c).of_change ((row_laws c).keeps_rest s)
  where
    m : Supervisor.Means
    m = Supervisor.meant s (Supervisor.local c)

    by : (x : Change) → OfChange c x → m.state ≡ state_by x m.answer s m.state
        → Takes (Supervisor.local c) ⊎ (m.state.pending ≡ s.pending)
    by Change.nothing o e = inr (ap (λ (y : State). y.pending) e)
    by Change.outbox o e = inl (o.1.0, ap Supervisor.local o.1.1)
    by (Change.registers added) o e = inr (ap (λ (y : State). y.pending) e)
    by (Change.settings image) o e = inr (ap (λ (y : State). y.pending) e)

-- a take receives nothing
takes-nothing : (m : Supervisor.Made) → Takes m.call → Received.bytes_received_by m ≡ []
unfolding Received.bytes_received_by Received.piece_read
takes-nothing m t =
    rw t.1 (cond-by (λ (bs : List ℕ). bs ≡ []) (Supervisor.enough (Supervisor.local (Supervisor.take t.0)) m.lent) _ _ (λ _. refl)
    (λ _. refl))

-- ---- the newest reply, by what is left

-- behind bytes that were taken
still-waits : (o : Option Message) (taken bs : List ℕ) → Waits o (taken ++ bs) → Waits (still_pending bs o) bs
still-waits o taken [] h r f = absurd (none-some f)
still-waits o taken (c ∷ []) h r f = absurd (none-some f)
still-waits o taken (c ∷ (d ∷ cs)) h r f =
    let k = h r f in
    record {
      behind_zero = k.behind_zero;
      front = k.front ++ taken;
      whole = append_assoc k.front taken (c ∷ (d ∷ cs)) ∙ k.whole;
      some_left = omega arith;
    }

-- where there is none, none is put out
none-taken : (bs : List ℕ) → taken_by bs none ≡ []
none-taken [] = refl
none-taken (b ∷ []) = refl
none-taken (b ∷ (c ∷ bs)) = refl

-- nor one of which more than its 00 is left
waits-untaken : (o : Option Message) (bs : List ℕ) → Waits o bs → taken_by bs o ≡ []
waits-untaken none bs h = none-taken bs
waits-untaken (some r) [] h = absurd (omega (arith, (h r refl).some_left))
waits-untaken (some r) (b ∷ []) h = absurd (omega (arith, (h r refl).some_left))
waits-untaken (some r) (b ∷ (c ∷ bs)) h = refl

-- it is put out, with these bytes left
abbrev PutsOut : List ℕ → Option Message → List Message → Type 0
PutsOut bs o new = (r : Message) × (o ≡ some r) × (new ≡ r ∷ []) × (length bs ≤ 1)

taken-or : (o : Option Message) (bs : List ℕ) → (taken_by bs o ≡ []) ⊎ PutsOut bs o (taken_by bs o)
taken-or none bs = inl (none-taken bs)
taken-or (some r) [] = inr (r, refl, refl, omega arith)
taken-or (some r) (b ∷ []) = inr (r, refl, refl, omega arith)
taken-or (some r) (b ∷ (c ∷ bs)) = inl refl

-- ---- a call of the supervisor

record Pends (x : State) (l : Log) : Type 0 where
  since : Since (split l.received).rest x
  waits : Waits l.pending x.pending

module _ (x : State) (l : Log) (m : Supervisor.Made) where
  abbrev y : State
  y = (Supervisor.meant_made x m).state

  abbrev o : Option Message
  o = newest_reply l.pending (brought l x m)

  abbrev newest : Option Message
  newest = cond (Received.starts_anew m) none o

  -- by the frames that it brings
  abbrev framed_pending : List ℕ
  framed_pending = (frames_carried (image_lent m.call) x (Received.frames_closed_by l.received (Received.bytes_received_by m))).pending

  takes-newest : Takes m.call → o ≡ l.pending
  unfolding brought handled_by
  takes-newest t = rw (takes-nothing m t, frames-none l.received)

  -- it puts none out or, by taking, the pending reply
  abbrev Sends : List Message → Type 0
  Sends new = (new ≡ []) ⊎ (Takes m.call × PutsOut y.pending l.pending new)

  takes-sends : Takes m.call → {new : List Message} → (new ≡ []) ⊎ PutsOut y.pending l.pending new → Sends new
  takes-sends t (inl k) = inl k
  takes-sends t (inr k) = inr (t, k)

  module _ (p : Pends x l) where
    frames-pend : Waits o framed_pending
    unfolding brought Received.frames_closed_by
    frames-pend =
        frames-wait l.asked (image_lent m.call) (closed_behind l.received (Received.bytes_received_by m)) l.cleared x l.origin
        (non_empty (split l.received).closed) l.pending p.waits

    left_or : Received.starts_anew m ≡ false → Takes m.call ⊎ (y.pending ≡ framed_pending)
    left_or e = by (takes-or x m.call)
      where
        by : Takes m.call ⊎ LocallyKept (λ (s : State). s.pending) x m.call → Takes m.call ⊎ (y.pending ≡ framed_pending)
        by (inl t) = inl t
        by (inr k) =
            inr (ap (λ (s : Supervisor.Means). s.state.pending) (sym (made-carried l.received x p.since m).0)
            ∙ made_kept (λ (s : State). s.pending) (λ s r. refl) l.received x m e k)

    still-pends : Waits (still_pending y.pending newest) y.pending
    unfolding Supervisor.left_meant
    still-pends = by (Received.starts_anew m) refl
      where
        left : Takes m.call ⊎ (y.pending ≡ framed_pending) → Waits (still_pending y.pending o) y.pending
        left (inl t) =
            still-waits o (taken_bytes (Supervisor.outputs_meant x (m ∷ []))) y.pending
            (rw (all_moved (m ∷ []) x (t, tt), takes-newest t) p.waits)
        left (inr k) = still-waits o [] y.pending (rw k frames-pend)

        by : (t : Bool) → Received.starts_anew m ≡ t → Waits (still_pending y.pending (cond t none o)) y.pending
        by true e = still-waits none [] y.pending (λ r f. absurd (none-some f))
        by false e = left (left_or e)

    supervisor-pends : Pends y (supervisor_logged l x m y.pending)
    unfolding supervisor_logged
    supervisor-pends = record { since = (made-carried l.received x p.since m).1; waits = still-pends }

    supervisor-sends : Sends (taken_by y.pending newest)
    supervisor-sends = by (Received.starts_anew m) refl
      where
        left : Takes m.call ⊎ (y.pending ≡ framed_pending) → Sends (taken_by y.pending o)
        left (inl t) = rw (takes-newest t) (takes-sends t (taken-or l.pending y.pending))
        left (inr k) = inl (waits-untaken o y.pending (rw k frames-pend))

        by : (t : Bool) → Received.starts_anew m ≡ t → Sends (taken_by y.pending (cond t none o))
        by true e = inl (none-taken y.pending)
        by false e = left (left_or e)

main-pends : (x : State) (l : Log) → Pends x l → (c : MainCall) (a : MainAnswer) (out : List ℕ) (n : ℕ) → Pends x (main_logged l c a out n)
unfolding main_logged
main-pends x l p c a out n =
    cond-by (Pends x) (restarts c a) _ _ (λ _. record { since = p.since; waits = λ r e. absurd (none-some e) })
    (λ _. record { since = p.since; waits = p.waits })

-- ---- each call

abbrev PendsIn : Ends.Ends → Type 0
PendsIn e = Pends (view e.supervisor) e.log

call-pends : (e : Ends.Ends) → Sound e.supervisor → PendsIn e → (t : Ends.EndCall) → EndCallTyped t
    → Sound (ends_after e t).supervisor × PendsIn (ends_after e t)
unfolding ends_after
call-pends e s p (Ends.main m) typed = (s, main-pends (view e.supervisor) e.log p m.call _ _ _)
call-pends e s p (Ends.supervisor m) typed =
    let k = (SupervisorHistory.one_call e.supervisor m s typed).leaves in
    (k.1, rw k.0 (supervisor-pends (view e.supervisor) e.log m p))

begun-pends : (s : BothStarts) → Sound (ends_begun s).supervisor × PendsIn (ends_begun s)
unfolding Received.received_since_all Supervisor.left_meant
begun-pends s =
    let k =
    SupervisorHistory.started s.supervisor_parts s.supervisor_bytes s.supervisor_lent s.start_data s.start_typed
    s.supervisor_accepted in
    (k.1, rw k.0 (record { since = (by_frames (factory_of s.start_data) []).2; waits = λ r e. absurd (none-some e) }))

module _ (C : Ends.Ends → Ends.EndCall → Type 0)
    (of-call : (e : Ends.Ends) → Sound e.supervisor → PendsIn e → (t : Ends.EndCall) → EndCallTyped t → C e t) where
  calls-pend : (e : Ends.Ends) → Sound e.supervisor → PendsIn e → (ts : List Ends.EndCall) → Each EndCallTyped ts → Always C e ts
  calls-pend e s p [] typed = tt
  calls-pend e s p (t ∷ ts) typed =
      let k = call-pends e s p t typed.0 in (of-call e s p t typed.0, calls-pend (ends_after e t) k.0 k.1 ts typed.1)

  from-starts : (s : BothStarts) (ts : List Ends.EndCall) → Each EndCallTyped ts → Always C (ends_begun s) ts
  from-starts s ts t = let k = begun-pends s in calls-pend (ends_begun s) k.0 k.1 ts t

-- ---- the claims

pub pending_bytes : PendingBytes
pending_bytes = from-starts CallPends (λ e s p t typed. p.waits)

main-sends : (l : Log) (c : MainCall) (a : MainAnswer) (out : List ℕ) (n : ℕ)
    → (main_logged l c a out n).sent ≡ cond (restarts c a) [] l.sent
unfolding main_logged
main-sends l c a out n = by (restarts c a) refl
  where
    by : (t : Bool) → restarts c a ≡ t → (main_logged l c a out n).sent ≡ cond (restarts c a) [] l.sent
    by true e = rw e
    by false e = rw e

module _ (e : Ends.Ends) (s : Sound e.supervisor) (p : PendsIn e) (m : Supervisor.Made) (typed : Supervisor.Typed m.call) where
  abbrev x : State
  x = view e.supervisor

  abbrev e' : Ends.Ends
  e' = ends_after e (Ends.supervisor m)

  left_is : (view e'.supervisor).pending ≡ (y x e.log m).pending
  unfolding ends_after
  left_is = ap (λ (z : State). z.pending) (SupervisorHistory.one_call e.supervisor m s typed).leaves.0

  sent_is : e'.log.sent ≡ e.log.sent ++ taken_by (y x e.log m).pending (newest x e.log m)
  unfolding ends_after supervisor_logged
  sent_is = rw (SupervisorHistory.one_call e.supervisor m s typed).leaves.0

  takes-sent : (r : Message) → Takes m.call → e.log.pending ≡ some r → length (y x e.log m).pending ≤ 1 → SentBy e m r
  unfolding ends_after Supervisor.left
  takes-sent r t q i =
      let f = SupervisorHistory.follows e.supervisor s (m ∷ []) (typed, tt) in
      record {
        takes = t;
        pending = q;
        left = p.waits r q;
        moved = rw (f.0, f.1) (all_moved (m ∷ []) x (t, tt));
        rest = rw left_is i;
      }

  supervisor-call : CallSends e (Ends.supervisor m)
  supervisor-call = by (supervisor-sends x e.log m p) sent_is
    where
      by : {new : List Message} → Sends x e.log m new → e'.log.sent ≡ e.log.sent ++ new → CallSends e (Ends.supervisor m)
      by (inl k) f = inl (f ∙ rw (k, append-nil))
      by (inr (t, (r, q, k, i))) f = inr (r, f ∙ rw k, takes-sent r t q i)

call-sends : (e : Ends.Ends) → Sound e.supervisor → PendsIn e → (t : Ends.EndCall) → EndCallTyped t → CallSends e t
unfolding ends_after
call-sends e s p (Ends.main m) typed = main-sends e.log m.call _ _ _
call-sends e s p (Ends.supervisor m) typed = supervisor-call e s p m typed

pub sent_by_take : SentByTake
sent_by_take = from-starts CallSends call-sends
