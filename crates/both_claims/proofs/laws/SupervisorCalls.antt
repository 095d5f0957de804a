-- A call of the supervisor keeps what holds of both.
-- Assumes nothing.
use mathlib.Core.Path.{◌≡◌, refl}
use mathlib.Core.Bool.{Bool, cond, ◌||◌}
use mathlib.Core.List.{List, [], ◌∷◌, ◌++◌, append-nil}
use mathlib.Core.Logic.{inl}
use mathlib.Core.Option.{Option, none, some}
use Prim.Native.Nat.{ℕ}
use lib.Seq.{append_snoc}
use Rattle.octets.specs.Bytes.{Each, Byte}
use Rattle.octets.proofs.Conditions.{cond-by}
use Rattle.octets.proofs.Each.{each_append, each_take}
use Rattle.line.specs.Message.{Message, InRange}
use Rattle.line.specs.Frame.{NonZero}
use Rattle.line_claims.specs.Calls.{good_messages}
use Rattle.requester.specs.State.{MainState}
use Rattle.requester_claims.specs.Numbers.{Frame}
use Rattle.supervisor.specs.State.{State}
use Rattle.supervisor_claims.specs.Histories as Supervisor
use Rattle.supervisor_claims.specs.FrameHistory as Received
use Rattle.supervisor_claims.specs.FrameHistory.{frame_carried}
use Rattle.supervisor_claims.specs.LastSet.{Origin}
use Rattle.both_claims.specs.Ends.{image_lent, origin_by, handled_by, newest_reply, still_pending, taken_by, drops, brought}
use Rattle.both_claims.specs.Ends.{supervisor_logged}
use Rattle.both_claims.specs.Ends.{Handled, Log, reply_made}
use Rattle.both_claims.proofs.laws.Lists.{Front, none-some, any_left, any-right, each-then}
use Rattle.both_claims.proofs.laws.GoodFrames.{frames-nonzero, good-range}
use Rattle.both_claims.proofs.laws.Held.{Held, held-frame, reply-in-range}
use Rattle.both_claims.proofs.laws.Kept.{PutOut, Known, MadeTo, Kept}

-- ---- a call of the supervisor

-- the bytes that it receives
call-bytes : (c : Supervisor.Call) → Supervisor.Typed c → Each Byte (Received.piece_read c)
unfolding Received.piece_read
call-bytes (Supervisor.start d) t = tt
call-bytes (Supervisor.receive image piece) t = t.1
call-bytes (Supervisor.step image piece) t = each_take Byte (Supervisor.up_to piece) piece t.1
call-bytes (Supervisor.local c) t = tt

image-bytes : (c : Supervisor.Call) → Supervisor.Typed c → Each Byte (image_lent c)
image-bytes (Supervisor.start d) t = tt
image-bytes (Supervisor.receive image piece) t = t.0
image-bytes (Supervisor.step image piece) t = t.0
image-bytes (Supervisor.local c) t = tt

made_bytes : (m : Supervisor.Made) → Supervisor.Typed m.call → Each Byte (Received.bytes_received_by m)
unfolding Received.bytes_received_by
made_bytes m t = cond-by (Each Byte) (Supervisor.enough m.call m.lent) _ _ (λ _. call-bytes m.call t) (λ _. tt)

pub joined_bytes : (w : List ℕ) (m : Supervisor.Made) → Each Byte w → Supervisor.Typed m.call → Each Byte (Received.received_since w m)
unfolding Received.received_since
joined_bytes w m h t =
    cond-by (Each Byte) (Received.starts_anew m) _ _ (λ _. tt) (λ _. each_append Byte w (Received.bytes_received_by m) h (made_bytes m t))

module _ (s : MainState) (asked : List Frame) (put-out : Each (PutOut s) asked) (image : List ℕ) (each : Each Byte image) where
  handled-known : (fs : List (List ℕ)) (cleared : Bool) (x : State) (o : ℕ → Origin) (earlier : List (List ℕ)) → Held x
      → Each (Each NonZero) fs → Each (Known s) (handled_by asked image cleared x o earlier fs)
  unfolding handled_by
  handled-known [] cleared x o earlier held n = tt
  handled-known (f ∷ fs) cleared x o earlier held n = (
    record { nonzero = n.0; asked = put-out; reply = reply-in-range image each x f n.0 held },
    handled-known fs (cleared || drops f) (frame_carried image x f) (origin_by o f) (earlier ++ (f ∷ []))
        (held-frame image each x f n.0 held) n.1,
  )

handled-front : (asked : List Frame) (image : List ℕ) (fs : List (List ℕ)) (cleared : Bool) (x : State) (o : ℕ → Origin)
    (earlier : List (List ℕ))
    → Each (λ (h : Handled). Front h.asked asked) (handled_by asked image cleared x o earlier fs)
unfolding handled_by
handled-front asked image [] cleared x o earlier = tt
handled-front asked image (f ∷ fs) cleared x o earlier = (
  record { more = []; whole = append-nil asked },
  handled-front asked image fs (cleared || drops f) (frame_carried image x f) (origin_by o f) (earlier ++ (f ∷ [])),
)

-- the newest reply was made to one of the frames
newest-made : (hs before : List Handled) (o : Option Message) → ((r : Message) → o ≡ some r → MadeTo before r)
    → (r : Message) → newest_reply o hs ≡ some r → MadeTo (before ++ hs) r
newest-made [] before o h r e = rw append-nil (h r e)
newest-made (k ∷ hs) before o h r e =
    rw (← append_snoc before k hs)
    (newest-made hs (before ++ (k ∷ [])) (reply_made k) (λ q f. any-right _ before (k ∷ []) (inl f)) r e)

module _ (s : MainState) (l : Log) (kept : Kept s l) (x : State) (held : Held x) (m : Supervisor.Made)
    (typed : Supervisor.Typed m.call) (waiting : List ℕ) where
  abbrev hs : List Handled
  hs = brought l x m

  abbrev newest : Option Message
  newest = cond (Received.starts_anew m) none (newest_reply l.pending hs)

  reply-made : (r : Message) → newest ≡ some r → MadeTo (l.handled ++ hs) r
  reply-made r =
      cond-by (λ (o : Option Message). o ≡ some r → MadeTo (l.handled ++ hs) r) (Received.starts_anew m) none (newest_reply l.pending hs)
      (λ _ e. absurd (none-some e)) (λ _ e. newest-made hs l.handled l.pending kept.pending r e)

  pending-made : (bs : List ℕ) (o : Option Message) → ((r : Message) → o ≡ some r → MadeTo (l.handled ++ hs) r)
      → ((r : Message) → still_pending bs o ≡ some r → MadeTo (l.handled ++ hs) r) × Each (MadeTo (l.handled ++ hs)) (taken_by bs o)
  pending-made [] none h = (λ r e. absurd (none-some e), tt)
  pending-made [] (some r) h = (λ r e. absurd (none-some e), (h r refl, tt))
  pending-made (b ∷ []) none h = (λ r e. absurd (none-some e), tt)
  pending-made (b ∷ []) (some r) h = (λ r e. absurd (none-some e), (h r refl, tt))
  pending-made (b ∷ (c ∷ bs)) none h = (h, tt)
  pending-made (b ∷ (c ∷ bs)) (some r) h = (h, tt)

  pub supervisor-kept : Kept s (supervisor_logged l x m waiting)
  unfolding supervisor_logged brought
  supervisor-kept =
      let p = pending-made waiting newest reply-made in
      let fs = Received.frames_closed_by l.received (Received.bytes_received_by m) in
      let nonzero = frames-nonzero l.received (Received.bytes_received_by m) kept.bytes (made_bytes m typed) in
      record {
        progress = kept.progress;
        read = kept.read;
        ranged = kept.ranged;
        bytes = joined_bytes l.received m kept.bytes typed;
        asked = kept.asked;
        ordered = kept.ordered;
        heard = each_append InRange l.heard (good_messages fs) kept.heard (good-range fs nonzero);
        before = each_append _ l.handled _ kept.before (handled-front l.asked (image_lent m.call) fs l.cleared x _ _);
        handled = each_append (Known s) l.handled _ kept.handled
            (handled-known s l.asked kept.asked (image_lent m.call) (image-bytes m.call typed) fs l.cleared x _ _ held
            nonzero);
        pending = p.0;
        sent = each_append (MadeTo (l.handled ++ hs)) l.sent _
            (each-then (MadeTo l.handled) _ (λ r a. any_left _ l.handled hs a) l.sent kept.sent) p.1;
      }
