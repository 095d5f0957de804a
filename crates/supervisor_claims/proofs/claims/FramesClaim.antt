-- What the paper has of calls, byte by byte, is what the frames of the received bytes make of them.
-- Each frame is carried out or answered once, in order. Assumes nothing.
use mathlib.Core.Path.{◌≡◌, refl, ap, sym, ◌∙◌}
use mathlib.Core.Bool.{Bool, true, false, cond}
use mathlib.Core.List.{List, [], ◌∷◌, ◌++◌, append-nil}
use mathlib.Core.Option.{Option, some}
use Prim.Native.Nat.{ℕ, zero, suc, ◌≤◌}
use native.Mathlib.Omega.{arith}
use lib.Dec.{ltb, eqb-suc-zero}
use lib.ListN as ListN
use lib.ListN.{length}
use lib.Seq.{append_snoc}
use borrow.Author.Tests.{ltb-true, ltb-false}
use Rattle.octets.specs.Bytes.{Each}
use Rattle.octets.proofs.Each.{each_append}
use Rattle.line.specs.Limits.{longest_form}
use Rattle.line.specs.Frame.{split, non_empty, closed_behind}
use Rattle.line.proofs.Pieces.{split_at, split-none, non_empty-append, split-join, closed-rest, closed-join}
use Rattle.supervisor.specs.State.{Factory, State, fresh, with_received}
use Rattle.counters.specs.Ended.{Ended, Served}
use Rattle.responder.specs.Receive.{ended_meant}
use Rattle.responder.specs.Requests.{Verdict, receive_byte, receive_stream, verdict_since}
use Rattle.supervisor_claims.specs.View.{factory_of}
use Rattle.supervisor_claims.specs.Histories
use Rattle.supervisor_claims.specs.Histories.{Call, up_to, served_meant, said_in_piece, meant, Made, enough, meant_made}
use Rattle.supervisor_claims.specs.Histories.{outputs_meant, left_meant}
use Rattle.supervisor_claims.specs.FrameHistory.{piece_read, bytes_received_by, starts_anew, received_since, received_since_all}
use Rattle.supervisor_claims.specs.FrameHistory.{frames_closed_by, frame_verdict, said_by_frames, frame_carried, frames_carried}
use Rattle.line.specs.Judge.{progress_of}
use Rattle.supervisor_claims.specs.FrameHistory.{carried_out, carried_call, carried_made, outputs_by_frames, left_by_frames, carried_frames}
use Rattle.supervisor_claims.specs.Demand2.{HistoryFrames, EachOnce, ReceivedSince, FramesInOrderAfter}
use Rattle.supervisor_claims.proofs.laws.Progress.{Since, called}
use Rattle.supervisor_claims.proofs.claims.History.{history}
use Rattle.supervisor_claims.proofs.claims.InOrder.{verdict-over}
use Rattle.line.proofs.Judged.{tail-over, tail_within, more-tail}
use Rattle.supervisor_claims.proofs.claims.InOrder.{stream-append, empty-ignored, closed-framed, in_order_behind}

-- ---- a step

length-up_to : (piece : List ℕ) → length (ListN.take (up_to piece) piece) ≡ up_to piece
unfolding up_to
length-up_to [] = refl
length-up_to (zero ∷ bs) = refl
length-up_to (suc b ∷ bs) = rw eqb-suc-zero (ap suc (length-up_to bs))

-- the 00 behind bytes
pub closed-verdict : (p : List ℕ) → verdict_since (progress_of p) ≡ frame_verdict p
closed-verdict [] = rw (tail_within [] (omega arith))
closed-verdict (b ∷ bs) = by (ltb longest_form (length (b ∷ bs))) refl
  where
    by : (over : Bool) → ltb longest_form (length (b ∷ bs)) ≡ over → verdict_since (progress_of (b ∷ bs)) ≡ frame_verdict (b ∷ bs)
    by true e =
        let h = ltb-true longest_form (length (b ∷ bs)) e in
        rw (tail-over (b ∷ bs) h, verdict-over (b ∷ bs) h)
    by false e = rw (tail_within (b ∷ bs) (ltb-false _ _ e))

-- what is said of the frame that began with the bytes p
said-frame : {A : Type 0} (more : A) (f : Option Verdict → A) (p piece : List ℕ) → Each (λ b. 1 ≤ b) p
    → said_in_piece more f (progress_of p) piece ≡ said_by_frames more f (split (p ++ ListN.take (up_to piece) piece)).closed
unfolding said_in_piece up_to said_by_frames split
said-frame more f p [] h = rw (append-nil, split-none p h)
said-frame more f p (zero ∷ bs) h = rw (split_at p [] h) (ap f (closed-verdict p))
said-frame more f p (suc b ∷ bs) h =
    rw (eqb-suc-zero, more-tail p (suc b), ← append_snoc p (suc b) (ListN.take (up_to bs) bs))
    (said-frame more f (p ++ (suc b ∷ [])) bs (each_append (λ b. 1 ≤ b) p (suc b ∷ []) h (omega arith, tt)))

-- ---- one call on a state whose receive progress is what stands behind the last 00 of w

module _ (w : List ℕ) (s : State) (h : Since (split w).rest s) where
  pub stream-carried : (image bs : List ℕ) → carried_out image w s bs ≡ receive_stream image s bs
  unfolding carried_out frames_closed_by
  stream-carried image bs =
      rw (← empty-ignored image s (closed_behind w bs), closed-rest w bs, split-join w bs)
      (sym (in_order_behind image s (split w).rest bs h.nonzero h.received))

  -- the 00 behind bytes: their frames, and then the one that it closes
  pub stream-closes : (image bs : List ℕ)
      → receive_stream image s (bs ++ (0 ∷ []))
      ≡ with_received (frame_carried image (frames_carried image s (frames_closed_by w bs)) (split (w ++ bs)).rest) (some [])
  unfolding carried_out receive_stream receive_byte
  stream-closes image bs =
      stream-append image s bs (0 ∷ [])
      ∙ rw (← stream-carried image bs) (closed-framed image (frames_carried image s (frames_closed_by w bs)) (split (w ++ bs)).rest)

  call-carried : (c : Call) → carried_call w s c ≡ meant s c
  unfolding carried_call piece_read meant
  call-carried (Histories.start d) = refl
  call-carried (Histories.receive image piece) = rw (stream-carried image piece)
  call-carried (Histories.step image piece) =
      let bs = ListN.take (up_to piece) piece in
      rw (
        stream-carried image bs,
        length-up_to piece,
        closed-rest w bs,
        h.received,
        said-frame Ended.more ended_meant (split w).rest piece h.nonzero,
        said-frame Served.nothing (served_meant s.settings) (split w).rest piece h.nonzero,
      )
  call-carried (Histories.local c) = refl

-- whatever is lent
pub made-carried : (w : List ℕ) (s : State) → Since (split w).rest s → (m : Made)
    → (carried_made w s m ≡ meant_made s m) × Since (split (received_since w m)).rest (meant_made s m).state
unfolding carried_made received_since starts_anew bytes_received_by meant_made
made-carried w s h m = by (enough m.call m.lent) refl
  where
    by : (t : Bool) → enough m.call m.lent ≡ t
        → (carried_made w s m ≡ meant_made s m) × Since (split (received_since w m)).rest (meant_made s m).state
    by true e = rw e (call-carried w s h m.call, called w s h m.call)
    by false e = rw (e, append-nil) (refl, h)

-- ---- lists of calls

pub frames-follow : (ms : List Made) (w : List ℕ) (s : State) → Since (split w).rest s
    → (outputs_by_frames w s ms ≡ outputs_meant s ms)
    × (left_by_frames w s ms ≡ left_meant s ms)
    × Since (split (received_since_all w ms)).rest (left_meant s ms)
unfolding outputs_by_frames left_by_frames received_since_all outputs_meant left_meant
frames-follow [] w s h = (refl, refl, h)
frames-follow (m ∷ ms) w s h =
    let k = made-carried w s h m in
    let i = frames-follow ms (received_since w m) (meant_made s m).state k.1 in
    (rw (k.0, i.0), rw k.0 i.1, i.2)

-- on a fresh state
pub by_frames : (f : Factory) (ms : List Made)
    → (outputs_by_frames [] (fresh f) ms ≡ outputs_meant (fresh f) ms)
    × (left_by_frames [] (fresh f) ms ≡ left_meant (fresh f) ms)
    × Since (split (received_since_all [] ms)).rest (left_meant (fresh f) ms)
unfolding fresh progress_of split
by_frames f ms = frames-follow ms [] (fresh f) (record { received = refl; nonzero = tt })

pub received-since : ReceivedSince
received-since f ms = let h = (by_frames f ms).2 in (h.received, h.nonzero)

pub in_order_after : FramesInOrderAfter
in_order_after f ms image bs =
    let h = received-since f ms in in_order_behind image (left_meant (fresh f) ms) (split (received_since_all [] ms)).rest bs h.1 h.0

-- ---- each frame once

pub frames-join : (w : List ℕ) (m : Made) → let fs = non_empty (split w).closed in
    cond (starts_anew m) [] (fs ++ frames_closed_by w (bytes_received_by m)) ≡ non_empty (split (received_since w m)).closed
unfolding received_since frames_closed_by non_empty split
frames-join w m = by (starts_anew m)
  where
    bs : List ℕ
    bs = bytes_received_by m

    by : (t : Bool)
        → cond t [] (non_empty (split w).closed ++ non_empty (closed_behind w bs)) ≡ non_empty (split (cond t [] (w ++ bs))).closed
    by true = refl
    by false = rw (closed-join w bs, non_empty-append (split w).closed (closed_behind w bs))

frames-once : (ms : List Made) (w : List ℕ)
    → carried_frames w (non_empty (split w).closed) ms ≡ non_empty (split (received_since_all w ms)).closed
unfolding carried_frames received_since_all
frames-once [] w = refl
frames-once (m ∷ ms) w = rw (frames-join w m) (frames-once ms (received_since w m))

pub each_once : EachOnce
unfolding non_empty split
each_once ms = frames-once ms []

-- ---- lists of calls by frames

pub history_frames : HistoryFrames
history_frames p b l d typed h ms t =
    let k = history p b l d typed h ms t in
    let f = by_frames (factory_of d) ms in
    (rw f.0 k.0, rw f.1 k.1, each_once ms, k.2, k.3)
