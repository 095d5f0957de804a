-- What was put out and read after a call of either end, by what was before it, where frames are read whole.
-- The file also says when that is in order. Assumes nothing.
use mathlib.Core.Path.{◌≡◌, refl, sym, ap, ◌∙◌}
use mathlib.Core.Bool.{false}
use mathlib.Core.List.{List, [], ◌∷◌, ◌++◌, map, append-nil}
use mathlib.Core.Option.{Option, none, some}
use Prim.Native.Nat.{ℕ, zero, suc, ◌≤◌}
use native.Mathlib.Omega.{arith}
use lib.ListN.{length, take}
use Rattle.line.specs.Message.{Message, InRange}
use Rattle.line.specs.Frame.{frame, split, non_empty, form}
use Rattle.line.proofs.Pieces.{split-join, non_empty-append, closed-rest}
use Rattle.line_claims.specs.Calls.{gathered, good_messages}
use Rattle.line_claims.proofs.ReaderClaim.{gathered-append}
use Rattle.line_claims.proofs.JudgeClaim.{judge-of-message}
use Rattle.line_claims.proofs.WireClaim.{split-frame}
use Rattle.requester_claims.specs.Histories.{MainAnswer, MainCall}
use Rattle.requester_claims.specs.Histories as Main
use Rattle.requester_claims.specs.Numbers.{Frame, frames_put_out}
use Rattle.responder.specs.Requests.{verdict}
use Rattle.supervisor.specs.State.{State}
use Rattle.supervisor_claims.specs.Histories as Supervisor
use Rattle.supervisor_claims.specs.FrameHistory as Received
use Rattle.supervisor_claims.specs.Replies.{reply_by}
use Rattle.requester_claims.specs.CameAs.{bytes_read_by, restarts}
use Rattle.both_claims.specs.Ends.{Log, Among, InOrder, main_logged, supervisor_logged}
use Rattle.both_claims.specs.Ends.{reply_message, reply_made, image_lent, handled_by, newest_reply, still_pending, taken_by, brought}

-- ---- frames read whole

-- the one form of a frame
forms-of : (m : Message) → non_empty (split (frame m)).closed ≡ form m ∷ []
unfolding non_empty split Rattle.line.specs.Cobs.cobs
forms-of m = ap (λ (w : List ℕ). non_empty (split w).closed) (sym (append-nil (frame m))) ∙ rw (split-frame m [])

pub good_of : (m : Message) → InRange m → good_messages (form m ∷ []) ≡ m ∷ []
unfolding gathered
good_of m r = rw (judge-of-message m r)

-- behind bytes that end with a 00
module _ (w : List ℕ) (whole : (split w).rest ≡ []) (m : Message) where
  pub frames-whole : Received.frames_closed_by w (frame m) ≡ form m ∷ []
  unfolding Received.frames_closed_by
  frames-whole = rw (closed-rest w (frame m), whole) (forms-of m)

  pub rest-whole : (split (w ++ frame m)).rest ≡ []
  unfolding split
  rest-whole = rw (split-join w (frame m), whole) (ap (λ (z : List ℕ). (split z).rest) (sym (append-nil (frame m))) ∙ rw (split-frame m []))

  pub good-whole : InRange m
      → good_messages (non_empty (split (w ++ frame m)).closed) ≡ good_messages (non_empty (split w).closed) ++ (m ∷ [])
  good-whole r = rw (split-join w (frame m), whole, non_empty-append, forms-of m, gathered-append, good_of m r)

-- ---- what was put out and read

pub record Logged (l : Log) (read : List ℕ) (asked : List Frame) (received : List ℕ) (heard : List Message) (pending : Option Message)
    (sent : List Message) : Type 0 where
  pub reads : l.read ≡ read
  pub asks : l.asked ≡ asked
  pub receives : l.received ≡ received
  pub hears : l.heard ≡ heard
  pub waits : l.pending ≡ pending
  pub sends : l.sent ≡ sent

pub logged : (l : Log) → Logged l l.read l.asked l.received l.heard l.pending l.sent
logged l = record { reads = refl; asks = refl; receives = refl; hears = refl; waits = refl; sends = refl }

module _ {l : Log} {read : List ℕ} {asked : List Frame} {received : List ℕ} {heard : List Message} {pending : Option Message}
    {sent : List Message}
    (k : Logged l read asked received heard pending sent) where
  pub logged-in-order : Among (List ℕ) (map frame heard) (map (λ (x : Frame). x.bytes) asked)
      → Among (List ℕ) (map frame (good_messages (non_empty (split read).closed))) (map frame sent) → InOrder l
  logged-in-order a b = record { to_supervisor = rw (k.asks, k.hears) a; to_main = rw (k.reads, k.sends) b }

  pub main-logs : (c : MainCall) (a : MainAnswer) (out : List ℕ) (n : ℕ) → restarts c a ≡ false
      → Logged (main_logged l c a out n) (read ++ bytes_read_by c a) (asked ++ frames_put_out a out n) received heard pending sent
  unfolding main_logged
  main-logs c a out n e =
      rw e
      (record { reads = rw k.reads; asks = rw k.asks; receives = k.receives; hears = k.hears; waits = k.waits; sends = k.sends })

  pub supervisor-logs : (s : State) (m : Supervisor.Made) (waiting : List ℕ) → Received.starts_anew m ≡ false
      → let r = newest_reply pending (brought l s m) in
      Logged (supervisor_logged l s m waiting) read asked (received ++ Received.bytes_received_by m)
      (heard ++ good_messages (Received.frames_closed_by received (Received.bytes_received_by m)))
      (still_pending waiting r) (sent ++ taken_by waiting r)
  unfolding supervisor_logged Received.received_since
  supervisor-logs s m waiting e = record {
    reads = k.reads;
    asks = k.asks;
    receives = rw (e, k.receives);
    hears = rw (k.hears, k.receives);
    waits = rw (e, k.waits);
    sends = rw (e, k.waits, k.sends);
  }

-- the frame that a request puts out
pub frames-one : (count : ℕ) (out : List ℕ) (n : ℕ) → 1 ≤ length (take count out)
    → frames_put_out (Main.put count) out n ≡ (record { number = n; bytes = take count out }) ∷ []
unfolding frames_put_out
frames-one zero out n h = absurd (omega arith)
frames-one (suc k) out n h = refl

-- ---- the newest reply

module _ (l : Log) (s : State) (m : Supervisor.Made) where
  -- a call that brings no frame
  pub brought-none : Received.frames_closed_by l.received (Received.bytes_received_by m) ≡ [] → brought l s m ≡ []
  unfolding brought handled_by
  brought-none e = rw e

  -- one that brings one
  pub brought-one : (f : List ℕ) → Received.frames_closed_by l.received (Received.bytes_received_by m) ≡ f ∷ []
      → (r : Message) → reply_message (reply_by (image_lent m.call) s (verdict f)) ≡ some r → (o : Option Message)
      → newest_reply o (brought l s m) ≡ some r
  unfolding brought handled_by reply_made
  brought-one f e r g o = rw e g

-- more of it than its 00 is left, or nothing
pub some_left : (bs : List ℕ) → 2 ≤ length bs → (o : Option Message) (r : Message) → o ≡ some r
    → (still_pending bs o ≡ some r) × (taken_by bs o ≡ [])
some_left [] h o r e = absurd (omega arith)
some_left (b ∷ []) h o r e = absurd (omega arith)
some_left (b ∷ (c ∷ bs)) h o r e = rw e (refl, refl)

pub none_left : (bs : List ℕ) → bs ≡ [] → (o : Option Message) (r : Message) → o ≡ some r
    → (still_pending bs o ≡ none) × (taken_by bs o ≡ r ∷ [])
none_left bs h o r e = rw (h, e) (refl, refl)
