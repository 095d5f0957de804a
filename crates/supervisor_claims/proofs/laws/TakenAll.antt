-- A stream received byte by byte, all that is pending taken after each byte: what goes out is the replies' frames, in order.
-- Assumes nothing.
use mathlib.Core.Path.{◌≡◌, refl, sym, ap, ◌∙◌}
use mathlib.Core.Bool.{Bool, false}
use mathlib.Core.List.{List, [], ◌∷◌, ◌++◌, append_assoc, append-nil}
use mathlib.Core.Option.{Option, none, some}
use Prim.Native.Nat.{ℕ, zero, suc, ◌≤◌}
use native.Mathlib.Omega.{arith}
use lib.Dec.{eqb-suc-zero}
use lib.ListN.{length, take, drop, length-append, drop_of_length-le}
use lib.Seq.{take_all, append_snoc, get_or_at}
use Rattle.line.specs.Message.{Message, message}
use Rattle.line.specs.Cobs.{cobs}
use Rattle.line.specs.Frame.{frame, split, non_empty}
use Rattle.line.proofs.Pieces.{split-close, split-more, non_empty-append}
use Rattle.supervisor.specs.State.{State, with_received}
use Rattle.supervisor.specs.Local.{last_non_zero, taken, after_take}
use Rattle.responder.specs.Requests.{Reply, verdict, after_verdict, closed, receive_byte, owed, reply_frame}
use Rattle.supervisor_claims.specs.FrameHistory.{frame_carried}
use Rattle.line.specs.Judge.{progress_of}
use Rattle.supervisor_claims.specs.Replies.{reply_to_frame, after_frame, replies}
use Rattle.supervisor_claims.proofs.claims.InOrder.{lined, done-lined, judged-is, closed-framed}
use Rattle.line.proofs.Judged.{more-tail}

drop_all : (n : ℕ) (l : List ℕ) → length l ≤ n → drop n l ≡ []
drop_all n l h = drop_of_length-le l h

-- ---- taking all

abbrev pub all_taken : State → List ℕ
all_taken s = taken s (length s.pending)

abbrev pub after_all : State → State
after_all s = after_take s (length s.pending)

-- any larger room takes the same
pub larger-room : (s : State) (room : ℕ) → length s.pending ≤ room → (taken s room ≡ all_taken s) × (after_take s room ≡ after_all s)
unfolding taken after_take
larger-room s room h =
    let p = s.pending in
    let t : take room p ≡ take (length p) p = take_all room p h ∙ sym (take_all (length p) p (omega arith)) in
    let d : drop room p ≡ drop (length p) p = drop_all room p h ∙ sym (drop_all (length p) p (omega arith)) in
    (t, rw (t, d))

pub all-taken : (s : State) → all_taken s ≡ s.pending
unfolding taken
all-taken s = take_all (length s.pending) s.pending (omega arith)

pub after-all : (s : State) → after_all s ≡ lined s s.received [] (last_non_zero s.terminator_owed s.pending)
unfolding after_take
after-all s = rw (all-taken s, drop_all (length s.pending) s.pending (omega arith))

-- ---- a session

-- the bytes taken, and the state that is left
pub record Session : Type 0 where
  pub taken : List ℕ
  pub state : State

-- all is taken
abbrev pub took_all : State → Session
took_all s = record { taken = all_taken s; state = after_all s }

-- one byte is received, and then all is taken
unfoldable pub cycle : List ℕ → State → ℕ → Session
cycle image s b = took_all (receive_byte image s b)

unfoldable pub session : List ℕ → State → List ℕ → Session
session image s [] = record { taken = []; state = s }
session image s (b ∷ bs) =
    let t = cycle image s b in
    let u = session image t.state bs in
    record { taken = t.taken ++ u.taken; state = u.state }

-- ---- replies

unfoldable pub after_frames : List ℕ → State → List (List ℕ) → State
after_frames image s [] = s
after_frames image s (f ∷ fs) = after_frames image (after_frame image s f) fs

replies-append : (image : List ℕ) (s : State) (fs gs : List (List ℕ))
    → replies image s (fs ++ gs) ≡ replies image s fs ++ replies image (after_frames image s fs) gs
unfolding replies after_frames
replies-append image s [] gs = refl
replies-append image s (f ∷ fs) gs = rw (replies-append image (after_frame image s f) fs gs, append_assoc)

after-append : (image : List ℕ) (s : State) (fs gs : List (List ℕ))
    → after_frames image s (fs ++ gs) ≡ after_frames image (after_frames image s fs) gs
unfolding after_frames
after-append image s [] gs = refl
after-append image s (f ∷ fs) gs = after-append image (after_frame image s f) fs gs

-- ---- nothing is pending and no 00 is owed, before a frame and after it

pub record Quiet (s : State) : Type 0 where
  pub pending : s.pending ≡ []
  pub terminator_owed : s.terminator_owed ≡ false

frame-quiet : (image : List ℕ) (s : State) (f : List ℕ) → Quiet s → Quiet (after_frame image s f)
unfolding after_frame
frame-quiet image s f q =
    let d = done-lined image s s.received s.pending s.terminator_owed (verdict f) in
    record {
      pending = ap (λ (x : State). x.pending) d ∙ q.pending;
      terminator_owed = ap (λ (x : State). x.terminator_owed) d ∙ q.terminator_owed;
    }

frames-quiet : (image : List ℕ) (s : State) (fs : List (List ℕ)) → Quiet s → Quiet (after_frames image s fs)
unfolding after_frames
frames-quiet image s [] q = q
frames-quiet image s (f ∷ fs) q = frames-quiet image (after_frame image s f) fs (frame-quiet image s f q)

-- a reply ends in a 00
last-zero : (bs : List ℕ) → last_non_zero false (bs ++ (0 ∷ [])) ≡ false
unfolding last_non_zero
last-zero [] = refl
last-zero (b ∷ bs) =
    let l : length (b ∷ bs) ≡ length (bs ++ (0 ∷ [])) = simp length-append (omega arith) in
    rw (get_or_at (b ∷ bs) 0 [] 0 (length (bs ++ (0 ∷ []))) l)

pub frame-last : (m : Message) → last_non_zero false (frame m) ≡ false
unfolding frame
frame-last m = last-zero (cobs (message m))

reply-last : (r : Option Reply) → last_non_zero false (reply_frame r) ≡ false
unfolding reply_frame last_non_zero
reply-last none = refl
reply-last (some r) = frame-last (record { version = r.version; sequence = r.sequence; command = r.command; payload = r.payload })

took-is : (s : State)
    → took_all s ≡ record { taken = s.pending; state = lined s s.received [] (last_non_zero s.terminator_owed s.pending) }
took-is s = rw (all-taken s, after-all s)

quiet-taken : (s : State) (r : Option (List ℕ)) → Quiet s → took_all (with_received s r) ≡ record { taken = []; state = with_received s r }
unfolding last_non_zero
quiet-taken s r q = took-is (with_received s r) ∙ rw (q.pending, q.terminator_owed)

reply-taken : (s : State) (r : Option (List ℕ)) (terminator_owed : Bool) (reply : Option Reply) → Quiet s → terminator_owed ≡ false
    → took_all (lined s r (owed terminator_owed ++ reply_frame reply) terminator_owed)
    ≡ record { taken = reply_frame reply; state = with_received s r }
reply-taken s r terminator_owed reply q e =
    rw e (took-is (lined s r (reply_frame reply) false) ∙ rw (reply-last reply, q.pending, q.terminator_owed))

module _ (image : List ℕ) (s : State) (q : Quiet s) where
  judged-taken : (r : Option (List ℕ)) (f : List ℕ)
      → took_all (with_received (after_verdict image s (verdict f)) r)
      ≡ record { taken = reply_frame (reply_to_frame image s f); state = with_received (after_frame image s f) r }
  unfolding after_frame reply_to_frame
  judged-taken r f =
      ap (λ (x : State). took_all (with_received x r)) (judged-is image s (verdict f))
      ∙ reply-taken (after_frame image s f) r s.terminator_owed (reply_to_frame image s f) (frame-quiet image s f q) q.terminator_owed

  -- a 00 behind bytes
  cycle-close : (bs : List ℕ) → cycle image (with_received s (progress_of bs)) 0
      ≡ record {
        taken = replies image s (non_empty (bs ∷ []));
        state = with_received (after_frames image s (non_empty (bs ∷ []))) (some []);
      }
  unfolding cycle receive_byte frame_carried replies after_frames non_empty
  cycle-close [] = ap took_all (closed-framed image s []) ∙ quiet-taken s (some []) q
  cycle-close (b ∷ bs) = ap took_all (closed-framed image s (b ∷ bs)) ∙ rw append-nil (judged-taken (some []) (b ∷ bs))

  -- any other byte
  cycle-more : (bs : List ℕ) (b : ℕ)
      → cycle image (with_received s (progress_of bs)) (suc b)
      ≡ record { taken = []; state = with_received s (progress_of (bs ++ (suc b ∷ []))) }
  unfolding cycle receive_byte
  cycle-more bs b = rw (eqb-suc-zero, more-tail bs (suc b)) (quiet-taken s (progress_of (bs ++ (suc b ∷ []))) q)

-- ---- the claim

module _ (image : List ℕ) (s : State) (q : Quiet s) where
  -- after bytes: their replies were taken, and nothing is pending
  abbrev replied_to : List ℕ → Session
  replied_to bs = record {
    taken = replies image s (non_empty (split bs).closed);
    state = with_received (after_frames image s (non_empty (split bs).closed)) (progress_of (split bs).rest);
  }

  abbrev joined : Session → Session → Session
  joined x y = record { taken = x.taken ++ y.taken; state = y.state }

  cycle-replied : (bs : List ℕ) (b : ℕ) → joined (replied_to bs) (cycle image (replied_to bs).state b) ≡ replied_to (bs ++ (b ∷ []))
  unfolding progress_of
  cycle-replied bs zero =
      let fs = non_empty (split bs).closed in
      let t = (split bs).rest in
      let g = non_empty (t ∷ []) in
      ap (joined (replied_to bs)) (cycle-close image (after_frames image s fs) (frames-quiet image s fs q) t)
      ∙ rw (split-close bs, non_empty-append (split bs).closed (t ∷ []), replies-append image s fs g, after-append image s fs g)
  cycle-replied bs (suc b) =
      let fs = non_empty (split bs).closed in
      ap (joined (replied_to bs)) (cycle-more image (after_frames image s fs) (frames-quiet image s fs q) (split bs).rest b)
      ∙ rw (split-more bs b) (simp append-nil)

  session-replied : (cs bs : List ℕ) → joined (replied_to bs) (session image (replied_to bs).state cs) ≡ replied_to (bs ++ cs)
  unfolding session
  session-replied [] bs = simp append-nil
  session-replied (c ∷ cs) bs =
      let t = cycle image (replied_to bs).state c in
      rw (← append_assoc (replied_to bs).taken t.taken (session image t.state cs).taken)
      (ap (λ (x : Session). joined x (session image x.state cs)) (cycle-replied bs c) ∙ session-replied cs (bs ++ (c ∷ []))
      ∙ rw append_snoc)

-- What is taken is the replies to the frames that are not empty, in order.
-- The state is as those frames leave it, with nothing pending.
module _ (image : List ℕ) (s : State) (bs : List ℕ) (idle : s.received ≡ some []) (pending : s.pending ≡ [])
    (terminator_owed : s.terminator_owed ≡ false) where
  all-replied : session image s bs ≡ record {
    taken = replies image s (non_empty (split bs).closed);
    state = with_received (after_frames image s (non_empty (split bs).closed)) (progress_of (split bs).rest);
  }
  unfolding replies after_frames non_empty split progress_of
  all-replied =
      let q : Quiet s = record { pending = pending; terminator_owed = terminator_owed } in
      let z : s ≡ with_received s (some []) = rw (← idle) in
      ap (λ (x : State). session image x bs) z ∙ session-replied image s q bs []

  pub replies-taken : (session image s bs).taken ≡ replies image s (non_empty (split bs).closed)
  replies-taken = ap (λ (x : Session). x.taken) all-replied
