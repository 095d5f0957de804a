-- One call with the block lent: it is bumped for the frames of the joined bytes whose 00 the call received, in order.
-- Assumes nothing.
use mathlib.Core.Path.{◌≡◌, refl, ap, ◌∙◌}
use mathlib.Core.Bool.{Bool, true, false, cond}
use mathlib.Core.List.{List, [], ◌∷◌, ◌++◌, append-nil}
use Prim.Native.Nat.{ℕ, zero, suc, ◌≤◌}
use native.Mathlib.Omega.{arith}
use lib.Dec.{eqb-suc-zero}
use lib.ListN as ListN
use lib.Seq.{append_snoc}
use Rattle.line.specs.Reader.{received_of}
use Rattle.octets.specs.Bytes.{Each}
use Rattle.octets.proofs.Each.{each_append}
use Rattle.line.specs.Reader as LineReader
use Rattle.line.proofs.Received.{pushed-received, pushed-stays}
use Rattle.line.specs.Frame.{split, closed_behind}
use Rattle.line.proofs.Pieces.{split_at, split-none, closed-rest}
use Rattle.supervisor.specs.State.{State}
use Rattle.supervisor.specs.Calls.{Parts}
use Rattle.responder.specs.Requests.{verdict_since}
use Rattle.responder.specs.Receive as Receive
use Rattle.responder.specs.Receive.{ended_meant}
use Rattle.responder.proofs.VerdictLaws.{finished-ended}
use Rattle.responder.specs.Counting.{endings, count_promise}
use Rattle.counters.specs.declared.Counters.{Counters}
use Rattle.counters.specs.Ended.{Ended}
use Rattle.counters.specs.Count.{bumped_for, bumped_for_all}
use Rattle.supervisor_claims.specs.View.{view}
use Rattle.supervisor_claims.specs.Histories
use Rattle.supervisor_claims.specs.Histories.{Call, Answer, refused, Did, did, up_to, Lent, lent_of, enough, Made}
use Rattle.supervisor_claims.specs.Histories.{made}
use Rattle.supervisor_claims.specs.FrameHistory.{piece_read, bytes_received_by}
use Rattle.line.specs.Judge.{progress_of}
use Rattle.supervisor_claims.specs.Sound.{Sound}
use Rattle.supervisor_claims.proofs.Sound.{valid-long}
use Rattle.supervisor_claims.proofs.laws.Locality.{EnoughOfAll, lent-sound, lent_view}
use Rattle.supervisor_claims.proofs.laws.Progress.{Since}
use Rattle.supervisor_claims.proofs.calls.StepClaim.{valid-step-stepped}
use Rattle.line.proofs.Judged.{tail_within, more-tail}
use Rattle.supervisor_claims.proofs.claims.FramesClaim.{closed-verdict}
use Rattle.supervisor_claims.proofs.calls.RowLaws.{WhereRefused}
use Rattle.supervisor_claims.proofs.claims.LentCalls.{valid-parts, made_12, widened-enough}
use Rattle.supervisor_claims.specs.LocalCalls.{IsRefusal}
use Rattle.counters_claims.specs.CountHistory.{did_counted, made_counted, ended_by_frame, ended_all}
use Rattle.counters_claims.proofs.FrameLaws.{closed_none}

-- ---- the frames of a piece

-- the 00 behind the bytes p
pub frame-ends : (p : List ℕ) → ended_meant (verdict_since (progress_of p)) ≡ ended_by_frame p
unfolding ended_by_frame
frame-ends [] = ap ended_meant (closed-verdict [])
frame-ends (b ∷ bs) = ap ended_meant (closed-verdict (b ∷ bs))

-- p came of the first before them
endings-frames : (bs p : List ℕ) → Each (λ b. 1 ≤ b) p → endings (progress_of p) bs ≡ ended_all (split (p ++ bs)).closed
unfolding endings ended_all split
endings-frames [] p h = rw (append-nil, split-none p h)
endings-frames (zero ∷ bs) p h = rw (split_at p bs h, frame-ends p, ← endings-frames bs [] tt, tail_within [] (omega arith))
endings-frames (suc b ∷ bs) p h =
    let i = endings-frames bs (p ++ (suc b ∷ [])) (each_append (λ b. 1 ≤ b) p (suc b ∷ []) h (omega arith, tt)) in
    rw (eqb-suc-zero, more-tail p (suc b), ← append_snoc p (suc b) bs) i

-- a step bumps the block for the frame, if any, that ends in the bytes that it reads
step-endings : (piece s : List ℕ) (c : Counters) → LineReader.valid_reader s ≡ true → let o = LineReader.read_piece s piece in
    bumped_for c (Receive.ended_by_reader o.state o.answer) ≡ bumped_for_all c (endings (received_of s) (ListN.take (up_to piece) piece))
unfolding LineReader.read_piece LineReader.one_byte_later Receive.ended_by_reader endings up_to bumped_for bumped_for_all
step-endings [] s c v = refl
step-endings (zero ∷ bs) s c v = rw (finished-ended s v)
step-endings (suc b ∷ bs) s c v =
    rw (eqb-suc-zero, eqb-suc-zero, ← pushed-received s (suc b) v)
    (step-endings bs (LineReader.pushed s (suc b)) c (pushed-stays s (suc b) v).valid)

-- ---- the parts as lent

-- enough is lent of sound parts
lent-enough : (l : Lent) (p : Parts) → Sound p → EnoughOfAll l
    → (Receive.valid_parts (lent_of l p) ≡ true) × (LineReader.valid_reader (lent_of l p).reader ≡ true)
    × (received_of (lent_of l p).reader ≡ (view p).received)
unfolding view
lent-enough l p s w =
    let v = (lent-sound l p w s).valid in
    (valid-parts (lent_of l p) v, v.reader, ap (λ (x : State). x.received) (lent_view l p w s.valid))

-- too little is lent: what a call answers that is not refused
unrefused : (a : Answer) → WhereRefused a (λ n. ⊥) → a ≡ refused 12 → ⊥
unrefused a h e = rw e at h

module _ (image piece : List ℕ) (l : Lent) (p : Parts) where
  abbrev q : Parts
  q = lent_of l p

  receive-refused : enough (Histories.receive image piece) l ≡ false → Receive.valid_parts q ≡ false
  unfolding made did Receive.receive_promise
  receive-refused e = by (Receive.valid_parts q) refl
    where
      by : (t : Bool) → Receive.valid_parts q ≡ t → t ≡ false
      by true v =
          absurd
          (unrefused _ (rw v tt) (ap (λ (x : Did). x.answer) (made_12 p (record { lent = l; call = Histories.receive image piece }) e)))
      by false v = refl

  step-refused : enough (Histories.step image piece) l ≡ false → Receive.valid_parts q ≡ false
  unfolding made did Receive.step_promise
  step-refused e = by (Receive.valid_parts q) refl
    where
      by : (t : Bool) → Receive.valid_parts q ≡ t → t ≡ false
      by true v =
          absurd (unrefused _ (rw (v, valid-step-stepped image q piece) tt)
          (ap (λ (x : Did). x.answer) (made_12 p (record { lent = l; call = Histories.step image piece }) e)))
      by false v = refl

-- ---- a call that is refused counts nothing

none-refused : (n : ℕ) (c : Counters) → bumped_for c (Ended.refused n) ≡ c
unfolding bumped_for
none-refused n c = refl

module _ (c : Counters) (p : Parts) (l : Lent) where
  abbrev Unchanged : Call → Type 0
  Unchanged k = IsRefusal (made p (record { lent = l; call = k })).answer → (made_counted c p (record { lent = l; call = k })).block ≡ c

  receive-unchanged : (image piece : List ℕ) (t : Bool) → Receive.valid_parts (lent_of l p) ≡ t → Unchanged (Histories.receive image piece)
  unfolding made did made_counted did_counted Receive.receive_promise count_promise
  receive-unchanged image piece true v h = absurd (rw v at h)
  receive-unchanged image piece false v h = rw v refl

  step-unchanged : (image piece : List ℕ) (t : Bool) → Receive.valid_parts (lent_of l p) ≡ t → Unchanged (Histories.step image piece)
  unfolding made did made_counted did_counted Receive.step_promise
  step-unchanged image piece true v h = absurd (rw (v, valid-step-stepped image (lent_of l p) piece) at h)
  step-unchanged image piece false v h = rw v (none-refused 12 c)

  pub refused-counts : (k : Call) → Unchanged k
  unfolding made_counted did_counted
  refused-counts (Histories.start d) h = refl
  refused-counts (Histories.receive image piece) h = receive-unchanged image piece _ refl h
  refused-counts (Histories.step image piece) h = step-unchanged image piece _ refl h
  refused-counts (Histories.local k) h = refl

-- ---- one call

-- sound parts that hold what stands behind the last 00 of the bytes w
module _ (w : List ℕ) (p : Parts) (s : Sound p) (h : Since (split w).rest (view p)) (c : Counters) where
  -- lent enough, bytes are read
  read-counts : (l : Lent) (bs : List ℕ) → EnoughOfAll l
      → bumped_for_all c (endings (received_of (lent_of l p).reader) bs) ≡ bumped_for_all c (ended_all (closed_behind w bs))
  read-counts l bs k =
      let v = lent-enough l p s k in
      rw (closed-rest w bs, v.2 ∙ h.received, endings-frames bs (split w).rest h.nonzero)

  -- nothing is read
  none-counts : (t : Bool) → c ≡ bumped_for_all c (ended_all (closed_behind w (cond t [] [])))
  unfolding bumped_for_all ended_all
  none-counts true = rw (closed_none w)
  none-counts false = rw (closed_none w)

  abbrev Counts : Lent → Call → Type 0
  Counts l k = (did_counted c (lent_of l p) k).block ≡ bumped_for_all c (ended_all (closed_behind w (cond (enough k l) (piece_read k) [])))

  receive-counts : (image piece : List ℕ) (l : Lent) (t : Bool) → enough (Histories.receive image piece) l ≡ t
      → Counts l (Histories.receive image piece)
  unfolding did_counted piece_read count_promise
  receive-counts image piece l true e =
      let k = widened-enough l p (valid-long {p = p} s.valid) (Histories.receive image piece) e in
      rw (e, (lent-enough l p s k).0) (read-counts l piece k)
  receive-counts image piece l false e = rw (e, receive-refused image piece l p e) (none-counts true)

  step_counts : (image piece : List ℕ) (l : Lent) (t : Bool) → enough (Histories.step image piece) l ≡ t
      → Counts l (Histories.step image piece)
  unfolding did_counted piece_read Receive.step_promise Receive.valid_step
  step_counts image piece l true e =
      let k = widened-enough l p (valid-long {p = p} s.valid) (Histories.step image piece) e in
      let v = lent-enough l p s k in
      rw (e, v.0) (step-endings piece (lent_of l p).reader c v.1 ∙ read-counts l (ListN.take (up_to piece) piece) k)
  step_counts image piece l false e = rw (e, step-refused image piece l p e) (none-refused 12 c ∙ none-counts true)

  any-counts : (l : Lent) (k : Call) → Counts l k
  unfolding did_counted piece_read
  any-counts l (Histories.start d) = none-counts (enough (Histories.start d) l)
  any-counts l (Histories.receive image piece) = receive-counts image piece l _ refl
  any-counts l (Histories.step image piece) = step_counts image piece l _ refl
  any-counts l (Histories.local k) = none-counts (enough (Histories.local k) l)

  pub call-counts : (m : Made) → (made_counted c p m).block ≡ bumped_for_all c (ended_all (closed_behind w (bytes_received_by m)))
  unfolding made_counted bytes_received_by
  call-counts m = any-counts m.lent m.call
