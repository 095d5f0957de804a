-- The bytes before the 00 at which an answer or a status is handed out.
-- The line layer's tests find them to be its message, and that message matches the newest number. Assumes nothing.
use mathlib.Core.Path.{◌≡◌, refl, sym, ap, ◌∙◌}
use mathlib.Core.Bool.{Bool, true, false, cond, not, ◌&&◌, false≢true, and-eq-true_iff}
use mathlib.Core.List.{List, [], ◌∷◌, ◌++◌, append-nil}
use mathlib.Core.Option.{Option, none, some}
use Prim.Native.Nat.{ℕ, suc, ◌^◌, ◌≤◌}
use native.Mathlib.Omega.{arith}
use lib.Dec.{ltb, eqb}
use lib.ListN.{length}
use lib.Seq.{append_snoc}
use borrow.Author.Tests.{not-false, eqb-true, eq-eqb}
use Rattle.octets.proofs.Conditions.{cond-by}
use Rattle.line.specs.Numbers.{status_length}
use Rattle.line.specs.Message.{Message}
use Rattle.line.specs.Judge.{LineVerdict, failure, good, judge}
use Rattle.line.specs.Judge.{more_received}
use Rattle.line.proofs.Judged.{more-some}
use Rattle.requester.specs.State.{RecoveryStep, fetch, acknowledge, alert, MainState, is_some}
use Rattle.requester.specs.Requester
use Rattle.requester.specs.Requester.{Handed, Heard, ground, other, answer, hear, fails_decode, reply_sequence, settle}
use Rattle.requester.specs.Calls.{handed_report_of}
use Rattle.requester_claims.specs.View.{main_view}
use Rattle.requester_claims.specs.Histories
use Rattle.requester_claims.specs.Histories.{received, MainMeans, main_meant, main_meant_made, main_enough, OfValid}
use Rattle.requester_claims.proofs.MeaningLaws.{quiet-byte, quiet-positive}
use Rattle.requester_claims.proofs.History.{one_call}
use Rattle.requester_claims.specs.Answers.{StatusFrom, OfReport, OfAnswer, MessageMatching}
use Rattle.requester_claims.specs.Item6.{Comes, AnswerBytes}

-- ---- a frame

-- an answer is a good message
abbrev pub HeardGood : LineVerdict → Heard → Type 0
HeardGood v ground = Unit {0}
HeardGood v other = Unit {0}
HeardGood v (answer m) = v ≡ good m

pub heard-good : (n : ℕ) (v : LineVerdict) → HeardGood v (hear n v)
unfolding hear
heard-good n (failure reason sequence) = tt
heard-good n (good m) =
    cond-by P (not (eqb m.version 1)) _ _ (λ _. tt) (λ _.
    cond-by P (ltb m.sequence (2 ^ 63)) _ _ (λ _. tt) (λ _.
    cond-by P (fails_decode n m) _ _ (λ _. tt) (λ _.
    cond-by P (eqb m.sequence (reply_sequence n)) _ _ (λ _. refl) (λ _. tt))))
  where
    P : Heard → Type 0
    P = HeardGood (good m)

-- an answer matches the newest number
abbrev pub HeardMatches : ℕ → Heard → Type 0
HeardMatches n ground = Unit {0}
HeardMatches n other = Unit {0}
HeardMatches n (answer m) = MessageMatching n m

pub heard-matches : (n : ℕ) (v : LineVerdict) → HeardMatches n (hear n v)
unfolding hear
heard-matches n (failure reason sequence) = tt
heard-matches n (good m) =
    cond-by (HeardMatches n) (not (eqb m.version 1)) _ _ (λ _. tt) (λ a.
    cond-by (HeardMatches n) (ltb m.sequence (2 ^ 63)) _ _ (λ _. tt) (λ _.
    cond-by (HeardMatches n) (fails_decode n m) _ _ (λ _. tt) (λ f.
    cond-by (HeardMatches n) (eqb m.sequence (reply_sequence n)) _ _ (λ q. record {
      version_1 = eqb-true _ _ (not-false _ a);
      reply = eqb-true _ _ q;
      no_failure = λ c. false≢true (sym f ∙ rw (eq-eqb m.command 0x02 c, q));
    }) (λ _. tt))))

-- a property of the message that is handed out, or that a status comes from
abbrev pub Hands : (Message → Type 0) → Handed → Type 0
Hands P Requester.nothing = Unit {0}
Hands P (Requester.answered m) = P m
Hands P (Requester.status s o n) = StatusFrom P s o n
Hands P (Requester.alerted m) = P m

module _ (P : Message → Type 0) where
  abbrev HeardHas : Heard → Type 0
  HeardHas ground = Unit {0}
  HeardHas other = Unit {0}
  HeardHas (answer m) = P m

  settled-hands : (t : Option RecoveryStep) (k : Bool) (h : Heard) → HeardHas h → Hands P (settle t k h).handed
  unfolding settle Requester.fetched
  settled-hands none false h w = tt
  settled-hands none true ground w = tt
  settled-hands none true other w = tt
  settled-hands none true (answer m) w = w
  settled-hands (some t) k ground w = tt
  settled-hands (some t) k other w = tt
  settled-hands (some fetch) k (answer m) w =
      cond-by (λ (o : Requester.HeardOutcome). Hands P o.handed) (eqb m.command 0x06 && eqb (length m.payload) status_length) _ _
      (λ e.
      let t = (and-eq-true_iff (eqb m.command 0x06) _).0 e in
      record {
        from = m;
        shape = record { command = eqb-true _ _ t.0; size = eqb-true _ _ t.1; status = refl; options = refl; set_bits = refl };
        holds = w;
      })
      (λ _. tt)
  settled-hands (some acknowledge) k (answer m) w = tt
  settled-hands (some alert) k (answer m) w = w

-- ---- a byte

-- it is a 00, and the message is what the tests find in the bytes before it
abbrev Closes : Option (List ℕ) → ℕ → Message → Type 0
Closes bs b m = (b ≡ 0) × (xs : List ℕ) × (bs ≡ some xs) × (judge xs ≡ good m)

module _ (s : MainState) where
  -- and it matches the newest number
  abbrev ClosesAnswer : Option (List ℕ) → ℕ → Message → Type 0
  ClosesAnswer bs b m = Closes bs b m × MessageMatching s.newest m

  closes-hands : (b : ℕ) → b ≡ 0 → (bs : Option (List ℕ))
      → Hands (ClosesAnswer bs b) (Requester.main_closed bs (Requester.main_with_received s (some []))).handed
  closes-hands b z none = tt
  closes-hands b z (some []) = tt
  closes-hands b z (some (x ∷ xs)) =
      settled-hands (ClosesAnswer (some (x ∷ xs)) b) s.recovery (is_some s.kept) _
      (by (hear s.newest (judge (x ∷ xs))) (heard-good s.newest (judge (x ∷ xs))) (heard-matches s.newest (judge (x ∷ xs))))
    where
      by : (h : Heard) → HeardGood (judge (x ∷ xs)) h → HeardMatches s.newest h → HeardHas (ClosesAnswer (some (x ∷ xs)) b) h
      by ground g k = tt
      by other g k = tt
      by (answer m) g k = ((z, x ∷ xs, refl, g), k)

  more-hands : (bs : Option (List ℕ)) (b : ℕ) → Hands (ClosesAnswer s.received b) (Requester.main_more bs b s).handed
  more-hands bs b =
      cond-by (λ (x : Requester.MainResult). Hands (ClosesAnswer s.received b) x.handed) (Requester.fills bs) _ _
      (λ _. settled-hands (ClosesAnswer s.received b) s.recovery (is_some s.kept) ground tt) (λ _. tt)

  byte-hands : (b : ℕ) → Hands (ClosesAnswer s.received b) (Requester.main_byte s b).handed
  unfolding Requester.main_byte
  byte-hands b =
      cond-by (λ (x : Requester.MainResult). Hands (ClosesAnswer s.received b) x.handed) (eqb b 0) _ _
      (λ e. closes-hands b (eqb-true b 0 e) s.received) (λ _. more-hands s.received b)

-- ---- a piece

-- a property that follows from another
pub hands_then : (P Q : Message → Type 0) → ((m : Message) → P m → Q m) → (h : Handed) → Hands P h → Hands Q h
hands_then P Q f Requester.nothing w = tt
hands_then P Q f (Requester.answered m) w = f m w
hands_then P Q f (Requester.status s o n) w = record { from = w.from; shape = w.shape; holds = f w.from w.holds }
hands_then P Q f (Requester.alerted m) w = f m w

at-once : (b : ℕ) (bs : List ℕ) (x : Option (List ℕ)) (m : Message) → Closes x b m → Comes (b ∷ bs) x 1 m
at-once b bs x m w =
    record {
      ended = record { since = w.1; ahead = 0; begun = w.2; read = refl; closed = w.0 };
      whole = tt;
      judged = rw append-nil w.3;
    }

later : (b : ℕ) (bs : List ℕ) → 1 ≤ b → (x : Option (List ℕ)) (used : ℕ) (m : Message) → Comes bs (more_received x b) used m
    → Comes (b ∷ bs) x (suc used) m
unfolding more_received
later b bs z none used m w = let f : ◌≡◌ {A = ℕ} 0 1 = (let e = w.ended.begun in cc) in absurd (omega arith)
later b bs z (some xs) used m w =
    let x = w.ended in
    let f : x.since ≡ xs ++ b ∷ [] = more-some xs x.since b x.begun in
    record {
      ended = record { since = xs; ahead = suc x.ahead; begun = refl; read = ap suc x.read; closed = x.closed };
      whole = (z, w.whole);
      judged = rw append_snoc at (rw f at w.judged);
    }

-- the message comes of the piece, and matches the newest number
abbrev pub ComesAnswer : ℕ → List ℕ → Option (List ℕ) → ℕ → Message → Type 0
ComesAnswer n piece bs used m = Comes piece bs used m × MessageMatching n m

pub receive-hands : (piece : List ℕ) (s : MainState)
    → Hands (ComesAnswer s.newest piece s.received (Requester.receive s piece).used) (Requester.receive s piece).result.handed
unfolding Requester.receive
receive-hands [] s = tt
receive-hands (b ∷ bs) s = by (Requester.stops s b) refl (λ x. receive-hands bs (Requester.main_with_received s x))
  where
    P : Requester.MainReceived → Type 0
    P x = Hands (ComesAnswer s.newest (b ∷ bs) s.received x.used) x.result.handed

    by : (t : Bool) → Requester.stops s b ≡ t
        → ((x : Option (List ℕ)) → let r = Requester.receive (Requester.main_with_received s x) bs in
        Hands (ComesAnswer s.newest bs x r.used) r.result.handed)
        → let r = Requester.receive (Requester.main_byte s b).state bs in P (cond t (Requester.main_received 1 (Requester.main_byte s b))
        (Requester.main_received (suc r.used) r.result))
    by true e i =
        hands_then (ClosesAnswer s s.received b) _ (λ m w. (at-once b bs s.received m w.0, w.1)) (Requester.main_byte s b).handed
        (byte-hands s b)
    by false e i =
        let x = more_received s.received b in
        let r = Requester.receive (Requester.main_with_received s x) bs in
        rw (quiet-byte s b e)
        (hands_then (ComesAnswer s.newest bs x r.used) _
        (λ m w. (later b bs (quiet-positive s b e) s.received r.used m w.0, w.1)) r.result.handed (i x))

-- ---- a call

pub hands-report : (P : Message → Type 0) (h : Handed) → Hands P h → OfReport P (handed_report_of h) (Histories.handed_data h)
unfolding handed_report_of Histories.handed_data
hands-report P Requester.nothing w = tt
hands-report P (Requester.answered m) w = w
hands-report P (Requester.status s o n) w = w
hands-report P (Requester.alerted m) w = w

pub answer_bytes : OfValid AnswerBytes
unfolding main_meant_made main_meant
answer_bytes p v l piece =
    let k = one_call p (record { lent = l; call = Histories.receive piece }) v in
    let s = main_view p in
    let r = Requester.receive s piece in
    rw (k.answer, k.out)
    (cond-by (λ (x : MainMeans). OfAnswer (ComesAnswer s.newest piece s.received) x.answer x.out)
    (main_enough (Histories.receive piece) l) _ _
    (λ _. hands-report (ComesAnswer s.newest piece s.received r.used) r.result.handed (receive-hands piece s))
    (λ _. tt))
