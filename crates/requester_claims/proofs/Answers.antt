-- What is handed out matches the one outstanding, and there is at most one answer for each request.
-- Assumes nothing.
use mathlib.Core.Path.{◌≡◌, refl, sym, ◌∙◌}
use mathlib.Core.Bool.{Bool, true, false, cond, ◌&&◌, false≢true}
use mathlib.Core.List.{List, [], ◌∷◌}
use mathlib.Core.Option.{Option, none, some}
use Prim.Native.Nat.{ℕ, suc, ◌+◌, ◌≤◌}
use native.Mathlib.Nat.{zero-add}
use native.Mathlib.Omega.{arith}
use lib.Dec.{leb, ltb, eqb}
use lib.ListN.{length}
use Rattle.octets.proofs.Conditions.{cond-by}
use Rattle.line.specs.Limits.{longest_data}
use Rattle.line.specs.Numbers.{status_length}
use Rattle.line.specs.Judge.{judge}
use Rattle.line.specs.Judge.{more_received}
use Rattle.requester.specs.Limits.{last_number}
use Rattle.requester.specs.State.{Request, RecoveryStep, fetch, acknowledge, alert, MainState, main_fresh, is_some, outstanding}
use Rattle.requester.specs.State.{request_frame}
use Rattle.requester.specs.Requester
use Rattle.requester.specs.Requester.{Heard, ground, other, answer, hear, settle, stays_out}
use Rattle.requester.specs.Layout
use Rattle.requester.specs.Calls.{MainParts, handed_report_of}
use Rattle.requester_claims.specs.View.{main_view, kept_request_of}
use Rattle.requester_claims.specs.Histories
use Rattle.requester_claims.specs.Histories.{MainCall, received, MainMeans, put_means, main_done_means, main_meant, MainMade, main_made}
use Rattle.requester_claims.specs.Histories.{main_meant_made, main_left, main_enough}
use Rattle.requester_claims.proofs.MeaningLaws.{quiet-byte}
use Rattle.requester_claims.proofs.History.{one_call, started}
use Rattle.requester_claims.specs.Histories.{main_started, OfMainStart, OfValid}
use Rattle.requester_claims.specs.Item2.{AnswerMatches, AnswersCounted, OneAnswerEach}
use Rattle.requester_claims.specs.Answers.{OfReport, OfAnswer, MessageMatching, answers_reported, answers_in, requests_by_call}
use Rattle.requester_claims.specs.Answers.{answers_counted, requests_counted, kept_number}
use Rattle.requester_claims.proofs.AnswerBytes.{ComesAnswer, hands_then, hands-report, receive-hands}

-- ---- answers that match

receive-matches : (piece : List ℕ) (s : MainState) → let h = (Requester.receive s piece).result.handed in
    OfReport (MessageMatching s.newest) (handed_report_of h) (Histories.handed_data h)
receive-matches piece s =
    let r = Requester.receive s piece in
    let P = ComesAnswer s.newest piece s.received r.used in
    let h = r.result.handed in
    hands-report (MessageMatching s.newest) h (hands_then P (MessageMatching s.newest) (λ m w. w.1) h (receive-hands piece s))

module _ (s : MainState) where
  abbrev MeansMatches : MainMeans → Type 0
  MeansMatches x = OfAnswer (λ used. MessageMatching s.newest) x.answer x.out

  put-matches : (room : List ℕ) (x : Requester.MainDone) → MeansMatches (put_means x.refusal room x.out x.state)
  put-matches room x = by x.refusal
    where
      by : (k : Option ℕ) → MeansMatches (put_means k room x.out x.state)
      by none = tt
      by (some k) = tt

  done-matches : (k : Option ℕ) (t : MainState) → MeansMatches (main_done_means k t)
  done-matches none t = tt
  done-matches (some k) t = tt

  meant-matches : (c : MainCall) → MeansMatches (main_meant s c)
  unfolding main_meant
  meant-matches Histories.start = tt
  meant-matches (Histories.request command d room) =
      put-matches room (Requester.request (length room) (record { command = command; payload = d }) s)
  meant-matches Histories.interrupt = done-matches (Requester.interrupt s).refusal s
  meant-matches (Histories.send room) = put-matches room (Requester.send (length room) s)
  meant-matches (Histories.receive piece) = receive-matches piece s
  meant-matches Histories.state = tt

  made-matches : (m : MainMade) → MeansMatches (main_meant_made s m)
  unfolding main_meant_made
  made-matches m = cond-by MeansMatches (main_enough m.call m.lent) _ _ (λ _. meant-matches m.call) (λ _. tt)

newest-is : (p : MainParts) → Layout.newest_number p.requester ≡ (main_view p).newest
unfolding main_view
newest-is p = refl

pub answer_matches : OfValid AnswerMatches
answer_matches p v [] = tt
answer_matches p v (m ∷ ms) =
    let k = one_call p m v in
    (rw (k.answer, k.out, newest-is p) (made-matches (main_view p) m), answer_matches (main_made p m).parts k.valid ms)

-- ---- at most one answer for each request: what a byte does to it

-- handed out as an answer, or not
abbrev answers_out : Requester.Handed → ℕ
answers_out h = answers_reported (handed_report_of h)

-- an answer leaves none outstanding, and one was
data Counted (k : Bool) (o : Requester.HeardOutcome) : Type 0 where
  no_answer : answers_out o.handed ≡ 0 → Counted k o
  one_answer : answers_out o.handed ≡ 1 → k ≡ true → o.next ≡ Requester.idle → Counted k o

settled-counted : (t : Option RecoveryStep) (k : Bool) (h : Heard) → Counted k (settle t k h)
unfolding settle handed_report_of Requester.fetched
settled-counted none false h = no_answer refl
settled-counted none true ground = no_answer refl
settled-counted none true other = no_answer refl
settled-counted none true (answer m) = one_answer refl refl refl
settled-counted (some t) k ground = no_answer refl
settled-counted (some t) k other = no_answer refl
settled-counted (some fetch) k (answer m) =
    cond-by (Counted k) (eqb m.command 0x06 && eqb (length m.payload) status_length) _ _ (λ _. no_answer refl) (λ _. no_answer refl)
settled-counted (some acknowledge) k (answer m) = no_answer refl
settled-counted (some alert) k (answer m) = no_answer refl

kept-one : (k : Option Request) → is_some k ≡ true → kept_number k ≡ 1
kept-one none e = absurd (false≢true e)
kept-one (some q) e = refl

moved-kept : (x : Requester.Next) (s : MainState) → kept_number (Requester.main_moved_to x s).state.kept ≤ kept_number s.kept
unfolding Requester.main_moved_to
moved-kept Requester.same s = omega arith
moved-kept Requester.again s = omega arith
moved-kept (Requester.anew t) s =
    cond-by (λ (m : Requester.MainMoved). kept_number m.state.kept ≤ kept_number s.kept) (leb last_number s.newest) _ _
    (λ _. omega arith) (λ _. omega arith)
moved-kept Requester.idle s = omega arith

idle-kept : (s : MainState) → kept_number (Requester.main_moved_to Requester.idle s).state.kept ≡ 0
unfolding Requester.main_moved_to
idle-kept s = refl

-- what came of a byte: answers out and kept behind it, against kept ahead of it
abbrev Balanced : MainState → Requester.MainResult → Type 0
Balanced s x = answers_out x.handed + kept_number x.state.kept ≤ kept_number s.kept

module _ (s : MainState) where
  hears-balanced : (h : Heard) → Balanced s (Requester.after_heard h s)
  hears-balanced h = by (settle s.recovery (is_some s.kept) h) (settled-counted s.recovery (is_some s.kept) h)
    where
      by : (o : Requester.HeardOutcome) → Counted (is_some s.kept) o
          → answers_out o.handed + kept_number (Requester.main_moved_to o.next s).state.kept ≤ kept_number s.kept
      by o (no_answer e) = omega (arith, moved-kept o.next s)
      by o (one_answer e k n) = rw (n, idle-kept s, e) (omega (arith, kept-one s.kept k))

nothing-balanced : (s t : MainState) → t.kept ≡ s.kept → Balanced s (Requester.dropped t)
unfolding handed_report_of
nothing-balanced s t e = rw e (omega arith)

module _ (s : MainState) where
  closes-balanced : (bs : Option (List ℕ)) → Balanced s (Requester.main_closed bs (Requester.main_with_received s (some [])))
  closes-balanced none = nothing-balanced s (Requester.main_with_received s (some [])) refl
  closes-balanced (some []) = nothing-balanced s (Requester.main_with_received s (some [])) refl
  closes-balanced (some (b ∷ bs)) = hears-balanced (Requester.main_with_received s (some [])) (hear s.newest (judge (b ∷ bs)))

  more-balanced : (bs : Option (List ℕ)) (b : ℕ) → Balanced s (Requester.main_more bs b s)
  more-balanced bs b =
      let x = Requester.main_with_received s (more_received bs b) in
      cond-by (Balanced s) (Requester.fills bs) _ _ (λ _. hears-balanced x ground) (λ _. nothing-balanced s x refl)

  byte-balanced : (b : ℕ) → Balanced s (Requester.main_byte s b)
  unfolding Requester.main_byte
  byte-balanced b = cond-by (Balanced s) (eqb b 0) _ _ (λ _. closes-balanced s.received) (λ _. more-balanced s.received b)

receive-balanced : (piece : List ℕ) (s : MainState) → Balanced s (Requester.receive s piece).result
unfolding Requester.receive
receive-balanced [] s = nothing-balanced s s refl
receive-balanced (b ∷ bs) s = by (Requester.stops s b) refl (λ x. receive-balanced bs (Requester.main_with_received s x))
  where
    by : (t : Bool) → Requester.stops s b ≡ t
        → ((x : Option (List ℕ)) → Balanced s (Requester.receive (Requester.main_with_received s x) bs).result)
        → let r = Requester.receive (Requester.main_byte s b).state bs in Balanced s (cond t
        (Requester.main_received 1 (Requester.main_byte s b)) (Requester.main_received (suc r.used) r.result)).result
    by true e i = byte-balanced s b
    by false e i = rw (quiet-byte s b e) (i (more_received s.received b))

-- ---- what a call does to it

module _ (s : MainState) where
  abbrev MeansBalanced : MainCall → MainMeans → Type 0
  MeansBalanced c x = answers_in x.answer + kept_number x.state.kept ≤ requests_by_call c x.answer + kept_number s.kept

  abbrev PutBalanced : MainCall → List ℕ → Requester.MainDone → Type 0
  PutBalanced c room x = MeansBalanced c (put_means x.refusal room x.out x.state)

  request-balanced : (command : ℕ) (d room : List ℕ) → let c = Histories.request command d room in
      PutBalanced c room (Requester.request (length room) (record { command = command; payload = d }) s)
  unfolding Requester.request
  request-balanced command d room =
      let c = Histories.request command d room in
      let q : Request = record { command = command; payload = d } in
      cond-by (PutBalanced c room) (ltb longest_data (length d)) _ _ (λ _. omega arith) (λ _.
      cond-by (PutBalanced c room) (is_some (outstanding s)) _ _ (λ _. omega arith) (λ _.
      cond-by (PutBalanced c room) (leb last_number s.newest) _ _ (λ _. omega arith) (λ _.
      cond-by (PutBalanced c room) (ltb (length room) (length (request_frame (suc s.newest) q))) _ _ (λ _. omega arith) (λ _. kept q))))
    where
      kept : (q : Request) → 0 + kept_number (Requester.keep q) ≤ cond (stays_out q.command) 1 0 + kept_number s.kept
      kept q = by (stays_out q.command)
        where
          by : (b : Bool) → 0 + kept_number (cond b (some q) none) ≤ cond b 1 0 + kept_number s.kept
          by true = omega arith
          by false = omega arith

  interrupt-balanced : (t : Option RecoveryStep)
      → MeansBalanced Histories.interrupt (main_done_means (Requester.interrupted_in t s).refusal (Requester.interrupted_in t s).state)
  interrupt-balanced (some t) = omega arith
  interrupt-balanced none =
      cond-by (λ (x : Requester.MainDone). MeansBalanced Histories.interrupt (main_done_means x.refusal x.state))
      (leb last_number s.newest) _ _ (λ _. omega arith) (λ _. omega arith)

  send-balanced : (room : List ℕ) (q : Option Request) → PutBalanced (Histories.send room) room (Requester.sent_of (length room) q s)
  send-balanced room none = omega arith
  send-balanced room (some q) =
      let c = Histories.send room in
      cond-by (PutBalanced c room) s.unsent _ _
      (λ _.
      cond-by (PutBalanced c room) (ltb (length room) (length (request_frame s.newest q))) _ _ (λ _. omega arith) (λ _. omega arith))
      (λ _. omega arith)

  meant-balanced : (c : MainCall) → MeansBalanced c (main_meant s c)
  unfolding main_meant Requester.interrupt Requester.send main_fresh
  meant-balanced Histories.start = omega arith
  meant-balanced (Histories.request command d room) = request-balanced command d room
  meant-balanced Histories.interrupt = interrupt-balanced s.recovery
  meant-balanced (Histories.send room) = send-balanced room (outstanding s)
  meant-balanced (Histories.receive piece) = rw zero-add (receive-balanced piece s)
  meant-balanced Histories.state = omega arith

  made-balanced : (m : MainMade) → MeansBalanced m.call (main_meant_made s m)
  unfolding main_meant_made
  made-balanced m =
      cond-by (MeansBalanced m.call) (main_enough m.call m.lent) _ _ (λ _. meant-balanced m.call) (λ _. omega arith)

kept-is : (p : MainParts) → (main_view p).kept ≡ kept_request_of p.requester
unfolding main_view
kept-is p = refl

-- ---- the claim

pub answers-counted : OfValid AnswersCounted
unfolding answers_counted requests_counted main_left
answers-counted p v [] = omega arith
answers-counted p v (m ∷ ms) =
    let k = one_call p m v in
    let i = answers-counted (main_made p m).parts k.valid ms in
    let b = rw (← k.answer, ← k.state, kept-is, kept-is) at (made-balanced (main_view p) m) in
    omega arith

fresh-none : main_fresh.kept ≡ none
unfolding main_fresh
fresh-none = refl

pub one_answer_each : OfMainStart OneAnswerEach
one_answer_each p l h ms =
    let k = started p l h in
    let q = main_started p l in
    let e : kept_request_of q.requester ≡ none = sym (kept-is q) ∙ rw k.state fresh-none in
    let i = rw e at (answers-counted q k.valid ms) in
    omega arith

pub answer_matches_started : OfMainStart AnswerMatches
answer_matches_started p l h = answer_matches _ (started p l h).valid
