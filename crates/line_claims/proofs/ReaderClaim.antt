-- Demand 3's claim over lists of calls of a line reader, the law of any stream behind it, and the cut law.
-- Assumes nothing.
use mathlib.Core.Path.{◌≡◌, refl, sym, ap, ◌∙◌}
use mathlib.Core.Bool.{true}
use mathlib.Core.List.{List, [], ◌∷◌, ◌++◌, map, map-append, append_assoc}
use mathlib.Core.Option.{some}
use Prim.Native.Nat.{ℕ, zero, suc, ◌≤◌}
use native.Mathlib.Omega.{arith}
use lib.Dec.{leb, ltb}
use lib.ListN.{length}
use borrow.Author.Tests.{leb-true, le-leb}
use Rattle.octets.specs.Bytes.{Each}
use Rattle.line.specs.Limits.{longest_form}
use Rattle.line.specs.Message.{Message, InRange}
use Rattle.line.specs.Judge.{LineVerdict, failure, good, judge, progress_of, judge_received}
use Rattle.line.specs.Reader.{verdict_report, reader_length, received_of, valid_reader, reader_fresh, FrameOutcome, finish}
use Rattle.line.specs.Reader.{ReaderStartOutcome}
use Rattle.line.specs.Reader.{reader_start_promise, tail_of, tail_promise}
use Rattle.octets.proofs.Conditions.{cond-by, cond_both}
use Rattle.line.proofs.Judged.{tail_within, more-tail, judged-progress}
use Rattle.line.proofs.Lent.{received-append, valid-append}
use Rattle.line.proofs.Received.{valid-long, fresh-received, fresh-stays, pushed-received, pushed-stays, finish-received, finish-stays}
use Rattle.line.proofs.Received.{finish-data}
use Rattle.line_claims.proofs.JudgeClaim.{judge-of-message}
use Rattle.line.specs.Frame.{split, non_empty, form}
use Rattle.line.proofs.Pieces.{split-close, split-more, non_empty-append}
use Rattle.line_claims.proofs.WireClaim.{wire-forms, wire-range}
use Rattle.line_claims.proofs.LoanLaws.{lent-enough, front}
use Rattle.line_claims.specs.Calls.{LineCall, read, start, lent_state, back, messages_handed, reasons_reported, answers_to00, Reader}
use Rattle.line_claims.specs.Calls.{reader_on}
use Rattle.line_claims.specs.Calls.{after_restart, after_start, after_line_call, after_line_calls, fresh_reader}
use Rattle.line_claims.specs.Calls.{tail_meant, frame_report, gathered, good_messages, failure_reasons}
use Rattle.line_claims.proofs.Streams.{after_byte, stream, stream-read, bytes_read, call-stream, reads-stream}
use Rattle.line_claims.specs.Demand3.{HandsOut, AnyStream, AnyMessages, AnyFailures, AnyTail, LineCut}
use Rattle.line_claims.specs.Demand1.{StaysValid}

pub gathered-append : {A : Type 0} (f : LineVerdict → List A) (ps qs : List (List ℕ))
    → gathered f (ps ++ qs) ≡ gathered f ps ++ gathered f qs
unfolding gathered
gathered-append f [] qs = refl
gathered-append f (p ∷ ps) qs = rw (gathered-append f ps qs, append_assoc)

-- of messages' forms
good-forms : (ms : List Message) → Each InRange ms → good_messages (map form ms) ≡ ms
unfolding gathered
good-forms [] r = refl
good-forms (m ∷ ms) r = rw (judge-of-message m r.0, good-forms ms r.1)

reasons-forms : (ms : List Message) → Each InRange ms → failure_reasons (map form ms) ≡ []
unfolding gathered
reasons-forms [] r = refl
reasons-forms (m ∷ ms) r = rw (judge-of-message m r.0) (reasons-forms ms r.1)

-- ---- one 00

-- what a 00 gives is the verdict on the bytes before it
pub record Judged (t : List ℕ) (x : FrameOutcome) : Type 0 where
  pub answer : x.answer ≡ frame_report t
  pub answered : answers_to00 x.answer ≡ frame_report t ∷ []
  pub messages : messages_handed x.answer x.state ≡ good_messages (non_empty (t ∷ []))
  pub failures : reasons_reported x.answer ≡ failure_reasons (non_empty (t ∷ []))

module _ (s : List ℕ) (valid : valid_reader s ≡ true) where
  judged-by : (b : ℕ) (bs : List ℕ) (v : LineVerdict) → judge (b ∷ bs) ≡ v → judge_received (received_of s) ≡ some v
      → Judged (b ∷ bs) (finish s)
  unfolding finish frame_report gathered non_empty answers_to00 messages_handed reasons_reported verdict_report
  judged-by b bs (failure reason sequence) j e = rw e (record { answer = rw j; answered = rw j; messages = rw j; failures = rw j })
  judged-by b bs (good m) j e =
      let d = finish-data s valid m e in
      rw e (record { answer = rw j; answered = rw j; messages = rw (j, d); failures = rw j })

  pub judged : (t : List ℕ) → received_of s ≡ progress_of t → Judged t (finish s)
  unfolding finish frame_report gathered non_empty answers_to00 messages_handed reasons_reported
  judged [] e = rw (e, tail_within [] (omega arith)) (record { answer = refl; answered = refl; messages = refl; failures = refl })
  judged (b ∷ bs) e = judged-by b bs (judge (b ∷ bs)) refl (rw e (judged-progress b bs))

-- ---- a reader and the bytes that it has read

-- the state holds the bytes after the last 00, and what was answered before is the verdict on each piece
record Follows (r : Reader) : Type 0 where
  valid : valid_reader r.state ≡ true
  received : received_of r.state ≡ progress_of (split r.bytes).rest
  answered : r.answered ≡ map frame_report (split r.bytes).closed
  messages : r.messages ≡ good_messages (non_empty (split r.bytes).closed)
  failures : r.failures ≡ failure_reasons (non_empty (split r.bytes).closed)

fresh-follows : (s : List ℕ) → valid_reader s ≡ true → received_of s ≡ some [] → Follows (reader_on s)
unfolding reader_on split gathered non_empty
fresh-follows s v e =
    record { valid = v; received = e ∙ sym (tail_within [] (omega arith)); answered = refl; messages = refl; failures = refl }

byte-follows : (r : Reader) (b : ℕ) → Follows r → Follows (after_byte r b)
unfolding after_byte
byte-follows r zero f =
    let j = judged r.state f.valid (split r.bytes).rest f.received in
    record {
      valid = (finish-stays r.state f.valid).valid;
      received = rw (split-close r.bytes) (finish-received r.state f.valid ∙ sym (tail_within [] (omega arith)));
      answered = rw (split-close r.bytes, map-append, f.answered, j.answered);
      messages = rw (split-close r.bytes, non_empty-append, gathered-append, f.messages, j.messages);
      failures = rw (split-close r.bytes, non_empty-append, gathered-append, f.failures, j.failures);
    }
byte-follows r (suc b) f = record {
  valid = (pushed-stays r.state (suc b) f.valid).valid;
  received = rw (split-more r.bytes b, ← more-tail, ← f.received) (pushed-received r.state (suc b) f.valid);
  answered = rw (split-more r.bytes b) f.answered;
  messages = rw (split-more r.bytes b) f.messages;
  failures = rw (split-more r.bytes b) f.failures;
}

stream-follows : (bs : List ℕ) (r : Reader) → Follows r → Follows (stream r bs)
unfolding stream
stream-follows [] r f = f
stream-follows (b ∷ bs) r f = stream-follows bs (after_byte r b) (byte-follows r b f)

call-follows : (r : Reader) (c : LineCall) → Follows r → Follows (after_line_call r c)
unfolding after_line_call after_start reader_start_promise after_restart
call-follows r (read c) f = rw (call-stream r c) (stream-follows (bytes_read r c) r f)
call-follows r (start lent) f =
    let t = lent_state lent r.state in
    cond-by (λ (x : ReaderStartOutcome). Follows (after_restart r (back lent r.state x.state) x.refusal))
    (leb reader_length (length t)) _ _
    (λ e.
    let l = leb-true reader_length (length t) e in
    let c = (fresh-stays t l).valid in
    let k = valid-long (reader_fresh t) c in
    let b = front reader_length lent r.state (lent-enough reader_length r.state lent (omega arith) l) in
    let u = b.rest in
    rw b.back
    (fresh-follows (reader_fresh t ++ u) (valid-append (reader_fresh t) u k ∙ c) (received-append (reader_fresh t) u k
    ∙ fresh-received t l)))
    (λ e. f)

calls-follow : (cs : List LineCall) (r : Reader) → Follows r → Follows (after_line_calls r cs)
unfolding after_line_calls
calls-follow [] r f = f
calls-follow (c ∷ cs) r f = calls-follow cs (after_line_call r c) (call-follows r c f)

-- ---- the claims

module _ (room : List ℕ) (enough : reader_length ≤ length room) (cs : List LineCall) where
  follows : Follows (after_line_calls (fresh_reader room) cs)
  unfolding fresh_reader reader_start_promise
  follows =
      rw (le-leb reader_length (length room) enough)
      (calls-follow cs (reader_on (reader_fresh room))
      (fresh-follows (reader_fresh room) (fresh-stays room enough).valid (fresh-received room enough)))

  pub any_stream : AnyStream (after_line_calls (fresh_reader room) cs)
  any_stream = follows.answered

  pub any_messages : AnyMessages (after_line_calls (fresh_reader room) cs)
  any_messages = follows.messages

  pub any_failures : AnyFailures (after_line_calls (fresh_reader room) cs)
  any_failures = follows.failures

  pub hands_out : HandsOut (after_line_calls (fresh_reader room) cs)
  hands_out ms w = (
    any_messages ∙ ap good_messages (wire-forms w) ∙ good-forms ms (wire-range w),
    any_failures ∙ ap failure_reasons (wire-forms w) ∙ reasons-forms ms (wire-range w),
  )

  pub stays_valid : StaysValid (after_line_calls (fresh_reader room) cs)
  stays_valid = follows.valid

  pub any_tail : AnyTail (after_line_calls (fresh_reader room) cs)
  unfolding tail_promise tail_meant progress_of
  any_tail =
      let t = (split (after_line_calls (fresh_reader room) cs).bytes).rest in
      rw (stays_valid, follows.received)
      (cond_both (λ x y. tail_of x ≡ y) (ltb longest_form (length t)) (λ e. refl) (λ e. refl))

pub cut : LineCut
unfolding reader_on
cut s cs ds e =
    let p = reads-stream (reader_on s) cs in
    let q = reads-stream (reader_on s) ds in
    let same : p.0 ≡ q.0 = cc (p.1, q.1, stream-read (reader_on s) p.0, stream-read (reader_on s) q.0) in
    p.1 ∙ ap (stream (reader_on s)) same ∙ sym q.1
