-- What a call of the line reader reads, and when it is refused; that what the writer put out is what the reader hands out.
-- Assumes nothing.
use mathlib.Core.Path.{◌≡◌, refl, sym, ap, ◌∙◌}
use mathlib.Core.Bool.{Bool, true, false, cond, not}
use mathlib.Core.List.{List, [], ◌∷◌, append-nil}
use mathlib.Core.Logic.{◌↔◌, inl, inr}
use mathlib.Core.Option.{Option, none, some}
use Prim.Native.Nat.{ℕ, zero, suc, ◌≤◌}
use native.Mathlib.Omega.{arith}
use lib.Dec.{leb, ltb, eqb, eqb-suc-zero}
use lib.ListN.{length}
use borrow.Author.Tests.{le-leb, lt-leb, le-ltb, lt-ltb, leb-true, leb-false}
use Rattle.octets.proofs.Conditions.{cond-by}
use Rattle.line.specs.Limits.{longest_data}
use Rattle.line.specs.Frame.{frame}
use Rattle.line.specs.Judge.{LineVerdict, failure, good, judge_received}
use Rattle.line.specs.Reader.{ReadReport, refused, more, empty, message, failed, verdict_report, closed_report, reader_length, received_of}
use Rattle.line.specs.Reader.{valid_reader, pushed, finish, collect_promise}
use Rattle.line.specs.Reader.{ReadOutcome, one_byte_later, read_piece, read_promise, ReaderStartOutcome, reader_start_promise, TailReport}
use Rattle.line.specs.Reader.{unfinished, longer, tail_of, tail_promise}
use Rattle.line.specs.Reader.{data_given_promise}
use Rattle.line.specs.Writer
use Rattle.line.proofs.Ahead.{ahead-nonzero, ahead-prefix, ahead-stops, collect-more}
use Rattle.line.proofs.Received.{valid-long, short-invalid, data-refused}
use Rattle.line.proofs.Lent.{valid-append}
use Rattle.line_claims.proofs.CobsClaims.{frame_fits}
use Rattle.line_claims.proofs.LoanLaws.{back-same, lent-long, lent-short, front}
use Rattle.line_claims.specs.Calls.{LineCall, read, start, lent_state, messages_handed, reasons_reported, answers_to00, after_line_read}
use Rattle.line_claims.specs.Calls.{after_outcome}
use Rattle.line_claims.specs.Calls.{after_restart, after_start, after_line_call, after_line_calls, fresh_reader}
use Rattle.line_claims.proofs.WriterClaim.{sent-wire}
use Rattle.line_claims.proofs.ReaderClaim.{hands_out, stays_valid}
use Rattle.line_claims.specs.Demand1.{NotRefused, LineRefusedExactly, RefusedNothing, TooLittle12, TooLittleNothing, LineNever12}
use Rattle.line_claims.specs.Demand1.{TailRefusedExactly, DataRefusedExactly, DataNotHanded, StartRefusedExactly, StartUntouched}
use Rattle.line_claims.specs.Demand3.{Stops, AcceptedStops, CollectReads, SentHanded, RoomEnough}
use Rattle.octets.specs.TableTests.{first_failing}

-- ---- What a call reads

later : (b : ℕ) (bs : List ℕ) (used : ℕ) → Stops bs used → Stops (b ∷ bs) (suc used)
later b bs used (inl e) = inl (omega arith)
later b bs used (inr q) = inr (suc q.0, omega arith, omega arith, q.3)

stops : (s piece : List ℕ) → Stops piece (read_piece s piece).used
unfolding read_piece one_byte_later
stops s [] = inl refl
stops s (zero ∷ bs) = inr (0, refl, omega arith, refl)
stops s (suc b ∷ bs) = rw eqb-suc-zero (later (suc b) bs (read_piece (pushed s (suc b)) bs).used (stops (pushed s (suc b)) bs))

pub refused_nothing : RefusedNothing
unfolding read_promise
refused_nothing s piece e = rw e

pub accepted_stops : AcceptedStops
unfolding read_promise
accepted_stops s piece e = rw e (stops s piece)

pub collect_reads : CollectReads
unfolding collect_promise
collect_reads s piece v =
    let k = collect-more s piece v in
    let p = ahead-prefix piece in
    rw k (sym k ∙ ap (read_promise s) p, refl, rw p at (ahead-nonzero piece), ahead-stops piece)

-- ---- When a call is refused

abbrev is_refused : ReadReport → Bool
is_refused (refused number) = true
is_refused more = false
is_refused empty = false
is_refused (message version sequence command n) = false
is_refused (failed reason sequence) = false

verdict-report : (v : LineVerdict) → is_refused (verdict_report v) ≡ false
unfolding verdict_report
verdict-report (failure reason sequence) = refl
verdict-report (good m) = refl

finish-report : (s : List ℕ) → is_refused (finish s).answer ≡ false
unfolding finish
finish-report s = by (judge_received (received_of s))
  where
    by : (v : Option LineVerdict) → is_refused (closed_report v) ≡ false
    by none = refl
    by (some v) = verdict-report v

piece-report : (s piece : List ℕ) → is_refused (read_piece s piece).answer ≡ false
unfolding read_piece one_byte_later
piece-report s [] = refl
piece-report s (zero ∷ bs) = finish-report s
piece-report s (suc b ∷ bs) = rw eqb-suc-zero (piece-report (pushed s (suc b)) bs)

not-both : {b : Bool} → b ≡ false → b ≡ true → ⊥
not-both p q = let z : ◌≡◌ {A = ℕ} 0 1 = cc in omega arith

pub refused_exactly : LineRefusedExactly
unfolding read_promise
refused_exactly s piece = (
  cond-by (λ (o : ReadOutcome). o.answer ≡ refused 12 → valid_reader s ≡ false) (valid_reader s) _ _
      (λ e a. absurd (not-both (piece-report s piece) (ap is_refused a))) (λ e a. e),
  λ e. rw e,
)

abbrev tail_refused : TailReport → Bool
tail_refused (TailReport.refused number) = true
tail_refused (unfinished n) = false
tail_refused longer = false

tail-reports : (received : Option (List ℕ)) → tail_refused (tail_of received) ≡ false
tail-reports none = refl
tail-reports (some bs) = refl

-- a tail has no number, and a refused one its own
pub tail_refused_exactly : TailRefusedExactly
unfolding tail_promise first_failing
tail_refused_exactly s n = by (valid_reader s)
  where
    Refused : TailReport → Option ℕ → Type 0
    Refused t k = (t ≡ TailReport.refused n) ↔ (k ≡ some n)

    reported : (t : TailReport) → tail_refused t ≡ false → Refused t none
    reported t f = (λ e. absurd (not-both f (ap tail_refused e)), λ e. absurd (let z : ◌≡◌ {A = ℕ} 0 1 = cc in omega arith))

    by : (b : Bool) → Refused (cond b (tail_of (received_of s)) (TailReport.refused 12)) (cond (not b) (some 12) none)
    by true = reported (tail_of (received_of s)) (tail-reports (received_of s))
    by false = (λ e. cc, λ e. cc)

pub data_refused_exactly : DataRefusedExactly
unfolding data_given_promise first_failing
data_refused_exactly s k = by (valid_reader s)
  where
    Nine : Option ℕ
    Nine = cond (ltb longest_data k) (some 9) none

    by : (b : Bool) → cond b Nine (some 12) ≡ cond (not b) (some 12) Nine
    by true = refl
    by false = refl

pub data_not_handed : DataNotHanded
data_not_handed s k n e = data-refused s k n e

pub start_refused_exactly : StartRefusedExactly
unfolding reader_start_promise first_failing
start_refused_exactly room =
    cond-by (λ (x : ReaderStartOutcome). x.refusal ≡ cond (ltb (length room) reader_length) (some 12) none)
    (leb reader_length (length room)) _ _ (λ e. rw (le-ltb (length room) reader_length (leb-true _ _ e)))
    (λ e. rw (lt-ltb (length room) reader_length (leb-false _ _ e)))

pub start_untouched : StartUntouched
unfolding reader_start_promise
start_untouched room n =
    cond-by (λ (x : ReaderStartOutcome). x.refusal ≡ some n → x.state ≡ room) (leb reader_length (length room)) _ _
    (λ _ e. absurd (let z : ◌≡◌ {A = ℕ} 0 1 = cc in omega arith)) (λ _ _. refl)

abbrev twelve : Option ℕ → Bool
twelve none = false
twelve (some n) = eqb n 12

valid-answers : (part : List ℕ) → valid_reader part ≡ true → NotRefused part
unfolding tail_promise data_given_promise reader_start_promise
valid-answers part v = record {
  reads = λ piece a. not-both ((refused_exactly part piece).0 a) v;
  tails = rw v (λ a. not-both (tail-reports (received_of part)) (ap tail_refused a));
  hands =
      λ n. rw v (λ a. not-both (cond-by (λ x. twelve x ≡ false) (ltb longest_data n) (some 9) none (λ e. refl) (λ e. refl)) (ap twelve a));
  starts = rw (le-leb reader_length (length part) (valid-long part v));
}

pub too_little_12 : TooLittle12
unfolding tail_promise data_given_promise reader_start_promise
too_little_12 s l e =
    let h = lent-short reader_length s l (omega arith) e in
    let v = short-invalid (lent_state l s) h in
    record {
      reads = λ piece. refused_nothing (lent_state l s) piece v;
      tails = rw v;
      hands = λ n. rw v;
      starts = rw (lt-leb reader_length (length (lent_state l s)) h);
    }

pub too_little_nothing : TooLittleNothing
unfolding after_line_call after_line_read after_outcome after_start after_restart messages_handed reasons_reported answers_to00
too_little_nothing r (read c) e = rw ((too_little_12 r.state c.lent e).reads c.piece) (simp (append-nil, back-same))
too_little_nothing r (start l) e = rw (too_little_12 r.state l e).starts

module _ (room : List ℕ) (enough : reader_length ≤ length room) (cs : List LineCall) where
  pub never_12 : LineNever12 (after_line_calls (fresh_reader room) cs)
  never_12 l e =
      let s = (after_line_calls (fresh_reader room) cs).state in
      let v = stays_valid room enough cs in
      let f = front reader_length l s e in
      let h = lent-long reader_length s l e (valid-long s v) in
      valid-answers (lent_state l s) (sym (valid-append (lent_state l s) f.rest h) ∙ rw f.whole v)

  -- ---- What was written is what is handed out

  pub sent_handed : SentHanded (after_line_calls (fresh_reader room) cs)
  sent_handed ms s = hands_out room enough cs ms (sent-wire s)

pub room_enough : RoomEnough
unfolding Writer.write_promise Writer.write_into
room_enough m out r h =
    rw (le-ltb longest_data (length m.payload) r.fits, le-ltb (length out) (length (frame m)) (omega (arith, frame_fits m r)))
