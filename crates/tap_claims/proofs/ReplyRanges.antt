-- The reply to a frame is a message in range, under the number that the frame earns, which has the top bit.
-- Assumes nothing.
use mathlib.Core.Path.{◌≡◌, refl, ap}
use mathlib.Core.Bool.{not}
use mathlib.Core.List.{List, [], ◌∷◌}
use mathlib.Core.Option.{Option, none, some}
use Prim.Native.Nat.{ℕ, ◌^◌, ◌≤◌, ◌<◌}
use native.Mathlib.Omega.{arith}
use lib.Dec.{ltb, leb}
use lib.ListN.{length}
use borrow.Author.Tests.{ltb-true, ltb-false}
use Rattle.octets.specs.Bytes.{Each, Byte}
use Rattle.octets.proofs.Conditions.{cond-by}
use Rattle.octets.proofs.Numbers.{number_small}
use Rattle.line.specs.Numbers.{top_bit}
use Rattle.line.specs.Message.{Message, InRange}
use Rattle.line.specs.Frame.{NonZero}
use Rattle.line.specs.Judge as Line
use Rattle.line.specs.Judge.{judge, judge_form, wrong_length, wrong_checksum, wrong_magic}
use Rattle.line.specs.Limits.{longest_form}
use Rattle.line.specs.Cobs.{uncobs}
use Rattle.line.proofs.Judged.{uncobs-each, fit_length}
use Rattle.line_claims.proofs.MessageLaws.{fields-range}
use Rattle.supervisor.specs.Number.{top_set}
use Rattle.supervisor.specs.State.{State}
use Rattle.responder.specs.Requests.{Verdict, failure, good, Reply, verdict, tested_where, tested, failure_reply, failure_sequence}
use Rattle.responder.specs.Requests.{reply_of}
use Rattle.responder.specs.Requests.{version_served, known, length_allowed, carry_out, ReplyContent}
use Rattle.supervisor_claims.specs.Replies.{reply_by}
use Rattle.tap.specs.Earned.{earned}
use Rattle.both_claims.specs.Ends.{reply_message}
use Rattle.both_claims.proofs.laws.Held as Framed
use Rattle.tap_claims.proofs.CutForm.{none-some}
use Rattle.tap_claims.proofs.Fits.{Held, message_of}

-- ---- the number

pub reply-number : (image : List ℕ) (s : State) (v : Verdict) (r : Reply) → reply_by image s v ≡ some r → r.sequence ≡ earned v
unfolding reply_by failure_reply reply_of
reply-number image s (failure reason version sequence) r e = cc
reply-number image s (good m) r e = by (carry_out image s m).reply e
  where
    by : (o : Option ReplyContent) → reply_of m.sequence o ≡ some r → r.sequence ≡ top_set m.sequence
    by none f = none-some f
    by (some x) f = cc

top-high : (n : ℕ) → top_bit ≤ top_set n
unfolding top_set
top-high n = cond-by (λ k. top_bit ≤ k) (ltb n top_bit) _ _ (λ _. omega arith) (λ e. ltb-false n top_bit e)

top-low : (n : ℕ) → n < 2 ^ 64 → top_set n < 2 ^ 64
unfolding top_set
top-low n h = cond-by (λ k. k < 2 ^ 64) (ltb n top_bit) _ _ (λ e. omega (arith, ltb-true n top_bit e)) (λ _. h)

failure-high : (sequence : Option ℕ) → top_bit ≤ failure_sequence sequence
failure-high none = omega arith
failure-high (some n) = top-high n

pub earned-high : (v : Verdict) → top_bit ≤ earned v
earned-high (failure reason version sequence) = failure-high sequence
earned-high (good m) = top-high m.sequence

-- ---- a failure

abbrev Low : Option ℕ → Type 0
Low none = Unit {0}
Low (some n) = n < 2 ^ 64

abbrev LineRange : Line.LineVerdict → Type 0
LineRange (Line.failure reason sequence) = (reason < 256) × Low sequence
LineRange (Line.good m) = InRange m

abbrev Range : Verdict → Type 0
Range (failure reason version sequence) = (reason < 256) × (version < 2 ^ 32) × Low sequence
Range (good m) = Unit {0}

judge-range : (form : List ℕ) → Each Byte form → LineRange (judge form)
unfolding judge judge_form
judge-range form b =
    cond-by (λ (o : Option (List ℕ)). LineRange (judge_form o)) (ltb longest_form (length form)) _ _ (λ _. (omega arith, tt)) (λ _.
    by (uncobs form) refl)
  where
    by : (o : Option (List ℕ)) → uncobs form ≡ o → LineRange (judge_form o)
    by none e = (omega arith, tt)
    by (some xs) e =
        let each = uncobs-each form xs b e in
        cond-by LineRange (wrong_length xs) _ _ (λ _. (omega arith, tt)) (λ w.
        cond-by LineRange (wrong_checksum xs) _ _ (λ _. (omega arith, number_small 8 8 xs each)) (λ _.
        cond-by LineRange (wrong_magic xs) _ _ (λ _. (omega arith, number_small 8 8 xs each)) (λ _.
        fields-range xs each (fit_length xs w).1)))

tested-range : (m : Message) → InRange m → Range (tested m)
unfolding tested
tested-range m r =
    let v = r.typed.version in
    let q = r.typed.sequence in
    cond-by Range (not (version_served m.version)) _ _ (λ _. (omega arith, omega arith, q)) (λ _.
    cond-by Range (leb top_bit m.sequence) _ _ (λ _. (omega arith, v, q)) (λ _.
    cond-by Range (not (known m.command)) _ _ (λ _. (omega arith, omega arith, tt)) (λ _.
    cond-by Range (not (length_allowed m.command (length m.payload))) _ _ (λ _. (omega arith, v, q)) (λ _. tt))))

verdict-range : (form : List ℕ) → Each Byte form → Range (verdict form)
unfolding verdict
verdict-range form b = by (judge form) (judge-range form b)
  where
    by : (v : Line.LineVerdict) → LineRange v → Range (tested_where v)
    by (Line.failure reason sequence) h = (h.0, omega arith, h.1)
    by (Line.good m) h = tested-range m h

failure-low : (sequence : Option ℕ) → Low sequence → failure_sequence sequence < 2 ^ 64
failure-low none h = omega arith
failure-low (some n) h = top-low n h

-- ---- the reply

pub nonzero-each : (f : List ℕ) → Each NonZero f → Each Byte f
nonzero-each [] h = tt
nonzero-each (b ∷ bs) h = (omega (arith, h.0), nonzero-each bs h.1)

pub reply-range : (image : List ℕ) (s : State) (form : List ℕ) → Held s → Each Byte image → Each NonZero form → (r : Reply)
    → reply_by image s (verdict form) ≡ some r → InRange (message_of r)
unfolding reply_by failure_reply
reply-range image s form held i n r e = by (verdict form) refl (verdict-range form (nonzero-each form n)) e
  where
    by : (v : Verdict) → verdict form ≡ v → Range v → reply_by image s v ≡ some r → InRange (message_of r)
    by (failure reason version sequence) f h g =
        let y : failure_reply reason version sequence ≡ r = cc in
        rw (← y) (record {
          typed = record { version = h.1; sequence = failure-low sequence h.2; command = omega arith; payload = (h.0, tt) };
          fits = omega arith;
        })
    by (good m) f h g =
        let k : Framed.Held s = rw held.2 at (Framed.held-parts held.0 held.1) in
        Framed.reply-in-range image i s form n k m f (message_of r) (ap reply_message g)
