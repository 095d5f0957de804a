-- When the writer is refused; what it puts out is the message's frame; two lists of messages with the same bytes so written are equal.
-- Assumes nothing.
use mathlib.Core.Path.{◌≡◌, refl}
use mathlib.Core.Bool.{cond}
use mathlib.Core.List.{List, ◌++◌}
use mathlib.Core.Logic.{◌↔◌}
use mathlib.Core.Option.{Option, none, some}
use Prim.Native.Nat.{ℕ, ◌≤◌}
use native.Mathlib.Omega.{arith}
use lib.Dec.{ltb}
use lib.ListN.{length, take, drop}
use borrow.Author.Tests.{ltb-false}
use Rattle.octets.specs.Bytes.{overlay}
use Rattle.octets.proofs.Overlay.{overlay-inside, overlay-start}
use Rattle.line.specs.Limits.{longest_data}
use Rattle.line.specs.Message.{Message}
use Rattle.line.specs.Frame.{frame, WireBytes}
use Rattle.line.specs.Writer.{WriteReport, WriteOutcome, write_into, write_promise}
use Rattle.octets.proofs.Conditions.{cond-by, cond_both}
use Rattle.line_claims.proofs.WireClaim.{one_meaning}
use Rattle.octets.specs.TableTests.{first_failing}
use Rattle.line_claims.specs.Demand1.{WriterRefusedExactly, WriterUntouched, WriterWrites}
use Rattle.line_claims.specs.Demand3.{Sent, over, idle, wrote, WrittenFrame, OneMeaningSent}

-- an answer other than a refusal is given only where the bytes fit the room
sent-bytes : (bs room : List ℕ) (n : ℕ) → (write_into bs room).answer ≡ WriteReport.wrote n
    → (n ≡ length bs) × (take n (write_into bs room).out ≡ bs)
unfolding write_into
sent-bytes bs room n =
    cond-by (λ (o : WriteOutcome). o.answer ≡ WriteReport.wrote n → (n ≡ length bs) × (take n o.out ≡ bs))
    (ltb (length room) (length bs)) _ _ (λ e p. (cc, cc))
    (λ e p. let q : n ≡ length bs = cc in (q, rw q (overlay-inside 0 bs room (omega arith))))

-- ---- When it is refused

module _ (n : ℕ) where
  abbrev Refused : WriteOutcome → Option ℕ → Type 0
  Refused o k = (o.answer ≡ WriteReport.refused n) ↔ (k ≡ some n)

  same_number : (k : ℕ) (out : List ℕ) → Refused (record { answer = WriteReport.refused k; out = out }) (some k)
  same_number k out = (λ e. cc, λ e. cc)

  no_number : (k : ℕ) (out : List ℕ) → Refused (record { answer = WriteReport.wrote k; out = out }) none
  no_number k out = (λ e. absurd (let z : ◌≡◌ {A = ℕ} 0 1 = cc in omega arith), λ e. absurd (let z : ◌≡◌ {A = ℕ} 0 1 = cc in omega arith))

pub writer_refused_exactly : WriterRefusedExactly
unfolding write_promise write_into first_failing
writer_refused_exactly m room n =
    cond_both (Refused n) (ltb longest_data (length m.payload)) (λ _. same_number n 9 room) (λ _.
    cond_both (Refused n) (ltb (length room) (length (frame m))) (λ _. same_number n 8 room)
    (λ _. no_number n (length (frame m)) (overlay 0 (frame m) room)))

pub writer_untouched : WriterUntouched
unfolding write_promise write_into
writer_untouched m room n =
    cond-by Leaves (ltb longest_data (length m.payload)) _ _ (λ _ _. refl) (λ _.
    cond-by Leaves (ltb (length room) (length (frame m))) _ _ (λ _ _. refl) (λ _ e. absurd (let z : ◌≡◌ {A = ℕ} 0 1 = cc in omega arith)))
  where
    Leaves : WriteOutcome → Type 0
    Leaves o = o.answer ≡ WriteReport.refused n → o.out ≡ room

-- ---- What it puts out

module _ (m : Message) (room : List ℕ) where
  abbrev Writes : WriteOutcome → Option ℕ → Type 0
  Writes o k = k ≡ none → o ≡ record { answer = WriteReport.wrote (length (frame m)); out = frame m ++ drop (length (frame m)) room }

  sends : Writes (write_into (frame m) room) (cond (ltb (length room) (length (frame m))) (some 8) none)
  unfolding write_into
  sends =
      cond_both Writes (ltb (length room) (length (frame m))) (λ _ e. absurd (let z : ◌≡◌ {A = ℕ} 0 1 = cc in omega arith))
      (λ _ _. rw (overlay-start (frame m) room))

pub writer_writes : WriterWrites
unfolding write_promise first_failing
writer_writes m room =
    cond_both (Writes m room) (ltb longest_data (length m.payload)) (λ _ e. absurd (let z : ◌≡◌ {A = ℕ} 0 1 = cc in omega arith))
    (λ _. sends m room)

pub written_frame : WrittenFrame
unfolding write_promise
written_frame m room n =
    cond-by Writes (ltb longest_data (length m.payload)) _ _
    (λ e p. let z : ◌≡◌ {A = ℕ} 0 1 = cc in absurd (omega arith))
    (λ e p.
    let s = sent-bytes (frame m) room n p in
    (s.0, s.1, ltb-false longest_data (length m.payload) e))
  where
    Writes : WriteOutcome → Type 0
    Writes o = o.answer ≡ WriteReport.wrote n → (n ≡ length (frame m)) × (take n o.out ≡ frame m) × (length m.payload ≤ longest_data)

pub sent-wire : {ms : List Message} {w : List ℕ} → Sent ms w → WireBytes ms w
sent-wire over = WireBytes.over
sent-wire (idle s) = WireBytes.idle (sent-wire s)
sent-wire (wrote {m = m} room n t e s) =
    let f = written_frame m room n e in
    rw f.1
    (WireBytes.sent (record { typed = t; fits = f.2 }) (sent-wire s))

pub one_meaning_sent : OneMeaningSent
one_meaning_sent ms ns w a b = one_meaning ms ns w (sent-wire a) (sent-wire b)
