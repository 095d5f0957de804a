-- Laws of the frames of a piece that are counted: what is left of a piece is counted on.
-- Assumes nothing.
use Rattle.std.specs.Prelude.{Result, Ok, Err, ⊤}
use mathlib.Core.Path.{◌≡◌, refl, sym, ap, ◌∙◌}
use mathlib.Core.Bool.{true, false}
use mathlib.Core.List.{List, [], ◌∷◌}
use Prim.Native.Nat.{ℕ, zero, suc, ◌+◌, ◌-◌, ◌≤◌, ◌<◌}
use native.Mathlib.Omega.{arith}
use lib.ListN.{length, take, drop, drop_of_length-le}
use lib.Seq.{drop-drop}
use borrow.Author.Tests.{ne_eqb}
use Rattle.line.specs.Reader as LineReader
use Rattle.line.specs.Reader.{received_of}
use Rattle.line.proofs.Received.{pushed-received, pushed-stays}
use Rattle.supervisor.specs.Calls.{Parts}
use Rattle.counters.specs.declared.Counters.{Counters}
use Rattle.counters.specs.Count.{bumped_for, bumped_for_all}
use Rattle.responder.specs.Receive
use Rattle.responder.specs.Counting.{endings, count_promise}
use Rattle.refusals.specs.declared.Refusal.{Refusal}
use Rattle.refusals.specs.declared.Refusal.TheVariants.{BadState}
use Rattle.responder.proofs.VerdictLaws.{finished-ended, closed-received}
use Rattle.responder.proofs.StepLaws.{parts-valid, read_next, Held, begun, over, by_left}

-- what is left of a piece is counted on from what a step counts
step_counts : (piece s : List ℕ) (c : Counters) → LineReader.valid_reader s ≡ true → let o = LineReader.read_piece s piece in
    bumped_for_all c (endings (received_of s) piece)
    ≡ bumped_for_all (bumped_for c (Receive.ended_by_reader o.state o.answer))
    (endings (received_of (Receive.reader_behind o.state o.answer)) (drop o.used piece))
unfolding LineReader.read_piece LineReader.one_byte_later Receive.ended_by_reader Receive.reader_behind Receive.sets_passphrase endings
    bumped_for
    bumped_for_all
step_counts [] s c v = refl
step_counts (zero ∷ bs) s c v = rw (closed-received s v, finished-ended s v)
step_counts (suc b ∷ bs) s c v =
    rw (read_next s b bs, ne_eqb (suc b) 0 (λ e. omega arith), ← pushed-received s (suc b) v)
    (step_counts bs (LineReader.pushed s (suc b)) c (pushed-stays s (suc b) v).valid)

-- the parts and the counters at an offset of the piece: what is left of it is received and counted on
pub record Counted (image piece : List ℕ) (p₀ p : Parts) (c t : Counters) (at : ℕ) : Type 0 where
  pub held : Held image piece p₀ p at
  pub same : count_promise c p₀ piece ≡ bumped_for_all t (endings (received_of p.reader) (drop at piece))

abbrev Done : List ℕ → List ℕ → Parts → Counters → Result ⊤ Refusal → Counters → Parts → Type 0
Done image piece p c a t q = (Receive.receive_outcome a q ≡ Receive.receive_promise image p piece) × (t ≡ count_promise c p piece)

pub refused-so : (image piece : List ℕ) (p : Parts) (c : Counters) → Receive.valid_parts p ≡ false
    → Done image piece p c (Err BadState) c p
unfolding Receive.receive_promise Receive.receive_report count_promise
refused-so image piece p c v = rw v (refl, refl)

pub counted_none : (image piece : List ℕ) (p : Parts) (c : Counters) → Receive.valid_parts p ≡ true → Counted image piece p p c c 0
unfolding count_promise
counted_none image piece p c v = record { held = begun image piece p v; same = rw v }

pub counted-all : {image piece : List ℕ} {p₀ p : Parts} {c t : Counters} {at : ℕ} → Counted image piece p₀ p c t at
    → length piece ≤ at → Done image piece p₀ c (Ok tt) t p
unfolding endings bumped_for_all
counted-all {piece = piece} h l = (over h.held l, sym (h.same ∙ rw (drop_of_length-le piece l)))

-- a step at an offset of the piece
pub counted-on : {image piece : List ℕ} {p₀ p : Parts} {c t t' : Counters} {at : ℕ} {o : Receive.StepOutcome}
    (h : Counted image piece p₀ p c t at) (l : at < length piece)
    (e : o ≡ Receive.valid_step image p (take (length piece - at) (drop at piece)))
    → t' ≡ bumped_for t o.ended → Held image piece p₀ o.parts (at + o.used)
    → Counted image piece p₀ o.parts c t' (at + o.used)
unfolding Receive.valid_step Receive.after_answer
counted-on {piece = piece} {p = p} {t = t} {at = at} {o = o} h l e b k =
    let left = drop at piece in
    let done = by_left h.held l e in
    let u : o.used ≡ (LineReader.read_piece p.reader left).used = ap (λ (x : Receive.StepOutcome). x.used) done in
    let q = ap (λ (x : Receive.StepOutcome). x.parts.reader) done in
    let v = (parts-valid p h.held.valid).reader in
    let f = ap (λ (x : Receive.StepOutcome). x.ended) done in
    record { held = k; same = h.same ∙ step_counts left p.reader t v ∙ rw (← f, ← u, ← q, b, drop-drop) }
