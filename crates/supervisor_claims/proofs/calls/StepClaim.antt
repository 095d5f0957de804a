-- A call of step: how many bytes it reads, how the frame ends, and what is told of it.
-- The parts are left as those bytes leave them, one by one. Assumes nothing.
use mathlib.Core.Path.{◌≡◌, refl, sym, ap, ◌∙◌}
use mathlib.Core.Bool.{true}
use mathlib.Core.List.{List, [], ◌∷◌}
use mathlib.Core.Option.{Option, none, some}
use Prim.Native.Nat.{ℕ, zero, suc}
use lib.Dec.{eqb-suc-zero}
use lib.ListN as ListN
use Rattle.octets.specs.Bytes.{number_at}
use Rattle.line.specs.Reader.{received_of}
use Rattle.line.specs.Reader as LineReader
use Rattle.line.proofs.Received.{pushed-received, pushed-stays}
use Rattle.supervisor.specs.Calls.{Parts}
use Rattle.responder.specs.Requests
use Rattle.responder.specs.Receive
use Rattle.responder.proofs.VerdictLaws.{finished-verdict, Ends, finish-ends, finished-ended}
use Rattle.counters.specs.Ended.{Served}
use Rattle.supervisor_claims.specs.View.{settings_of}
use Rattle.supervisor_claims.specs.Histories.{up_to, served_meant, said_in_piece, ended_in_piece, served_in_piece, stepped}
use Rattle.supervisor_claims.specs.Histories.{step_answer}
use Rattle.supervisor_claims.proofs.laws.SettingLaws.{stored-result}

-- ---- the bytes read

pub step-used : (piece s : List ℕ) → (LineReader.read_piece s piece).used ≡ up_to piece
unfolding LineReader.read_piece LineReader.one_byte_later up_to
step-used [] s = refl
step-used (zero ∷ bs) s = refl
step-used (suc b ∷ bs) s = rw eqb-suc-zero (ap suc (step-used bs (LineReader.pushed s (suc b))))

feed-close : (image : List ℕ) (p : Parts) → let o = LineReader.finish p.reader in
    Receive.after_answer image p o.state o.answer ≡ Receive.feed_byte image p 0
unfolding Receive.feed_byte
feed-close image p = refl

feed-push : (image : List ℕ) (p : Parts) (b : ℕ)
    → Receive.feed_byte image p (suc b) ≡ Receive.parts_with p (LineReader.pushed p.reader (suc b)) (Receive.inner_of p)
unfolding Receive.feed_byte
feed-push image p b = rw eqb-suc-zero

pub step-fed : (image piece : List ℕ) (p : Parts) → let o = LineReader.read_piece p.reader piece in
    Receive.after_answer image p o.state o.answer ≡ Receive.feed_bytes image p (ListN.take (up_to piece) piece)
unfolding LineReader.read_piece LineReader.one_byte_later up_to Receive.feed_bytes Receive.after_answer Receive.inner_after
    Receive.verdict_of
    Receive.reader_behind Receive.sets_passphrase
step-fed image [] p = refl
step-fed image (zero ∷ bs) p = feed-close image p
step-fed image (suc b ∷ bs) p =
    let q = Receive.parts_with p (LineReader.pushed p.reader (suc b)) (Receive.inner_of p) in
    rw eqb-suc-zero (step-fed image bs q ∙ ap (λ x. Receive.feed_bytes image x (ListN.take (up_to bs) bs)) (sym (feed-push image p b)))

-- ---- the frame's end

pub step-ends : (piece s : List ℕ) → LineReader.valid_reader s ≡ true → let o = LineReader.read_piece s piece in
    Receive.ended_by_reader o.state o.answer ≡ ended_in_piece (received_of s) piece
unfolding LineReader.read_piece LineReader.one_byte_later said_in_piece Receive.ended_by_reader
step-ends [] s v = refl
step-ends (zero ∷ bs) s v = finished-ended s v
step-ends (suc b ∷ bs) s v =
    rw (eqb-suc-zero, ← pushed-received s (suc b) v) (step-ends bs (LineReader.pushed s (suc b)) (pushed-stays s (suc b) v).valid)

-- ---- what is told of it

verdict-served : (z : List ℕ) (o : Option Requests.Verdict) → Receive.served_after z o ≡ served_meant (settings_of z) o
unfolding Receive.served_after Receive.served_by_verdict Requests.served_by
verdict-served z none = refl
verdict-served z (some (Requests.failure reason version sequence)) = refl
verdict-served z (some (Requests.good m)) =
    ap (Requests.served_of m) (stored-result z (ListN.drop 1 m.payload) (number_at 1 m.payload 0))

pub step-serves : (piece s z : List ℕ) → LineReader.valid_reader s ≡ true → let o = LineReader.read_piece s piece in
    Receive.served_after z (Receive.verdict_of o.state o.answer) ≡ served_in_piece (settings_of z) (received_of s) piece
unfolding LineReader.read_piece LineReader.one_byte_later said_in_piece Receive.verdict_of Receive.served_after
step-serves [] s z v = refl
step-serves (zero ∷ bs) s z v = ap (Receive.served_after z) (finished-verdict s v)
    ∙ verdict-served z (Requests.verdict_since (received_of s))
step-serves (suc b ∷ bs) s z v =
    rw (eqb-suc-zero, ← pushed-received s (suc b) v) (step-serves bs (LineReader.pushed s (suc b)) z (pushed-stays s (suc b) v).valid)

-- ---- no refusal

abbrev Accepts : LineReader.ReadReport → Type 0
Accepts (LineReader.refused n) = ⊥
Accepts LineReader.more = Unit {0}
Accepts LineReader.empty = Unit {0}
Accepts (LineReader.message version sequence command n) = Unit {0}
Accepts (LineReader.failed reason sequence) = Unit {0}

ends-accepts : (a : LineReader.ReadReport) → Ends a → Accepts a
ends-accepts (LineReader.refused n) h = h
ends-accepts LineReader.more h = tt
ends-accepts LineReader.empty h = tt
ends-accepts (LineReader.message version sequence command n) h = tt
ends-accepts (LineReader.failed reason sequence) h = tt

accepts : (piece s : List ℕ) → Accepts (LineReader.read_piece s piece).answer
unfolding LineReader.read_piece LineReader.one_byte_later
accepts [] s = tt
accepts (zero ∷ bs) s = ends-accepts (LineReader.finish s).answer (finish-ends s)
accepts (suc b ∷ bs) s = rw eqb-suc-zero (accepts bs (LineReader.pushed s (suc b)))

verdict-stepped : (used : ℕ) (w : Served) (v : Requests.Verdict)
    → step_answer used (Receive.ended_by_verdict v) w ≡ stepped used (Receive.ended_by_verdict v) w
verdict-stepped used w (Requests.failure reason version sequence) = refl
verdict-stepped used w (Requests.good m) = refl

report-stepped : (used : ℕ) (w : Served) (reader : List ℕ) (a : LineReader.ReadReport) → Accepts a
    → step_answer used (Receive.ended_by_reader reader a) w ≡ stepped used (Receive.ended_by_reader reader a) w
unfolding Receive.ended_by_reader
report-stepped used w reader (LineReader.refused n) h = absurd h
report-stepped used w reader LineReader.more h = refl
report-stepped used w reader LineReader.empty h = refl
report-stepped used w reader (LineReader.message version sequence command n) h =
    verdict-stepped used w (Requests.tested (Receive.message_with version sequence command (LineReader.data_promise reader n)))
report-stepped used w reader (LineReader.failed reason sequence) h = refl

-- on parts of any kind
pub valid-step-stepped : (image : List ℕ) (p : Parts) (piece : List ℕ) → let t = Receive.valid_step image p piece in
    step_answer t.used t.ended t.served ≡ stepped t.used t.ended t.served
unfolding Receive.valid_step
valid-step-stepped image p piece =
    let o = LineReader.read_piece p.reader piece in
    report-stepped o.used _ o.state o.answer (accepts piece p.reader)
