-- A reader that is given its bytes one by one.
-- By a law here a call gives what the bytes that it reads give one by one. Assumes nothing.
use mathlib.Core.Path.{◌≡◌, refl, sym, ap, ◌∙◌}
use mathlib.Core.Bool.{true}
use mathlib.Core.List.{List, [], ◌∷◌, ◌++◌, append-nil}
use Prim.Native.Nat.{ℕ, zero, suc, ◌≤◌}
use native.Mathlib.Omega.{arith}
use lib.Dec.{eqb-suc-zero}
use lib.ListN.{length, take}
use lib.Seq.{append_snoc}
use Rattle.line.specs.Reader.{ReadReport, refused, more, empty, message, failed, reader_length, valid_reader, pushed, finish, ReadOutcome}
use Rattle.line.specs.Reader.{one_byte_later, read_piece, read_promise}
use Rattle.octets.proofs.Conditions.{cond-by}
use Rattle.line.proofs.Lent.{data_of-append, pushed-append, finish-append}
use Rattle.line.proofs.Received.{valid-long, pushed-stays, finish-stays}
use Rattle.line_claims.proofs.LoanLaws.{back-same, lent-enough, front}
use Rattle.line_claims.specs.Calls.{LineRead, lent_state, messages_handed, reasons_reported, answers_to00, Reader, extended, after_outcome}
use Rattle.line_claims.specs.Calls.{after_line_read, after_line_call, after_line_calls, after_line_reads}

-- a reader after one byte
unfoldable pub after_byte : Reader → ℕ → Reader
after_byte r zero = extended r (finish r.state).answer (finish r.state).state (0 ∷ []) (finish r.state).state
after_byte r (suc b) = record {
  messages = r.messages;
  failures = r.failures;
  answered = r.answered;
  bytes = r.bytes ++ suc b ∷ [];
  state = pushed r.state (suc b);
}

-- and after many, one by one
unfoldable pub stream : Reader → List ℕ → Reader
stream r [] = r
stream r (b ∷ bs) = stream (after_byte r b) bs

stream-append : (r : Reader) (bs cs : List ℕ) → stream r (bs ++ cs) ≡ stream (stream r bs) cs
unfolding stream
stream-append r [] cs = refl
stream-append r (b ∷ bs) cs = stream-append (after_byte r b) bs cs

byte-read : (r : Reader) (b : ℕ) → (after_byte r b).bytes ≡ r.bytes ++ b ∷ []
unfolding after_byte
byte-read r zero = refl
byte-read r (suc b) = refl

pub stream-read : (r : Reader) (bs : List ℕ) → (stream r bs).bytes ≡ r.bytes ++ bs
unfolding stream
stream-read r [] = sym (append-nil r.bytes)
stream-read r (b ∷ bs) = stream-read (after_byte r b) bs ∙ rw (byte-read r b) (append_snoc r.bytes b bs)

-- ---- one call

-- what is handed out stands in the bytes lent
handed-append : (a : ReadReport) (t u : List ℕ) → reader_length ≤ length t → messages_handed a (t ++ u) ≡ messages_handed a t
unfolding messages_handed
handed-append (refused number) t u h = refl
handed-append more t u h = refl
handed-append empty t u h = refl
handed-append (message version sequence command n) t u h = rw (data_of-append t u h n)
handed-append (failed reason sequence) t u h = refl

-- the reader after a piece, where u stands behind the bytes lent
abbrev joined : Reader → List ℕ → List ℕ → ReadOutcome → Reader
joined r piece u o = extended r o.answer o.state (take o.used piece) (o.state ++ u)

piece-stream : (piece : List ℕ) (r : Reader) (t u : List ℕ) → valid_reader t ≡ true → r.state ≡ t ++ u
    → joined r piece u (read_piece t piece) ≡ stream r (take (read_piece t piece).used piece)
unfolding read_piece stream one_byte_later after_byte messages_handed reasons_reported answers_to00
piece-stream [] r t u v e = simp (append-nil, ← e)
piece-stream (zero ∷ bs) r t u v e =
    let k = valid-long _ (finish-stays t v).valid in
    rw (e, finish-append t u (valid-long t v), handed-append (finish t).answer (finish t).state u k)
piece-stream (suc b ∷ bs) r t u v e =
    let w = (pushed-stays t (suc b) v).valid in
    let i = piece-stream bs (after_byte r (suc b)) (pushed t (suc b)) u w (rw e (pushed-append t u (valid-long t v) (suc b))) in
    rw eqb-suc-zero (rw append_snoc at i)

-- the bytes that a call reads
abbrev pub bytes_read : Reader → LineRead → List ℕ
bytes_read r c = take (read_promise (lent_state c.lent r.state) c.piece).used c.piece

-- a call, whatever it is lent of the state, refused or not
pub call-stream : (r : Reader) (c : LineRead) → after_line_read r c ≡ stream r (bytes_read r c)
unfolding after_line_read after_outcome read_promise stream messages_handed reasons_reported answers_to00
call-stream r c =
    let t = lent_state c.lent r.state in
    cond-by (λ o. after_outcome r c o ≡ stream r (take o.used c.piece)) (valid_reader t) _ _
    (λ e.
    let f = front reader_length c.lent r.state (lent-enough reader_length r.state c.lent (omega arith) (valid-long t e)) in
    rw f.back (piece-stream c.piece r t f.rest e (sym f.whole)))
    (λ e. simp (append-nil, back-same))

-- ---- calls

-- calls that are given pieces give what some bytes give, one by one: those that they read
pub reads-stream : (r : Reader) (cs : List LineRead) → (bs : List ℕ) × (after_line_reads r cs ≡ stream r bs)
unfolding after_line_calls after_line_call stream
reads-stream r [] = ([], refl)
reads-stream r (c ∷ cs) =
    let q = reads-stream (after_line_read r c) cs in
    (bytes_read r c ++ q.0, q.1 ∙ ap (λ x. stream x q.0) (call-stream r c) ∙ sym (stream-append r (bytes_read r c) q.0))
