-- The line layer's calls on the reader's part: what a read answers and leaves by the frames of the bytes that came.
-- Other laws are of a piece without a 00. Assumes nothing.
use mathlib.Core.Path.{◌≡◌, refl, ap, ◌∙◌}
use mathlib.Core.Bool.{true}
use mathlib.Core.List.{List, [], ◌∷◌, ◌++◌, append-nil}
use Prim.Native.Nat.{ℕ, zero, suc, ◌≤◌}
use native.Mathlib.Omega.{arith}
use lib.Dec.{eqb-suc-zero}
use lib.ListN as ListN
use lib.ListN.{length}
use lib.Seq.{append_snoc}
use Rattle.octets.proofs.Each.{each_append}
use Rattle.line.specs.Frame.{split, non_empty}
use Rattle.line.specs.Judge.{progress_of, more_received}
use Rattle.line.specs.Reader as LineReader
use Rattle.line.specs.Reader.{received_of, ReadOutcome, read_piece, one_byte_later, pushed_all}
use Rattle.line.proofs.Pieces.{split_at, split-none}
use Rattle.line.proofs.Judged.{tail_within, more-tail}
use Rattle.line.proofs.Received.{pushed-received, pushed-stays, finish-received}
use Rattle.line_claims.specs.Calls.{messages_handed, gathered, good_messages}
use Rattle.line_claims.proofs.ReaderClaim.{judged}
use Rattle.supervisor_claims.specs.Histories.{up_to}
use Rattle.supervisor_claims.specs.Demand2.{NoZeros}
use Rattle.supervisor_claims.specs.MixedCalls.{report_by_frames}

-- ---- a read on a valid reader that has received the bytes p of a frame

-- it reads the bytes bs, up to and with the first 00
pub record ReadFollows (p bs : List ℕ) (o : ReadOutcome) : Type 0 where
  pub used : o.used ≡ length bs
  pub answer : o.answer ≡ report_by_frames (split (p ++ bs)).closed
  pub handed : messages_handed o.answer o.state ≡ good_messages (non_empty (split (p ++ bs)).closed)
  pub received : received_of o.state ≡ progress_of (split (p ++ bs)).rest

later : {p bs : List ℕ} {b : ℕ} {o : ReadOutcome} → ReadFollows (p ++ (b ∷ [])) bs o → ReadFollows p (b ∷ bs) (one_byte_later o)
unfolding one_byte_later
later {p = p} {bs = bs} {b = b} f =
    let e = append_snoc p b bs in
    record {
      used = ap suc f.used;
      answer = rw e at f.answer;
      handed = rw e at f.handed;
      received = rw e at f.received;
    }

pub read-follows : (piece p s : List ℕ) → LineReader.valid_reader s ≡ true → NoZeros p → received_of s ≡ progress_of p
    → ReadFollows p (ListN.take (up_to piece) piece) (read_piece s piece)
unfolding read_piece up_to report_by_frames messages_handed gathered non_empty split
read-follows [] p s v z r =
    let n = split-none p z in
    record {
      used = refl;
      answer = rw (append-nil, n);
      handed = rw (append-nil, n);
      received = rw (append-nil, n) r;
    }
read-follows (zero ∷ bs) p s v z r =
    let n = split_at p [] z in
    let j = judged s v p r in
    record {
      used = refl;
      answer = rw n j.answer;
      handed = rw n j.messages;
      received = rw (n, tail_within [] (omega arith)) (finish-received s v);
    }
read-follows (suc b ∷ bs) p s v z r =
    let more = pushed-received s (suc b) v ∙ ap (λ x. more_received x (suc b)) r ∙ more-tail p (suc b) in
    rw eqb-suc-zero
    (later
    (read-follows bs (p ++ (suc b ∷ [])) (LineReader.pushed s (suc b)) (pushed-stays s (suc b) v).valid
    (each_append (λ b. 1 ≤ b) p (suc b ∷ []) z (omega arith, tt)) more))

-- ---- a piece without a 00

pub read_all : (piece s : List ℕ) → NoZeros piece
    → read_piece s piece ≡ record { used = length piece; answer = LineReader.more; state = pushed_all s piece }
unfolding read_piece pushed_all one_byte_later
read_all [] s z = refl
read_all (zero ∷ bs) s z = absurd (omega arith)
read_all (suc b ∷ bs) s z = rw (eqb-suc-zero, read_all bs (LineReader.pushed s (suc b)) z.1)
