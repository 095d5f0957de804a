-- Laws of the line reader's calls: its state stays valid, the data's length that it reports fits a message, and what its tail reports.
-- Assumes nothing.
use mathlib.Core.Path.{◌≡◌, refl, ap, ◌∙◌}
use mathlib.Core.Bool.{Bool, true, false, cond, false≢true}
use mathlib.Core.List.{List, [], ◌∷◌}
use mathlib.Core.Option.{Option, none, some}
use Prim.Native.Nat.{ℕ, zero, suc, ◌≤◌, ◌<◌, min}
use native.Mathlib.Omega.{arith}
use lib.Dec.{leb, eqb-suc-zero}
use lib.ListN.{length, take}
use lib.Seq.{take_all}
use borrow.Author.Tests.{le-leb, leb-true, leb-false}
use Rattle.line.specs.Limits.{longest_form}
use Rattle.line.specs.Judge.{LineVerdict, failure, good, judge_received}
use Rattle.line.specs.Reader as LineReader
use Rattle.line.specs.Reader.{received_of}
use Rattle.line.proofs.Judged.{good-fits, received-good}
use Rattle.line.proofs.Received.{received-most, read_stays}
use Rattle.requester.specs.Hearing.{data_fit}

-- ---- the data of a message

finish-fit : (s : List ℕ) → data_fit (LineReader.finish s).answer ≡ true
unfolding LineReader.finish LineReader.verdict_report data_fit
finish-fit s = by (judge_received (received_of s)) refl
  where
    by : (v : Option LineVerdict) → judge_received (received_of s) ≡ v → data_fit (LineReader.closed_report v) ≡ true
    by none e = refl
    by (some (failure reason sequence)) e = refl
    by (some (good m)) e = let f = received-good (received_of s) m e in le-leb _ _ (good-fits f.0 m f.2)

pub read-fit : (piece s : List ℕ) → data_fit (LineReader.read_piece s piece).answer ≡ true
unfolding LineReader.read_piece LineReader.one_byte_later data_fit
read-fit [] s = refl
read-fit (zero ∷ bs) s = finish-fit s
read-fit (suc b ∷ bs) s = rw eqb-suc-zero (read-fit bs (LineReader.pushed s (suc b)))

-- ---- a piece

-- a call of `read` on a valid state
pub read_by : (s piece : List ℕ) {o : LineReader.ReadOutcome} → LineReader.valid_reader s ≡ true → o ≡ LineReader.read_promise s piece
    → o ≡ LineReader.read_piece s piece
unfolding LineReader.read_promise
read_by s piece v e = rw v at e

pub read-valid : (s piece : List ℕ) {o : LineReader.ReadOutcome} → LineReader.valid_reader s ≡ true → o ≡ LineReader.read_piece s piece
    → (LineReader.valid_reader o.state ≡ true) × (data_fit o.answer ≡ true)
read-valid s piece v e = rw e ((read_stays piece s v).valid, read-fit piece s)

-- at most so many bytes of a piece
pub take_min : (n : ℕ) (piece : List ℕ) → take (min n (length piece)) piece ≡ take n piece
take_min n piece = by (leb n (length piece)) refl
  where
    by : (b : Bool) → leb n (length piece) ≡ b → take (min n (length piece)) piece ≡ take n piece
    by true e = let m : min n (length piece) ≡ n = omega (arith, leb-true n (length piece) e) in rw m
    by false e =
        let h : length piece < n = leb-false n (length piece) e in
        let m : min n (length piece) ≡ length piece = omega arith in
        rw (m, take_all (length piece) piece (omega arith), take_all n piece (omega arith))

-- ---- a refusal

-- a report of no refusal
abbrev given : LineReader.ReadReport → Bool
given (LineReader.refused n) = false
given LineReader.more = true
given LineReader.empty = true
given (LineReader.failed reason sequence) = true
given (LineReader.message version sequence command n) = true

closed-given : (v : Option LineVerdict) → given (LineReader.closed_report v) ≡ true
unfolding LineReader.verdict_report
closed-given none = refl
closed-given (some (failure reason sequence)) = refl
closed-given (some (good m)) = refl

piece-given : (piece s : List ℕ) → given (LineReader.read_piece s piece).answer ≡ true
unfolding LineReader.read_piece LineReader.one_byte_later LineReader.finish
piece-given [] s = refl
piece-given (zero ∷ bs) s = closed-given (judge_received (received_of s))
piece-given (suc b ∷ bs) s = rw eqb-suc-zero (piece-given bs (LineReader.pushed s (suc b)))

-- a valid state's piece is not refused
pub read-given : (s piece : List ℕ) {n : ℕ} {t : List ℕ} → LineReader.valid_reader s ≡ true
    → record { used = 0; answer = LineReader.refused n; state = t } ≡ LineReader.read_promise s piece → ⊥
read-given s piece v e =
    let f = read_by s piece v e in
    false≢true (ap (λ (o : LineReader.ReadOutcome). given o.answer) f ∙ piece-given piece s)

-- ---- the tail

-- what holds of a state by an answer of `tail`
abbrev pub TailHolds : List ℕ → LineReader.TailReport → Type 0
TailHolds s (LineReader.TailReport.refused n) = (LineReader.valid_reader s ≡ false) × (n ≡ 12)
TailHolds s (LineReader.unfinished n) =
    (LineReader.valid_reader s ≡ true) × (LineReader.tail_promise s ≡ LineReader.unfinished n) × (n ≤ longest_form)
TailHolds s LineReader.longer = (LineReader.valid_reader s ≡ true) × (LineReader.tail_promise s ≡ LineReader.longer)

pub tail-holds : (s : List ℕ) {x : LineReader.TailReport} → x ≡ LineReader.tail_promise s → TailHolds s x
unfolding LineReader.tail_promise
tail-holds s e = rw e (by (LineReader.valid_reader s) (received_of s) refl refl)
  where
    by : (v : Bool) (o : Option (List ℕ)) → LineReader.valid_reader s ≡ v → received_of s ≡ o
        → TailHolds s (cond v (LineReader.tail_of o) (LineReader.TailReport.refused 12))
    by false o v r = (v, refl)
    by true none v r = (v, rw (v, r))
    by true (some bs) v r = (v, rw (v, r), received-most s bs r v)
