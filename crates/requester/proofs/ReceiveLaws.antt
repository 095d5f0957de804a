-- Laws of a call of receive: its refusal, a frame that is heard, and what is left of one that is too long.
-- Assumes nothing.
use mathlib.Core.Path.{◌≡◌, ap}
use mathlib.Core.Bool.{Bool, true, false, and-false}
use mathlib.Core.List.{List}
use mathlib.Core.Option.{Option, none}
use Prim.Native.Nat.{ℕ, suc, ◌-◌, min}
use lib.ListN.{length, take}
use Rattle.line.specs.Limits.{longest_form}
use Rattle.line.specs.Reader as LineReader
use Rattle.requester.specs.Requester
use Rattle.requester.specs.Layout
use Rattle.requester.specs.Valid.{valid_requester}
use Rattle.requester.specs.Calls
use Rattle.requester.specs.Calls.{MainParts, main_parts, HandedReport, MainReceiveOutcome, heard_of, heard_outcome_of, part_moved}
use Rattle.requester.specs.Calls.{part_moved_to, main_receive_valid, main_receive_promise, main_valid_parts, readable}
use Rattle.requester.specs.Hearing.{OutcomeReport, outcome_report_of}
use Rattle.requester.proofs.ValidLaws.{parts-valid}
use Rattle.requester.proofs.ReaderLaws.{read_by, take_min}

pub invalid-reader : (p : MainParts) → LineReader.valid_reader p.reader ≡ false → main_valid_parts p ≡ false
unfolding main_valid_parts
invalid-reader p e = rw e

pub invalid-requester : (p : MainParts) → valid_requester p.requester ≡ false → main_valid_parts p ≡ false
unfolding main_valid_parts
invalid-requester p e = rw (e, and-false)

abbrev pub receipt : ℕ → HandedReport → Option ℕ → Bool → MainParts → MainReceiveOutcome
receipt used t ended unsent p = record { used = used; report = t; ended = ended; unsent = unsent; parts = p }

pub receive-refused : (p : MainParts) (piece : List ℕ) → main_valid_parts p ≡ false
    → receipt 0 (HandedReport.refused 12) none false p ≡ main_receive_promise p piece
unfolding main_receive_promise
receive-refused p piece e = rw e

pub receive-received : (p : MainParts) (piece : List ℕ) {x : MainReceiveOutcome} → main_valid_parts p ≡ true → x
    ≡ main_receive_valid p piece
    → x ≡ main_receive_promise p piece
unfolding main_receive_promise
receive-received p piece v e = rw v e

abbrev outcome_by : ℕ → LineReader.ReadReport → List ℕ → LineReader.ReadOutcome
outcome_by used a reader = record { used = used; answer = a; state = reader }

-- by the reader's answer and the state that it left
module _ (p : MainParts) (piece : List ℕ) (v : main_valid_parts p ≡ true) {used : ℕ} {a : LineReader.ReadReport} {reader : List ℕ} where
  module _ {n end : ℕ} (e : LineReader.tail_promise p.reader ≡ LineReader.unfinished n)
      (f : end ≡ min (suc longest_form - n) (length piece))
      (w : outcome_by used a reader ≡ LineReader.read_promise p.reader (take end piece)) where
    read : outcome_by used a reader ≡ LineReader.read_piece p.reader (readable p.reader piece)
    read =
        rw (e, ← take_min, ← f)
        (read_by p.reader (take end piece) (parts-valid p v).reader w)

    pub heard-received : {t : HandedReport} {x : Requester.Next} {ended : Option ℕ} {unsent : Bool} {r : List ℕ}
        → record { report = t; next = x }
        ≡ outcome_report_of (heard_outcome_of p.requester (heard_of (Layout.newest_number p.requester) reader a))
        → part_moved ended r ≡ part_moved_to x p.requester → unsent ≡ Layout.is_unsent r
        → receipt used t ended unsent (main_parts reader r) ≡ main_receive_valid p piece
    unfolding main_receive_valid
    heard-received o m u =
        rw (
          ← read,
          e,
          ← ap (λ (y : OutcomeReport). y.report) o,
          ← ap (λ (y : OutcomeReport). y.next) o,
          ← m,
          u,
        )

  pub rest-received : {unsent : Bool} → LineReader.tail_promise p.reader ≡ LineReader.longer
      → outcome_by used a reader ≡ LineReader.read_promise p.reader piece
      → unsent ≡ Layout.is_unsent p.requester
      → receipt used Calls.nothing none unsent (main_parts reader p.requester) ≡ main_receive_valid p piece
  unfolding main_receive_valid heard_outcome_of part_moved_to Calls.handed_report_of
  rest-received l w u =
      let q = read_by p.reader piece (parts-valid p v).reader w in
      rw (l, ← q, u)
