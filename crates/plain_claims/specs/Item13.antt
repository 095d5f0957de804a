-- Document 02's item 13: the plain reader gives a capture's listing, which agrees with a fresh line reader on every stream, cut anywhere.
-- Assumes nothing: these are definitions and statements.
use Rattle.std.specs.Prelude.{◌≡◌, true, List, [], ◌∷◌, map, ℕ, suc, ◌+◌, ◌≤◌, length, Result}
use Rattle.octets.specs.Bytes.{run}
use Rattle.line.specs.Judge.{judge}
use Rattle.line.specs.Reader.{reader_length}
use Rattle.line_claims.specs.Loans.{Loan, enough_part}
use Rattle.line_claims.specs.Calls.{Reader, after_line_calls, fresh_reader, OfFreshReader}
use Rattle.plain.specs.Listing.{Listing, listing}
use Rattle.plain.specs.Answers.{next_report, piece_at, plain_verdict}
use Rattle.plain.specs.declared.Piece.TheVariants.{Frame, Tail}
use Rattle.plain.specs.declared.Head.{Head}
use Rattle.plain.specs.declared.Failure.{Failure}
use Rattle.plain_claims.specs.Samples.{plain_samples, plain_sample_meant}
use Rattle.plain_claims.specs.Agreement.{Agrees, joined_pieces, calls_for}

-- What is listed from an offset on. `next` is asked there. At the tail the listing ends, and an empty frame is passed over.
-- Any other is handed to `judged`, whose answer and array give the verdict. The listing goes on behind the frame's 00.
pub data RepeatedFrom (w : List ℕ) : ℕ → Listing → Type 0 where
  tail : {at n : ℕ} → next_report (Tail n) ≡ piece_at w at → RepeatedFrom w at (record { entries = []; tail = n })
  empty : {at : ℕ} {l : Listing} → next_report (Frame 0) ≡ piece_at w at → RepeatedFrom w (at + 1) l → RepeatedFrom w at l
  frame : {at : ℕ} {l : Listing} (n : ℕ) (answer : Result Head Failure) (array : List ℕ) → next_report (Frame (suc n)) ≡ piece_at w at
      → plain_verdict answer array ≡ judge (run at (suc n) w) → RepeatedFrom w (at + suc n + 1) l
      → RepeatedFrom w at (record { entries = (record { start = at; verdict = plain_verdict answer array }) ∷ l.entries; tail = l.tail })

abbrev pub PlainSamplesHold : Type 0
PlainSamplesHold = map plain_sample_meant plain_samples ≡ plain_samples

abbrev pub Agreement : Type 0
Agreement = (w : List ℕ) → OfFreshReader (λ r. r.bytes ≡ w → Agrees (listing w) r)

-- what holds of a fresh line reader after the calls for a stream in every cut, and of the pieces
abbrev pub OfCutReader : (List (List ℕ) → Reader → Type 0) → Type 0
OfCutReader P = (room : List ℕ) → reader_length ≤ length room → (l : Loan) → enough_part reader_length l ≡ true → (ps : List (List ℕ))
    → P ps (after_line_calls (fresh_reader room) (calls_for l ps))

abbrev pub CutReads : Type 0
CutReads = OfCutReader (λ ps r. r.bytes ≡ joined_pieces ps)

abbrev pub Repeated : Type 0
Repeated = (w : List ℕ) (l : Listing) → RepeatedFrom w 0 l → l ≡ listing w

abbrev pub RepeatedAgrees : Type 0
RepeatedAgrees = (w : List ℕ) (l : Listing) → RepeatedFrom w 0 l
    → OfFreshReader (λ r. r.bytes ≡ w → Agrees l r) × OfCutReader (λ ps r. joined_pieces ps ≡ w → Agrees l r)

abbrev pub EndsReached : Type 0
EndsReached = (w : List ℕ) (answer : List ℕ → Result Head Failure) (array : List ℕ → List ℕ)
    → ((form : List ℕ) → plain_verdict (answer form) (array form) ≡ judge form) → RepeatedFrom w 0 (listing w)

pub record PlainItem13 : Type 0 where
  -- L10 then L12, and the edges of a listing, as a single table, over the meaning itself
  pub samples_hold : PlainSamplesHold
  -- for every stream: any calls of a fresh line reader that read exactly that stream since its
  -- last accepted start give what the listing has.
  -- Refused calls, empty pieces and further starts may be among them, whatever each is lent and however the stream is cut.
  pub agreement : Agreement
  -- every stream has such calls in every cut: those for any pieces, empty ones too, read the bytes of all, in order
  pub cut_reads : CutReads
  -- whoever repeats `next` and `judged` over a capture gets its listing
  pub repeated : Repeated
  -- So what is got by repeating the two is what a fresh line reader hands out on that stream, cut anywhere.
  -- It is so after any calls that read exactly that stream, and after those for any pieces of it.
  pub repeated_agrees : RepeatedAgrees
  -- and it ends: whatever `judged` answers and leaves, as its promise has it, there is such a listing
  pub ends : EndsReached
