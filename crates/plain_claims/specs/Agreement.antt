-- When a line reader agrees with a listing, and the calls that read a stream cut into pieces.
-- Assumes nothing: these are definitions.
use Rattle.std.specs.Prelude.{◌≡◌, cond, List, [], ◌∷◌, ◌++◌, ℕ, zero, suc, ltb}
use Rattle.line.specs.Limits.{longest_form}
use Rattle.line.specs.Judge.{LineVerdict}
use Rattle.line.specs.Reader.{ReadReport, refused, more, empty, message, failed, verdict_report, TailReport, unfinished, longer}
use Rattle.line.specs.Reader.{tail_promise}
use Rattle.line_claims.specs.Loans.{Loan}
use Rattle.line_claims.specs.Calls.{LineCall, read, Reader, good_of, reason_of}
use Rattle.plain.specs.Listing.{ListedFrame, Listing}

-- ---- Agreement with a listing

-- what the verdicts of a listing give, in order
unfoldable pub listed_by : {A : Type 0} → (LineVerdict → List A) → List ListedFrame → List A
listed_by f [] = []
listed_by f (e ∷ es) = f e.verdict ++ listed_by f es

-- the line reader's answer to a frame
abbrev pub reports_of : LineVerdict → List ReadReport
reports_of v = verdict_report v ∷ []

-- the answers other than `empty` and `more`, and no refusal
abbrev pub non_empty_report : ReadReport → List ReadReport
non_empty_report (refused number) = []
non_empty_report more = []
non_empty_report empty = []
non_empty_report (message version sequence command n) = message version sequence command n ∷ []
non_empty_report (failed reason sequence) = failed reason sequence ∷ []

unfoldable pub non_empty_reports : List ReadReport → List ReadReport
non_empty_reports [] = []
non_empty_reports (a ∷ rest) = non_empty_report a ++ non_empty_reports rest

-- the report of a tail of so many bytes: its length, or above 4,140 bytes that it is longer
unfoldable pub tail_of_length : ℕ → TailReport
tail_of_length n = cond (ltb longest_form n) longer (unfinished n)

-- the messages handed out, the failures reported, the answers, each in order, and the tail
pub record Agrees (l : Listing) (r : Reader) : Type 0 where
  pub messages : r.messages ≡ listed_by good_of l.entries
  pub failures : r.failures ≡ listed_by reason_of l.entries
  pub answers : non_empty_reports r.answered ≡ listed_by reports_of l.entries
  pub tail : tail_promise r.state ≡ tail_of_length l.tail

-- ---- Calls for a stream that is cut into pieces

-- the bytes of pieces, one after the other
unfoldable pub joined_pieces : List (List ℕ) → List ℕ
joined_pieces [] = []
joined_pieces (p ∷ ps) = p ++ joined_pieces ps

-- a call stops behind the first 00 of its piece: behind each, the rest of the piece is given to the next call
unfoldable pub behind_each : Loan → List ℕ → List LineCall
behind_each l [] = []
behind_each l (zero ∷ bs) = read (record { lent = l; piece = bs }) ∷ behind_each l bs
behind_each l (suc b ∷ bs) = behind_each l bs

-- calls for pieces, each lent what l says
unfoldable pub calls_for : Loan → List (List ℕ) → List LineCall
calls_for l [] = []
calls_for l (p ∷ ps) = read (record { lent = l; piece = p }) ∷ (behind_each l p ++ calls_for l ps)
