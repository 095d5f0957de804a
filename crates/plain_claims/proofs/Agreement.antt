-- On every stream, cut anywhere, a fresh line reader hands out, reports and answers what the listing has, and reports its tail.
-- Assumes nothing.
use mathlib.Core.Path.{◌≡◌, refl, ap, ◌∙◌}
use mathlib.Core.List.{List, [], ◌∷◌, map}
use Prim.Native.Nat.{ℕ, ◌+◌}
use lib.ListN.{length}
use Rattle.line.specs.Judge.{LineVerdict, failure, good, judge}
use Rattle.line.specs.Reader.{verdict_report}
use Rattle.line.specs.Frame.{split, non_empty}
use Rattle.line_claims.specs.Calls.{frame_report, gathered, good_of, reason_of, tail_meant}
use Rattle.line_claims.proofs.ReaderClaim.{any_stream, any_messages, any_failures, any_tail}
use Rattle.plain.specs.Listing.{listed_frame, listed_frames, listing}
use Rattle.plain_claims.specs.Agreement.{listed_by, reports_of, non_empty_report, non_empty_reports, tail_of_length}
use Rattle.plain_claims.specs.Item13.{Agreement}

listed-gathered : {A : Type 0} (f : LineVerdict → List A) (at : ℕ) (ps : List (List ℕ))
    → gathered f (non_empty ps) ≡ listed_by f (listed_frames at ps)
unfolding gathered non_empty listed_by listed_frames listed_frame
listed-gathered f at [] = refl
listed-gathered f at ([] ∷ ps) = listed-gathered f (at + 0 + 1) ps
listed-gathered f at ((b ∷ bs) ∷ ps) = rw (listed-gathered f (at + length (b ∷ bs) + 1) ps)

report-verdict : (v : LineVerdict) → non_empty_report (verdict_report v) ≡ verdict_report v ∷ []
unfolding verdict_report
report-verdict (failure reason sequence) = refl
report-verdict (good m) = refl

reports-listed : (at : ℕ) (ps : List (List ℕ)) → non_empty_reports (map frame_report ps) ≡ listed_by reports_of (listed_frames at ps)
unfolding non_empty_reports frame_report listed_by listed_frames listed_frame
reports-listed at [] = refl
reports-listed at ([] ∷ ps) = reports-listed (at + 0 + 1) ps
reports-listed at ((b ∷ bs) ∷ ps) = rw (report-verdict (judge (b ∷ bs)), reports-listed (at + length (b ∷ bs) + 1) ps)

tail-is : {v w : List ℕ} → v ≡ w → tail_meant (split v).rest ≡ tail_of_length (length (split w).rest)
unfolding tail_meant tail_of_length
tail-is e = rw e

pub agreement : Agreement
unfolding listing
agreement w room enough cs e =
    let ps = (split w).closed in
    record {
      messages = any_messages room enough cs ∙ rw e (listed-gathered good_of 0 ps);
      failures = any_failures room enough cs ∙ rw e (listed-gathered reason_of 0 ps);
      answers = ap non_empty_reports (any_stream room enough cs) ∙ rw e (reports-listed 0 ps);
      tail = any_tail room enough cs ∙ tail-is e;
    }
