-- The samples of the plain reader's listing hold, by one computation.
-- Assumes nothing.
use mathlib.Core.Path.{refl}
use Rattle.octets.specs.Bytes.{number, equal}
use Rattle.line.specs.Checksum.{sums, checksum}
use Rattle.line.specs.Cobs.{group_bytes, uncobs}
use Rattle.line.specs.Judge.{fields, judge_form, judge}
use Rattle.line.specs.Frame.{split}
use Rattle.line_claims.specs.Samples.{status_request}
use Rattle.plain.specs.Listing.{listed_frame, listed_frames, listing}
use Rattle.plain_claims.specs.Samples.{plain_samples}
use Rattle.plain_claims.specs.Item13.{PlainSamplesHold}

pub samples_hold : PlainSamplesHold
unfolding plain_samples status_request listing split listed_frames listed_frame number equal sums checksum group_bytes uncobs fields
    judge_form
    judge
samples_hold = refl
