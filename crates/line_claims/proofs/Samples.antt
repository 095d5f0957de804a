-- Document 01's line samples L1 to L12 and the ends of full groups, as one table, held to the line layer's meaning by one computation.
-- Assumes nothing.
use mathlib.Core.Path.{refl}
use Rattle.octets.specs.Bytes.{number, bytes, equal}
use Rattle.line.specs.Checksum.{sums, checksum}
use Rattle.line.specs.Message.{body, message}
use Rattle.line.specs.Cobs.{groups, cobs, group_bytes, uncobs}
use Rattle.line.specs.Frame.{frame}
use Rattle.line.specs.Judge.{fields, judge_form, judge}
use Rattle.line_claims.specs.Samples.{line_sample_meant, status_request, line_samples}
use Rattle.line_claims.specs.Demand3.{LineSamplesHold}

pub samples_hold : LineSamplesHold
unfolding line_sample_meant line_samples status_request number bytes equal sums checksum body message groups cobs group_bytes uncobs frame
    fields judge_form judge
samples_hold = refl
