-- The plain reader's claims, proved: one element of the record of statements in specs/.
-- Assumes nothing.
use Rattle.plain_claims.specs.Item13.{PlainItem13}
use Rattle.plain_claims.proofs.Samples.{samples_hold}
use Rattle.plain_claims.proofs.Agreement.{agreement}
use Rattle.plain_claims.proofs.CutReads.{cut_reads}
use Rattle.plain_claims.proofs.Repeated.{repeated, repeated_agrees, ends}

pub item-13 : PlainItem13
item-13 = record {
  samples_hold = samples_hold;
  agreement = agreement;
  cut_reads = cut_reads;
  repeated = repeated;
  repeated_agrees = repeated_agrees;
  ends = ends;
}
