-- The claims over a tap on the wire, proved: one element of their record in specs/.
-- Assumes nothing.
use Rattle.tap_claims.specs.Claims.{TapClaims}
use Rattle.tap_claims.proofs.KnownLaws.{fits-nothing, fits-at-start, fits-restored}
use Rattle.tap_claims.proofs.Rightly.{fits-behind, replies-rightly}
use Rattle.tap_claims.proofs.Invariant.{Fitting}
use Rattle.tap_claims.proofs.NeverAccused.{never_accused, begins_anywhere}
use Rattle.tap_claims.proofs.JudgedExactly.{judged_exactly}
use Rattle.tap_claims.proofs.NoneCutOff.{one_start_cuts_none}
use Rattle.tap_claims.proofs.StaleSeen.{stale_seen}
use Rattle.tap_claims.proofs.Streaming.{streaming, cut_anywhere}

fitting : Fitting
fitting = record {
  at_start = fits-at-start;
  of_nothing = fits-nothing;
  restored = fits-restored;
  behind = fits-behind;
  rightly = replies-rightly;
}

pub proved : TapClaims
proved = record {
  never_accused = never_accused fitting;
  begins_anywhere = begins_anywhere;
  judged_exactly = judged_exactly fitting;
  one_start_cuts_none = one_start_cuts_none;
  stale_seen = stale_seen;
  streaming = streaming;
  cut_anywhere = cut_anywhere;
}
