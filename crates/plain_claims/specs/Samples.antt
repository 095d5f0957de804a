-- Document 02's sample, L10 then L12, and the edges of a listing, as one table, and the same by the meaning.
-- Assumes nothing: these are definitions.
use Rattle.std.specs.Prelude.{List, [], ◌∷◌, ◌++◌, ℕ, replicate}
use Rattle.std.proofs.Math.Option.{none}
use Rattle.line.specs.Judge.{failure, good}
use Rattle.line_claims.specs.Samples.{status_request, status_form}
use Rattle.plain.specs.Listing.{ListedFrame, Listing, listing}

pub record PlainSample : Type 0 where
  pub stream : List ℕ
  pub is : Listing

abbrev pub bad_form : ℕ → ListedFrame
bad_form at = record { start = at; verdict = failure 1 none }

unfoldable pub plain_samples : List PlainSample
plain_samples =
    -- nothing, and zeros alone
    (record { stream = []; is = record { entries = []; tail = 0 } })
    ∷ (record { stream = 0 ∷ 0 ∷ []; is = record { entries = []; tail = 0 } })
    -- L10 then L12
    ∷ (record {
      stream = 0x02 ∷ 0x00 ∷ status_form ++ 0x00 ∷ [];
      is = record { entries = bad_form 0 ∷ (record { start = 2; verdict = good status_request }) ∷ []; tail = 0 };
    })
    -- starts count terminators and empty frames; the tail counts its own bytes alone
    ∷ (record {
      stream = 0x00 ∷ 0x02 ∷ 0x00 ∷ 0x00 ∷ 0x02 ∷ 0x00 ∷ 0x07 ∷ 0x07 ∷ [];
      is = record { entries = bad_form 1 ∷ bad_form 4 ∷ []; tail = 2 };
    })
    -- an overlong frame is listed once; a tail keeps its length
    ∷ (record {
      stream = replicate 4141 1 ++ 0x00 ∷ 0x02 ∷ 0x00 ∷ replicate 4141 1;
      is = record { entries = bad_form 0 ∷ bad_form 4142 ∷ []; tail = 4141 };
    })
    ∷ []

abbrev pub plain_sample_meant : PlainSample → PlainSample
plain_sample_meant s = record { stream = s.stream; is = listing s.stream }
