-- Whoever repeats `next` and `judged` over a capture gets its listing, and comes to its end.
-- Assumes nothing.
use mathlib.Core.Path.{◌≡◌, refl, sym, ◌∙◌}
use mathlib.Core.List.{List, [], ◌∷◌}
use Prim.Native.Nat.{ℕ, zero, suc, ◌+◌, ◌-◌, ◌<◌}
use native.Mathlib.Nat.{add-zero}
use native.Mathlib.Omega.{arith}
use lib.ListN.{length}
use Rattle.std.specs.Prelude.{Result}
use Rattle.octets.specs.Bytes.{run}
use Rattle.octets.proofs.Overlay.{length_run}
use Rattle.line.specs.Judge.{judge}
use Rattle.plain.specs.Listing.{Listing, listed_frame, listing}
use Rattle.plain.specs.Answers.{NextReport, next_report, piece_at, plain_verdict}
use Rattle.plain.specs.declared.Head.{Head}
use Rattle.plain.specs.declared.Failure.{Failure}
use Rattle.plain.proofs.Steps.{listed_from, added, at-frame, at_tail}
use Rattle.plain_claims.specs.Agreement.{calls_for}
use Rattle.plain_claims.proofs.Agreement.{agreement}
use Rattle.plain_claims.proofs.CutReads.{cut_reads}
use Rattle.plain_claims.specs.Item13.{RepeatedFrom, tail, empty, frame, Repeated, RepeatedAgrees, EndsReached}

entry-some : (at : ℕ) (p : List ℕ) → 0 < length p → listed_frame at p ≡ (record { start = at; verdict = judge p }) ∷ []
unfolding listed_frame
entry-some at [] h = absurd (omega arith)
entry-some at (b ∷ bs) h = refl

module _ (w : List ℕ) where
  -- an empty frame, and any other
  step-empty : (at : ℕ) → NextReport.frame 0 ≡ piece_at w at → listed_from w at ≡ listed_from w (at + 1)
  unfolding listed_frame
  step-empty at e = rw add-zero at (at-frame w at e).step

  step-frame : (at n : ℕ) → NextReport.frame (suc n) ≡ piece_at w at
      → listed_from w at ≡ added ((record { start = at; verdict = judge (run at (suc n) w) }) ∷ []) (listed_from w (at + suc n + 1))
  step-frame at n e =
      let f = at-frame w at e in
      let i = f.within in
      let l = length_run at (suc n) w (omega arith) in
      f.step ∙ rw (entry-some at (run at (suc n) w) (omega arith))

  repeated-from : {at : ℕ} {l : Listing} → RepeatedFrom w at l → l ≡ listed_from w at
  unfolding next_report
  repeated-from (tail {at = at} e) = sym (at_tail w at e).step
  repeated-from (empty {at = at} e r) = repeated-from r ∙ sym (step-empty at e)
  repeated-from (frame {at = at} n answer array e v r) = rw (step-frame at n e, v, repeated-from r)

  -- there is such a listing
  module _ (answer : List ℕ → Result Head Failure) (array : List ℕ → List ℕ)
      (promise : (form : List ℕ) → plain_verdict (answer form) (array form) ≡ judge form) where
    ends_by : (left at : ℕ) → length w - at < left → (p : NextReport) → p ≡ piece_at w at → RepeatedFrom w at (listed_from w at)
    unfolding next_report
    ends_by zero at h p e = absurd (omega arith)
    ends_by (suc left) at h (NextReport.tail n) e = rw (at_tail w at e).step (tail e)
    ends_by (suc left) at h (NextReport.frame zero) e =
        let i = (at-frame w at e).within in
        rw (step-empty at e) (empty e (ends_by left (at + 1) (omega arith) (piece_at w (at + 1)) refl))
    ends_by (suc left) at h (NextReport.frame (suc n)) e =
        let i = (at-frame w at e).within in
        let f = run at (suc n) w in
        rw (step-frame at n e, ← promise f)
        (frame n (answer f) (array f) e (promise f) (ends_by left (at + suc n + 1) (omega arith) (piece_at w (at + suc n + 1)) refl))

-- from the capture's start on
pub repeated : Repeated
unfolding listing
repeated w l r = repeated-from w r

-- by what a fresh line reader agrees with
pub repeated_agrees : RepeatedAgrees
repeated_agrees w l r =
    let agrees = rw (← repeated w l r) at (agreement w) in
    (agrees, λ room enough loan whole ps e. agrees room enough (calls_for loan ps) (cut_reads room enough loan whole ps ∙ e))

pub ends : EndsReached
unfolding listing
ends w answer array promise = ends_by w answer array promise (suc (length w)) 0 (omega arith) (piece_at w 0) refl
