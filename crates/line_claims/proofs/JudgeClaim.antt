-- Claims: the tests make of the COBS form of a message in range that message, and a received checksum with a byte ff never matches.
-- Assumes nothing.
use mathlib.Core.Path.{◌≡◌, refl}
use mathlib.Core.Logic.{◌⊎◌, inl, inr}
use mathlib.Core.Option.{some}
use Prim.Native.Nat.{ℕ, ◌/◌, ◌%◌, ◌<◌}
use native.Mathlib.Omega.{arith}
use borrow.Author.Tests.{le-ltb, eq-eqb, ne_eqb}
use lib.ListN.{length}
use Rattle.line.specs.Limits.{shortest_message, longest_message, longest_form}
use Rattle.line.specs.Checksum.{checksum}
use Rattle.line.specs.Message.{Message, InRange, body, message}
use Rattle.line.specs.Cobs.{cobs}
use Rattle.line.specs.Judge.{good, body_of, checksum_of}
use Rattle.line.specs.Judge.{judge_form, judge}
use Rattle.line_claims.proofs.CobsClaims.{round_trip, form_fits}
use Rattle.line.proofs.Checksum.{checksum-low}
use Rattle.line.proofs.Message.{length-message}
use Rattle.line_claims.proofs.MessageLaws.{body-read, checksum-read, magic-read, fields_read}
use Rattle.line_claims.specs.Demand3.{FfNeverMatches, FfReason2}

message-good : (m : Message) → InRange m → judge_form (some (message m)) ≡ good m
unfolding judge_form
message-good m r =
    let l = length-message m in
    rw (
      le-ltb (length (message m)) shortest_message (omega arith),
      le-ltb longest_message (length (message m)) (omega arith),
      body-read m,
      checksum-read m,
      eq-eqb (checksum (body m)) _ refl,
      magic-read m,
      fields_read m r,
    )

pub judge-of-message : (m : Message) → InRange m → judge (cobs (message m)) ≡ good m
unfolding judge
judge-of-message m r = rw (le-ltb longest_form _ (form_fits m r), round_trip (message m)) (message-good m r)

pub ff_never_matches : FfNeverMatches
ff_never_matches xs h = rw (ne_eqb (checksum_of xs) (checksum (body_of xs)) (λ e. differs (checksum-low (body_of xs)) e h))
  where
    differs : {c d : ℕ} → (d % 256 < 255) × (d / 256 < 255) → c ≡ d → (c % 256 ≡ 255) ⊎ (c / 256 ≡ 255) → ⊥
    differs l e (inl p) = omega arith
    differs l e (inr p) = omega arith

pub ff_reason_2 : FfReason2
unfolding judge_form
ff_reason_2 xs e h = rw (e, ff_never_matches xs h)
