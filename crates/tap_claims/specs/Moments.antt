-- The tap at a moment of a capture, what it lists from there on, and the requests among what is listed.
-- Assumes nothing: these are definitions.
use Rattle.std.specs.Prelude.{◌≡◌, false, List, [], ◌∷◌, ℕ, ◌<◌}
use Rattle.std.proofs.Math.Option.{Option, none, some}
use Rattle.line.specs.Message.{Message}
use Rattle.line.specs.Judge as Line
use Rattle.responder.specs.Requests.{failure, good}
use Rattle.supervisor_claims.specs.LastSet.{set_by}
use Rattle.tap.specs.Capture.{Tick, towards, from, marked, Unended, none_unended, tick, Happening, happenings}
use Rattle.tap.specs.Known.{SetSeen, set_seen}
use Rattle.tap.specs.Tap.{Tap, tap_unsure, Listed, request, part, reply, fell, fails_good, hearing, listing_of}

-- what has come of the frames that are not ended, and what the tap holds
pub record Moment : Type 0 where
  pub begun : Unended
  pub tap : Tap

abbrev pub at_first : Moment
at_first = record { begun = none_unended; tap = tap_unsure }

abbrev pub tap_behind : Tap → Option Happening → Tap
tap_behind t none = t
tap_behind t (some h) = (hearing t h).tap

unfoldable pub moment_behind : Moment → Tick → Moment
moment_behind x t = let w = tick x.begun t in record { begun = w.begun; tap = tap_behind x.tap w.happening }

unfoldable pub moment_after : Moment → List Tick → Moment
moment_after x [] = x
moment_after x (t ∷ ts) = moment_after (moment_behind x t) ts

-- what is listed of ticks from a moment on
unfoldable pub listed_from : Moment → List Tick → List Listed
listed_from x ts = listing_of x.tap (happenings x.begun ts)

-- ---- The ticks

abbrev pub ByteTick : Tick → Type 0
ByteTick (towards b) = b < 256
ByteTick (from b) = b < 256
ByteTick (marked m) = Unit {0}

abbrev pub Unmarked : Tick → Type 0
Unmarked (towards b) = Unit {0}
Unmarked (from b) = Unit {0}
Unmarked (marked m) = ⊥

-- ---- What is listed

-- a frame's request, ahead of others, where it is valid
abbrev pub valid_ahead : Listed → List Message → List Message
valid_ahead (request (failure reason version sequence)) ms = ms
valid_ahead (request (good m)) ms = m ∷ ms
valid_ahead part ms = ms
valid_ahead (reply v w found) ms = ms
valid_ahead (fell m) ms = ms

-- the valid requests, in order
unfoldable pub requests_listed : List Listed → List Message
requests_listed [] = []
requests_listed (x ∷ xs) = valid_ahead x (requests_listed xs)

-- no judged decode failure of a valid request: behind such a one the tap goes on as behind missed bytes
abbrev pub NoFailedRequest : Listed → Type 0
NoFailedRequest (request v) = Unit {0}
NoFailedRequest part = Unit {0}
NoFailedRequest (reply (Line.failure reason sequence) w found) = Unit {0}
NoFailedRequest (reply (Line.good r) none found) = Unit {0}
NoFailedRequest (reply (Line.good r) (some w) found) = fails_good w.verdict r ≡ false
NoFailedRequest (fell m) = Unit {0}

-- the sets of a key among requests, with their numbers and values, the newest first
abbrev pub set_behind : ℕ → Option (List ℕ) → List SetSeen → List SetSeen
set_behind number none xs = xs
set_behind number (some v) xs = set_seen number v ∷ xs

unfoldable pub sets_newest_first : ℕ → List SetSeen → List Message → List SetSeen
sets_newest_first k xs [] = xs
sets_newest_first k xs (m ∷ ms) = sets_newest_first k (set_behind m.sequence (set_by k m) xs) ms
