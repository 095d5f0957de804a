-- What is claimed of a tap on the wire of a supervisor, over any calls of it from an accepted start, without the line layer's own calls.
-- Assumes nothing: these are statements.
use Rattle.std.specs.Prelude.{◌≡◌, true, false, List, [], ◌∷◌, ◌++◌, ◌⊎◌, ℕ, ◌<◌, length, take, drop}
use Rattle.std.proofs.Math.Option.{Option, none, some}
use Rattle.octets.specs.Bytes.{Each}
use Rattle.line.specs.Numbers.{command_key_lookup, reply_key_lookup}
use Rattle.line.specs.Message.{Message}
use Rattle.line.specs.Frame.{split}
use Rattle.line.specs.Judge as Line
use Rattle.supervisor.specs.Limits.{last_edition}
use Rattle.supervisor.specs.Number.{top_set}
use Rattle.supervisor.specs.State.{unset}
use Rattle.supervisor.specs.Calls.{Parts}
use Rattle.responder.specs.Requests.{Verdict, good, Reply, verdict, edition_bytes}
use Rattle.supervisor_claims.specs.View.{view}
use Rattle.supervisor_claims.specs.Histories.{Typed, Lent, Made, enough, made, left, AllTyped, receive_with, start_with, OfStart}
use Rattle.supervisor_claims.specs.FrameHistory.{bytes_received_by, starts_anew, received_since_all}
use Rattle.supervisor_claims.specs.Demand2.{NoZeros}
use Rattle.supervisor_claims.specs.LastSet.{Stays, set_after, fitted_of, ReadBack}
use Rattle.supervisor_claims.specs.Replies.{reply_by}
use Rattle.tap.specs.Capture.{Tick, missed, started, marked, nothing_come, Event, bytes_towards, bytes_from, ticks}
use Rattle.tap.specs.Earned.{Numbers, earned, may_hold, older_than_newest}
use Rattle.tap.specs.Accused.{Accusation, stale, key_asked, most_asked, result_told, value_told, is_lookup_form, set_with, is_newest}
use Rattle.tap.specs.Accused.{newest_set_number}
use Rattle.tap.specs.Tap.{Newest, Listed, request, part, reply, fell, tap_listing}
use Rattle.tap_claims.specs.Captures.{capture_of, LeftOut, Delayed}
use Rattle.tap_claims.specs.Moments.{Moment, at_first, moment_after, listed_from, ByteTick, Unmarked, requests_listed, NoFailedRequest}
use Rattle.tap_claims.specs.Moments.{sets_newest_first}

-- ---- A right supervisor is never accused

abbrev pub accusations : Listed → List Accusation
accusations (request v) = []
accusations part = []
accusations (reply v w found) = found
accusations (fell m) = []

abbrev pub NotAccused : Listed → Type 0
NotAccused x = accusations x ≡ []

abbrev pub NeverAccused : Type 0
NeverAccused = OfStart (λ p l d. (ms : List Made) → AllTyped ms → (xs ys : List Tick)
    → LeftOut (capture_of p (start_with l d ∷ ms)) xs → Delayed xs ys → Each NotAccused (tap_listing ys))

abbrev pub BeginsAnywhere : Type 0
BeginsAnywhere = (ts : List Tick) → tap_listing (marked missed ∷ ts) ≡ fell missed ∷ tap_listing ts

-- ---- Every reply that is taken whole between two frames is judged, unless another frame may have earned its number

-- neither a start nor a restore, and it reads no 00
pub record BringsNoFrame (m : Made) : Type 0 where
  pub stays : Stays m
  pub no_zeros : NoZeros (bytes_received_by m)

-- judged as the answer to the frame with this verdict, exactly where no other frame may have earned the number
abbrev pub JudgedExactlyAs : Numbers → Verdict → Option Newest → Type 0
JudgedExactlyAs numbers v none = may_hold (older_than_newest numbers) (earned v) ≡ true
JudgedExactlyAs numbers v (some w) = (w.verdict ≡ v) × (may_hold (older_than_newest numbers) (earned v) ≡ false)

abbrev pub message_of : Reply → Message
message_of r = record { version = r.version; sequence = r.sequence; command = r.command; payload = r.payload }

-- Where no 00 is owed, no frame from the supervisor is open on the wire. A start into a reply that is being taken leaves its front there,
-- and the bytes of the next reply come behind that front.
abbrev pub NoneCutOff : Moment → Parts → Type 0
NoneCutOff x p = (view p).terminator_owed ≡ false → nothing_come x.begun.from ≡ true

-- The bytes bs and a 00 are received behind calls ms, and the frame b ∷ f that this 00 closes earns the reply r. Behind it come calls that
-- bring no frame, and all that was pending is taken. The last that is listed then is r.
abbrev pub JudgedExactly : Type 0
JudgedExactly = OfStart (λ p l d. (ms : List Made) → AllTyped ms → let q = left (made p (start_with l d)).parts ms in
    (j : Lent) (image bs : List ℕ) → let c = receive_with image j (bs ++ (0 ∷ [])) in Typed c.call → enough c.call j ≡ true
    → (b : ℕ) (f : List ℕ) → (split (received_since_all [] ms ++ bs)).rest ≡ b ∷ f
    → (r : Reply) → reply_by image (view (made q (receive_with image j bs)).parts) (verdict (b ∷ f)) ≡ some r
    → (ns : List Made) → AllTyped ns → Each BringsNoFrame ns → (view (left (made q c).parts ns)).pending ≡ []
    → let x = moment_after at_first (capture_of p (start_with l d ∷ (ms ++ (c ∷ [])))) in NoneCutOff x (made q c).parts
    → (before : List Listed) × (w : Option Newest) × (found : List Accusation)
    × (listed_from x (capture_of (made q c).parts ns) ≡ before ++ (reply (Line.good (message_of r)) w found ∷ []))
    × JudgedExactlyAs x.tap.fresh (verdict (b ∷ f)) w)

-- only a start cuts a reply off
abbrev pub OneStartCutsNone : Type 0
OneStartCutsNone = OfStart (λ p l d. (ms : List Made) → AllTyped ms → Each (λ (m : Made). starts_anew m ≡ false) ms
    → NoneCutOff (moment_after at_first (capture_of p (start_with l d ∷ ms))) (left (made p (start_with l d)).parts ms))

-- ---- A stale list is seen

abbrev pub AccusedOf : Accusation → List Accusation → Type 0
AccusedOf a [] = ⊥
AccusedOf a (x ∷ xs) = (a ≡ x) ⊎ AccusedOf a xs

-- the answer r to the lookup m, of a key that the requests ms set since the start, and what it is accused of
pub record LookupSeen (ms : List Message) (m r : Message) (found : List Accusation) : Type 0 where
  -- accused of nothing, it is exactly what the sets leave: the last value, or result 2 or 3, and the edition that counts them
  pub reported : found ≡ [] → let f = fitted_of (most_asked m) (set_after (key_asked m) unset ms) in
      r ≡ record {
        version = m.version;
        sequence = top_set m.sequence;
        command = reply_key_lookup;
        payload = f.result ∷ (edition_bytes m.version f ++ f.value);
      }
  -- the value of one of the last four sets, other than the newest's, is STALE, with the numbers of both requests
  pub stale_told : let xs = take 4 (sets_newest_first (key_asked m) [] ms) in length (sets_newest_first (key_asked m) [] ms) < last_edition
      → r.command ≡ reply_key_lookup → is_lookup_form r ≡ true → result_told r ≡ 0 → is_newest (value_told r) xs ≡ false
      → (older : ℕ) → set_with (value_told r) (drop 1 xs) ≡ some older → AccusedOf (stale older (newest_set_number xs)) found

-- behind a start, with no mark since, and no judged decode failure of a valid request
abbrev pub StaleSeen : Type 0
StaleSeen = (ts us : List Tick) → Each ByteTick us → Each Unmarked us
    → (xs ys : List Listed) (r : Message) (w : Newest) (found : List Accusation)
    → listed_from (moment_after at_first (ts ++ (marked started ∷ []))) us ≡ xs ++ (reply (Line.good r) (some w) found ∷ ys)
    → Each NoFailedRequest xs
    → (m : Message) → w.verdict ≡ good m → m.command ≡ command_key_lookup → ReadBack (key_asked m)
    → LookupSeen (requests_listed xs) m r found

-- ---- As the capture comes

abbrev pub Streaming : Type 0
Streaming = (ts us : List Tick) → tap_listing (ts ++ us) ≡ tap_listing ts ++ listed_from (moment_after at_first ts) us

abbrev pub CutAnywhere : Type 0
CutAnywhere = (es fs : List Event) (bs cs : List ℕ)
    → (ticks (es ++ (bytes_towards (bs ++ cs) ∷ fs)) ≡ ticks (es ++ (bytes_towards bs ∷ (bytes_towards cs ∷ fs))))
    × (ticks (es ++ (bytes_from (bs ++ cs) ∷ fs)) ≡ ticks (es ++ (bytes_from bs ∷ (bytes_from cs ∷ fs))))

-- all of it
pub record TapClaims : Type 0 where
  -- The capture that any calls make, with any stretches left out, each replaced by the mark of missed bytes, and then delayed, earns no
  -- accusation. So an accusation shows that the chip on the wire is not this supervisor; or that the tap did not see just the bytes that it
  -- read and sent, or saw one towards it too late or one from it too early; or that a mark is missing, or bytes crossed one.
  pub never_accused : NeverAccused
  -- a capture that does not begin with a start is listed as one behind missed bytes
  pub begins_anywhere : BeginsAnywhere
  -- In a capture at the calls, a reply that was taken whole between two frames, and not behind one that a start cut off, is judged exactly
  -- where no other frame may have earned its number since the frame that a judged reply last answered. What may be so goes by the numbers
  -- that the tap keeps (`may_hold`).
  pub judged_exactly : JudgedExactly
  -- and without a start behind the first one no reply is cut off
  pub one_start_cuts_none : OneStartCutsNone
  -- A judged answer to a lookup of key 3, 4 or 5, with the sets since the last start all seen: accused of nothing, it is exactly what they
  -- leave. The value of an older one of the last four is told as stale.
  pub stale_seen : StaleSeen
  -- what is listed of a capture's beginning stays, and the rest follows from the tap as it stands there
  pub streaming : Streaming
  -- an event's bytes in two events are the same capture
  pub cut_anywhere : CutAnywhere
