-- What holds, after any calls, of the main processor's state and of what was put out and read.
-- Assumes nothing.
use mathlib.Core.Path.{◌≡◌}
use mathlib.Core.List.{List}
use mathlib.Core.Option.{some}
use Prim.Native.Nat.{ℕ}
use Rattle.octets.specs.Bytes.{Each, Byte}
use Rattle.line.specs.Message.{Message, InRange}
use Rattle.line.specs.Frame.{frame, split, NonZero}
use Rattle.line.specs.Judge as Line
use Rattle.line.specs.Judge.{judge}
use Rattle.requester.specs.State.{MainState}
use Rattle.requester_claims.specs.Numbers.{Frame, OnePerNumber}
use Rattle.requester_claims.proofs.Numbers.{Agrees}
use Rattle.responder.specs.Requests.{good, verdict}
use Rattle.line.specs.Judge.{progress_of}
use Rattle.both_claims.specs.Ends
use Rattle.both_claims.specs.Ends.{reply_to_request, Any, Handled, Log, reply_made, RequestUnder, NotAsked}
use Rattle.both_claims.proofs.laws.Lists.{Front, any-so, each_and, each-any, each-front}
use Rattle.both_claims.proofs.laws.Ranges.{Ranged, RangedFrame}

-- a frame that was put out, in this state
pub record PutOut (s : MainState) (x : Frame) : Type 0 where
  pub agrees : Agrees x s
  pub ranged : RangedFrame x

-- a frame that the supervisor handled
pub record Known (s : MainState) (h : Handled) : Type 0 where
  pub nonzero : Each NonZero h.form
  pub asked : Each (PutOut s) h.asked
  -- the reply to a request is in range
  pub reply : (m : Message) → verdict h.form ≡ good m → (r : Message) → reply_to_request h.image h.state m ≡ some r → InRange r

-- where it is a good message of which P holds, it had been put out
abbrev pub HandledFromMain : (Message → Type 0) → Handled → Type 0
HandledFromMain P h = (m : Message) → judge h.form ≡ Line.good m → P m → Any (λ (x : Frame). x.bytes ≡ frame m) h.asked

-- all of them
abbrev pub AllFromMain : (Message → Type 0) → Log → Type 0
AllFromMain P l = Each (HandledFromMain P) l.handled

-- a reply that was made to one of these
abbrev pub MadeTo : List Handled → Message → Type 0
MadeTo hs r = Any (λ (h : Handled). reply_made h ≡ some r) hs

-- what holds of both
pub record Kept (s : MainState) (l : Log) : Type 0 where
  pub progress : s.received ≡ progress_of (split l.read).rest
  pub ranged : Ranged s
  pub read : Each Byte l.read
  pub bytes : Each Byte l.received
  pub asked : Each (PutOut s) l.asked
  pub ordered : OnePerNumber l.asked
  pub heard : Each InRange l.heard
  pub handled : Each (Known s) l.handled
  -- what had been put out as each of these was handled
  pub before : Each (λ (h : Handled). Front h.asked l.asked) l.handled
  pub pending : (r : Message) → l.pending ≡ some r → MadeTo l.handled r
  pub sent : Each (MadeTo l.handled) l.sent

-- of each frame that was handled, where the requests under the newest number are the main processor's own
abbrev pub KnownFrom : MainState → Handled → Type 0
KnownFrom s h = Known s h × HandledFromMain (RequestUnder s.newest) h

pub known_from : (s : MainState) (l : Log) → Kept s l → AllFromMain (RequestUnder s.newest) l → Each (KnownFrom s) l.handled
known_from s l kept from = each_and (Known s) _ _ (λ h a b. (a, b)) l.handled kept.handled from

-- what was handled when no more had been put out than at an earlier moment
pub not-asked-by : (e : Ends.Ends) (n : ℕ) → NotAsked e n → (h : Handled) → Front h.asked e.log.asked → (P : Frame → Type 0)
    → Any (λ (x : Frame). (x.number ≡ n) × P x) h.asked → ⊥
not-asked-by e n new h front P a =
    any-so (λ (x : Frame). ⊥) (λ x f. f) h.asked
    (each-any (λ (x : Frame). x.number ≡ n → ⊥) _ (λ (x : Frame). ⊥) (λ x f b. f b.0) h.asked (each-front _ front new) a)
