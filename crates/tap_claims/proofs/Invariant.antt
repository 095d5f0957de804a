-- What holds between a run's state and the tap that has seen so far: all frames seen are carried out or are among the bytes ahead, and the
-- bytes still to be seen are their replies. Assumes nothing: these are definitions, and the statements that are used.
use mathlib.Core.Path.{◌≡◌}
use mathlib.Core.Bool.{Bool, true, false}
use mathlib.Core.List.{List, [], ◌∷◌, ◌++◌}
use mathlib.Core.Option.{Option, none, some}
use Prim.Native.Nat.{ℕ, ◌+◌, ◌≤◌}
use Rattle.octets.specs.Bytes.{Each}
use Rattle.line.specs.Judge.{progress_of}
use Rattle.supervisor.specs.State.{Factory, Settings, Retained}
use Rattle.tap.specs.Capture.{Unended, nothing_come, Happening, Tick, tick}
use Rattle.tap.specs.Known.{known_nothing}
use Rattle.tap.specs.Tap.{Tap, tap_unsure, Noted, heard, hearing}
use Rattle.tap_claims.specs.Claims.{NotAccused}
use Rattle.tap_claims.proofs.Fits.{Fits, FitsAtStart, FitsNothing, FitsRestored, FitsBehind, RepliesRightly}
use Rattle.tap_claims.proofs.Remembered.{Long}
use Rattle.tap_claims.proofs.Outgoing.{Sure, Stream, Edge}
use Rattle.tap_claims.proofs.Counted.{Left}
use Rattle.tap_claims.proofs.Coming.{verdicts_in, progress_after, asked_all, OlderNumber}
use Rattle.tap_claims.proofs.Hears.{NewestReply}
use Rattle.tap_claims.proofs.System.{Core}

-- what is known of the supervisor fits, and its replies are right
pub record Fitting : Type 0 where
  pub at_start : FitsAtStart
  pub of_nothing : FitsNothing
  pub restored : FitsRestored
  pub behind : FitsBehind
  pub rightly : RepliesRightly

-- ---- With a tap that has seen no more than is carried out

-- of the frame from the supervisor that is not ended: what has come of it, and what fell since its first byte
pub record SettledBy (come : Option (List ℕ)) (quiet unmarked : Bool) (t : Tap) (f : Factory) (z : Settings) (k : Option Retained)
    (behind pending : List ℕ) (owes : Bool) : Type 0 where
  pub awake : t.awaiting ≡ false
  pub long : Long t.fresh
  pub fits : Fits t.known f z k
  -- a mark fell into the frame, and its front is of another time
  pub spoiled : Bool
  pub front : List ℕ
  pub marks : spoiled ≡ true → (nothing_come come ≡ false) × (quiet ≡ false) × (unmarked ≡ false)
  pub come_is : Sure t.unsure spoiled → come ≡ progress_of front
  pub stream : Stream (OlderNumber t) (NewestReply t f z k) t.unsure spoiled front (behind ++ pending)
  pub edge : Edge t.unsure spoiled front behind owes

-- by what counts of a state: the received bytes do not
abbrev pub Settled : Option (List ℕ) → Bool → Bool → Tap → Core → List ℕ → Type 0
Settled come quiet unmarked t x behind =
    SettledBy come quiet unmarked t x.factory x.settings x.retained behind x.pending x.owes

-- ---- Where only the end of a frame towards the supervisor was seen, and it is not carried out

pub record PartedBy (t : Tap) (behind pending : List ℕ) (owes : Bool) : Type 0 where
  pub awake : t.awaiting ≡ false
  pub long : Long t.fresh
  pub nothing : t.known ≡ known_nothing
  pub most : ℕ
  pub inside : Bool
  pub room : most + 1 ≤ t.unsure
  pub left : Left most inside behind owes pending

abbrev pub Parted : Tap → Core → List ℕ → Type 0
Parted t x behind = PartedBy t behind x.pending x.owes

-- ---- With any tap

pub data Inv (g : Unended) (t : Tap) (x : Core) (ahead behind : List ℕ) : Type 0 where
  settled : (u : Tap) → t ≡ asked_all u (verdicts_in x.received ahead) → g.towards ≡ progress_after x.received ahead
      → Settled g.from g.quiet g.unmarked u x behind → Inv g t x ahead behind
  parted : (u : Tap) (first rest : List ℕ) → ahead ≡ first ++ (0 ∷ rest) → Each (λ b. 1 ≤ b) first
      → t ≡ asked_all u (verdicts_in (some []) rest) → g.towards ≡ progress_after (some []) rest → Parted u x behind
      → Inv g t x ahead behind
  awaiting : (most : ℕ) (inside : Bool) → t ≡ tap_unsure → Each (λ b. 1 ≤ b) ahead → most ≤ 2
      → Left most inside behind x.owes x.pending → Inv g t x ahead behind

-- ---- A tick

abbrev pub hears : Tap → Option Happening → Noted
hears t none = heard t []
hears t (some h) = hearing t h

-- nothing is accused at it, and what holds behind it
abbrev pub Goes : Unended → Tap → Tick → Core → List ℕ → List ℕ → Type 0
Goes g t k x ahead behind =
    let w = tick g k in
    let h = hears t w.happening in
    Each NotAccused h.listed × Inv w.begun h.tap x ahead behind
