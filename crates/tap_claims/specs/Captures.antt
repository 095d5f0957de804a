-- The capture that calls of a supervisor make, the same with stretches left out, and as a tap on the wire sees it.
-- Assumes nothing: these are definitions.
use Rattle.std.specs.Prelude.{cond, List, [], ◌∷◌, ◌++◌, ℕ}
use Rattle.supervisor.specs.Calls.{Parts}
use Rattle.supervisor_claims.specs.Histories.{Did, Made, made}
use Rattle.supervisor_claims.specs.FrameHistory.{bytes_received_by, starts_anew}
use Rattle.supervisor_claims.specs.LastSet.{accepts_restore}
use Rattle.supervisor_claims.specs.Replies.{moved_bytes}
use Rattle.tap.specs.Capture.{started, restored, missed, Tick, towards, from, marked, ticks_towards, ticks_from}

-- ---- At the calls

-- a mark at an accepted start or restore; else what a receive or step read, or what a take moved
unfoldable pub ticks_of_call : Made → Did → List Tick
ticks_of_call m d =
    cond (starts_anew m) (marked started ∷ [])
    (cond (accepts_restore m) (marked restored ∷ [])
    (ticks_towards (bytes_received_by m) ++ ticks_from (moved_bytes d.answer d.out)))

unfoldable pub capture_of : Parts → List Made → List Tick
capture_of p [] = []
capture_of p (m ∷ ms) = let d = made p m in ticks_of_call m d ++ capture_of d.parts ms

-- ---- Stretches left out, each replaced by the mark of missed bytes

pub data LeftOut : List Tick → List Tick → Type 0 where
  nothing : LeftOut [] []
  kept : (t : Tick) {xs ys : List Tick} → LeftOut xs ys → LeftOut (t ∷ xs) (t ∷ ys)
  missing : (zs : List Tick) {xs ys : List Tick} → LeftOut xs ys → LeftOut (zs ++ xs) (marked missed ∷ ys)

-- ---- On the wire

-- A byte towards the supervisor may be seen before it is read, and one from it after it was put out: a byte towards moves ahead of one
-- from, any number of times. None crosses a mark.
pub data Delayed : List Tick → List Tick → Type 0 where
  at_once : (ts : List Tick) → Delayed ts ts
  later : (before : List Tick) (b c : ℕ) (behind : List Tick) {ts : List Tick}
      → Delayed (before ++ (towards c ∷ from b ∷ behind)) ts → Delayed (before ++ (from b ∷ towards c ∷ behind)) ts
