-- A capture of both directions of the wire, with marks, and its frames in the order of their 00s.
-- Assumes nothing: these are definitions.
use Rattle.std.specs.Prelude.{Bool, true, false, cond, ◌||◌, List, [], ◌∷◌, ◌++◌, ℕ, eqb}
use Rattle.std.proofs.Math.Option.{Option, none, some}
use Rattle.line.specs.Judge.{more_received}

-- ---- Events in time

-- the supervisor was started; its settings were restored; bytes were missed
pub data Mark : Type 0 where
  started : Mark
  restored : Mark
  missed : Mark

-- a byte towards the supervisor, one from it, or a mark
pub data Tick : Type 0 where
  towards : ℕ → Tick
  from : ℕ → Tick
  marked : Mark → Tick

-- the same in pieces
pub data Event : Type 0 where
  bytes_towards : List ℕ → Event
  bytes_from : List ℕ → Event
  marked_as : Mark → Event

unfoldable pub ticks_towards : List ℕ → List Tick
ticks_towards [] = []
ticks_towards (b ∷ bs) = towards b ∷ ticks_towards bs

unfoldable pub ticks_from : List ℕ → List Tick
ticks_from [] = []
ticks_from (b ∷ bs) = from b ∷ ticks_from bs

unfoldable pub ticks_of : Event → List Tick
ticks_of (bytes_towards bs) = ticks_towards bs
ticks_of (bytes_from bs) = ticks_from bs
ticks_of (marked_as m) = marked m ∷ []

unfoldable pub ticks : List Event → List Tick
ticks [] = []
ticks (e ∷ es) = ticks_of e ++ ticks es

-- ---- Frames

-- What happens at a 00 or a mark. The bytes of a frame are those since the last 00 of its direction, none where they are more than 4,140.
pub data Happening : Type 0 where
  asked : Option (List ℕ) → Happening
  -- of a frame from the supervisor: whether no frame towards it ended and no mark fell since its first byte, and whether no mark fell
  answered : Option (List ℕ) → Bool → Bool → Happening
  mark : Mark → Happening

-- what has come of the frame of each direction that is not ended, and of the one from the supervisor what fell since its first byte
pub record Unended : Type 0 where
  pub towards : Option (List ℕ)
  pub from : Option (List ℕ)
  pub quiet : Bool
  pub unmarked : Bool

abbrev pub none_unended : Unended
none_unended = record { towards = some []; from = some []; quiet = true; unmarked = true }

-- whether nothing has come of a frame
abbrev pub nothing_come : Option (List ℕ) → Bool
nothing_come none = false
nothing_come (some []) = true
nothing_come (some (b ∷ bs)) = false

pub record Went : Type 0 where
  pub begun : Unended
  pub happening : Option Happening

abbrev pub goes_on : Unended → Went
goes_on b = record { begun = b; happening = none }

abbrev pub happens : Unended → Happening → Went
happens b h = record { begun = b; happening = some h }

unfoldable pub tick_towards : Unended → ℕ → Went
tick_towards g b =
    cond (eqb b 0)
    (happens (record { towards = some []; from = g.from; quiet = false; unmarked = g.unmarked }) (asked g.towards))
    (goes_on (record { towards = more_received g.towards b; from = g.from; quiet = g.quiet; unmarked = g.unmarked }))

-- a frame's first byte begins both anew
unfoldable pub tick_from : Unended → ℕ → Went
tick_from g b =
    let q = nothing_come g.from || g.quiet in
    let u = nothing_come g.from || g.unmarked in
    cond (eqb b 0)
    (happens (record { towards = g.towards; from = some []; quiet = true; unmarked = true }) (answered g.from q u))
    (goes_on (record { towards = g.towards; from = more_received g.from b; quiet = q; unmarked = u }))

-- a start drops a begun frame towards the supervisor
abbrev pub begun_towards : Mark → Option (List ℕ) → Option (List ℕ)
begun_towards started bs = some []
begun_towards restored bs = bs
begun_towards missed bs = bs

unfoldable pub tick : Unended → Tick → Went
tick g (towards b) = tick_towards g b
tick g (from b) = tick_from g b
tick g (marked m) = happens (record { towards = begun_towards m g.towards; from = g.from; quiet = false; unmarked = false }) (mark m)

abbrev pub with_happening : Option Happening → List Happening → List Happening
with_happening none hs = hs
with_happening (some h) hs = h ∷ hs

-- what happens in a capture, one after the other
unfoldable pub happenings : Unended → List Tick → List Happening
happenings g [] = []
happenings g (t ∷ ts) = let w = tick g t in with_happening w.happening (happenings w.begun ts)
