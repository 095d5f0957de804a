-- Behind a start, a frame from the supervisor that is judged has only bytes of the ticks since, and so have the data that are read of it.
-- Assumes nothing.
use mathlib.Core.Path.{◌≡◌, refl}
use mathlib.Core.Bool.{Bool, true, false, ◌||◌}
use mathlib.Core.List.{List, [], ◌∷◌, ◌++◌}
use mathlib.Core.Option.{Option, none, some}
use Prim.Native.Nat.{ℕ, ◌<◌}
use native.Mathlib.Omega.{arith}
use lib.Dec.{ltb, eqb}
use lib.ListN.{length}
use Rattle.octets.specs.Bytes.{Byte, Each}
use Rattle.octets.proofs.Conditions.{cond-by}
use Rattle.octets.proofs.Each.{each_append}
use Rattle.line.specs.Limits.{longest_form}
use Rattle.line.specs.Message.{Message, InRange}
use Rattle.line.specs.Judge as Line
use Rattle.line.specs.Judge.{judge_received, more_received}
use Rattle.line.proofs.Judged.{fit_length, judge-good, uncobs-each, received-good}
use Rattle.line_claims.proofs.MessageLaws.{fields-range}
use Rattle.tap.specs.Capture.{Tick, towards, from, marked, Happening, asked, answered, mark, Unended, nothing_come, Went}
use Rattle.tap.specs.Capture.{tick, tick_towards, tick_from, with_happening, happenings, started}
use Rattle.tap.specs.Tap.{tap_started, hearing, tap_marked}
use Rattle.tap_claims.specs.Moments.{Moment, at_first, moment_behind, moment_after, ByteTick, Unmarked}

-- ---- What has come of a frame

abbrev pub EachCome : Option (List ℕ) → Type 0
EachCome none = Unit {0}
EachCome (some bs) = Each Byte bs

nothing-each : (o : Option (List ℕ)) → nothing_come o ≡ true → EachCome o
nothing-each none e = tt
nothing-each (some []) e = tt
nothing-each (some (b ∷ bs)) e = absurd (let z : ◌≡◌ {A = ℕ} 0 1 = cc in omega arith)

more-each : (o : Option (List ℕ)) (b : ℕ) → b < 256 → EachCome o → EachCome (more_received o b)
unfolding more_received
more-each none b l h = tt
more-each (some bs) b l h =
    cond-by EachCome (ltb (length bs) longest_form) _ _ (λ e. each_append Byte bs (b ∷ []) h (l, tt)) (λ e. tt)

-- where nothing has come of it, or it is quiet, what has come are bytes
abbrev pub QuietBytes : Option (List ℕ) → Bool → Type 0
QuietBytes o quiet = (nothing_come o || quiet) ≡ true → EachCome o

not-quiet : (o : Option (List ℕ)) → QuietBytes o false
not-quiet o e = by (nothing_come o) refl e
  where
    by : (t : Bool) → nothing_come o ≡ t → (t || false) ≡ true → EachCome o
    by true f e = nothing-each o f
    by false f e = absurd (let z : ◌≡◌ {A = ℕ} 0 1 = cc in omega arith)

more-quiet : (o : Option (List ℕ)) (quiet : Bool) (b : ℕ) → b < 256 → QuietBytes o quiet
    → QuietBytes (more_received o b) (nothing_come o || quiet)
more-quiet o quiet b l h = by (nothing_come o || quiet) refl
  where
    by : (t : Bool) → (nothing_come o || quiet) ≡ t → QuietBytes (more_received o b) t
    by true f = λ e. more-each o b l (h f)
    by false f = not-quiet (more_received o b)

-- ---- What happens

-- of a frame that is quiet
abbrev pub OfBytes : Happening → Type 0
OfBytes (asked bs) = Unit {0}
OfBytes (answered bs quiet unmarked) = quiet ≡ true → EachCome bs
OfBytes (mark m) = ⊥

abbrev SomeOfBytes : Option Happening → Type 0
SomeOfBytes none = Unit {0}
SomeOfBytes (some h) = OfBytes h

record WentOn (w : Went) : Type 0 where
  quiet : QuietBytes w.begun.from w.begun.quiet
  happening : SomeOfBytes w.happening

tick-bytes : (t : Tick) → ByteTick t → Unmarked t → (g : Unended) → QuietBytes g.from g.quiet → WentOn (tick g t)
unfolding tick tick_towards tick_from
tick-bytes (towards c) b u g h =
    cond-by WentOn (eqb c 0) _ _ (λ e. record { quiet = not-quiet g.from; happening = tt }) (λ e. record { quiet = h; happening = tt })
tick-bytes (from c) b u g h =
    cond-by WentOn (eqb c 0) _ _ (λ e. record { quiet = λ e. tt; happening = h })
    (λ e. record { quiet = more-quiet g.from g.quiet c b h; happening = tt })
tick-bytes (marked m) b u g h = absurd u

pub happenings-bytes : (ts : List Tick) → Each ByteTick ts → Each Unmarked ts → (g : Unended) → QuietBytes g.from g.quiet
    → Each OfBytes (happenings g ts)
unfolding happenings
happenings-bytes [] b u g h = tt
happenings-bytes (t ∷ ts) b u g h =
    let w = tick-bytes t b.0 u.0 g h in
    let c = (tick g t).begun in
    ahead (tick g t).happening w.happening (happenings c ts) (happenings-bytes ts b.1 u.1 c w.quiet)
  where
    ahead : (o : Option Happening) → SomeOfBytes o → (hs : List Happening) → Each OfBytes hs → Each OfBytes (with_happening o hs)
    ahead none k hs r = r
    ahead (some y) k hs r = (k, r)

-- the moment behind a start
pub moment-append : (x : Moment) (ts us : List Tick) → moment_after x (ts ++ us) ≡ moment_after (moment_after x ts) us
unfolding moment_after
moment-append x [] us = refl
moment-append x (t ∷ ts) us = moment-append (moment_behind x t) ts us

pub record Started (x : Moment) : Type 0 where
  pub quiet : QuietBytes x.begun.from x.begun.quiet
  pub tap : x.tap ≡ tap_started

pub behind-start : (ts : List Tick) → Started (moment_after at_first (ts ++ (marked started ∷ [])))
unfolding moment_after moment_behind tick hearing tap_marked
behind-start ts =
    rw (moment-append at_first ts (marked started ∷ []))
    (record { quiet = not-quiet (moment_after at_first ts).begun.from; tap = refl })

-- ---- The message that it is read as

pub judged-bytes : (o : Option (List ℕ)) (r : Message) → judge_received o ≡ some (Line.good r) → EachCome o → Each Byte r.payload
judged-bytes o r e h =
    let f = received-good o r e in
    let g = judge-good f.0 r f.2 in
    let b : Each Byte f.0 = rw f.1 at h in
    let i : InRange r = rw g.is (fields-range g.xs (uncobs-each f.0 g.xs b g.decoded) (fit_length g.xs g.fits).1) in
    i.typed.payload
