-- Calls that bring no frame move the pending bytes. Where these are a reply, behind a 00 where one is owed, the last that is listed is that
-- reply, judged exactly where no other frame may have earned its number. Assumes nothing.
use mathlib.Core.Path.{◌≡◌, refl, sym, ap, ◌∙◌}
use mathlib.Core.Bool.{Bool, true, false, false≢true, cond, not, ◌&&◌, ◌||◌, or-true}
use mathlib.Core.List.{List, [], ◌∷◌, ◌++◌, append_assoc, append-nil}
use mathlib.Core.Option.{Option, none, some}
use Prim.Native.Nat.{ℕ, zero, suc, ◌-◌, ◌≤◌}
use native.Mathlib.Omega.{arith}
use lib.Dec.{eqb, eqb-suc-zero}
use borrow.Author.Tests.{eq-eqb}
use Rattle.octets.specs.Bytes.{Each}
use Rattle.line.specs.Message.{Message, InRange, message}
use Rattle.line.specs.Cobs.{places_left, groups, cobs}
use Rattle.line.specs.Frame.{form, frame}
use Rattle.line.specs.Judge as Line
use Rattle.line.specs.Judge.{more_received, progress_of, judge_received}
use Rattle.line.proofs.Judged.{judged-progress, more-tail, tail_within}
use Rattle.line_claims.proofs.CobsClaims.{above_zero}
use Rattle.line_claims.proofs.JudgeClaim.{judge-of-message}
use Rattle.both_claims.proofs.laws.Lists.{each-then}
use Rattle.supervisor.specs.State.{State}
use Rattle.supervisor.specs.Calls.{Parts}
use Rattle.responder.specs.Requests.{Verdict, owed, receive_byte}
use Rattle.supervisor_claims.specs.View.{view}
use Rattle.supervisor_claims.specs.Sound.{Sound}
use Rattle.supervisor_claims.specs.Histories.{Made, left, AllTyped}
use Rattle.tap.specs.Capture.{Happening, answered, nothing_come, Tick, towards, from, marked}
use Rattle.tap.specs.Capture.{tick, tick_towards, tick_from, happenings}
use Rattle.tap.specs.Earned.{earned, Numbers, may_hold, older_than_newest}
use Rattle.tap.specs.Accused.{Accusation, reply_accused}
use Rattle.tap.specs.Tap.{Newest, Tap, tap_heard, judged_by, judged, Listed, reply, unjudged_accused, heard_judged, heard_answered, hearing}
use Rattle.tap.specs.Tap.{listing_of}
use Rattle.tap_claims.specs.Captures.{capture_of}
use Rattle.tap_claims.specs.Moments.{Moment, listed_from}
use Rattle.tap_claims.specs.Claims.{BringsNoFrame, JudgedExactlyAs}
use Rattle.tap_claims.proofs.System.{Core, Steps}
use Rattle.tap_claims.proofs.Reached.{read_more}
use Rattle.tap_claims.proofs.FromCalls.{put-pending, calls-run, Brings, calls-each}
use Rattle.tap_claims.proofs.AtTheCalls.{SureTap}

-- ---- ticks that end no frame towards the supervisor, and the bytes from it among them

abbrev EndsNone : Tick → Type 0
EndsNone (towards b) = 1 ≤ b
EndsNone (from b) = Unit {0}
EndsNone (marked m) = ⊥

abbrev bytes_from : List Tick → List ℕ
bytes_from [] = []
bytes_from (towards b ∷ ts) = bytes_from ts
bytes_from (from b ∷ ts) = b ∷ bytes_from ts
bytes_from (marked m ∷ ts) = bytes_from ts

calls-none : (p : Parts) (ns : List Made) → Each BringsNoFrame ns → Each EndsNone (capture_of p ns)
calls-none p ns h =
    calls-each EndsNone (λ _. tt) p ns
    (each-then BringsNoFrame (Brings EndsNone (λ _. tt)) (λ m k. record {
      no_start = k.stays.no_start;
      restored = λ e. absurd (false≢true (sym k.stays.no_restore ∙ e));
      bytes = k.no_zeros;
    }) ns h)

-- ---- the bytes from it are those that were pending

module _ (end : State) where
  abbrev Moves : State → List Tick → Type 0
  Moves s ts = Each EndsNone ts → bytes_from ts ++ end.pending ≡ s.pending

  moves_read : (image : List ℕ) (b : ℕ) (s : State) (ts : List Tick) → Moves (receive_byte image s b) ts → Moves s (towards b ∷ ts)
  moves_read image zero s ts k h = absurd (omega (arith, h.0))
  moves_read image (suc b) s ts k h = k h.1 ∙ ap (λ (x : State). x.pending) (read_more image s b)

  moves-steps : Steps Moves
  moves-steps = record {
    read = λ image b s ts i y k. moves_read image b s ts k;
    put = λ b bs s ts e k h. ap (λ (xs : List ℕ). b ∷ xs) (k h.1 ∙ put-pending s b bs e) ∙ sym e;
    local = λ s t ts e held k h. k h ∙ ap (λ (x : Core). x.pending) e;
    starts = λ f s ts held k h. absurd h.0;
    restores = λ image s t ts e held k h. absurd h.0;
  }

pending-moved : (p : Parts) → Sound p → (ns : List Made) → AllTyped ns → Each BringsNoFrame ns → (view (left p ns)).pending ≡ []
    → bytes_from (capture_of p ns) ≡ (view p).pending
pending-moved p s ns t h e =
    let end = view (left p ns) in
    sym (append-nil (bytes_from (capture_of p ns)))
    ∙ ap (λ (xs : List ℕ). bytes_from (capture_of p ns) ++ xs) (sym e)
    ∙ calls-run (Moves end) (moves-steps end) p s ns t (λ _. refl) (calls-none p ns h)

-- ---- what happens by these bytes alone

abbrev pub answers_in : Option (List ℕ) → Bool → Bool → List ℕ → List Happening
answers_in come quiet unmarked [] = []
answers_in come quiet unmarked (zero ∷ w) =
    answered come (nothing_come come || quiet) (nothing_come come || unmarked) ∷ answers_in (some []) true true w
answers_in come quiet unmarked (suc b ∷ w) =
    answers_in (more_received come (suc b)) (nothing_come come || quiet) (nothing_come come || unmarked) w

only-answers : (ts : List Tick) → Each EndsNone ts → (a come : Option (List ℕ)) (quiet unmarked : Bool)
    → happenings (record { towards = a; from = come; quiet = quiet; unmarked = unmarked }) ts
    ≡ answers_in come quiet unmarked (bytes_from ts)
unfolding happenings tick tick_towards tick_from
only-answers [] h a come quiet unmarked = refl
only-answers (towards zero ∷ ts) h a come quiet unmarked = absurd (omega (arith, h.0))
only-answers (towards (suc b) ∷ ts) h a come quiet unmarked =
    rw eqb-suc-zero (only-answers ts h.1 (more_received a (suc b)) come quiet unmarked)
only-answers (from zero ∷ ts) h a come quiet unmarked =
    ap (λ (hs : List Happening). answered come (nothing_come come || quiet) (nothing_come come || unmarked) ∷ hs)
    (only-answers ts h.1 a (some []) true true)
only-answers (from (suc b) ∷ ts) h a come quiet unmarked =
    rw eqb-suc-zero
    (only-answers ts h.1 a (more_received come (suc b)) (nothing_come come || quiet) (nothing_come come || unmarked))
only-answers (marked m ∷ ts) h a come quiet unmarked = absurd h.0

pub listed-pending : (p : Parts) → Sound p → (ns : List Made) → AllTyped ns → Each BringsNoFrame ns → (view (left p ns)).pending ≡ []
    → (x : Moment) → listed_from x (capture_of p ns)
    ≡ listing_of x.tap (answers_in x.begun.from x.begun.quiet x.begun.unmarked (view p).pending)
unfolding listed_from
listed-pending p s ns t h e x =
    let g = x.begun in
    ap (listing_of x.tap)
    (only-answers (capture_of p ns) (calls-none p ns h) g.towards g.from g.quiet g.unmarked
    ∙ ap (answers_in g.from g.quiet g.unmarked) (pending-moved p s ns t h e))

-- a form and its 00
form-answers : (xs front : List ℕ) → Each (λ b. 1 ≤ b) xs → (come : Option (List ℕ)) (quiet unmarked : Bool) → come ≡ progress_of front
    → (nothing_come come || quiet) ≡ true → (nothing_come come || unmarked) ≡ true
    → answers_in come quiet unmarked (xs ++ (0 ∷ [])) ≡ answered (progress_of (front ++ xs)) true true ∷ []
form-answers [] front h come quiet unmarked e q u = rw (append-nil front, q, u, e)
form-answers (zero ∷ xs) front h come quiet unmarked e q u = absurd (omega (arith, h.0))
form-answers (suc b ∷ xs) front h come quiet unmarked e q u =
    rw (← (append_assoc front (suc b ∷ []) xs))
    (form-answers xs (front ++ (suc b ∷ [])) h.1 (more_received come (suc b)) _ _ (rw e (more-tail front (suc b)))
    (rw q (or-true (nothing_come (more_received come (suc b))))) (rw u (or-true (nothing_come (more_received come (suc b))))))

-- ---- a sure tap hears the end of what was cut off, and then the reply

-- the last that is listed is the reply m, judged exactly
abbrev pub EndsJudged : Numbers → Verdict → Message → List Listed → Type 0
EndsJudged numbers v m xs = (before : List Listed) × (o : Option Newest) × (found : List Accusation)
    × (xs ≡ before ++ (reply (Line.good m) o found ∷ [])) × JudgedExactlyAs numbers v o

module _ (t : Tap) (sure : SureTap t) where
  heard-same : tap_heard t ≡ t
  heard-same =
      let e : cond t.awaiting t.unsure (t.unsure - 1) ≡ t.unsure = rw (sure.0, sure.1) in
      ap (λ (n : ℕ). record { awaiting = t.awaiting; unsure = n; fresh = t.fresh; newest = t.newest; known = t.known }) e

  -- of a frame that a frame towards the supervisor fell into, the 00 is counted alone
  unquiet-heard : (unmarked : Bool) (o : Option Line.LineVerdict) → (heard_answered t false unmarked o).tap ≡ tap_heard t
  unfolding judged
  unquiet-heard unmarked none = refl
  unquiet-heard unmarked (some (Line.failure reason sequence)) = refl
  unquiet-heard unmarked (some (Line.good r)) = refl

  cut-off-heard : (come : Option (List ℕ)) (unmarked : Bool) → (hearing t (answered come (nothing_come come || false) unmarked)).tap ≡ t
  unfolding hearing
  cut-off-heard none unmarked = unquiet-heard unmarked (judge_received none) ∙ heard-same
  cut-off-heard (some []) unmarked = heard-same
  cut-off-heard (some (b ∷ bs)) unmarked = unquiet-heard unmarked (judge_received (some (b ∷ bs))) ∙ heard-same

  -- a whole reply under the number that the newest frame earns
  module _ (w : Newest) (newest : t.newest ≡ some w) (m : Message) (range : InRange m) (number : m.sequence ≡ earned w.verdict) where
    abbrev others : Bool
    others = may_hold (older_than_newest t.fresh) (earned w.verdict)

    judged-is : judged t true m ≡ cond (not others) (some w) none
    unfolding judged
    judged-is = by t.unsure sure.1 t.newest newest
      where
        by : (n : ℕ) → n ≡ 0 → (o : Option Newest) → o ≡ some w
            → cond (true && eqb n 0) (judged_by t m o) none ≡ cond (not others) (some w) none
        by n e o f = rw (e, f, number, eq-eqb (earned w.verdict) (earned w.verdict) refl)

    exactly : JudgedExactlyAs t.fresh w.verdict (cond (not others) (some w) none)
    exactly = by others refl
      where
        by : (o : Bool) → others ≡ o → JudgedExactlyAs t.fresh w.verdict (cond (not o) (some w) none)
        by true e = e
        by false e = (refl, e)

    heard-listed : (o : Option Newest) → (found : List Accusation) × ((heard_judged t true m o).listed ≡ reply (Line.good m) o found ∷ [])
    heard-listed none = (unjudged_accused t true m, refl)
    heard-listed (some v) = (reply_accused t.known v.verdict v.due m, refl)

    abbrev Ends : List Listed → Type 0
    Ends = EndsJudged t.fresh w.verdict m

    whole-heard : (found : List Accusation)
        × ((hearing t (answered (progress_of (form m)) true true)).listed ≡ reply (Line.good m) (judged t true m) found ∷ [])
    unfolding hearing cobs
    whole-heard =
        let g = groups places_left (message m) in
        rw (judged-progress (suc g.count) g.after ∙ ap some (judge-of-message m range)) (heard-listed (judged t true m))

    whole-ends : (before : List Listed) → Ends (before ++ listing_of t (answered (progress_of (form m)) true true ∷ []))
    unfolding listing_of
    whole-ends before =
        let k = whole-heard in (
          before,
          judged t true m,
          k.0,
          ap (λ (xs : List Listed). before ++ (xs ++ [])) k.1,
          rw judged-is exactly,
        )

    form-from : (quiet unmarked : Bool)
        → answers_in (some []) quiet unmarked (frame m) ≡ answered (progress_of (form m)) true true ∷ []
    unfolding frame
    form-from quiet unmarked =
        form-answers (form m) [] (above_zero (message m)) (some []) quiet unmarked (sym (tail_within [] (omega arith))) refl refl

    -- behind the 00 that is owed
    pub taken-ends : (come : Option (List ℕ)) (unmarked owes : Bool) → (owes ≡ false → nothing_come come ≡ true)
        → Ends (listing_of t (answers_in come false unmarked (owed owes ++ frame m)))
    unfolding listing_of
    taken-ends come unmarked true h =
        let u = nothing_come come || unmarked in
        let q = nothing_come come || false in
        rw (cut-off-heard come u, form-from true true) (whole-ends (hearing t (answered come q u)).listed)
    taken-ends none unmarked false h = absurd (false≢true (h refl))
    taken-ends (some []) unmarked false h = rw (form-from false unmarked) (whole-ends [])
    taken-ends (some (b ∷ bs)) unmarked false h = absurd (false≢true (h refl))
