-- Behind calls from an accepted start without another start, a frame from the supervisor is open on the wire exactly where it owes a 00.
-- Assumes nothing.
use mathlib.Core.Path.{◌≡◌, refl, ap, ◌∙◌}
use mathlib.Core.Bool.{false, not}
use mathlib.Core.List.{List, [], ◌∷◌}
use mathlib.Core.Option.{Option}
use Prim.Native.Nat.{ℕ, zero, suc}
use lib.Dec.{eqb, eqb-suc-zero}
use Rattle.octets.specs.Bytes.{Each}
use Rattle.octets.proofs.Conditions.{cond-by}
use Rattle.both_claims.proofs.laws.Lists.{each-then}
use Rattle.supervisor.specs.State.{State, fresh}
use Rattle.supervisor.specs.Local.{after_take}
use Rattle.supervisor.specs.Calls.{Parts}
use Rattle.responder.specs.Requests.{Verdict, verdict_since, receive_byte}
use Rattle.supervisor_claims.specs.View.{view}
use Rattle.supervisor_claims.specs.Histories.{Made, made, left, start_with}
use Rattle.supervisor_claims.specs.FrameHistory.{bytes_received_by, starts_anew}
use Rattle.supervisor_claims.proofs.claims.History.{started}
use Rattle.tap.specs.Capture as Capture
use Rattle.tap.specs.Capture.{Went, nothing_come, Tick, towards, from, marked}
use Rattle.tap.specs.Capture.{tick, tick_towards, tick_from}
use Rattle.tap_claims.specs.Captures.{capture_of}
use Rattle.tap_claims.specs.Moments.{Moment, at_first, moment_behind, moment_after}
use Rattle.tap_claims.specs.Claims.{OneStartCutsNone}
use Rattle.tap_claims.proofs.System.{Core, core, Steps}
use Rattle.tap_claims.proofs.Reached.{read_more, read_none, read-frame, put-core, restored-rest}
use Rattle.tap_claims.proofs.FromCalls.{calls-run, Brings, calls-each, start-ticks}
use Rattle.tap_claims.proofs.StepHeard.{come-more}

-- ---- no start

abbrev StartsNone : Tick → Type 0
StartsNone (towards b) = Unit {0}
StartsNone (from b) = Unit {0}
StartsNone (marked Capture.started) = ⊥
StartsNone (marked Capture.restored) = Unit {0}
StartsNone (marked Capture.missed) = Unit {0}

any-bytes : (bs : List ℕ) → Each (λ b. StartsNone (towards b)) bs
any-bytes [] = tt
any-bytes (b ∷ bs) = (tt, any-bytes bs)

calls-none : (p : Parts) (ms : List Made) → Each (λ (m : Made). starts_anew m ≡ false) ms → Each StartsNone (capture_of p ms)
calls-none p ms h =
    calls-each StartsNone (λ _. tt) p ms
    (each-then (λ (m : Made). starts_anew m ≡ false) (Brings StartsNone (λ _. tt))
    (λ m e. record { no_start = e; restored = λ _. tt; bytes = any-bytes (bytes_received_by m) }) ms h)

-- ---- each step

-- a frame is open exactly where a 00 is owed
abbrev Open : State → Moment → Type 0
Open s x = nothing_come x.begun.from ≡ not s.terminator_owed

owes-core : (s t : State) → core t ≡ core s → t.terminator_owed ≡ s.terminator_owed
owes-core s t e = ap (λ (c : Core). c.owes) e

read-owes : (image : List ℕ) (b : ℕ) (s : State) → (receive_byte image s b).terminator_owed ≡ s.terminator_owed
read-owes image (suc b) s = ap (λ (t : State). t.terminator_owed) (read_more image s b)
read-owes image zero s = by (verdict_since s.received) refl
  where
    by : (o : Option Verdict) → verdict_since s.received ≡ o → (receive_byte image s 0).terminator_owed ≡ s.terminator_owed
    by Option.none e = ap (λ (t : State). t.terminator_owed) (read_none image s e)
    by (Option.some v) e = ap (λ (c : Core). c.owes) (read-frame image s v e)

towards-from : (x : Moment) (b : ℕ) → (moment_behind x (towards b)).begun.from ≡ x.begun.from
unfolding moment_behind tick tick_towards
towards-from x b = cond-by (λ (w : Went). w.begun.from ≡ x.begun.from) (eqb b 0) _ _ (λ _. refl) (λ _. refl)

put-open : (b : ℕ) (bs : List ℕ) (s : State) (x : Moment) → s.pending ≡ b ∷ bs → Open (after_take s 1) (moment_behind x (from b))
unfolding moment_behind tick tick_from
put-open zero bs s x e = rw (ap (λ (c : Core). c.owes) (put-core s 0 bs e))
put-open (suc b) bs s x e =
    rw (ap (λ (c : Core). c.owes) (put-core s (suc b) bs e), eqb-suc-zero) (come-more x.begun.from b)

restored-from : (x : Moment) → (moment_behind x (marked Capture.restored)).begun.from ≡ x.begun.from
unfolding moment_behind tick
restored-from x = refl

module _ (end : State) where
  abbrev Until : State → List Tick → Type 0
  Until s ts = Each StartsNone ts → (x : Moment) → Open s x → Open end (moment_after x ts)

  until-steps : Steps Until
  unfolding moment_after
  until-steps = record {
    read = λ image b s ts i y k h x o.
        k h.1 (moment_behind x (towards b)) (rw (read-owes image b s) (ap nothing_come (towards-from x b) ∙ o));
    put = λ b bs s ts e k h x o. k h.1 (moment_behind x (from b)) (put-open b bs s x e);
    local = λ s t ts e held k h x o. k h x (rw (owes-core s t e) o);
    starts = λ f s ts held k h x o. absurd h.0;
    restores = λ image s t ts e held k h x o.
        k h.1 (moment_behind x (marked Capture.restored))
        (rw (restored-rest s t image e).owes (ap nothing_come (restored-from x) ∙ o));
  }

-- ---- from an accepted start

pub one_start_cuts_none : OneStartCutsNone
unfolding moment_after moment_behind tick fresh
one_start_cuts_none p b l d typed e ms t h owes =
    let q = (made p (start_with l d)).parts in
    let k = started p b l d typed e in
    let end = view (left q ms) in
    let first : Open (view q) (moment_behind at_first (marked Capture.started)) = rw k.0 in
    rw (start-ticks p l d typed e ms)
    (calls-run (Until end) (until-steps end) q k.1 ms t (λ _ x o. o) (calls-none q ms h) (moment_behind at_first (marked Capture.started))
    first ∙ ap not owes)
