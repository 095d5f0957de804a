-- A right supervisor is never accused, and a tap_listing may begin anywhere.
-- Assumes the statements of `Fitting`, which `never_accused` takes.
use mathlib.Core.Path.{◌≡◌, refl, ap}
use mathlib.Core.Bool.{Bool, true, false}
use mathlib.Core.List.{List, [], ◌∷◌, ◌++◌}
use mathlib.Core.Option.{Option, none, some}
use Prim.Native.Nat.{ℕ, zero, suc}
use lib.Dec.{eqb-suc-zero}
use Rattle.octets.specs.Bytes.{Each}
use Rattle.octets.proofs.Each.{each_append}
use Rattle.line.specs.Judge.{more_received}
use Rattle.supervisor.specs.State.{State, fresh}
use Rattle.supervisor_claims.specs.View.{factory_of}
use Rattle.tap.specs.Capture.{Happening, asked, Unended, none_unended, missed, marked, Tick, tick, tick_towards, tick_from, towards, from}
use Rattle.tap.specs.Capture.{happenings, with_happening}
use Rattle.tap.specs.Tap.{Tap, fell, tap_unsure, tap_marked, hearing, listing_of, tap_listing}
use Rattle.tap_claims.specs.Claims.{NotAccused, NeverAccused, BeginsAnywhere}
use Rattle.tap_claims.proofs.System.{Core, core, Reached, Run}
use Rattle.tap_claims.proofs.Reached.{reached-local, reached-read, reached-put, reached-fresh, reached-restored}
use Rattle.tap_claims.proofs.Delays.{left_out, at-once, delayed}
use Rattle.tap_claims.proofs.FromCalls.{capture-plain}
use Rattle.tap_claims.proofs.Invariant.{Fitting, Inv, hears, Goes}
use Rattle.tap_claims.proofs.StepSeen.{seen_step}
use Rattle.tap_claims.proofs.StepRead.{read_step}
use Rattle.tap_claims.proofs.StepHeard.{put_step, heard-step}
use Rattle.tap_claims.proofs.StepMarks.{awaits, start-step, miss-step, restore-step}

-- ---- one tick more

abbrev Right : Unended → Tap → List Tick → Type 0
Right g t ts = Each NotAccused (listing_of t (happenings g ts))

goes-right : (g : Unended) (t : Tap) (k : Tick) (ts : List Tick) (x : Core) (ahead behind : List ℕ) → Goes g t k x ahead behind
    → Right (tick g k).begun (hears t (tick g k).happening).tap ts → Right g t (k ∷ ts)
unfolding happenings listing_of
goes-right g t k ts x ahead behind (a, i) h = by (tick g k).happening a h
  where
    by : (o : Option Happening) → Each NotAccused (hears t o).listed
        → Each NotAccused (listing_of (hears t o).tap (happenings (tick g k).begun ts))
        → Each NotAccused (listing_of t (with_happening o (happenings (tick g k).begun ts)))
    by none b c = c
    by (some y) b c = each_append NotAccused (hearing t y).listed _ b c

-- ---- a run

module _ (F : Fitting) where
  run-right : {s : State} {ahead behind : List ℕ} {ts : List Tick} → Run s ahead behind ts → (g : Unended) (t : Tap) → Reached s
      → Inv g t (core s) ahead behind → Right g t ts
  unfolding happenings listing_of
  run-right (Run.over s ahead behind) g t h i = tt
  run-right (Run.seen b {s} {ahead} {behind} {ts} r) g t h i =
      let k = seen_step g t (core s) ahead behind b i in
      goes-right g t (towards b) ts (core s) (ahead ++ (b ∷ [])) behind k (run-right r _ _ h k.1)
  run-right (Run.read image b {s} {ahead} {behind} each y r) g t h i =
      run-right r g t (reached-read image s b each y h) (read_step F image each s h g t ahead behind b i)
  run-right (Run.put b bs {s} {ahead} {behind} p r) g t h i =
      run-right r g t (reached-put s b bs p h) (put_step s g t ahead behind b bs p i)
  run-right (Run.heard b {s} {ahead} {behind} {ts} r) g t h i =
      let k = heard-step g t (core s) ahead behind b i in
      goes-right g t (from b) ts (core s) ahead behind k (run-right r _ _ h k.1)
  run-right (Run.local {s} {t = u} {ahead} {behind} c held r) g t h i =
      run-right r g t (reached-local s u c held h) (rw c i)
  run-right (Run.starts f s {ts} held r) g t h i =
      let k = start-step F g t f in goes-right g t _ ts (core (fresh f)) [] [] k (run-right r _ _ (reached-fresh f held) k.1)
  run-right (Run.restores image {s} {t = u} {ts} p held r) g t h i =
      let k = restore-step F s u image p h.held g t i in
      goes-right g t _ ts (core u) [] [] k (run-right r _ _ (reached-restored s u image p held h) k.1)
  run-right (Run.misses s {t = u} {ts} reached r) g t h i =
      let k = miss-step g t u reached in goes-right g t _ ts (core u) [] [] k (run-right r _ _ reached k.1)

  -- ---- the claim

  pub never_accused : NeverAccused
  unfolding tap_listing
  never_accused p b l d typed e ms ts xs ys left late =
      let c = capture-plain p b l d typed e ms ts in
      let h = reached-fresh (factory_of d) c.0 in
      run-right (delayed late (at-once (left_out left (fresh (factory_of d)) h c.1))) none_unended tap_unsure h
      (awaits none_unended (fresh (factory_of d)) h)

-- ---- a tap_listing may begin anywhere

-- what fell since the last frame from the supervisor counts for nothing
abbrev between : Option (List ℕ) → Bool → Bool → Unended
between bs quiet unmarked = record { towards = bs; from = some []; quiet = quiet; unmarked = unmarked }

between-same : (ts : List Tick) (bs : Option (List ℕ)) (q u q' u' : Bool)
    → happenings (between bs q u) ts ≡ happenings (between bs q' u') ts
unfolding happenings tick tick_towards tick_from
between-same [] bs q u q' u' = refl
between-same (towards zero ∷ ts) bs q u q' u' = ap (λ (hs : List Happening). asked bs ∷ hs) (between-same ts (some []) false u false u')
between-same (towards (suc b) ∷ ts) bs q u q' u' = rw eqb-suc-zero (between-same ts (more_received bs (suc b)) q u q' u')
between-same (from b ∷ ts) bs q u q' u' = refl
between-same (marked m ∷ ts) bs q u q' u' = refl

pub begins_anywhere : BeginsAnywhere
unfolding tap_listing listing_of happenings tick hearing tap_marked
begins_anywhere ts =
    ap (λ (hs : List Happening). fell missed ∷ listing_of tap_unsure hs) (between-same ts (some []) false false true true)
