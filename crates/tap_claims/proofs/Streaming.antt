-- What is listed goes on from a moment, and a capture may be cut anywhere.
-- Assumes nothing.
use mathlib.Core.Path.{◌≡◌, refl, sym, ap, ◌∙◌}
use mathlib.Core.List.{List, [], ◌∷◌, ◌++◌, append_assoc}
use mathlib.Core.Option.{Option, none, some}
use Prim.Native.Nat.{ℕ}
use Rattle.tap.specs.Capture.{Happening, Tick, tick, happenings, with_happening, Event, bytes_towards, bytes_from, ticks, ticks_of}
use Rattle.tap.specs.Capture.{towards, from, ticks_towards, ticks_from}
use Rattle.tap.specs.Tap.{Listed, hearing, listing_of, tap_listing}
use Rattle.tap_claims.specs.Moments.{Moment, at_first, moment_behind, moment_after, listed_from, tap_behind}
use Rattle.tap_claims.specs.Claims.{Streaming, CutAnywhere}

-- ---- From a moment on

goes_on : (x : Moment) (ts us : List Tick) → listed_from x (ts ++ us) ≡ listed_from x ts ++ listed_from (moment_after x ts) us
unfolding listed_from moment_after moment_behind happenings listing_of
goes_on x [] us = refl
goes_on x (t ∷ ts) us = by (tick x.begun t).happening (goes_on (moment_behind x t) ts us)
  where
    by : (h : Option Happening) → let g = (tick x.begun t).begun in let y : Moment = record { begun = g; tap = tap_behind x.tap h } in
        listing_of (tap_behind x.tap h) (happenings g (ts ++ us))
        ≡ listing_of (tap_behind x.tap h) (happenings g ts) ++ listed_from (moment_after y ts) us
        → listing_of x.tap (with_happening h (happenings g (ts ++ us)))
        ≡ listing_of x.tap (with_happening h (happenings g ts)) ++ listed_from (moment_after y ts) us
    by none e = e
    by (some h) e = ap (λ (xs : List Listed). (hearing x.tap h).listed ++ xs) e ∙ sym (append_assoc (hearing x.tap h).listed _ _)

pub streaming : Streaming
unfolding tap_listing listed_from
streaming ts us = goes_on at_first ts us

-- ---- Pieces

towards-append : (bs cs : List ℕ) → ticks_towards (bs ++ cs) ≡ ticks_towards bs ++ ticks_towards cs
unfolding ticks_towards
towards-append [] cs = refl
towards-append (b ∷ bs) cs = ap (λ (ts : List Tick). towards b ∷ ts) (towards-append bs cs)

from-append : (bs cs : List ℕ) → ticks_from (bs ++ cs) ≡ ticks_from bs ++ ticks_from cs
unfolding ticks_from
from-append [] cs = refl
from-append (b ∷ bs) cs = ap (λ (ts : List Tick). from b ∷ ts) (from-append bs cs)

behind-events : (es fs gs : List Event) → ticks fs ≡ ticks gs → ticks (es ++ fs) ≡ ticks (es ++ gs)
unfolding ticks
behind-events [] fs gs e = e
behind-events (x ∷ es) fs gs e = ap (λ (ts : List Tick). ticks_of x ++ ts) (behind-events es fs gs e)

-- an event's ticks in two
in_two : (x y z : Event) (fs : List Event) → ticks_of x ≡ ticks_of y ++ ticks_of z → ticks (x ∷ fs) ≡ ticks (y ∷ (z ∷ fs))
unfolding ticks
in_two x y z fs e = ap (λ (ts : List Tick). ts ++ ticks fs) e ∙ append_assoc (ticks_of y) (ticks_of z) (ticks fs)

pub cut_anywhere : CutAnywhere
unfolding ticks_of
cut_anywhere es fs bs cs = (
  behind-events es _ _ (in_two (bytes_towards (bs ++ cs)) (bytes_towards bs) (bytes_towards cs) fs (towards-append bs cs)),
  behind-events es _ _ (in_two (bytes_from (bs ++ cs)) (bytes_from bs) (bytes_from cs) fs (from-append bs cs)),
)
