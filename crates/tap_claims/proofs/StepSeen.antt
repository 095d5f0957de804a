-- The invariant is kept as the tap sees a byte towards the supervisor.
-- Assumes nothing.
use mathlib.Core.Path.{◌≡◌, refl, sym, ap, ◌∙◌}
use mathlib.Core.Bool.{Bool, true, false, false≢true, cond}
use mathlib.Core.List.{List, [], ◌∷◌, ◌++◌, append_assoc}
use mathlib.Core.Option.{Option, none, some}
use Prim.Native.Nat.{ℕ, zero, suc, ◌≤◌}
use native.Mathlib.Omega.{arith}
use lib.Dec.{eqb-suc-zero}
use Rattle.octets.specs.Bytes.{Each}
use Rattle.octets.proofs.Each.{each_append}
use Rattle.responder.specs.Requests.{Verdict, verdict_since}
use Rattle.tap.specs.Capture.{Unended, towards, tick, tick_towards, asked}
use Rattle.tap.specs.Tap.{Tap, tap_unsure, tap_no_longer_awaiting, heard_asked, hearing, heard, part}
use Rattle.tap_claims.specs.Claims.{NotAccused}
use Rattle.tap_claims.proofs.Coming.{verdicts_in, asked_maybe, seen_more, progress-more, progress-zero, seen-zero}
use Rattle.tap_claims.proofs.Coming.{all-awake}
use Rattle.tap_claims.proofs.System.{Core}
use Rattle.tap_claims.proofs.Invariant.{Settled, Inv, settled, parted, awaiting, Goes}

-- a frame is asked of a tap that awaits none
pub asked-so : (t : Tap) (bs : Option (List ℕ)) → t.awaiting ≡ false
    → Each NotAccused (hearing t (asked bs)).listed × ((hearing t (asked bs)).tap ≡ asked_maybe t (verdict_since bs))
unfolding hearing
asked-so t bs e = by t.awaiting e (verdict_since bs)
  where
    by : (a : Bool) → a ≡ false → (o : Option Verdict)
        → let h = cond a (heard (tap_no_longer_awaiting t) (part ∷ [])) (heard_asked t o) in
        Each NotAccused h.listed × (h.tap ≡ asked_maybe t o)
    by true f o = absurd (false≢true (sym f))
    by false f none = (tt, refl)
    by false f (some v) = ((refl, tt), refl)

-- and of one that does
part-so : (t : Tap) (bs : Option (List ℕ)) → t.awaiting ≡ true
    → Each NotAccused (hearing t (asked bs)).listed × ((hearing t (asked bs)).tap ≡ tap_no_longer_awaiting t)
unfolding hearing
part-so t bs e = by t.awaiting e
  where
    by : (a : Bool) → a ≡ true
        → let h = cond a (heard (tap_no_longer_awaiting t) (part ∷ [])) (heard_asked t (verdict_since bs)) in
        Each NotAccused h.listed × (h.tap ≡ tap_no_longer_awaiting t)
    by true f = ((refl, tt), refl)
    by false f = absurd (false≢true f)

module _ (g : Unended) (t : Tap) (x : Core) (ahead behind : List ℕ) where
  -- a byte of a frame
  more-seen : (b : ℕ) → Inv g t x ahead behind → Goes g t (towards (suc b)) x (ahead ++ (suc b ∷ [])) behind
  unfolding tick tick_towards
  more-seen b (settled u e f s) =
      rw eqb-suc-zero
      (tt, settled u (rw (seen_more x.received ahead b) e) (rw (progress-more x.received ahead b, f)) s)
  more-seen b (parted u first rest a n e f p) =
      rw eqb-suc-zero (
        tt,
        parted u first (rest ++ (suc b ∷ [])) (rw a (append_assoc first (0 ∷ rest) (suc b ∷ []))) n (rw (seen_more (some []) rest b) e)
            (rw (progress-more (some []) rest b, f)) p,
      )
  more-seen b (awaiting most inside e n l h) =
      rw eqb-suc-zero (tt, awaiting most inside e (each_append (λ c. 1 ≤ c) ahead (suc b ∷ []) n (omega arith, tt)) l h)

  -- a quiet frame from the supervisor no longer is
  unquiet : (u : Tap) → Settled g.from g.quiet g.unmarked u x behind → Settled g.from false g.unmarked u x behind
  unquiet u s = record {
    awake = s.awake;
    long = s.long;
    fits = s.fits;
    spoiled = s.spoiled;
    front = s.front;
    marks = λ e. let m = s.marks e in (m.0, refl, m.2);
    come_is = s.come_is;
    stream = s.stream;
    edge = s.edge;
  }

  -- the 00 of one
  zero_seen : Inv g t x ahead behind → Goes g t (towards 0) x (ahead ++ (0 ∷ [])) behind
  unfolding tick tick_towards
  zero_seen (settled u e f s) =
      let a : t.awaiting ≡ false = rw e (all-awake (verdicts_in x.received ahead) u s.awake) in
      let k = asked-so t g.towards a in (
        k.0,
        settled u (k.1 ∙ rw (f, e) (sym (seen-zero x.received ahead u))) (sym (progress-zero x.received ahead)) (unquiet u s),
      )
  zero_seen (parted u first rest a n e f p) =
      let w : t.awaiting ≡ false = rw e (all-awake (verdicts_in (some []) rest) u p.awake) in
      let k = asked-so t g.towards w in (
        k.0,
        parted u first (rest ++ (0 ∷ [])) (rw a (append_assoc first (0 ∷ rest) (0 ∷ []))) n
            (k.1 ∙ rw (f, e) (sym (seen-zero (some []) rest u))) (sym (progress-zero (some []) rest)) p,
      )
  zero_seen (awaiting most inside e n l h) =
      let k = part-so t g.towards (ap (λ (y : Tap). y.awaiting) e) in (
        k.0,
        parted (tap_no_longer_awaiting tap_unsure) ahead [] refl n (k.1 ∙ ap tap_no_longer_awaiting e) refl
            (record { awake = refl; long = refl; nothing = refl; most = most; inside = inside; room = omega arith; left = h }),
      )

  pub seen_step : (b : ℕ) → Inv g t x ahead behind → Goes g t (towards b) x (ahead ++ (b ∷ [])) behind
  seen_step zero i = zero_seen i
  seen_step (suc b) i = more-seen b i
