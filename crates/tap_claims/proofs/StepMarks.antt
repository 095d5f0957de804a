-- The invariant is kept at a mark: a start, a restore, bytes that were missed.
-- Assumes the statements of `Fitting`, which its laws take.
use mathlib.Core.Path.{◌≡◌, refl, sym, ap, ◌∙◌}
use mathlib.Core.Bool.{Bool, true, false, false≢true, not}
use mathlib.Core.List.{List, [], ◌∷◌}
use mathlib.Core.Option.{Option, none, some}
use Prim.Native.Nat.{ℕ}
use native.Mathlib.Omega.{arith}
use Rattle.line.proofs.Judged.{tail_within}
use Rattle.supervisor.specs.State.{Factory, State, fresh}
use Rattle.saving.specs.Saving
use Rattle.tap.specs.Capture.{started, restored, missed, Unended, nothing_come, marked, tick}
use Rattle.tap.specs.Known.{known_restored}
use Rattle.tap.specs.Tap.{Tap, tap_unsure, tap_started, tap_marked, hearing}
use Rattle.tap_claims.proofs.CutForm.{none-some}
use Rattle.tap_claims.proofs.Fits.{Held}
use Rattle.tap_claims.proofs.Outgoing.{stream-also}
use Rattle.tap_claims.proofs.Coming.{OlderNumber}
use Rattle.tap_claims.proofs.Hears.{NewestReply}
use Rattle.tap_claims.proofs.System.{core, Reached}
use Rattle.tap_claims.proofs.Reached.{Restored, restored-rest}
use Rattle.tap_claims.proofs.Invariant.{Fitting, Settled, Inv, settled, parted, awaiting, Goes}

-- ---- a start

-- a frame that has begun is spoiled
fresh-settled : (F : Fitting) (come : Option (List ℕ)) (f : Factory) → Settled come false false tap_started (core (fresh f)) []
unfolding fresh
fresh-settled F come f = record {
  awake = refl;
  long = refl;
  fits = F.at_start f;
  spoiled = not (nothing_come come);
  front = [];
  marks = λ e. (begun (nothing_come come) e, refl, refl);
  come_is = λ s. none-come come s.1 ∙ sym (tail_within [] (omega arith));
  stream = λ _. refl;
  edge = λ _. refl;
}
  where
    begun : (a : Bool) → not a ≡ true → a ≡ false
    begun true e = sym e
    begun false e = refl

    none-come : (o : Option (List ℕ)) → not (nothing_come o) ≡ false → o ≡ some []
    none-come none e = absurd (false≢true (sym e))
    none-come (some []) e = refl
    none-come (some (b ∷ bs)) e = absurd (false≢true (sym e))

pub start-step : (F : Fitting) (g : Unended) (t : Tap) (f : Factory) → Goes g t (marked started) (core (fresh f)) [] []
unfolding tick hearing tap_marked fresh
start-step F g t f = ((refl, tt), settled tap_started refl refl (fresh-settled F g.from f))

-- ---- missed bytes

pub awaits : (g : Unended) (s : State) → Reached s → Inv g tap_unsure (core s) [] []
awaits g s h = let o = h.owing in awaiting o.0 false refl tt o.1 (λ e. absurd (false≢true e), o.2)

pub miss-step : (g : Unended) (t : Tap) (s : State) → Reached s → Goes g t (marked missed) (core s) [] []
unfolding tick hearing tap_marked
miss-step g t s h = ((refl, tt), awaits _ s h)

-- ---- a restore

nothing-restored : tap_marked restored tap_unsure ≡ tap_unsure
unfolding tap_marked known_restored
nothing-restored = refl

module _ (F : Fitting) (s r : State) (image : List ℕ) (e : Saving.restore s image ≡ Saving.left r) (held : Held s) where
  k : Restored s r
  k = restored-rest s r image e

  restored-settled : (come : Option (List ℕ)) (quiet unmarked : Bool) (u : Tap) → Settled come quiet unmarked u (core s) []
      → Settled come false false (tap_marked restored u) (core r) []
  unfolding tap_marked
  restored-settled come quiet unmarked u h = record {
    awake = h.awake;
    long = h.long;
    fits = F.restored u.known s r image held h.fits e;
    spoiled = h.spoiled;
    front = h.front;
    marks = λ f. ((h.marks f).0, refl, refl);
    come_is = h.come_is;
    stream =
        rw k.pending
        (stream-also (OlderNumber u) (NewestReply u s.factory s.settings s.retained) (OlderNumber u)
        (NewestReply (tap_marked restored u) r.factory r.settings r.retained)
        (λ n o. o) (λ m n. (n.0, λ w f. none-some f)) s.pending u.unsure h.spoiled h.front h.stream);
    edge = rw k.owes h.edge;
  }

  pub restore-step : (g : Unended) (t : Tap) → Inv g t (core s) [] [] → Goes g t (marked restored) (core r) [] []
  unfolding tick hearing
  restore-step g t (settled u a b h) = (
    (refl, tt),
    settled (tap_marked restored u) (ap (tap_marked restored) a) (rw k.received b)
        (restored-settled g.from g.quiet g.unmarked u h),
  )
  restore-step g t (parted u [] rest a n b c p) = let z : ◌≡◌ {A = ℕ} 0 1 = cc in absurd (omega arith)
  restore-step g t (parted u (d ∷ first) rest a n b c p) = let z : ◌≡◌ {A = ℕ} 0 1 = cc in absurd (omega arith)
  restore-step g t (awaiting most inside a n l h) =
      ((refl, tt), awaiting most inside (ap (tap_marked restored) a ∙ nothing-restored) tt l (rw (k.owes, k.pending) h))
