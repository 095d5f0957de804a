-- The frames towards a supervisor that were seen and are not carried out yet: the tap behind them is the tap ahead of them, asked each.
-- Assumes nothing.
use mathlib.Core.Path.{◌≡◌, refl, ap, ◌∙◌}
use mathlib.Core.Bool.{true, false}
use mathlib.Core.List.{List, [], ◌∷◌, ◌++◌}
use mathlib.Core.Option.{Option, none, some}
use Prim.Native.Nat.{ℕ, zero, suc, ◌≤◌}
use Rattle.line.specs.Numbers.{top_bit}
use Rattle.line.specs.Judge.{more_received}
use Rattle.responder.specs.Requests.{Verdict, verdict_since}
use Rattle.tap.specs.Earned.{earned, may_hold, older_than_newest}
use Rattle.tap.specs.Tap.{Tap, tap_asked, tap_heard}
use Rattle.tap_claims.proofs.Remembered.{Long, remember-long, held-older, older-held}

-- ---- the frames in bytes, behind what has come of the first of them

abbrev pub verdict_ahead : Option Verdict → List Verdict → List Verdict
verdict_ahead none vs = vs
verdict_ahead (some v) vs = v ∷ vs

abbrev pub verdicts_in : Option (List ℕ) → List ℕ → List Verdict
verdicts_in r [] = []
verdicts_in r (zero ∷ w) = verdict_ahead (verdict_since r) (verdicts_in (some []) w)
verdicts_in r (suc b ∷ w) = verdicts_in (more_received r (suc b)) w

-- what has come of the frame behind them
abbrev pub progress_after : Option (List ℕ) → List ℕ → Option (List ℕ)
progress_after r [] = r
progress_after r (zero ∷ w) = progress_after (some []) w
progress_after r (suc b ∷ w) = progress_after (more_received r (suc b)) w

-- ---- the tap behind them

abbrev pub asked_all : Tap → List Verdict → Tap
asked_all t [] = t
asked_all t (v ∷ vs) = asked_all (tap_asked t v) vs

abbrev pub asked_maybe : Tap → Option Verdict → Tap
asked_maybe t none = t
asked_maybe t (some v) = tap_asked t v

-- ---- one byte more

pub seen_more : (r : Option (List ℕ)) (w : List ℕ) (b : ℕ) → verdicts_in r (w ++ (suc b ∷ [])) ≡ verdicts_in r w
seen_more r [] b = refl
seen_more r (zero ∷ w) b = ap (verdict_ahead (verdict_since r)) (seen_more (some []) w b)
seen_more r (suc c ∷ w) b = seen_more (more_received r (suc c)) w b

pub progress-more : (r : Option (List ℕ)) (w : List ℕ) (b : ℕ)
    → progress_after r (w ++ (suc b ∷ [])) ≡ more_received (progress_after r w) (suc b)
progress-more r [] b = refl
progress-more r (zero ∷ w) b = progress-more (some []) w b
progress-more r (suc c ∷ w) b = progress-more (more_received r (suc c)) w b

pub progress-zero : (r : Option (List ℕ)) (w : List ℕ) → progress_after r (w ++ (zero ∷ [])) ≡ some []
progress-zero r [] = refl
progress-zero r (zero ∷ w) = progress-zero (some []) w
progress-zero r (suc c ∷ w) = progress-zero (more_received r (suc c)) w

pub seen-zero : (r : Option (List ℕ)) (w : List ℕ) (t : Tap)
    → asked_all t (verdicts_in r (w ++ (zero ∷ []))) ≡ asked_maybe (asked_all t (verdicts_in r w)) (verdict_since (progress_after r w))
seen-zero r [] t = by (verdict_since r)
  where
    by : (o : Option Verdict) → asked_all t (verdict_ahead o []) ≡ asked_maybe t o
    by none = refl
    by (some v) = refl
seen-zero r (zero ∷ w) t = by (verdict_since r) (λ t'. seen-zero (some []) w t')
  where
    by : (o : Option Verdict)
        → ((t' : Tap) → asked_all t' (verdicts_in (some []) (w ++ (zero ∷ [])))
        ≡ asked_maybe (asked_all t' (verdicts_in (some []) w)) (verdict_since (progress_after (some []) w)))
        → asked_all t (verdict_ahead o (verdicts_in (some []) (w ++ (zero ∷ []))))
        ≡ asked_maybe (asked_all t (verdict_ahead o (verdicts_in (some []) w))) (verdict_since (progress_after (some []) w))
    by none h = h t
    by (some v) h = h (tap_asked t v)
seen-zero r (suc c ∷ w) t = seen-zero (more_received r (suc c)) w t

-- ---- a 00 from the supervisor

one-heard : (t : Tap) (v : Verdict) → t.awaiting ≡ false → tap_heard (tap_asked t v) ≡ tap_asked (tap_heard t) v
unfolding tap_asked
one-heard t v e = rw e

asked-awake : (t : Tap) (v : Verdict) → (tap_asked t v).awaiting ≡ false
unfolding tap_asked
asked-awake t v = refl

pub all-heard : (vs : List Verdict) (t : Tap) → t.awaiting ≡ false → tap_heard (asked_all t vs) ≡ asked_all (tap_heard t) vs
all-heard [] t e = refl
all-heard (v ∷ vs) t e = all-heard vs (tap_asked t v) (asked-awake t v) ∙ ap (λ (x : Tap). asked_all x vs) (one-heard t v e)

asked-unsure : (t : Tap) (v : Verdict) → (tap_asked t v).unsure ≡ t.unsure
unfolding tap_asked
asked-unsure t v = refl

pub all-unsure : (vs : List Verdict) (t : Tap) → (asked_all t vs).unsure ≡ t.unsure
all-unsure [] t = refl
all-unsure (v ∷ vs) t = all-unsure vs (tap_asked t v) ∙ asked-unsure t v

pub all-awake : (vs : List Verdict) (t : Tap) → t.awaiting ≡ false → (asked_all t vs).awaiting ≡ false
all-awake [] t e = e
all-awake (v ∷ vs) t e = all-awake vs (tap_asked t v) (asked-awake t v)

-- ---- the numbers of frames that are carried out are among the older ones

-- a reply's number that a frame earned which is carried out and is not the newest
abbrev pub OlderNumber : Tap → ℕ → Type 0
OlderNumber t n = (top_bit ≤ n) × (may_hold (older_than_newest t.fresh) n ≡ true)

abbrev pub AnyNumber : Tap → ℕ → Type 0
AnyNumber t n = (top_bit ≤ n) × (may_hold t.fresh n ≡ true)

pub older-any : (t : Tap) (n : ℕ) → OlderNumber t n → AnyNumber t n
older-any t n h = (h.0, older-held n t.fresh h.1)

pub asked-long : (t : Tap) (v : Verdict) → Long t.fresh → Long (tap_asked t v).fresh
unfolding tap_asked
asked-long t v l = remember-long (earned v) t.fresh l

pub asked-older : (t : Tap) (v : Verdict) (n : ℕ) → Long t.fresh → AnyNumber t n → OlderNumber (tap_asked t v) n
unfolding tap_asked
asked-older t v n l h = (h.0, held-older n (earned v) t.fresh l h.1)

pub more-older : (vs : List Verdict) (v : Verdict) (t : Tap) (n : ℕ) → Long t.fresh → AnyNumber t n → OlderNumber (asked_all t (v ∷ vs)) n
more-older [] v t n l h = asked-older t v n l h
more-older (w ∷ vs) v t n l h =
    more-older vs w (tap_asked t v) n (asked-long t v l) (older-any (tap_asked t v) n (asked-older t v n l h))

pub all-older : (vs : List Verdict) (t : Tap) (n : ℕ) → Long t.fresh → OlderNumber t n → OlderNumber (asked_all t vs) n
all-older [] t n l h = h
all-older (v ∷ vs) t n l h = more-older vs v t n l (older-any t n h)
