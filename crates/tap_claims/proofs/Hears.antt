-- A 00 from the supervisor, as the tap hears it: a frame that is a front of an older reply is only counted; the newest reply, whole, is
-- accused of nothing. Assumes nothing.
use mathlib.Core.Path.{◌≡◌, refl, ap, ◌∙◌}
use mathlib.Core.Bool.{Bool, false, ◌&&◌, and-false}
use mathlib.Core.List.{List, [], ◌∷◌}
use mathlib.Core.Logic.{◌⊎◌, inl, inr}
use mathlib.Core.Option.{Option, none, some}
use Prim.Native.Nat.{ℕ, suc}
use native.Mathlib.Omega.{arith}
use lib.Dec.{eqb}
use borrow.Author.Tests.{ne_eqb, le-leb}
use Rattle.octets.specs.Bytes.{Each}
use Rattle.octets.proofs.Conditions.{cond-by}
use Rattle.line.specs.Numbers.{top_bit}
use Rattle.line.specs.Message.{Message, InRange, message}
use Rattle.line.specs.Cobs.{places_left, groups, cobs}
use Rattle.line.specs.Frame.{form}
use Rattle.line.specs.Judge as Line
use Rattle.line.specs.Judge.{judge, progress_of, judge_received}
use Rattle.line.proofs.Judged.{judged-progress, tail_within}
use Rattle.line_claims.proofs.JudgeClaim.{judge-of-message}
use Rattle.supervisor.specs.State.{Factory, Settings, Retained}
use Rattle.tap.specs.Capture.{answered}
use Rattle.tap.specs.Accused.{Accusation, reply_accused}
use Rattle.tap.specs.Tap.{Newest, Tap, Noted, tap_heard, tap_judged, answers, judged_by, judged, told, heard_judged, heard_answered}
use Rattle.tap.specs.Tap.{unjudged_accused, hearing}
use Rattle.tap_claims.specs.Claims.{NotAccused}
use Rattle.tap_claims.proofs.CutForm.{none-some, cut-form}
use Rattle.tap_claims.proofs.Fits.{Fits}
use Rattle.tap_claims.proofs.Coming.{OlderNumber, AnyNumber, older-any}
use Rattle.tap_claims.proofs.Outgoing.{Cut}

-- nothing is accused, and the tap has only counted the 00
abbrev pub OnlyCounted : Tap → Noted → Type 0
OnlyCounted t h = Each NotAccused h.listed × (h.tap ≡ tap_heard t)

unjudged : (t : Tap) (unmarked : Bool) (r : Message) (o : Option Newest) → o ≡ none → unjudged_accused t unmarked r ≡ []
    → OnlyCounted t (heard_judged t unmarked r o)
unjudged t unmarked r o e f = rw e ((f, tt), refl)

-- ---- a frame that is discounted, or that a mark fell into

abbrev pub Free : Tap → Bool → Bool → Type 0
Free t quiet unmarked = (t.unsure ≡ 0 → ⊥) ⊎ ((quiet ≡ false) × (unmarked ≡ false))

module _ (t : Tap) (quiet unmarked : Bool) where
  free-unjudged : Free t quiet unmarked → (r : Message) → judged t quiet r ≡ none
  unfolding judged
  free-unjudged (inl h) r = rw (ne_eqb t.unsure 0 h, and-false quiet)
  free-unjudged (inr h) r = rw h.0

  free-unaccused : Free t quiet unmarked → (r : Message) → unjudged_accused t unmarked r ≡ []
  free-unaccused (inl h) r = rw (ne_eqb t.unsure 0 h, and-false unmarked)
  free-unaccused (inr h) r = rw h.1

  pub hear-free : (bs : Option (List ℕ)) → Free t quiet unmarked → OnlyCounted t (hearing t (answered bs quiet unmarked))
  unfolding hearing
  hear-free bs h = by (judge_received bs)
    where
      by : (o : Option Line.LineVerdict) → OnlyCounted t (heard_answered t quiet unmarked o)
      by none = (tt, refl)
      by (some (Line.failure reason sequence)) = ((refl, tt), refl)
      by (some (Line.good r)) = unjudged t unmarked r (judged t quiet r) (free-unjudged h r) (free-unaccused h r)

  -- ---- a reply to a frame that is carried out

  asked-unaccused : (r : Message) → AnyNumber t r.sequence → unjudged_accused t unmarked r ≡ []
  asked-unaccused r h = rw (le-leb top_bit r.sequence h.0, h.1, and-false (eqb t.unsure 0), and-false unmarked)

  older-unjudged : (r : Message) → OlderNumber t r.sequence → judged t quiet r ≡ none
  unfolding judged
  older-unjudged r h = cond-by (λ o. o ≡ none) (quiet && eqb t.unsure 0) _ _ (λ _. by t.newest) (λ _. refl)
    where
      by : (o : Option Newest) → judged_by t r o ≡ none
      by none = refl
      by (some w) = rw (h.1, and-false)

  -- a front of an older one's form
  pub hear-cut : (N : Message → Type 0) (x : List ℕ) → Cut (OlderNumber t) N x
      → OnlyCounted t (hearing t (answered (progress_of x) quiet unmarked))
  unfolding hearing
  hear-cut N [] c = rw (tail_within [] (omega arith)) (tt, refl)
  hear-cut N (b ∷ bs) (m, i, o, (zs, e)) = rw (judged-progress b bs) (by (judge (b ∷ bs)) refl)
    where
      by : (v : Line.LineVerdict) → judge (b ∷ bs) ≡ v → OnlyCounted t (heard_answered t quiet unmarked (some v))
      by (Line.failure reason sequence) f = ((refl, tt), refl)
      by (Line.good r) f =
          let q = cut-form m r (b ∷ bs) zs i e f in
          let h : OlderNumber t r.sequence = rw q o in
          unjudged t unmarked r (judged t quiet r) (older-unjudged r h) (asked-unaccused r (older-any t r.sequence h))

-- ---- the reply to the newest frame

-- in a supervisor with this factory data, these settings and this retained reply
abbrev pub NewestReply : Tap → Factory → Settings → Option Retained → Message → Type 0
NewestReply t f z k m = AnyNumber t m.sequence
    × ((w : Newest) → t.newest ≡ some w
    → (reply_accused t.known w.verdict w.due m ≡ []) × Fits (told w.verdict m t.known) f z k)

-- nothing is accused; the 00 is counted, or the reply is judged
abbrev pub Told : Tap → Message → Noted → Type 0
Told t m h = Each NotAccused h.listed
    × ((h.tap ≡ tap_heard t) ⊎ ((w : Newest) × (t.newest ≡ some w) × (h.tap ≡ tap_judged (tap_heard t) w m [])))

module _ (t : Tap) (quiet unmarked : Bool) (f : Factory) (z : Settings) (k : Option Retained) (m : Message) (range : InRange m)
    (n : NewestReply t f z k m) where
  judged-newest : (w : Newest) → judged t quiet m ≡ some w → t.newest ≡ some w
  unfolding judged
  judged-newest w =
      cond-by (λ o. o ≡ some w → t.newest ≡ some w) (quiet && eqb t.unsure 0) _ _ (λ _. by t.newest) (λ _ e. none-some e)
    where
      by : (o : Option Newest) → judged_by t m o ≡ some w → o ≡ some w
      by none = λ e. none-some e
      by (some v) = cond-by (λ (o : Option Newest). o ≡ some w → some v ≡ some w) (answers t m v) _ _ (λ _ e. e) (λ _ e. none-some e)

  judged-told : (w : Newest) → t.newest ≡ some w → (found : List Accusation) → reply_accused t.known w.verdict w.due m ≡ found
      → found ≡ [] → Told t m (heard_judged t unmarked m (some w))
  judged-told w e found a b = rw (a ∙ b) ((refl, tt), inr (w, e, refl))

  good-told : (o : Option Newest) → judged t quiet m ≡ o → Told t m (heard_judged t unmarked m o)
  good-told none e = ((asked-unaccused t quiet unmarked m n.0, tt), inl refl)
  good-told (some w) e =
      let g = judged-newest w e in
      judged-told w g _ refl (n.1 w g).0

  pub hear-whole : Told t m (hearing t (answered (progress_of (form m)) quiet unmarked))
  unfolding hearing cobs
  hear-whole =
      let g = groups places_left (message m) in
      rw (judged-progress (suc g.count) g.after ∙ ap some (judge-of-message m range)) (good-told (judged t quiet m) refl)
