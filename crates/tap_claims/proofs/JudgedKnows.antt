-- Behind a start, at a judged reply: what is known counts the sets among the requests listed ahead of it, and it is accused by that.
-- Assumes nothing.
use mathlib.Core.Path.{◌≡◌, refl}
use mathlib.Core.Bool.{Bool, true, false, ◌&&◌, and-eq-true_iff}
use mathlib.Core.List.{List, [], ◌∷◌, ◌++◌}
use mathlib.Core.Option.{Option, none, some}
use Prim.Native.Nat.{ℕ}
use native.Mathlib.Omega.{arith}
use lib.Dec.{eqb}
use borrow.Author.Tests.{eqb-true}
use Rattle.octets.specs.Bytes.{Byte, Each}
use Rattle.octets.proofs.Conditions.{cond-by}
use Rattle.line.specs.Message.{Message}
use Rattle.line.specs.Judge as Line
use Rattle.line.specs.Judge.{judge_received}
use Rattle.supervisor.specs.State.{Setting}
use Rattle.responder.specs.Requests.{Verdict, failure, good, verdict_since}
use Rattle.supervisor_claims.specs.LastSet.{ReadBack}
use Rattle.supervisor_claims.proofs.claims.LastSetLaws.{after_sets}
use Rattle.tap.specs.Capture.{Happening, asked, answered, mark}
use Rattle.tap.specs.Earned.{earned}
use Rattle.tap.specs.Known.{SetSeen, Known, known_after}
use Rattle.tap.specs.Accused.{Accusation, reply_accused}
use Rattle.tap.specs.Tap.{Tap, Newest, Listed, request, part, reply, fell, Noted, tap_heard, tap_asked, tap_judged, fails_good, answers}
use Rattle.tap.specs.Tap.{judged_by, judged, heard_asked, heard_judged, heard_answered, hearing, listing_of}
use Rattle.tap_claims.specs.Moments.{valid_ahead, requests_listed, NoFailedRequest, sets_newest_first}
use Rattle.tap_claims.proofs.SetsCounted.{Knows, request-knows, told-knows}
use Rattle.tap_claims.proofs.JudgedBytes.{OfBytes, judged-bytes}

-- a reply that is judged has the number that the frame earns, and is of a quiet frame
record JudgedAs (t : Bool) (r : Message) (w : Newest) : Type 0 where
  quiet : t ≡ true
  number : r.sequence ≡ earned w.verdict

judged-as : (t : Tap) (quiet : Bool) (r : Message) (w : Newest) → judged t quiet r ≡ some w → JudgedAs quiet r w
unfolding judged
judged-as t quiet r w =
    cond-by (λ o. o ≡ some w → JudgedAs quiet r w) (quiet && eqb t.unsure 0) _ _
    (λ e f. record { quiet = ((and-eq-true_iff quiet (eqb t.unsure 0)).0 e).0; number = by t.newest f }) (λ e f. absurd (never f))
  where
    never : ◌≡◌ {A = Option Newest} none (some w) → ⊥
    never f = let z : ◌≡◌ {A = ℕ} 0 1 = cc in omega arith

    by : (o : Option Newest) → judged_by t r o ≡ some w → r.sequence ≡ earned w.verdict
    by none = λ f. absurd (never f)
    by (some v) =
        cond-by (λ o. o ≡ some w → r.sequence ≡ earned w.verdict) (answers t r v) _ _
        (λ e f. let same : v ≡ w = cc in
        rw (← same) (eqb-true r.sequence (earned v.verdict) ((and-eq-true_iff (eqb r.sequence (earned v.verdict)) _).0 e).0))
        (λ e f. absurd (never f))

module _ {key : ℕ} (h : ReadBack key) where
  -- what holds of a judged reply, where the key's sets ahead of it come to z, with all of them in ss
  pub record Judged (z : Setting) (ss : List SetSeen) (r : Message) (w : Newest) (found : List Accusation) : Type 0 where
    pub known : Known
    pub knows : Knows key known.keys z ss
    pub bytes : Each Byte r.payload
    pub number : r.sequence ≡ earned w.verdict
    pub accused : found ≡ reply_accused known w.verdict w.due r

  abbrev IsJudged : Setting → List SetSeen → Listed → Type 0
  IsJudged z ss (request v) = Unit {0}
  IsJudged z ss part = Unit {0}
  IsJudged z ss (reply (Line.failure reason sequence) w found) = Unit {0}
  IsJudged z ss (reply (Line.good r) none found) = Unit {0}
  IsJudged z ss (reply (Line.good r) (some w) found) = Judged z ss r w found
  IsJudged z ss (fell m) = Unit {0}

  -- what is listed at once is at most one frame: it is judged by what is known, and what is then known counts it
  abbrev Follows : Setting → List SetSeen → List Listed → Tap → Type 0
  Follows z ss [] t = Knows key t.known.keys z ss
  Follows z ss (l ∷ []) t =
      IsJudged z ss l
      × (NoFailedRequest l → Knows key t.known.keys (after_sets key z (valid_ahead l [])) (sets_newest_first key ss (valid_ahead l [])))
  Follows z ss (l ∷ (k ∷ ls)) t = ⊥

  module _ (t : Tap) (z : Setting) (ss : List SetSeen) (g : Knows key t.known.keys z ss) where
    asked-follows : (o : Option Verdict) → Follows z ss (heard_asked t o).listed (heard_asked t o).tap
    unfolding tap_asked known_after after_sets sets_newest_first
    asked-follows none = g
    asked-follows (some (failure reason version sequence)) = (tt, λ _. g)
    asked-follows (some (good m)) = (tt, λ _. request-knows h t.known m g)

    accused-follows : (w : Newest) (r : Message) (found : List Accusation) → fails_good w.verdict r ≡ false
        → Knows key (tap_judged (tap_heard t) w r found).known.keys z ss
    unfolding tap_judged
    accused-follows w r [] e = told-knows h w.verdict r t.known g
    accused-follows w r (a ∷ more) e = rw e g

    answered-follows : (quiet unmarked : Bool) (bs : Option (List ℕ)) → OfBytes (answered bs quiet unmarked)
        → (o : Option Line.LineVerdict) → judge_received bs ≡ o
        → Follows z ss (heard_answered t quiet unmarked o).listed (heard_answered t quiet unmarked o).tap
    unfolding after_sets sets_newest_first
    answered-follows quiet unmarked bs b none e = g
    answered-follows quiet unmarked bs b (some (Line.failure reason sequence)) e = (tt, λ _. g)
    answered-follows quiet unmarked bs b (some (Line.good r)) e = by (judged t quiet r) refl
      where
        by : (o : Option Newest) → judged t quiet r ≡ o → let x = heard_judged t unmarked r o in Follows z ss x.listed x.tap
        by none f = (tt, λ _. g)
        by (some w) f =
            let j = judged-as t quiet r w f in (
              record {
                known = t.known;
                knows = g;
                bytes = judged-bytes bs r e (b j.quiet);
                number = j.number;
                accused = refl;
              },
              accused-follows w r (reply_accused t.known w.verdict w.due r),
            )

    hearing-follows : (y : Happening) → OfBytes y → Follows z ss (hearing t y).listed (hearing t y).tap
    unfolding hearing after_sets sets_newest_first
    hearing-follows (asked bs) b =
        cond-by (λ (x : Noted). Follows z ss x.listed x.tap) t.awaiting _ _ (λ _. (tt, λ _. g))
        (λ _. asked-follows (verdict_since bs))
    hearing-follows (answered bs quiet unmarked) b = answered-follows quiet unmarked bs b (judge_received bs) refl
    hearing-follows (mark m) b = absurd b

  -- ---- All that is listed

  -- one frame ahead of others
  ahead-by : (P : Setting → List SetSeen → Type 0) (l : Listed) (ms : List Message) (z : Setting) (ss : List SetSeen)
      → P (after_sets key (after_sets key z (valid_ahead l [])) ms) (sets_newest_first key (sets_newest_first key ss (valid_ahead l [])) ms)
      → P (after_sets key z (valid_ahead l ms)) (sets_newest_first key ss (valid_ahead l ms))
  unfolding after_sets sets_newest_first
  ahead-by P (request (failure reason version sequence)) ms z ss p = p
  ahead-by P (request (good m)) ms z ss p = p
  ahead-by P part ms z ss p = p
  ahead-by P (reply v w found) ms z ss p = p
  ahead-by P (fell m) ms z ss p = p

  -- what is listed has a judged reply behind xs
  abbrev Seen : Setting → List SetSeen → List Listed → Type 0
  Seen z ss all = (xs ys : List Listed) (r : Message) (w : Newest) (found : List Accusation)
      → all ≡ xs ++ (reply (Line.good r) (some w) found ∷ ys) → Each NoFailedRequest xs
      → Judged (after_sets key z (requests_listed xs)) (sets_newest_first key ss (requests_listed xs)) r w found

  none_seen : (z : Setting) (ss : List SetSeen) → Seen z ss []
  none_seen z ss [] ys r w found e g = absurd (let q : ◌≡◌ {A = ℕ} 0 1 = cc in omega arith)
  none_seen z ss (x ∷ xs) ys r w found e g = absurd (let q : ◌≡◌ {A = ℕ} 0 1 = cc in omega arith)

  one_seen : (z : Setting) (ss : List SetSeen) (l : Listed) (ls : List Listed) → IsJudged z ss l
      → (NoFailedRequest l → Seen (after_sets key z (valid_ahead l [])) (sets_newest_first key ss (valid_ahead l [])) ls)
      → Seen z ss (l ∷ ls)
  unfolding requests_listed after_sets sets_newest_first
  one_seen z ss l ls j rest [] ys r w found e g =
      let same : l ≡ reply (Line.good r) (some w) found = cc in
      rw same at j
  one_seen z ss l ls j rest (x ∷ xs) ys r w found e g =
      let same : x ≡ l = cc in
      let others : ls ≡ xs ++ (reply (Line.good r) (some w) found ∷ ys) = cc in
      let goes : NoFailedRequest l = rw same at g.0 in
      rw same (ahead-by (λ v ps. Judged v ps r w found) l (requests_listed xs) z ss (rest goes xs ys r w found others g.1))

  pub all_seen : (hs : List Happening) → Each OfBytes hs → (t : Tap) (z : Setting) (ss : List SetSeen) → Knows key t.known.keys z ss
      → Seen z ss (listing_of t hs)
  unfolding listing_of
  all_seen [] b t z ss g = none_seen z ss
  all_seen (y ∷ hs) b t z ss g =
      let x = hearing t y in
      by x.listed (hearing-follows t z ss g y b.0) (all_seen hs b.1 x.tap)
    where
      u : Tap
      u = (hearing t y).tap

      by : (ls : List Listed) → Follows z ss ls u
          → ((v : Setting) (ps : List SetSeen) → Knows key u.known.keys v ps → Seen v ps (listing_of u hs))
          → Seen z ss (ls ++ listing_of u hs)
      by [] f rest = rest z ss f
      by (l ∷ []) f rest = one_seen z ss l (listing_of u hs) f.0 (λ goes. rest _ _ (f.1 goes))
      by (l ∷ (k ∷ ls)) f rest = absurd f
