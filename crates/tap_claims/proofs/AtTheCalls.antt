-- At the calls from an accepted start the tap awaits no frame and discounts none, and what holds between it and the supervisor's state
-- holds behind each call. Assumes the statements of `Fitting`, which its laws take.
use mathlib.Core.Path.{◌≡◌, refl}
use mathlib.Core.Bool.{Bool, false}
use mathlib.Core.List.{List, [], ◌∷◌}
use mathlib.Core.Option.{Option, none, some}
use Prim.Native.Nat.{ℕ}
use lib.Dec.{eqb}
use Rattle.octets.specs.Bytes.{Each, Byte}
use Rattle.octets.proofs.Conditions.{cond-by}
use Rattle.line.specs.Judge as Line
use Rattle.line.specs.Judge.{judge_received}
use Rattle.line.specs.Message.{Message}
use Rattle.supervisor.specs.State.{Factory, State, fresh}
use Rattle.supervisor.specs.Local.{after_take}
use Rattle.supervisor.specs.Calls.{Parts}
use Rattle.saving.specs.Saving
use Rattle.responder.specs.Requests.{Verdict, verdict_since, receive_byte}
use Rattle.supervisor_claims.specs.View.{factory_of, view}
use Rattle.supervisor_claims.specs.Sound.{Bytes}
use Rattle.supervisor_claims.specs.Histories as Histories
use Rattle.supervisor_claims.specs.Histories.{Typed, done, Lent, Made, made, left, AllTyped, start_with}
use Rattle.supervisor_claims.proofs.claims.History.{started}
use Rattle.tap.specs.Capture as Capture
use Rattle.tap.specs.Capture.{Happening, asked, answered, mark, Unended, Went, Tick, towards, from, marked, tick}
use Rattle.tap.specs.Capture.{tick_towards, tick_from}
use Rattle.tap.specs.Accused.{Accusation, reply_accused}
use Rattle.tap.specs.Tap.{Newest, Tap, tap_heard, tap_asked, tap_marked, tap_judged, judged, heard_judged, heard_answered, hearing}
use Rattle.tap_claims.specs.Captures.{capture_of}
use Rattle.tap_claims.specs.Moments.{Moment, at_first, tap_behind, moment_behind, moment_after}
use Rattle.tap_claims.specs.Claims.{NotAccused}
use Rattle.tap_claims.proofs.Fits.{Held}
use Rattle.tap_claims.proofs.Coming.{asked_maybe}
use Rattle.tap_claims.proofs.System.{Core, core, Reached, Steps}
use Rattle.tap_claims.proofs.Reached.{reached-local, reached-read, reached-put, reached-fresh, reached-restored}
use Rattle.tap_claims.proofs.FromCalls.{calls-run, start-ticks}
use Rattle.tap_claims.proofs.Invariant.{Fitting, Inv, hears, Goes}
use Rattle.tap_claims.proofs.StepSeen.{asked-so, seen_step}
use Rattle.tap_claims.proofs.StepRead.{read_step}
use Rattle.tap_claims.proofs.StepHeard.{put_step, heard-step}
use Rattle.tap_claims.proofs.StepMarks.{start-step, restore-step}

-- ---- a tap that is sure stays so where nothing is accused and no bytes are missed

abbrev pub SureTap : Tap → Type 0
SureTap t = (t.awaiting ≡ false) × (t.unsure ≡ 0)

abbrev NoneMissed : Option Happening → Type 0
NoneMissed none = Unit {0}
NoneMissed (some (asked bs)) = Unit {0}
NoneMissed (some (answered bs quiet unmarked)) = Unit {0}
NoneMissed (some (mark Capture.started)) = Unit {0}
NoneMissed (some (mark Capture.restored)) = Unit {0}
NoneMissed (some (mark Capture.missed)) = ⊥

heard-sure : (t : Tap) → SureTap t → SureTap (tap_heard t)
heard-sure t k = (k.0, rw (k.0, k.1))

-- a reply
module _ (t : Tap) (k : SureTap t) (quiet unmarked : Bool) where
  told-sure : (r : Message) (w : Newest) (found : List Accusation) → found ≡ [] → SureTap (tap_judged (tap_heard t) w r found)
  unfolding tap_judged
  told-sure r w found e = rw e (heard-sure t k)

  judged-sure : (r : Message) (o : Option Newest) → Each NotAccused (heard_judged t unmarked r o).listed
      → SureTap (heard_judged t unmarked r o).tap
  judged-sure r none a = heard-sure t k
  judged-sure r (some w) a = told-sure r w (reply_accused t.known w.verdict w.due r) a.0

  answered-sure : (o : Option Line.LineVerdict) → Each NotAccused (heard_answered t quiet unmarked o).listed
      → SureTap (heard_answered t quiet unmarked o).tap
  answered-sure none a = heard-sure t k
  answered-sure (some (Line.failure reason sequence)) a = heard-sure t k
  answered-sure (some (Line.good r)) a = judged-sure r (judged t quiet r) a

hears-sure : (t : Tap) → SureTap t → (o : Option Happening) → NoneMissed o → Each NotAccused (hears t o).listed → SureTap (tap_behind t o)
unfolding hearing tap_asked tap_marked
hears-sure t k none n a = k
hears-sure t k (some (asked bs)) n a = rw (asked-so t bs k.0).1 (by (verdict_since bs))
  where
    by : (o : Option Verdict) → SureTap (asked_maybe t o)
    by none = k
    by (some v) = (refl, k.1)
hears-sure t k (some (answered bs quiet unmarked)) n a = answered-sure t k quiet unmarked (judge_received bs) a
hears-sure t k (some (mark Capture.started)) n a = (refl, refl)
hears-sure t k (some (mark Capture.restored)) n a = k
hears-sure t k (some (mark Capture.missed)) n a = absurd n

-- ---- at the calls

pub record At (s : State) (x : Moment) : Type 0 where
  pub reached : Reached s
  pub inv : Inv x.begun x.tap (core s) [] []
  pub sure : SureTap x.tap

behind-tap : (t : Tap) (o : Option Happening) → (hears t o).tap ≡ tap_behind t o
behind-tap t none = refl
behind-tap t (some h) = refl

-- one tick
goes : (x : Moment) (k : Tick) (c : Core) (ahead behind : List ℕ) → SureTap x.tap → NoneMissed (tick x.begun k).happening
    → Goes x.begun x.tap k c ahead behind
    → let y = moment_behind x k in SureTap y.tap × Inv y.begun y.tap c ahead behind
unfolding moment_behind
goes x k c ahead behind s n g =
    let o = (tick x.begun k).happening in
    (hears-sure x.tap s o n g.0, rw (behind-tap x.tap o) at g.1)

-- a byte is no mark
module _ (g : Unended) where
  towards_none : (b : ℕ) → NoneMissed (tick g (towards b)).happening
  unfolding tick tick_towards
  towards_none b = cond-by (λ (w : Went). NoneMissed w.happening) (eqb b 0) _ _ (λ _. tt) (λ _. tt)

  from-none : (b : ℕ) → NoneMissed (tick g (from b)).happening
  unfolding tick tick_from
  from-none b = cond-by (λ (w : Went). NoneMissed w.happening) (eqb b 0) _ _ (λ _. tt) (λ _. tt)

module _ (F : Fitting) where
  read_at : (image : List ℕ) (b : ℕ) (s : State) (x : Moment) → Each Byte image → Byte b → At s x
      → At (receive_byte image s b) (moment_behind x (towards b))
  read_at image b s x each y h =
      let k = goes x (towards b) (core s) (b ∷ []) [] h.sure (towards_none x.begun b)
      (seen_step x.begun x.tap (core s) [] [] b h.inv) in
      let z = moment_behind x (towards b) in
      record {
        reached = reached-read image s b each y h.reached;
        inv = read_step F image each s h.reached z.begun z.tap [] [] b k.1;
        sure = k.0;
      }

  put-at : (b : ℕ) (bs : List ℕ) (s : State) (x : Moment) → s.pending ≡ b ∷ bs → At s x → At (after_take s 1) (moment_behind x (from b))
  put-at b bs s x e h =
      let i = put_step s x.begun x.tap [] [] b bs e h.inv in
      let k = goes x (from b) (core (after_take s 1)) [] [] h.sure (from-none x.begun b)
      (heard-step x.begun x.tap (core (after_take s 1)) [] [] b i) in
      record { reached = reached-put s b bs e h.reached; inv = k.1; sure = k.0 }

  start-at : (f : Factory) (x : Moment) → Held (fresh f) → At (fresh f) (moment_behind x (marked Capture.started))
  unfolding moment_behind tick hearing tap_marked
  start-at f x held = record { reached = reached-fresh f held; inv = (start-step F x.begun x.tap f).1; sure = (refl, refl) }

  restore-at : (image : List ℕ) (s t : State) (x : Moment) → Saving.restore s image ≡ Saving.left t → Held t → At s x
      → At t (moment_behind x (marked Capture.restored))
  unfolding tick
  restore-at image s t x e held h =
      let k = goes x (marked Capture.restored) (core t) [] [] h.sure tt
      (restore-step F s t image e h.reached.held x.begun x.tap h.inv) in
      record { reached = reached-restored s t image e held h.reached; inv = k.1; sure = k.0 }

  local_at : (s t : State) (x : Moment) → core t ≡ core s → Held t → At s x → At t x
  local_at s t x e held h = record { reached = reached-local s t e held h.reached; inv = rw e h.inv; sure = h.sure }

  -- up to a state that is reached at the end
  abbrev Until : State → State → List Tick → Type 0
  Until end s ts = (x : Moment) → At s x → At end (moment_after x ts)

  until-steps : (end : State) → Steps (Until end)
  unfolding moment_after
  until-steps end = record {
    read = λ image b s ts i y k x h. k (moment_behind x (towards b)) (read_at image b s x i y h);
    put = λ b bs s ts e k x h. k (moment_behind x (from b)) (put-at b bs s x e h);
    local = λ s t ts e held k x h. k x (local_at s t x e held h);
    starts = λ f s ts held k x h. k (moment_behind x (marked Capture.started)) (start-at f x held);
    restores = λ image s t ts e held k x h. k (moment_behind x (marked Capture.restored)) (restore-at image s t x e held h);
  }

  pub at-calls : (p : Parts) → Bytes p → (l : Lent) (d : List ℕ) → Typed (Histories.start d) → (made p (start_with l d)).answer ≡ done
      → (ms : List Made) → AllTyped ms
      → At (view (left (made p (start_with l d)).parts ms)) (moment_after at_first (capture_of p (start_with l d ∷ ms)))
  unfolding moment_after
  at-calls p b l d typed e ms t =
      let q = (made p (start_with l d)).parts in
      let k = started p b l d typed e in
      let end = view (left q ms) in
      let first : At (view q) (moment_behind at_first (marked Capture.started)) =
      rw k.0 (start-at (factory_of d) at_first (q, k.1, k.0)) in
      rw (start-ticks p l d typed e ms)
      (calls-run (Until end) (until-steps end) q k.1 ms t (λ x h. h) (moment_behind at_first (marked Capture.started)) first)
