-- The numbers under which alerts were taken rise, so that no number took two.
-- This asks that alert requests are read in order, and that none of the requests read is a reboot or power-off. Assumes nothing.
use mathlib.Core.Path.{◌≡◌, refl, sym, ◌∙◌}
use mathlib.Core.Bool.{Bool, false, cond, ◌||◌, false≢true}
use mathlib.Core.List.{List, [], ◌∷◌, ◌++◌, append_assoc, append-nil}
use mathlib.Core.Logic.{inl, inr}
use mathlib.Core.Option.{Option, none, some}
use Prim.Native.Nat.{ℕ, ◌≤◌, ◌<◌}
use native.Mathlib.Omega.{arith}
use borrow.Author.Tests.{eqb-false}
use Rattle.octets.specs.Bytes.{Each}
use Rattle.octets.proofs.Conditions.{cond-by}
use Rattle.octets.proofs.Each.{each_append}
use Rattle.line.specs.Message.{Message}
use Rattle.line.specs.Judge.{judge}
use Rattle.line_claims.specs.Calls.{gathered, good_of, good_messages}
use Rattle.requester_claims.specs.Numbers.{Frame}
use Rattle.supervisor.specs.State.{Retained, State}
use Rattle.responder.specs.Requests.{good, tested, verdict, oldest}
use Rattle.supervisor_claims.specs.FrameHistory.{frame_carried, frames_carried}
use Rattle.supervisor_claims.specs.LastSet.{Origin}
use Rattle.both_claims.specs.Ends.{Any, retained_under, drops_by, drops, origin_by, handled_by}
use Rattle.both_claims.specs.AlertsTaken.{is_alert_request, alert_requests}
use Rattle.both_claims.proofs.laws.Lists.{any_left, any-right, each-so, each-then, each_left, each_right}
use Rattle.both_claims.proofs.InOrderAge.{Pairs, pairs-across, Ordered}
use Rattle.both_claims.proofs.laws.AlertQueue.{Taken, taken_by, taken, Does, leaves, forgets, takes, frame-does}

-- ---- lists

pub requests-append : (ms ns : List Message) → alert_requests (ms ++ ns) ≡ alert_requests ms ++ alert_requests ns
unfolding alert_requests
requests-append [] ns = refl
requests-append (m ∷ ms) ns =
    cond-by
    (λ (xs : List Message). cond (is_alert_request m) (m ∷ alert_requests (ms ++ ns)) (alert_requests (ms ++ ns)) ≡ xs ++ alert_requests ns)
    (is_alert_request m) (m ∷ alert_requests ms) (alert_requests ms) (λ e. rw (e, requests-append ms ns))
    (λ e. rw (e, requests-append ms ns))

pub requests-each : (P : Message → Type 0) (ms : List Message) → Each P ms → Each P (alert_requests ms)
unfolding alert_requests
requests-each P [] h = tt
requests-each P (m ∷ ms) h =
    cond-by (Each P) (is_alert_request m) (m ∷ alert_requests ms) (alert_requests ms) (λ _. (h.0, requests-each P ms h.1))
    (λ _. requests-each P ms h.1)

module _ {A : Type 0} (R : A → A → Type 0) where
  pairs-left : (xs ys : List A) → Pairs R (xs ++ ys) → Pairs R xs
  pairs-left [] ys h = tt
  pairs-left (x ∷ xs) ys h = (each_left (R x) xs ys h.0, pairs-left xs ys h.1)

  pub pairs-right : (xs ys : List A) → Pairs R (xs ++ ys) → Pairs R ys
  pairs-right [] ys h = h
  pairs-right (x ∷ xs) ys h = pairs-right xs ys h.1

  pairs-snoc : (xs : List A) (y : A) → Pairs R xs → Each (λ (x : A). R x y) xs → Pairs R (xs ++ (y ∷ []))
  pairs-snoc [] y h k = (tt, tt)
  pairs-snoc (x ∷ xs) y h k = (each_append (R x) xs (y ∷ []) h.0 (k.0, tt), pairs-snoc xs y h.1 k.1)

-- ---- what holds of them

abbrev pub Rising : Taken → Taken → Type 0
Rising u v = u.number < v.number

-- the retained reply is that of the last
abbrev RetainsLast : Option Retained → List Taken → Type 0
RetainsLast none us = us ≡ []
RetainsLast (some t) us = Each (λ (u : Taken). u.number ≤ t.sequence) us × Any (λ (u : Taken). u.number ≡ t.sequence) us

-- taken by an alert request that was read
abbrev pub TakenOf : List Message → Taken → Type 0
TakenOf heard u = Any (λ (y : Message). y.sequence ≡ u.number) (alert_requests heard)

pub record Numbered (x : State) (us : List Taken) (heard : List Message) : Type 0 where
  pub rising : Pairs Rising us
  pub last : RetainsLast x.retained us
  pub requested : Each (TakenOf heard) us

-- ---- a frame

taken_more : (heard new : List Message) (u : Taken) → TakenOf heard u → TakenOf (heard ++ new) u
taken_more heard new u h =
    rw (requests-append heard new) (any_left (λ (y : Message). y.sequence ≡ u.number) (alert_requests heard) (alert_requests new) h)

alert-request : (m : Message) → tested m ≡ good m → m.command ≡ 0x0a → alert_requests (m ∷ []) ≡ m ∷ []
unfolding alert_requests is_alert_request
alert-request m e f = rw (e, f)

-- the retained reply is all that counts
pub same-numbered : (x y : State) (us : List Taken) (heard : List Message) → y.retained ≡ x.retained → Numbered x us heard
    → Numbered y us heard
same-numbered x y us heard e q = record { rising = q.rising; last = rw e q.last; requested = q.requested }

module _ (x : State) (us : List Taken) (heard : List Message) (q : Numbered x us heard) where
  module _ (m : Message) (later : Each (λ (y : Message). Ordered y m) (alert_requests heard))
      (new : retained_under m.sequence x.retained ≡ false) where
    -- all numbers are below
    below : (o : Option Retained) → x.retained ≡ o → RetainsLast o us → retained_under m.sequence o ≡ false
        → Each (λ (u : Taken). u.number < m.sequence) us
    below none e l r = rw l tt
    below (some t) e (most, a) r =
        let high : t.sequence ≤ m.sequence =
        each-so (TakenOf heard) (λ (u : Taken). u.number ≡ t.sequence) above us q.requested a in
        let other = eqb-false t.sequence m.sequence r in
        each-then _ _ (λ (u : Taken) k. let z : u.number ≤ t.sequence = k in less t.sequence u.number z high other) us most
      where
        less : (a b : ℕ) → b ≤ a → a ≤ m.sequence → (a ≡ m.sequence → ⊥) → b < m.sequence
        less a b h k n = omega (arith, h, k, n)

        ordered : (y : Message) → Ordered y m → y.sequence ≤ m.sequence
        ordered y (inl h) = omega (arith, h)
        ordered y (inr h) = rw h (omega arith)

        above : (u : Taken) → TakenOf heard u → u.number ≡ t.sequence → t.sequence ≤ m.sequence
        above u h e =
            each-so (λ (y : Message). Ordered y m) (λ (y : Message). y.sequence ≡ u.number)
            (λ y o f. let k = ordered y o in omega (arith, k, e, f)) (alert_requests heard) later h

    one_more : tested m ≡ good m → m.command ≡ 0x0a → (y : State) → let a = oldest x.waiting in
        y.retained ≡ some (record { version = m.version; sequence = m.sequence; alert = a })
        → Numbered y (us ++ (record { number = m.sequence; alert = a } ∷ [])) (heard ++ (m ∷ []))
    one_more passed alert y e =
        let u : Taken = record { number = m.sequence; alert = oldest x.waiting } in
        let low = below x.retained refl q.last new in
        record {
          rising = pairs-snoc Rising us u q.rising low;
          last = rw e (
            each_append _ us (u ∷ []) (each-then _ _ (λ (v : Taken) h. omega (arith, h)) us low) (omega arith, tt),
            any-right (λ (v : Taken). v.number ≡ m.sequence) us (u ∷ []) (inl refl),
          );
          requested =
              each_append _ us (u ∷ []) (each-then (TakenOf heard) _ (taken_more heard (m ∷ [])) us q.requested) (
                rw (requests-append heard (m ∷ []), alert-request m passed alert) (any-right _ (alert_requests heard) (m ∷ []) (inl refl)),
                tt,
              );
        }

  frame-numbered : (f : List ℕ) {y : State} {new : List Taken} → Does x f y new
      → Each (λ (m : Message). drops_by (tested m) ≡ false) (good_of (judge f))
      → Pairs Ordered (alert_requests (heard ++ good_of (judge f)))
      → Numbered y (us ++ new) (heard ++ good_of (judge f))
  frame-numbered f (leaves e w n) keeps order =
      rw (n, append-nil)
      (record {
        rising = q.rising;
        last = rw e q.last;
        requested = each-then (TakenOf heard) _ (taken_more heard (good_of (judge f))) us q.requested;
      })
  frame-numbered f (forgets m j d w n) keeps order = absurd (false≢true (sym (rw j at keeps).0 ∙ d))
  frame-numbered f {y} (takes m j passed a r e w n) keeps order =
      let ordered = rw (requests-append heard (m ∷ []), alert-request m passed a) at (rw j at order) in
      rw (j, n) (one_more m (pairs-across Ordered (alert_requests heard) (m ∷ []) ordered).0 r passed a y e)

-- frames, one after the other
pub frames-numbered : (asked : List Frame) (image : List ℕ) (fs : List (List ℕ)) (cleared : Bool) (x : State) (o : ℕ → Origin)
    (earlier : List (List ℕ)) (us : List Taken) (heard : List Message)
    → Numbered x us heard → Each (λ (m : Message). drops_by (tested m) ≡ false) (good_messages fs)
    → Pairs Ordered (alert_requests (heard ++ good_messages fs))
    → Numbered (frames_carried image x fs) (us ++ taken (handled_by asked image cleared x o earlier fs)) (heard ++ good_messages fs)
unfolding handled_by frames_carried gathered taken
frames-numbered asked image [] cleared x o earlier us heard q keeps order = rw (append-nil, append-nil) q
frames-numbered asked image (f ∷ fs) cleared x o earlier us heard q keeps order =
    let new = good_of (judge f) in
    let all : heard ++ (new ++ good_messages fs) ≡ (heard ++ new) ++ good_messages fs = sym (append_assoc heard new (good_messages fs)) in
    let ordered = rw all at order in
    let first = rw (requests-append (heard ++ new) (good_messages fs)) at ordered in
    let k = frame-numbered x us heard q f (frame-does image x f) (each_left _ new (good_messages fs) keeps)
    (pairs-left Ordered (alert_requests (heard ++ new)) (alert_requests (good_messages fs)) first) in
    let i =
    frames-numbered asked image fs (cleared || drops f) (frame_carried image x f) (origin_by o f) (earlier ++ (f ∷ []))
    (us ++ taken_by x (verdict f)) (heard ++ new) k (each_right _ new (good_messages fs) keeps) ordered in
    rw (all, ← append_assoc us (taken_by x (verdict f))) i
