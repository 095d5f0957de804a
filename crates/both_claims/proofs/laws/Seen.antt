-- Both ends as document 01 and document 02 see them, with what was put out and read. What calls answer and leave is computed from that.
-- A claim about each call follows from a test of it that is computed. Assumes nothing.
use mathlib.Core.Path.{◌≡◌, refl, ap, ◌∙◌}
use mathlib.Core.Bool.{Bool, true, false, cond, not, ◌&&◌, false≢true, and-eq-true_iff}
use mathlib.Core.List.{List, [], ◌∷◌, ◌++◌, map}
use mathlib.Core.Logic.{inl, inr}
use Prim.Native.Nat.{ℕ}
use lib.Dec.{ltb}
use borrow.Author.Tests.{ltb-true}
use Rattle.octets.specs.Bytes.{Each, Byte, equal}
use Rattle.octets.proofs.Conditions.{cond-by}
use Rattle.octets.proofs.Equal.{equal-true}
use Rattle.line.specs.Message.{Message}
use Rattle.line.specs.Frame.{frame}
use Rattle.requester.specs.State.{MainState}
use Rattle.requester_claims.specs.View.{main_view}
use Rattle.requester_claims.specs.Histories.{MainAnswer, main_meant_made}
use Rattle.requester_claims.specs.CameAs.{restarts}
use Rattle.requester_claims.specs.Numbers.{Frame}
use Rattle.requester_claims.proofs.History as MainHistory
use Rattle.supervisor.specs.State.{State}
use Rattle.supervisor_claims.specs.View.{view}
use Rattle.supervisor_claims.specs.Histories as Supervisor
use Rattle.supervisor_claims.specs.FrameHistory as Received
use Rattle.supervisor_claims.proofs.claims.History as SupervisorHistory
use Rattle.both_claims.specs.Ends
use Rattle.both_claims.specs.Ends.{Any, Log, main_logged, supervisor_logged, EndCallTyped, ends_after, ends_after_all, Always}
use Rattle.both_claims.specs.Ends.{InTurn, empty, past, read, FromSupervisor, taken_behind, taken_as_answer, GoesOn}
use Rattle.supervisor_claims.specs.LastSet.{accepts_restore}
use Rattle.both_claims.specs.Ends.{request_of}
use Rattle.both_claims.specs.Ends.{puts_request, message_handed, WireUnder, SetsInOrderAfter}
use Rattle.both_claims.specs.Exchanges.{as_list, call_handed, all_handed}
use Rattle.both_claims.specs.SetThenGot.{sets_key, NoNewSet}
use Rattle.both_claims.specs.Witness.{main_answers}
use Rattle.both_claims.proofs.FreshAnswer.{turn-sets}
use Rattle.both_claims.proofs.laws.Lists.{each-then, turn-images}
use Rattle.both_claims.proofs.laws.BothCalls.{Both, main-log, keeps-both}

not-false : (b : Bool) → not b ≡ true → b ≡ false
not-false true h = absurd (false≢true h)
not-false false h = refl

-- ---- both ends as they are seen

pub record Seen : Type 0 where
  pub main : MainState
  pub supervisor : State
  pub log : Log

abbrev pub seen : Ends.Ends → Seen
seen e = record { main = main_view e.main; supervisor = view e.supervisor; log = e.log }

unfoldable pub seen_after : Seen → Ends.EndCall → Seen
seen_after x (Ends.main m) =
    let d = main_meant_made x.main m in
    record {
      main = d.state;
      supervisor = x.supervisor;
      log = main_logged x.log m.call d.answer d.out d.state.newest;
    }
seen_after x (Ends.supervisor m) =
    let d = Supervisor.meant_made x.supervisor m in
    record { main = x.main; supervisor = d.state; log = supervisor_logged x.log x.supervisor m d.state.pending }

unfoldable pub seen_all : Seen → List Ends.EndCall → Seen
seen_all x [] = x
seen_all x (t ∷ ts) = seen_all (seen_after x t) ts

pub seen-after : (e : Ends.Ends) → Both e → (t : Ends.EndCall) → EndCallTyped t → seen (ends_after e t) ≡ seen_after (seen e) t
unfolding ends_after seen_after
seen-after e both (Ends.main m) typed = rw ((MainHistory.one_call e.main m both.main).state, main-log e both m)
seen-after e both (Ends.supervisor m) typed = rw (SupervisorHistory.one_call e.supervisor m both.supervisor typed).leaves.0

pub seen_all_lem : (e : Ends.Ends) → Both e → (ts : List Ends.EndCall) → Each EndCallTyped ts → seen (ends_after_all e ts)
    ≡ seen_all (seen e) ts
unfolding ends_after_all seen_all
seen_all_lem e both [] typed = refl
seen_all_lem e both (t ∷ ts) typed =
    seen_all_lem (ends_after e t) (keeps-both e both t typed.0) ts typed.1
    ∙ ap (λ (x : Seen). seen_all x ts) (seen-after e both t typed.0)

-- ---- a test of each call

unfoldable pub each_seen : (Seen → Ends.EndCall → Bool) → Seen → List Ends.EndCall → Bool
each_seen test x [] = true
each_seen test x (t ∷ ts) = test x t && each_seen test (seen_after x t) ts

module _ (C : Ends.Ends → Ends.EndCall → Type 0) (test : Seen → Ends.EndCall → Bool)
    (passes : (e : Ends.Ends) → Both e → (t : Ends.EndCall) → EndCallTyped t → test (seen e) t ≡ true → C e t) where
  pub always-seen : (e : Ends.Ends) → Both e → (ts : List Ends.EndCall) → Each EndCallTyped ts → each_seen test (seen e) ts ≡ true
      → Always C e ts
  unfolding each_seen
  always-seen e both [] typed h = tt
  always-seen e both (t ∷ ts) typed h =
      let k = (and-eq-true_iff (test (seen e) t) (each_seen test (seen_after (seen e) t) ts)).0 h in (
        passes e both t typed.0 k.0,
        always-seen (ends_after e t) (keeps-both e both t typed.0) ts typed.1 (rw (seen-after e both t typed.0) k.1),
      )

-- what the main processor's end answers, and what it hands out
unfoldable pub seen_answers : Seen → List Ends.EndCall → List MainAnswer
seen_answers x [] = []
seen_answers x (Ends.main m ∷ ts) = (main_meant_made x.main m).answer ∷ seen_answers (seen_after x (Ends.main m)) ts
seen_answers x (Ends.supervisor m ∷ ts) = seen_answers (seen_after x (Ends.supervisor m)) ts

abbrev handed_by : Seen → Ends.EndCall → List Message
handed_by x (Ends.main m) = let d = main_meant_made x.main m in as_list (message_handed d.answer d.out)
handed_by x (Ends.supervisor m) = []

unfoldable pub seen_handed : Seen → List Ends.EndCall → List Message
seen_handed x [] = []
seen_handed x (t ∷ ts) = handed_by x t ++ seen_handed (seen_after x t) ts

pub seen-answers : (e : Ends.Ends) → Both e → (ts : List Ends.EndCall) → Each EndCallTyped ts → main_answers e ts ≡ seen_answers (seen e) ts
unfolding main_answers seen_answers
seen-answers e both [] typed = refl
seen-answers e both (Ends.main m ∷ ts) typed =
    let t = Ends.main m in
    rw (
      (MainHistory.one_call e.main m both.main).answer,
      seen-answers (ends_after e t) (keeps-both e both t typed.0) ts typed.1,
      seen-after e both t typed.0,
    )
seen-answers e both (Ends.supervisor m ∷ ts) typed =
    let t = Ends.supervisor m in
    rw (seen-answers (ends_after e t) (keeps-both e both t typed.0) ts typed.1, seen-after e both t typed.0)

handed-by : (e : Ends.Ends) → Both e → (t : Ends.EndCall) → call_handed e t ≡ handed_by (seen e) t
handed-by e both (Ends.main m) = let k = MainHistory.one_call e.main m both.main in rw (k.answer, k.out)
handed-by e both (Ends.supervisor m) = refl

pub seen-handed : (e : Ends.Ends) → Both e → (ts : List Ends.EndCall) → Each EndCallTyped ts → all_handed e ts ≡ seen_handed (seen e) ts
unfolding all_handed seen_handed
seen-handed e both [] typed = refl
seen-handed e both (t ∷ ts) typed =
    rw (
      handed-by e both t,
      seen-handed (ends_after e t) (keeps-both e both t typed.0) ts typed.1,
      seen-after e both t typed.0,
    )

-- ---- the arguments' types

unfoldable pub all_bytes : List ℕ → Bool
all_bytes [] = true
all_bytes (b ∷ bs) = ltb b 256 && all_bytes bs

pub all-bytes : (bs : List ℕ) → all_bytes bs ≡ true → Each Byte bs
unfolding all_bytes
all-bytes [] h = tt
all-bytes (b ∷ bs) h = let k = (and-eq-true_iff (ltb b 256) (all_bytes bs)).0 h in (ltb-true b 256 k.0, all-bytes bs k.1)

-- ---- the wire

-- in order: those that come again stand first
unfoldable pub past_equal : List ℕ → List (List ℕ) → List (List ℕ)
past_equal y [] = []
past_equal y (z ∷ zs) = cond (equal z y) (past_equal y zs) (z ∷ zs)

unfoldable pub stand_in_turn : List (List ℕ) → List (List ℕ) → Bool
stand_in_turn [] [] = true
stand_in_turn (z ∷ zs) [] = false
stand_in_turn zs (y ∷ ys) = stand_in_turn (past_equal y zs) ys

past_equal_lem : (y : List ℕ) (zs ys : List (List ℕ)) → InTurn (List ℕ) (past_equal y zs) ys → InTurn (List ℕ) zs (y ∷ ys)
unfolding past_equal
past_equal_lem y [] ys h = past h
past_equal_lem y (z ∷ zs) ys h =
    cond-by (λ (xs : List (List ℕ)). InTurn (List ℕ) xs ys → InTurn (List ℕ) (z ∷ zs) (y ∷ ys)) (equal z y) _ _
    (λ e k. rw (equal-true z y e) (read (past_equal_lem y zs ys k))) (λ _ k. past k) h

stand-in-turn : (zs ys : List (List ℕ)) → stand_in_turn zs ys ≡ true → InTurn (List ℕ) zs ys
unfolding stand_in_turn
stand-in-turn [] [] h = empty
stand-in-turn (z ∷ zs) [] h = absurd (false≢true h)
stand-in-turn zs (y ∷ ys) h = past_equal_lem y zs ys (stand-in-turn (past_equal y zs) ys h)

-- what is taken as an answer was put out
unfoldable pub one_of : List Message → Message → Bool
one_of [] r = false
one_of (y ∷ ys) r = cond (equal (frame y) (frame r)) true (one_of ys r)

one-of : (ys : List Message) (r : Message) → one_of ys r ≡ true → Any (λ (y : Message). frame y ≡ frame r) ys
unfolding one_of
one-of [] r h = absurd (false≢true h)
one-of (y ∷ ys) r h =
    cond-by (λ (t : Bool). t ≡ true → Any (λ (y : Message). frame y ≡ frame r) (y ∷ ys)) (equal (frame y) (frame r)) true (one_of ys r)
    (λ e _. inl (equal-true (frame y) (frame r) e)) (λ _ k. inr (one-of ys r k)) h

unfoldable pub all_of : List Message → List Message → Bool
all_of ys [] = true
all_of ys (r ∷ rs) = one_of ys r && all_of ys rs

all-of : (ys rs : List Message) → all_of ys rs ≡ true → Each (λ (r : Message). Any (λ (y : Message). frame y ≡ frame r) ys) rs
unfolding all_of
all-of ys [] h = tt
all-of ys (r ∷ rs) h = let k = (and-eq-true_iff (one_of ys r) (all_of ys rs)).0 h in (one-of ys r k.0, all-of ys rs k.1)

-- all that the supervisor has read is in order, and what a call takes as an answer the supervisor has put out
pub record Carries (e : Ends.Ends) (t : Ends.EndCall) : Type 0 where
  turn : let l = (ends_after e t).log in InTurn (List ℕ) (map frame l.heard) (map (λ (x : Frame). x.bytes) l.asked)
  taken : Each (FromSupervisor e.log) (taken_as_answer e t)

abbrev taken_seen : Seen → Ends.EndCall → List Message
taken_seen x (Ends.main m) = taken_behind x.log.read m.call (main_meant_made x.main m).answer
taken_seen x (Ends.supervisor m) = []

unfoldable pub carries_seen : Seen → Ends.EndCall → Bool
carries_seen x t =
    let l = (seen_after x t).log in
    stand_in_turn (map frame l.heard) (map (λ (y : Frame). y.bytes) l.asked) && all_of x.log.sent (taken_seen x t)

taken-seen : (e : Ends.Ends) → Both e → (t : Ends.EndCall) → taken_as_answer e t ≡ taken_seen (seen e) t
taken-seen e both (Ends.main m) = rw (MainHistory.one_call e.main m both.main).answer
taken-seen e both (Ends.supervisor m) = refl

pub carries-seen : (e : Ends.Ends) → Both e → (t : Ends.EndCall) → EndCallTyped t → carries_seen (seen e) t ≡ true → Carries e t
unfolding carries_seen
carries-seen e both t typed h =
    let l = (seen_after (seen e) t).log in
    let turn = stand_in_turn (map frame l.heard) (map (λ (y : Frame). y.bytes) l.asked) in
    let k = (and-eq-true_iff turn (all_of e.log.sent (taken_seen (seen e) t))).0 h in
    record {
      turn = rw (ap (λ (x : Seen). x.log) (seen-after e both t typed)) (stand-in-turn _ _ k.0);
      taken = rw (taken-seen e both t) (all-of e.log.sent (taken_seen (seen e) t) k.1);
    }

module _ (e : Ends.Ends) (t : Ends.EndCall) (h : Carries e t) where
  pub carries-wire : (n : ℕ) → WireUnder n e t
  carries-wire n =
      let l = (ends_after e t).log in
      record {
        to_supervisor =
            each-then (λ (m : Message). Any (λ (x : Frame). x.bytes ≡ frame m) l.asked) _ (λ m a p. a) l.heard
            (turn-images frame (λ (x : Frame). x.bytes) l.heard l.asked h.turn);
        to_main = λ z. h.taken;
      }

  pub carries-sets : (k : ℕ) → SetsInOrderAfter k e t
  carries-sets k = turn-sets k h.turn _ refl

-- ---- no start, no restore, and no new set

unfoldable pub goes_on_seen : Seen → Ends.EndCall → Bool
goes_on_seen x (Ends.main m) = not (restarts m.call (main_meant_made x.main m).answer)
goes_on_seen x (Ends.supervisor m) = not (Received.starts_anew m) && not (accepts_restore m)

pub goes-on-seen : (e : Ends.Ends) → Both e → (t : Ends.EndCall) → EndCallTyped t → goes_on_seen (seen e) t ≡ true → GoesOn e t
unfolding goes_on_seen
goes-on-seen e both (Ends.main m) typed h = rw (MainHistory.one_call e.main m both.main).answer (not-false _ h)
goes-on-seen e both (Ends.supervisor m) typed h =
    let k = (and-eq-true_iff (not (Received.starts_anew m)) (not (accepts_restore m))).0 h in
    record { no_start = not-false _ k.0; no_restore = not-false _ k.1 }

unfoldable pub no_new_set_seen : ℕ → Seen → Ends.EndCall → Bool
no_new_set_seen k x (Ends.main m) = not (puts_request m.call (main_meant_made x.main m).answer && sets_key k (request_of m.call))
no_new_set_seen k x (Ends.supervisor m) = true

pub no-new-set-seen : (k : ℕ) (e : Ends.Ends) → Both e → (t : Ends.EndCall) → EndCallTyped t → no_new_set_seen k (seen e) t ≡ true
    → NoNewSet k e t
unfolding no_new_set_seen
no-new-set-seen k e both (Ends.main m) typed h =
    let a = (main_meant_made (main_view e.main) m).answer in
    rw (MainHistory.one_call e.main m both.main).answer
    (λ p. rw p at (not-false (puts_request m.call a && sets_key k (request_of m.call)) h))
no-new-set-seen k e both (Ends.supervisor m) typed h = tt
