-- The sets of a key among messages: what the other messages leave of the key, and which requests are such sets.
-- Assumes nothing.
use mathlib.Core.Path.{◌≡◌, refl, ap}
use mathlib.Core.Bool.{true, cond, false≢true, and-eq-true_iff}
use mathlib.Core.List.{List, [], ◌∷◌, ◌++◌}
use mathlib.Core.Logic.{inl, inr}
use mathlib.Core.Option.{Option, none, some}
use Prim.Native.Nat.{ℕ, ◌^◌, ◌≤◌, ◌<◌}
use native.Mathlib.Omega.{arith}
use lib.Dec.{eqb}
use lib.ListN.{length}
use borrow.Author.Tests.{le-leb, eqb-true}
use Rattle.octets.specs.Bytes.{Each}
use Rattle.octets.proofs.Conditions.{cond-by}
use Rattle.line.specs.Message.{Message}
use Rattle.line.specs.Judge as Line
use Rattle.line.specs.Judge.{judge}
use Rattle.line_claims.specs.Calls.{gathered, good_of, good_messages}
use Rattle.requester.specs.State.{is_some, Request}
use Rattle.supervisor.specs.State.{Setting}
use Rattle.responder.specs.Commands.{command_of_number, with_number, command_number, length_right}
use Rattle.responder.specs.Requests.{Verdict, failure, good, known, length_allowed, tested, tested_where, verdict}
use Rattle.supervisor_claims.specs.LastSet.{request_ahead, requests_in, value_for, set_by, listed_if, sets_of, successful, set_after}
use Rattle.supervisor_claims.proofs.claims.LastSetLaws.{onto, after_sets}
use Rattle.both_claims.specs.Ends.{Any, passes_table, is_set_of, sets_among, as_message}
use Rattle.both_claims.proofs.laws.Table.{tested-same, passes, tested-passes}

-- requests pass the whole table
pub tested-again : (f : List ℕ) (m : Message) → verdict f ≡ good m → tested m ≡ good m
unfolding verdict
tested-again f m e = rw (passes f m e).judged at e

requests-pass : (fs : List (List ℕ)) → Each (λ (m : Message). tested m ≡ good m) (requests_in fs)
unfolding requests_in
requests-pass [] = tt
requests-pass (f ∷ fs) = by (verdict f) refl (requests-pass fs)
  where
    by : (w : Verdict) → verdict f ≡ w → Each (λ (m : Message). tested m ≡ good m) (requests_in fs)
        → Each (λ (m : Message). tested m ≡ good m) (request_ahead w (requests_in fs))
    by (failure reason version sequence) e others = others
    by (good m) e others = (tested-again f m e, others)

module _ (k : ℕ) where
  -- ---- lists

  pub sets-append : (ms ns : List Message) → sets_among k (ms ++ ns) ≡ sets_among k ms ++ sets_among k ns
  unfolding sets_among
  sets-append [] ns = refl
  sets-append (m ∷ ms) ns =
      cond-by (λ (xs : List Message). cond (is_set_of k m) (m ∷ sets_among k (ms ++ ns)) (sets_among k (ms ++ ns)) ≡ xs ++ sets_among k ns)
      (is_set_of k m) (m ∷ sets_among k ms) (sets_among k ms) (λ e. rw (e, sets-append ms ns)) (λ e. rw (e, sets-append ms ns))

  pub sets-each : (P : Message → Type 0) (ms : List Message) → Each P ms → Each P (sets_among k ms)
  unfolding sets_among
  sets-each P [] h = tt
  sets-each P (m ∷ ms) h =
      cond-by (Each P) (is_set_of k m) (m ∷ sets_among k ms) (sets_among k ms) (λ _. (h.0, sets-each P ms h.1))
      (λ _. sets-each P ms h.1)

  pub sets-all : (ms : List Message) → Each (λ (m : Message). is_set_of k m ≡ true) (sets_among k ms)
  unfolding sets_among
  sets-all [] = tt
  sets-all (m ∷ ms) =
      cond-by (Each (λ (m : Message). is_set_of k m ≡ true)) (is_set_of k m) (m ∷ sets_among k ms) (sets_among k ms) (λ e. (e, sets-all ms))
      (λ _. sets-all ms)

  -- one that is in the list
  pub set-in : (m : Message) → is_set_of k m ≡ true → (ms : List Message) → Any (λ (y : Message). y ≡ m) ms
      → Any (λ (y : Message). y ≡ m) (sets_among k ms)
  unfolding sets_among
  set-in m s [] h = h
  set-in m s (y ∷ ms) (inl e) = rw (e, s) (inl refl)
  set-in m s (y ∷ ms) (inr h) =
      cond-by (Any (λ (y : Message). y ≡ m)) (is_set_of k y) (y ∷ sets_among k ms) (sets_among k ms) (λ _. inr (set-in m s ms h))
      (λ _. set-in m s ms h)

  -- ---- the whole table

  pub set_value : (m : Message) → is_set_of k m ≡ true → is_some (set_by k m) ≡ true
  unfolding is_set_of
  set_value m s = ((and-eq-true_iff (passes_table (tested m)) (is_some (set_by k m))).0 s).1

  -- requests are the good messages that the whole table passes
  pub sets-requests : (fs : List (List ℕ)) → sets_among k (requests_in fs) ≡ sets_among k (good_messages fs)
  unfolding gathered requests_in verdict sets_among is_set_of
  sets-requests [] = refl
  sets-requests (f ∷ fs) = by (judge f) (sets-requests fs)
    where
      tests : (m : Message) (v : Verdict) → tested m ≡ v → sets_among k (requests_in fs) ≡ sets_among k (good_messages fs)
          → sets_among k (request_ahead v (requests_in fs)) ≡ sets_among k (m ∷ good_messages fs)
      tests m (failure reason version sequence) e h = rw e h
      tests m (good n) e h = rw (← (tested-same m n e).0) (rw h)

      by : (j : Line.LineVerdict) → sets_among k (requests_in fs) ≡ sets_among k (good_messages fs)
          → sets_among k (request_ahead (tested_where j) (requests_in fs)) ≡ sets_among k (good_of j ++ good_messages fs)
      by (Line.failure reason sequence) h = h
      by (Line.good m) h = tests m (tested m) refl h

  -- ---- what the key has behind them

  -- the other requests leave it
  sets-only : (ms : List Message) → Each (λ (m : Message). tested m ≡ good m) ms
      → (sets_of k (sets_among k ms) ≡ sets_of k ms) × ((x : Setting) → after_sets k x (sets_among k ms) ≡ after_sets k x ms)
  unfolding sets_among is_set_of sets_of after_sets
  sets-only [] h = (refl, λ x. refl)
  sets-only (m ∷ ms) h = by (set_by k m) refl (sets-only ms h.1)
    where
      by : (o : Option (List ℕ)) → set_by k m ≡ o
          → (sets_of k (sets_among k ms) ≡ sets_of k ms) × ((x : Setting) → after_sets k x (sets_among k ms) ≡ after_sets k x ms)
          → (sets_of k (sets_among k (m ∷ ms)) ≡ sets_of k (m ∷ ms))
          × ((x : Setting) → after_sets k x (sets_among k (m ∷ ms)) ≡ after_sets k x (m ∷ ms))
      by none e (s, a) = rw (h.0, e) (s, a)
      by (some v) e (s, a) =
          let z : sets_among k (m ∷ ms) ≡ m ∷ sets_among k ms = rw (h.0, e) in
          rw z (ap (λ (vs : List (List ℕ)). listed_if (set_by k m) ++ vs) s, λ x. a (onto x (set_by k m)))

  module _ (x : Setting) (fs : List (List ℕ)) where
    pub after-sets-only : after_sets k x (sets_among k (good_messages fs)) ≡ after_sets k x (requests_in fs)
    after-sets-only = rw (← sets-requests fs) ((sets-only (requests_in fs) (requests-pass fs)).1 x)

    pub set-after-only : set_after k x (sets_among k (requests_in fs)) ≡ set_after k x (requests_in fs)
    unfolding set_after successful
    set-after-only = rw (sets-only (requests_in fs) (requests-pass fs)).0

  -- ---- the requests of the main processor's end

  some-data : (d : List ℕ) → is_some (value_for k d) ≡ true → 1 ≤ length d
  unfolding value_for
  some-data [] s = absurd (false≢true s)
  some-data (b ∷ d) s = omega arith

  pub set-shape : (m : Message) → is_some (set_by k m) ≡ true → (m.command ≡ 0x10) × (1 ≤ length m.payload)
  unfolding set_by
  set-shape m =
      cond-by (λ (o : Option (List ℕ)). is_some o ≡ true → (m.command ≡ 0x10) × (1 ≤ length m.payload)) (eqb m.command 0x10) _ _
      (λ e s. (eqb-true m.command 0x10 e, some-data m.payload s)) (λ _ s. absurd (false≢true s))

  -- one that has a value for key k
  pub set-passes : (n : ℕ) (q : Request) → n < 2 ^ 63 → is_some (set_by k (as_message n q)) ≡ true → is_set_of k (as_message n q) ≡ true
  unfolding is_set_of known length_allowed command_of_number with_number command_number length_right
  set-passes n q low s =
      let h = set-shape (as_message n q) s in
      let long : length_allowed 0x10 (length q.payload) ≡ true = le-leb 1 (length q.payload) h.1 in
      rw (tested-passes (as_message n q) refl low (rw h.0 refl) (rw h.0 long), s)
