-- A call is done where every change is good, and else refused as 15.
-- Assumes nothing.
use mathlib.Core.Path.{◌≡◌, refl, ◌∙◌}
use mathlib.Core.Bool.{Bool, true, false, ◌||◌, and-eq-true_iff}
use mathlib.Core.List.{List, [], ◌∷◌}
use mathlib.Core.Logic.{◌⊎◌, inl, inr}
use mathlib.Core.Option.{some}
use Prim.Native.Nat.{ℕ}
use lib.Dec.{ltb, eqb}
use lib.ListN.{length}
use borrow.Author.Tests.{lt-ltb, ltb-true, eq-eqb, eqb-true}
use Rattle.probes.specs.declared.Probe.{Probe}
use Rattle.probes.specs.Probes.{ProbeChange, probe_changes, good_change, all_good, good, update_promise}
use Rattle.probes.specs.Item4.{AllGoodChanges, GoodUpdate, UpdateDone, UpdateRefused}

-- ---- the tests say it

result-good : (r : ℕ) → (r ≡ 0) ⊎ (r ≡ 2) ⊎ (r ≡ 3) → (eqb r 0 || (eqb r 2 || eqb r 3)) ≡ true
result-good r (inl e) = rw e
result-good r (inr (inl e)) = rw e
result-good r (inr (inr e)) = rw e

good-result : (r : ℕ) → (eqb r 0 || (eqb r 2 || eqb r 3)) ≡ true → (r ≡ 0) ⊎ (r ≡ 2) ⊎ (r ≡ 3)
good-result r = by (eqb r 0) (eqb r 2) (eqb r 3) refl refl refl
  where
    by : (a b c : Bool) → eqb r 0 ≡ a → eqb r 2 ≡ b → eqb r 3 ≡ c → (a || (b || c)) ≡ true → (r ≡ 0) ⊎ (r ≡ 2) ⊎ (r ≡ 3)
    by true b c e f g t = inl (eqb-true r 0 e)
    by false true c e f g t = inr (inl (eqb-true r 2 f))
    by false false c e f g t = inr (inr (eqb-true r 3 (g ∙ t)))

all-good : (n : ℕ) (cs : List ProbeChange) → AllGoodChanges n cs → all_good n cs ≡ true
unfolding all_good
all-good n [] h = refl
all-good n (c ∷ cs) h = rw (lt-ltb c.index n h.0.0, result-good c.result h.0.1) (all-good n cs h.1)

good-all : (n : ℕ) (cs : List ProbeChange) → all_good n cs ≡ true → AllGoodChanges n cs
unfolding all_good
good-all n [] e = tt
good-all n (c ∷ cs) e =
    let a = (and-eq-true_iff (good_change n c) (all_good n cs)).0 e in
    let b = (and-eq-true_iff (ltb c.index n) _).0 a.0 in
    ((ltb-true c.index n b.0, good-result c.result b.1), good-all n cs a.1)

-- ---- the call

pub update_done : UpdateDone
unfolding update_promise good
update_done l indices results h =
    rw (eq-eqb (length indices) (length results) h.0, all-good (length l) (probe_changes indices results) h.1)

holds : (l : List Probe) (indices results : List ℕ) → good (length l) indices results ≡ true → GoodUpdate l indices results
unfolding good
holds l indices results e =
    let a = (and-eq-true_iff (eqb (length indices) (length results)) _).0 e in
    (eqb-true (length indices) (length results) a.0, good-all (length l) (probe_changes indices results) a.1)

pub update_refused : UpdateRefused
unfolding update_promise
update_refused l indices results f = by (good (length l) indices results) refl
  where
    by : (b : Bool) → good (length l) indices results ≡ b → update_promise l indices results ≡ record { refusal = some 15; list = l }
    by true e = absurd (f (holds l indices results e))
    by false e = rw e
