-- The changes of two lists from an offset on, and what changes leave that are made one after the other.
-- Assumes nothing.
use mathlib.Core.Path.{◌≡◌, refl, sym, ◌∙◌, ap, subst}
use mathlib.Core.Bool.{Bool, true, false, not, cond}
use mathlib.Core.List.{List, [], ◌∷◌}
use mathlib.Core.Logic.{◌⊎◌, inl, inr}
use Prim.Native.Nat.{ℕ, zero, suc, ◌+◌, ◌<◌}
use native.Mathlib.Nat.{add-zero, add-suc, suc-add, zero-add, le-suc, lt-suc_self, lt_irrefl, lt_of_lt_of_le}
use native.Mathlib.Omega.{arith}
use lib.ListN.{length}
use lib.Dec.{T, eqb}
use borrow.Author.Tests.{eq-eqb, ne_eqb}
use Rattle.probes.specs.declared.Probe.{Probe}
use Rattle.std.specs.Prelude.{Ok, Err}
use Rattle.refusals.specs.declared.Refusal.TheVariants.{BadProbe}
use Rattle.probes.specs.Probes.{ProbeChange, probe_change, probe_changes, good, with_result, latest, probes_from, update_report}
use Rattle.probes.specs.Probes.{update_outcome, update_promise, result_set}

-- there are none where one of the lists is empty
pub none-left : (is rs : List ℕ) → (length is ≡ 0) ⊎ (length rs ≡ 0) → probe_changes is rs ≡ []
unfolding probe_changes
none-left [] rs e = refl
none-left (i ∷ is) [] e = refl
none-left (i ∷ is) (r ∷ rs) (inl e) = absurd (omega arith)
none-left (i ∷ is) (r ∷ rs) (inr e) = absurd (omega arith)

-- ---- One change after the other

unfoldable pub applied : List Probe → List ProbeChange → List Probe
applied l [] = l
applied l (c ∷ cs) = applied (result_set l c.index c.result) cs

-- ---- Record by record

no-changes : (k : ℕ) (l : List Probe) → probes_from k l [] ≡ l
unfolding probes_from latest
no-changes k [] = refl
no-changes k (p ∷ ps) = ap (λ (us : List Probe). p ∷ us) (no-changes (suc k) ps)

first-change : (k : ℕ) (l : List Probe) (c : ProbeChange) (cs : List ProbeChange)
    → probes_from k (probes_from k l (c ∷ [])) cs ≡ probes_from k l (c ∷ cs)
unfolding probes_from latest
first-change k [] c cs = refl
first-change k (p ∷ ps) c cs =
    ap (λ (us : List Probe). with_result p (latest k cs (cond (eqb c.index k) c.result p.result)) ∷ us)
    (first-change (suc k) ps c cs)

-- a change below part k changes no record from there on
change-below : (k : ℕ) (l : List Probe) (i r : ℕ) → i < k → probes_from k l (probe_change i r ∷ []) ≡ l
unfolding probes_from latest
change-below k [] i r h = refl
change-below k (p ∷ ps) i r h =
    ap (λ (b : Bool). with_result p (cond b r p.result) ∷ probes_from (suc k) ps (probe_change i r ∷ []))
    (ne_eqb i k (λ e. lt_irrefl k (subst (λ (m : ℕ). m < k) e h)))
    ∙ ap (λ (us : List Probe). p ∷ us) (change-below (suc k) ps i r (lt_of_lt_of_le h (le-suc k)))

-- one change is one record written
one-change : (k : ℕ) (l : List Probe) (i r : ℕ) → probes_from k l (probe_change (i + k) r ∷ []) ≡ result_set l i r
unfolding probes_from latest
one-change k [] i r = refl
one-change k (p ∷ ps) zero r =
    ap (λ (b : Bool). with_result p (cond b r p.result) ∷ probes_from (suc k) ps (probe_change (zero + k) r ∷ []))
    (eq-eqb (zero + k) k (zero-add k))
    ∙ ap (λ (us : List Probe). with_result p r ∷ us)
    (change-below (suc k) ps (zero + k) r (subst (λ (m : ℕ). m < suc k) (sym (zero-add k)) (lt-suc_self k)))
one-change k (p ∷ ps) (suc i) r =
    ap (λ (b : Bool). with_result p (cond b r p.result) ∷ probes_from (suc k) ps (probe_change (suc i + k) r ∷ []))
    (ne_eqb (suc i + k) k (λ e. lt_irrefl k (above e)))
    ∙ ap (λ (j : ℕ). p ∷ probes_from (suc k) ps (probe_change j r ∷ [])) (suc-add i k ∙ sym (add-suc i k))
    ∙ ap (λ (us : List Probe). p ∷ us) (one-change (suc k) ps i r)
  where
    above : suc i + k ≡ k → k < k
    above e = omega (arith, e)

pub applied-records : (l : List Probe) (cs : List ProbeChange) → applied l cs ≡ probes_from 0 l cs
unfolding applied
applied-records l [] = sym (no-changes 0 l)
applied-records l (c ∷ cs) =
    applied-records (result_set l c.index c.result) cs
    ∙ ap (λ (us : List Probe). probes_from 0 us cs)
    (sym (one-change 0 l c.index c.result) ∙ ap (λ (j : ℕ). probes_from 0 l (probe_change j c.result ∷ [])) (add-zero c.index))
    ∙ first-change 0 l c cs

-- ---- The call's two ends

-- a choice by a test that holds, and by one that does not
chosen : {A : Type 0} (b : Bool) (x y : A) → T b → x ≡ cond b x y
chosen true x y t = refl
chosen false x y t = absurd t

passed : {A : Type 0} (b : Bool) (x y : A) → T (not b) → y ≡ cond b x y
passed true x y t = absurd t
passed false x y t = refl

pub update_done : (l : List Probe) (is rs : List ℕ) → T (good (length l) is rs)
    → update_outcome (Ok tt) (applied l (probe_changes is rs)) ≡ update_promise l is rs
unfolding update_report update_promise
update_done l is rs t = ap (update_outcome (Ok tt)) (applied-records l (probe_changes is rs)) ∙ chosen (good (length l) is rs) _ _ t

pub update_refused : (l : List Probe) (is rs : List ℕ) → T (not (good (length l) is rs))
    → update_outcome (Err BadProbe) l ≡ update_promise l is rs
unfolding update_report update_promise
update_refused l is rs t = passed (good (length l) is rs) _ _ t
