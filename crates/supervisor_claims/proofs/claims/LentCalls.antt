-- A call that is lent too little of a part that it takes.
-- One that is lent enough of what it takes may be lent all of the other parts. Assumes nothing.
use mathlib.Core.Path.{◌≡◌, refl, sym, ap, ◌∙◌}
use mathlib.Core.Bool.{Bool, true, false, cond, false≢true, not, ◌||◌}
use mathlib.Core.List.{List, []}
use Prim.Native.Nat.{ℕ, ◌≤◌}
use lib.ListN.{length}
use borrow.Author.Tests.{leb-true}
use Rattle.line_claims.specs.Loans.{Loan, first, lent_part, enough_part}
use Rattle.line_claims.proofs.LoanLaws
use Rattle.line_claims.proofs.LoanLaws.{back-same}
use Rattle.supervisor.specs.Calls.{Parts}
use Rattle.supervisor.proofs.ValidLaws.{untrue}
use Rattle.responder.specs.Receive
use Rattle.supervisor_claims.specs.ByPart.{Part, published, part}
use Rattle.supervisor_claims.specs.Sound.{Valid}
use Rattle.supervisor_claims.specs.LocalCalls.{Change, LocalCall, local_row}
use Rattle.supervisor_claims.specs.Histories
use Rattle.supervisor_claims.specs.Histories.{Call, Lent, did_by, left_in, did, lent_of, given_back, takes_part, enough, made}
use Rattle.supervisor_claims.specs.Demand1.{part_asked, parts_fit_call, Made12}
use Rattle.supervisor_claims.proofs.ByPart.{every, of, every_true, true-every, parts_same, published-some, part-long}
use Rattle.supervisor_claims.proofs.Sound.{Long}
use Rattle.supervisor_claims.proofs.laws.Locality.{EnoughOfAll, widened, widened-all, lent-part, back-lent}
use Rattle.supervisor_claims.proofs.calls.RowLaws.{OfChange, only_taken}
use Rattle.supervisor_claims.proofs.calls.LocalLaws.{row_laws}
use Rattle.supervisor_claims.proofs.claims.Refusals.{valid-parts-are, refused-12}

-- ---- valid parts, by the test and by the record

pub parts-valid : (p : Parts) → Receive.valid_parts p ≡ true → Valid p
parts-valid p e = true-every _ (sym (valid-parts-are p) ∙ e)

pub valid-parts : (p : Parts) → Valid p → Receive.valid_parts p ≡ true
valid-parts p v = valid-parts-are p ∙ every_true _ v

-- ---- too little

-- a test that fails where another does
fails : (a b : Bool) → b ≡ false → (a ≡ true → b ≡ true) → a ≡ false
fails a b e f = sym (untrue a (λ t. false≢true (sym e ∙ f t)))

-- a part as a call asks has its published length
asks-long : (c : Call) (i : Part) (s : List ℕ) → part_asked c i s ≡ true → published i ≤ length s
asks-long (Histories.start d) i s v = leb-true (published i) (length s) v
asks-long (Histories.receive image piece) i s v = part-long i s v
asks-long (Histories.step image piece) i s v = part-long i s v
asks-long (Histories.local c) i s v = part-long i s v

-- where the parts as lent are as 12 requires, enough of them is lent
fit-enough : (l : Lent) (p : Parts) (c : Call) → parts_fit_call (lent_of l p) c ≡ true → enough c l ≡ true
unfolding parts_fit_call enough
fit-enough l p c v =
    let f = true-every (λ i. not (takes_part c i) || part_asked c i (part (lent_of l p) i)) v in
    every_true _ (every (λ i. by i (takes_part c i) (of f i)))
  where
    by : (i : Part) (t : Bool) → (not t || part_asked c i (part (lent_of l p) i)) ≡ true → (not t || enough_part (published i) (l i)) ≡ true
    by i true h = LoanLaws.lent-enough (published i) (part p i) (l i) (published-some i) (rw (lent-part l p i) at (asks-long c i _ h))
    by i false h = refl

pub made_12 : Made12
unfolding made
made_12 p m e =
    let q = lent_of m.lent p in
    let f = fails (parts_fit_call q m.call) _ e (fit-enough m.lent p m.call) in
    rw (refused-12 q m.call f, back-lent m.lent p)

-- ---- enough of what a call takes: it may be lent all of the other parts

pub widened-enough : (l : Lent) (p : Parts) → Long p → (c : Call) → enough c l ≡ true → EnoughOfAll (widened (takes_part c) l p)
unfolding enough
widened-enough l p r c e = widened-all (takes_part c) l p r (true-every _ e)

-- it does the same, by the parts that it takes
module _ (p : Parts) (l : Lent) (c : LocalCall) where
  abbrev takes : Part → Bool
  takes = (local_row c).takes

  abbrev w : Lent
  w = widened takes l p

  taken-same : only_taken takes (lent_of l p) ≡ only_taken takes (lent_of w p)
  taken-same = parts_same (taken (lent_of l p)) (taken (lent_of w p)) (λ i. rw (lent-part l p i, lent-part w p i) (by i (takes i)))
    where
      taken : Parts → Part → List ℕ
      taken q i = cond (takes i) (part q i) []

      by : (i : Part) (t : Bool) → let lent : Loan → List ℕ = λ k. lent_part (published i) k (part p i) in
          cond t (lent (l i)) [] ≡ cond t (lent (cond t (l i) (first (length (part p i))))) []
      by i true = refl
      by i false = refl

  promise-same : (local_row c).promise (lent_of l p) ≡ (local_row c).promise (lent_of w p)
  promise-same =
      (row_laws c).by_taken (lent_of l p) ∙ ap (local_row c).promise taken-same ∙ sym ((row_laws c).by_taken (lent_of w p))

  -- and by the part that it may change
  left-same : (x : Change) → OfChange c x → (s : List ℕ)
      → given_back l p (left_in x (lent_of l p) s) ≡ given_back w p (left_in x (lent_of w p) s)
  left-same Change.nothing h s = simp back-same
  left-same Change.outbox h s = simp (back-same, h.0)
  left-same (Change.registers added) h s = simp (back-same, h)
  left-same (Change.settings image) h s = simp (back-same, h.0)

pub widened_same : (p : Parts) (c : Call) (l : Lent)
    → made p (record { lent = l; call = c }) ≡ made p (record { lent = widened (takes_part c) l p; call = c })
unfolding made did
widened_same p (Histories.start d) l = refl
widened_same p (Histories.receive image piece) l = refl
widened_same p (Histories.step image piece) l = refl
widened_same p (Histories.local c) l =
    rw (promise-same p l c) (ap (did_by _ _) (left-same p l c (local_row c).change (row_laws c).of_change _))
