-- Laws of a loan: what is lent and comes back, whatever the loan, and what a loan of the published length is.
-- Assumes nothing.
use mathlib.Core.Path.{◌≡◌, refl, sym, ◌∙◌}
use mathlib.Core.Bool.{Bool, true, false, false≢true}
use mathlib.Core.List.{List, [], ◌∷◌, ◌++◌, append-nil}
use Prim.Native.Nat.{ℕ, ◌+◌, ◌≤◌, ◌<◌}
use native.Mathlib.Nat.{lt_of_not-le}
use native.Mathlib.Omega.{arith}
use lib.Dec.{leb}
use lib.ListN.{length, take, drop, length-append, length-take, take-append-drop, drop_of_length-le}
use lib.Seq.{take-nil, drop-nil, drop-drop, take-take, take_all, take_at, drop_at, take-append-le, length-take-le, length_front}
use borrow.Author.Tests.{leb-true, leb-false, le-leb}
use Rattle.octets.specs.Bytes.{Each, run, overlay}
use Rattle.octets.proofs.Each.{each_append, each_take, each-drop}
use Rattle.octets.proofs.Overlay.{length-overlay, overlay-start}
use Rattle.line_claims.specs.Loans.{Loan, first, within, fewer, lent_part, back_part, enough_part}
use Rattle.line_claims.specs.Demand1.{AnyRun}

-- ---- any loan

pub any_run : AnyRun
unfolding lent_part
any_run published at n s h = let e : fewer published n ≡ n = omega arith in rw e

-- bytes from an offset on, with those behind them
rest-whole : (at n : ℕ) (s : List ℕ) → run at n s ++ drop (at + n) s ≡ drop at s
rest-whole at n s = rw (← drop-drop n at s) (take-append-drop n (drop at s))

rest_length : (at n : ℕ) (s t : List ℕ) → length t ≡ length (run at n s) → length (t ++ drop (at + n) s) ≡ length (drop at s)
rest_length at n s t e = rw (← drop-drop n at s) (length_front (drop at s) t n e)

module _ (published : ℕ) (s : List ℕ) where
  -- what comes back as it was lent
  pub back-same : (l : Loan) → back_part published l s (lent_part published l s) ≡ s
  unfolding lent_part back_part
  back-same (first n) = take-append-drop n s
  back-same (within at n) = rw (rest-whole at (fewer published n) s) (take-append-drop at s)

  pub back-length : (l : Loan) (t : List ℕ) → length t ≡ length (lent_part published l s) → length (back_part published l s t) ≡ length s
  unfolding lent_part back_part
  back-length (first n) t e = length_front s t n e
  back-length (within at n) t e = rw (length-append, rest_length at (fewer published n) s t e, ← length-append, take-append-drop)

  pub lent-each : (P : ℕ → Type 0) (l : Loan) → Each P s → Each P (lent_part published l s)
  unfolding lent_part
  lent-each P (first n) h = each_take P n s h
  lent-each P (within at n) h = each_take P (fewer published n) (drop at s) (each-drop P at s h)

  pub back-each : (P : ℕ → Type 0) (l : Loan) (t : List ℕ) → Each P s → Each P t → Each P (back_part published l s t)
  unfolding back_part
  back-each P (first n) t h k = each_append P t (drop n s) k (each-drop P n s h)
  back-each P (within at n) t h k =
      each_append P (take at s) _ (each_take P at s h) (each_append P t _ k (each-drop P (at + fewer published n) s h))

-- ---- lent again in the same way

-- what is put in front of the bytes behind the first n, n of them or all there were, is the first n
front-again : (n : ℕ) (s t : List ℕ) → length t ≡ length (take n s) → (take n (t ++ drop n s) ≡ t) × (drop n (t ++ drop n s) ≡ drop n s)
front-again n s t e = by (leb n (length s)) refl
  where
    by : (b : Bool) → leb n (length s) ≡ b → (take n (t ++ drop n s) ≡ t) × (drop n (t ++ drop n s) ≡ drop n s)
    by true f =
        let h : length t ≡ n = omega (arith, length-take n s, leb-true n (length s) f) in
        (take_at t (drop n s) n h, drop_at t (drop n s) n h)
    by false f =
        let h : length s ≤ n = omega (arith, leb-false n (length s) f) in
        let k : length t ≤ n = omega (arith, length-take n s) in
        rw (drop_of_length-le s h, append-nil) (take_all n t k, drop_of_length-le t k)

-- behind the bytes up to an offset
rest-again : (at : ℕ) (s t : List ℕ) → (length s ≤ at → t ≡ []) → (take at (take at s ++ t) ≡ take at s) × (drop at (take at s ++ t) ≡ t)
rest-again at s t e = by (leb at (length s)) refl
  where
    by : (b : Bool) → leb at (length s) ≡ b → (take at (take at s ++ t) ≡ take at s) × (drop at (take at s ++ t) ≡ t)
    by true f =
        let h = length-take-le at s (leb-true at (length s) f) in
        (take_at (take at s) t at h, drop_at (take at s) t at h)
    by false f =
        let h : length s ≤ at = omega (arith, leb-false at (length s) f) in
        rw (e h, append-nil, take_all at s h) (take_all at s h, drop_of_length-le s h)

-- a run that came back as t
within-rest : (at m : ℕ) (s t : List ℕ) → length t ≡ length (run at m s) → let w = take at s ++ (t ++ drop (at + m) s) in
    (take at w ≡ take at s) × (drop at w ≡ t ++ drop m (drop at s))
within-rest at m s t e = rw (← drop-drop m at s) (rest-again at s (t ++ drop m (drop at s)) none)
  where
    empty : (xs : List ℕ) → length xs ≡ 0 → xs ≡ []
    empty [] q = refl
    empty (x ∷ xs) q = absurd (omega arith)

    none : length s ≤ at → t ++ drop m (drop at s) ≡ []
    none h =
        let k : drop at s ≡ [] = drop_of_length-le s h in
        let z : t ≡ [] = empty t (e ∙ rw (k, take-nil m)) in
        rw (z, k, drop-nil m)

module _ (published : ℕ) (s : List ℕ) where
  -- what came back is lent, and what comes back then replaces it
  pub lent_again : (l : Loan) (t : List ℕ) → length t ≡ length (lent_part published l s)
      → lent_part published l (back_part published l s t) ≡ t
  unfolding lent_part back_part
  lent_again (first n) t e = (front-again n s t e).0
  lent_again (within at n) t e =
      let m = fewer published n in
      rw (within-rest at m s t e).1 (front-again m (drop at s) t e).0

  pub back-again : (l : Loan) (t u : List ℕ) → length t ≡ length (lent_part published l s)
      → back_part published l (back_part published l s t) u ≡ back_part published l s u
  unfolding lent_part back_part
  back-again (first n) t u e = rw (front-again n s t e).1
  back-again (within at n) t u e =
      let m = fewer published n in
      let r = within-rest at m s t e in
      rw (← drop-drop m at (take at s ++ (t ++ drop (at + m) s)), r.0, r.1, (front-again m (drop at s) t e).1, drop-drop m at s)

-- ---- the published length

-- all of a part that has it
pub whole-enough : (published : ℕ) (s : List ℕ) → published ≤ length s → enough_part published (first (length s)) ≡ true
unfolding enough_part
whole-enough published s h = le-leb published (length s) h

module _ (published : ℕ) (s : List ℕ) where
  -- as many bytes are lent only by a loan that is enough
  pub lent-enough : (l : Loan) → 0 < published → published ≤ length (lent_part published l s) → enough_part published l ≡ true
  unfolding lent_part enough_part
  lent-enough (first n) z h = le-leb published n (omega (arith, length-take n s))
  lent-enough (within at n) z h = absurd (omega (arith, length-take (fewer published n) (drop at s)))

  -- any other lends fewer
  pub lent-short : (l : Loan) → 0 < published → enough_part published l ≡ false → length (lent_part published l s) < published
  lent-short l z e = lt_of_not-le (λ h. false≢true (sym e ∙ lent-enough l z h))

  pub lent-long : (l : Loan) → enough_part published l ≡ true → published ≤ length s → published ≤ length (lent_part published l s)
  unfolding lent_part enough_part
  lent-long (first n) e h = omega (arith, length-take n s, leb-true published n e)
  lent-long (within at n) e h = absurd (false≢true e)

  -- they are the part's first
  pub lent-first : (l : Loan) → enough_part published l ≡ true → take published (lent_part published l s) ≡ take published s
  unfolding lent_part enough_part
  lent-first (first n) e = take-take published n s (leb-true published n e)
  lent-first (within at n) e = absurd (false≢true e)

-- the bytes behind those lent: what comes back stands ahead of them
pub record Front (published : ℕ) (l : Loan) (s : List ℕ) : Type 0 where
  pub rest : List ℕ
  pub whole : lent_part published l s ++ rest ≡ s
  pub back : (t : List ℕ) → back_part published l s t ≡ t ++ rest

pub front : (published : ℕ) (l : Loan) (s : List ℕ) → enough_part published l ≡ true → Front published l s
unfolding lent_part back_part enough_part
front published (first n) s e = record { rest = drop n s; whole = take-append-drop n s; back = λ t. refl }
front published (within at n) s e = absurd (false≢true e)

-- the published length of it comes first
pub back-first : (published : ℕ) (s : List ℕ) (l : Loan) (t : List ℕ) → enough_part published l ≡ true → published ≤ length t
    → take published (back_part published l s t) ≡ take published t
back-first published s l t e h = let f = front published l s e in rw (f.back t) (take-append-le published t f.rest h)

-- bytes that are put over the published length of what was lent come first in the part
pub put_first : (published : ℕ) (s xs : List ℕ) (l : Loan) → 0 < published → length xs ≡ published
    → published ≤ length (lent_part published l s)
    → take published (back_part published l s (overlay 0 xs (lent_part published l s))) ≡ xs
put_first published s xs l p n h =
    let t = lent_part published l s in
    let k = length-overlay 0 xs t (omega arith) in
    back-first published s l (overlay 0 xs t) (lent-enough published s l p h) (omega arith)
    ∙ rw (overlay-start xs t) (take-append-le published xs _ (omega arith) ∙ take_all published xs (omega arith))
