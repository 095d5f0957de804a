-- Refusals: 12 exactly where a part that a call takes is not as 12 requires; a refused call changes nothing. The parts' lengths.
-- Assumes nothing.
use mathlib.Core.Path.{◌≡◌, refl, ap, ◌∙◌}
use mathlib.Core.Bool.{Bool, true, false, cond, not, ◌&&◌, and-false}
use mathlib.Core.List.{List, []}
use mathlib.Core.Logic.{◌↔◌}
use mathlib.Core.Option.{Option, none, some}
use Prim.Native.Nat.{ℕ}
use native.Mathlib.Omega.{arith}
use Rattle.octets.proofs.Conditions.{cond-by, not-cond, zero_one}
use Rattle.line.specs.Reader as LineReader
use Rattle.octets.specs.TableTests.{first_failing}
use Rattle.supervisor.specs.Local
use Rattle.supervisor.specs.Valid.{good_start, valid_outbox, valid_factory, valid_settings, valid_registers}
use Rattle.supervisor.specs.Calls
use Rattle.supervisor.specs.Calls.{Parts}
use Rattle.responder.specs.Receive
use Rattle.supervisor_claims.specs.ByPart.{part, valid_part, every_part}
use Rattle.supervisor_claims.specs.View.{factory_of}
use Rattle.supervisor_claims.specs.LocalCalls.{AnswerKind, kind_of, RefusedKind}
use Rattle.supervisor_claims.specs.Histories
use Rattle.supervisor_claims.specs.Histories.{Call, Typed, Answer, refused, Did, did_by, did, refusal, untouched}
use Rattle.supervisor_claims.specs.Demand1.{parts_fit_call, later_tests, EachNumberExactly, RefusedExactly, RefusedHolds, PartsFit}
use Rattle.supervisor_claims.proofs.laws.GoodStart.{good-bad}
use Rattle.supervisor_claims.proofs.calls.RowLaws.{WhereKind, Other, Unrefused, unrefused, Tested}
use Rattle.supervisor_claims.proofs.calls.LocalLaws.{row_laws}
use Rattle.supervisor_claims.proofs.calls.StepClaim.{valid-step-stepped}

pub parts_fit : PartsFit
parts_fit = omega arith

-- ---- the tests that the calls make

and-swap : (a b c : Bool) → (a && (b && c)) ≡ (b && (a && c))
and-swap true b c = refl
and-swap false b c = rw and-false

pub valid-parts-are : (p : Parts) → Receive.valid_parts p ≡ every_part (λ i. valid_part i (part p i))
unfolding Receive.valid_parts Receive.valid_inner
valid-parts-are p =
    ap (λ t. LineReader.valid_reader p.reader && t)
    (and-swap (valid_factory p.factory) (valid_outbox p.outbox) (valid_settings p.settings && valid_registers p.registers))

module _ (p : Parts) {t : Bool} where
  room-test : (d : List ℕ) → parts_fit_call p (Histories.start d) ≡ t → Calls.long_enough p ≡ t
  unfolding parts_fit_call Calls.long_enough
  room-test d e = e

  receive-test : (image piece : List ℕ) → parts_fit_call p (Histories.receive image piece) ≡ t → Receive.valid_parts p ≡ t
  unfolding parts_fit_call
  receive-test image piece e = valid-parts-are p ∙ e

-- where they are not: 12, and nothing changes
pub refused-12 : (p : Parts) (c : Call) → parts_fit_call p c ≡ false → did p c ≡ did_by (refused 12) (untouched c) p
unfolding parts_fit_call did Calls.start_promise Receive.receive_promise Receive.step_promise
refused-12 p (Histories.start d) e = rw (room-test p d e)
refused-12 p (Histories.receive image piece) e = rw (receive-test p image piece e)
refused-12 p (Histories.step image piece) e = rw (receive-test p image piece e)
refused-12 p (Histories.local c) e = (row_laws c).refuses p e

-- ---- nowhere else

-- where the parts are as 12 requires
module _ (p : Parts) where
  tested-other : (c : Call) (o : Option ℕ) → Tested p c (did p c) o → Other p c (did p c)
  tested-other c (some n) t = rw t.1 (t.0, refl, refl)
  tested-other c none t = t.1

  fit-other : (c : Call) → parts_fit_call p c ≡ true → Other p c (did p c)
  unfolding parts_fit_call did Calls.start_promise Receive.receive_promise Receive.step_promise
  fit-other (Histories.start d) e = rw (room-test p d e) (cond-by P (good_start d) _ _ (λ f. tt) (λ f. (λ h. omega (arith, h), refl, refl)))
    where
      P : Calls.StartOutcome → Type 0
      P t = Other p (Histories.start d) (did_by (refusal t.refusal) [] t.parts)
  fit-other (Histories.receive image piece) e = rw (receive-test p image piece e) tt
  fit-other (Histories.step image piece) e = rw (receive-test p image piece e, valid-step-stepped image p piece) tt
  fit-other (Histories.local c) e =
      tested-other (Histories.local c) (first_failing (later_tests p (Histories.local c))) ((row_laws c).tested p e)

-- ---- each number exactly where its test is the first to fail

module _ (n : ℕ) where
  abbrev Numbered : Answer → Option ℕ → Type 0
  Numbered a k = (a ≡ refused n) ↔ (k ≡ some n)

  numbered-same : (k : ℕ) → Numbered (refused k) (some k)
  numbered-same k = (λ e. cc, λ e. cc)

  unnumbered : (a : Answer) → Unrefused a → Numbered a none
  unnumbered a h = (λ e. absurd (h n e), λ e. absurd (zero_one cc))

  abbrev StartedAs : Calls.StartOutcome → Option ℕ → Type 0
  StartedAs t k = Numbered (refusal t.refusal) k

  tested-numbered : (p : Parts) (c : Call) (o : Option ℕ) → Tested p c (did p c) o → Numbered (did p c).answer o
  tested-numbered p c (some k) t = rw t.1 (numbered-same k)
  tested-numbered p c none t = unnumbered (did p c).answer t.0

  fit-numbered : (p : Parts) (c : Call) → Typed c → parts_fit_call p c ≡ true → Numbered (did p c).answer (first_failing (later_tests p c))
  unfolding parts_fit_call did first_failing Calls.start_promise Receive.receive_promise Receive.step_promise
  fit-numbered p (Histories.start d) t e =
      rw (room-test p d e, good-bad d (omega (arith, t.0)))
      (not-cond StartedAs (Local.bad_start (factory_of d)) (numbered-same 11) (unnumbered Histories.done (unrefused _ tt)))
  fit-numbered p (Histories.receive image piece) t e = rw (receive-test p image piece e) (unnumbered Histories.done (unrefused _ tt))
  fit-numbered p (Histories.step image piece) t e =
      rw (receive-test p image piece e, valid-step-stepped image p piece) (unnumbered _ (unrefused _ tt))
  fit-numbered p (Histories.local c) t e = tested-numbered p (Histories.local c) _ ((row_laws c).tested p e)

pub each_number_exactly : EachNumberExactly
unfolding first_failing
each_number_exactly p c n t = by (parts_fit_call p c) refl
  where
    by : (b : Bool) → parts_fit_call p c ≡ b
        → Numbered n (did p c).answer (cond (not (parts_fit_call p c)) (some 12) (first_failing (later_tests p c)))
    by true e = rw e (fit-numbered n p c t e)
    by false e = rw (e, refused-12 p c e) (numbered-same n 12)

pub refused_exactly : RefusedExactly
refused_exactly p c = (by (parts_fit_call p c) refl, λ e. ap (λ (x : Did). x.answer) (refused-12 p c e))
  where
    by : (t : Bool) → parts_fit_call p c ≡ t → (did p c).answer ≡ refused 12 → parts_fit_call p c ≡ false
    by true e h = absurd ((rw h at (fit-other p c e)).0 refl)
    by false e h = e

-- ---- a refusal changes nothing

module _ (p : Parts) (c : Call) (d : Did) where
  unchanged : (k : AnswerKind) → WhereKind k (λ n. (n ≡ 12 → ⊥) × (d.parts ≡ p) × (d.out ≡ untouched c)) → RefusedKind k
      → (d.parts ≡ p) × (d.out ≡ untouched c)
  unchanged (AnswerKind.number n) w r = (w.1, w.2)
  unchanged (AnswerKind.fault n) w r = (w.1, w.2)
  unchanged AnswerKind.carried-out w r = absurd r
  unchanged (AnswerKind.taken n) w r = absurd r
  unchanged AnswerKind.other w r = absurd r

pub refused_holds : RefusedHolds
refused_holds p c h = by (parts_fit_call p c) refl
  where
    by : (t : Bool) → parts_fit_call p c ≡ t → ((did p c).parts ≡ p) × ((did p c).out ≡ untouched c)
    by true e = unchanged p c (did p c) (kind_of (did p c).answer) (fit-other p c e) h
    by false e = rw (refused-12 p c e) (refl, refl)
