-- Laws of the part's first fields: how they are stored and read, and the numbers of a recovery's steps.
-- Assumes nothing.
use mathlib.Core.Path.{◌≡◌, refl}
use mathlib.Core.Bool.{Bool, true, false, cond, not, not-not, ◌&&◌, ◌||◌}
use mathlib.Core.List.{List, [], ◌∷◌, ◌++◌}
use mathlib.Core.Option.{Option, none, some}
use Rattle.std.specs.Prelude as Std
use Prim.Native.Nat.{ℕ, zero, suc, ◌+◌, ◌-◌, ◌≤◌}
use native.Mathlib.Omega.{arith}
use lib.Dec.{eqb}
use lib.ListN.{length, set}
use lib.Seq.{take-length}
use borrow.Rule.Slice.PartMut.{put_mid}
use Rattle.std.proofs.lemmas.Slice.{put_mid-paste}
use Rattle.octets.specs.Bytes.{bytes, overlay, put}
use Rattle.octets.proofs.Overlay.{length-overlay, overlay-one, overlay-more, overlay-next, put-fits}
use Rattle.line.specs.Limits.{longest_data}
use Rattle.requester.specs.State.{RecoveryStep, fetch, acknowledge, alert, is_some}
use Rattle.requester.specs.Layout
use Rattle.requester.specs.Calls.{progressed}
use Rattle.requester.specs.Progress.{ProgressIn, recovery_report}
use Rattle.requester.specs.declared.step.Step.{Step}
use Rattle.requester.specs.declared.progress.Progress.{Progress}

-- bytes copied into a part of as many
part-overlaid : (at : ℕ) (d s : List ℕ) {e : List ℕ} {k : ℕ} → e ≡ d → at + length d - at ≡ k → put_mid at k s e ≡ overlay at d s
unfolding overlay
part-overlaid at d s {e} {k} a c = rw (put_mid-paste at k s e d (length d) a (omega arith) refl, take-length d)

module _ (r : List ℕ) (long : Layout.requester_length ≤ length r) where
  -- the four fields, one after the other
  pub progress-set : (number recovery unsent kept : ℕ) {t : List ℕ} → t ≡ put Layout.number_offset (bytes 8 number) r
      → set (set (set t Layout.recovery_offset recovery) Layout.unsent_offset unsent) Layout.kept_offset kept
      ≡ progressed number recovery unsent kept r
  unfolding progressed bytes
  progress-set number recovery unsent kept e =
      rw (
        e,
        put-fits 0 (bytes 8 number) r (omega arith),
        overlay-more 0 recovery (bytes 8 number) r (omega arith),
        overlay-more 0 unsent (bytes 8 number ++ recovery ∷ []) r (omega arith),
        overlay-more 0 kept (bytes 8 number ++ recovery ∷ unsent ∷ []) r (omega arith),
      )

  pub length-progressed : (number recovery unsent kept : ℕ) → length (progressed number recovery unsent kept r) ≡ length r
  unfolding progressed bytes
  length-progressed number recovery unsent kept = length-overlay 0 (bytes 8 number ++ recovery ∷ unsent ∷ kept ∷ []) r (omega arith)

  -- a request behind the first fields
  pub request-kept : (command : ℕ) (d : List ℕ) {t e : List ℕ} {k : ℕ} → length d ≤ longest_data
      → t ≡ put Layout.length_offset (bytes 2 (length d)) (set r Layout.command_offset command)
      → e ≡ d → Layout.kept_data_offset + length d - Layout.kept_data_offset ≡ k
      → put_mid Layout.kept_data_offset k t e ≡ overlay Layout.command_offset (command ∷ bytes 2 (length d) ++ d) r
  unfolding bytes
  request-kept command d h a b c =
      let head = command ∷ bytes 2 (length d) in
      rw (
        part-overlaid Layout.kept_data_offset d _ b c,
        a,
        overlay-one Layout.command_offset command r (omega arith),
        put-fits Layout.length_offset (bytes 2 (length d)) (overlay Layout.command_offset (command ∷ []) r)
            (omega (arith, length-overlay Layout.command_offset (command ∷ []) r (omega arith))),
        overlay-next Layout.command_offset (command ∷ []) (bytes 2 (length d)) r (omega arith),
        overlay-next Layout.command_offset head d r (omega arith),
      )

-- ---- steps

pub step-number : (n : ℕ) → n ≤ 3 → Layout.step_number (Layout.step_at n) ≡ n
unfolding Layout.step_number Layout.step_at
step-number zero h = refl
step-number (suc zero) h = refl
step-number (suc (suc zero)) h = refl
step-number (suc (suc (suc zero))) h = refl
step-number (suc (suc (suc (suc n)))) h = absurd (omega arith)

pub step-at : (t : Option RecoveryStep) → Layout.step_at (Layout.step_number t) ≡ t
unfolding Layout.step_number Layout.step_at
step-at none = refl
step-at (some fetch) = refl
step-at (some acknowledge) = refl
step-at (some alert) = refl

-- a step is none exactly where its number is 0
pub step-none : (t : ℕ) → is_some (Layout.step_at t) ≡ not (eqb t 0)
unfolding Layout.step_at
step-none t = by (eqb t 0) (eqb t 1) (eqb t 2)
  where
    by : (a b c : Bool) → is_some (cond a none (cond b (some fetch) (cond c (some acknowledge) (some alert)))) ≡ not a
    by true b c = refl
    by false true c = refl
    by false false true = refl
    by false false false = refl

-- ---- the fields read

some-step : (t : Std.Option Step) → Std.is_some t ≡ is_some (recovery_report t)
some-step Std.None = refl
some-step (Std.Some t) = refl

module _ (r : List ℕ) (p : Progress) (v : ProgressIn r p) where
  pub progress-recovery : eqb (Layout.recovery_of r) 0 ≡ not (Std.is_some p.recovery)
  progress-recovery = rw (some-step, v.recovery, step-none, not-not)

  pub progress-outstanding : (Std.is_some p.recovery || p.kept) ≡ Layout.is_outstanding r
  unfolding Layout.is_outstanding
  progress-outstanding = rw (some-step, v.recovery, step-none, v.kept)

  pub progress-unsent : ((Std.is_some p.recovery || p.kept) && p.unsent) ≡ Layout.is_unsent r
  unfolding Layout.is_unsent
  progress-unsent = rw (progress-outstanding, v.unsent)
