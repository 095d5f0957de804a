-- When saving and restoring are refused, and what a fault of the image leaves (document 02, item 11).
-- Assumes nothing.
use mathlib.Core.Path.{◌≡◌}
use mathlib.Core.Bool.{Bool, true, false, cond, not}
use mathlib.Core.List.{List}
use mathlib.Core.Logic.{◌↔◌}
use mathlib.Core.Option.{Option, none, some}
use Prim.Native.Nat.{ℕ}
use lib.Dec.{ltb}
use lib.ListN.{length}
use Rattle.octets.proofs.Conditions.{zero_one}
use Rattle.octets.specs.TableTests.{first_failing}
use Rattle.supervisor.specs.Valid.{valid_settings}
use Rattle.saving.specs.Saving
use Rattle.saving.specs.Calls as SavingCalls
use Rattle.supervisor_claims.specs.Item11.{SaveRefusedExactly, RestoreRefusedExactly, RestoreFault}

pub save_refused_exactly : SaveRefusedExactly
unfolding SavingCalls.save_promise first_failing
save_refused_exactly s room n = by (valid_settings s) (ltb (length room) (length (SavingCalls.image_bytes s))) _
  where
    Numbered : SavingCalls.SaveOutcome → Option ℕ → Type 0
    Numbered t k = (t.report ≡ SavingCalls.refused n) ↔ (k ≡ some n)

    saved : ℕ → List ℕ → SavingCalls.SaveOutcome
    saved k out = record { report = SavingCalls.written k; room = out }

    unsaved : ℕ → SavingCalls.SaveOutcome
    unsaved k = record { report = SavingCalls.refused k; room = room }

    by : (v t : Bool) (out : List ℕ)
        → Numbered (cond v (cond t (unsaved 8) (saved (length (SavingCalls.image_bytes s)) out)) (unsaved 12))
        (cond (not v) (some 12) (cond t (some 8) none))
    by true true out = (λ e. cc, λ e. cc)
    by true false out = (λ e. absurd (zero_one cc), λ e. absurd (zero_one cc))
    by false t out = (λ e. cc, λ e. cc)

pub restore_refused_exactly : RestoreRefusedExactly
unfolding SavingCalls.restore_promise SavingCalls.restore_outcome_by first_failing
restore_refused_exactly s image n = by (valid_settings s) (Saving.read_image image)
  where
    Numbered : SavingCalls.RestoreOutcome → Option ℕ → Type 0
    Numbered t k = (t.report ≡ SavingCalls.RestoreReport.refused n) ↔ (k ≡ some n)

    by : (v : Bool) (r : Saving.ImageRead)
        → Numbered (cond v (SavingCalls.restore_outcome_by s r) (record { report = SavingCalls.RestoreReport.refused 12; settings = s }))
        (cond (not v) (some 12) none)
    by true (Saving.fault k at) = (λ e. absurd (zero_one cc), λ e. absurd (zero_one cc))
    by true (Saving.good es) = (λ e. absurd (zero_one cc), λ e. absurd (zero_one cc))
    by false r = (λ e. cc, λ e. cc)

pub restore_fault : RestoreFault
unfolding SavingCalls.restore_promise SavingCalls.restore_outcome_by
restore_fault s image n at v e = rw (v, e)
