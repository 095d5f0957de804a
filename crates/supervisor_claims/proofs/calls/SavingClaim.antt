-- Saving and restoring on sound parts.
-- Assumes nothing.
use mathlib.Core.Path.{◌≡◌, refl, ap}
use mathlib.Core.List.{List, []}
use mathlib.Core.Option.{Option, none}
use Prim.Native.Nat.{ℕ}
use native.Mathlib.Omega.{arith}
use lib.Dec.{ltb}
use lib.ListN.{length}
use Rattle.octets.specs.Bytes.{Each, Byte}
use Rattle.octets.specs.TableTests.{first_failing}
use Rattle.octets.proofs.Conditions.{cond-by, cond_both, zero_one}
use Rattle.supervisor.specs.State.{Settings, State, with_settings}
use Rattle.supervisor.specs.Valid.{valid_settings}
use Rattle.supervisor.specs.Calls.{Parts}
use Rattle.supervisor.proofs.ValidLaws.{settings-valid}
use Rattle.saving.specs.Saving
use Rattle.saving.specs.Calls as SavingCalls
use Rattle.saving.proofs.KeptLaws.{restored-valid, restored-long, restored-bytes}
use Rattle.supervisor_claims.specs.ByPart.{Part}
use Rattle.supervisor_claims.specs.View.{settings_of, view}
use Rattle.supervisor_claims.specs.Sound.{with_settings_part, Sound, Lengths}
use Rattle.supervisor_claims.specs.LocalCalls
use Rattle.supervisor_claims.specs.Histories
use Rattle.supervisor_claims.specs.Histories.{did_by, did, Means, meant}
use Rattle.supervisor_claims.specs.LastSet.{records_of}
use Rattle.supervisor_claims.specs.Demand1.{Meets, parts_fit_call}
use Rattle.supervisor_claims.proofs.Sound.{sound-with}
use Rattle.supervisor_claims.proofs.laws.AlikeLaws.{saved-same}
use Rattle.supervisor_claims.proofs.laws.SavingLaws.{Faults, read-faults, image_meant, good_meant}
use Rattle.supervisor_claims.proofs.calls.RowLaws.{RowLaws, Tested, unrefused, same_meets, settings_by, with_settings_means, last-test}

module _ (p : Parts) (s : Sound p) where
  save-meets : (room : List ℕ)
      → Meets p (did p (Histories.local (Histories.save room))) (meant (view p) (Histories.local (Histories.save room)))
  unfolding did meant SavingCalls.save_promise view
  save-meets room =
      rw (s.valid.settings, image_meant p.settings)
      (cond_both P (ltb (length room) (length (Saving.saved (settings_of p.settings)))) (λ e. same_meets p s refl refl)
      (λ e. same_meets p s refl refl))
    where
      P : SavingCalls.SaveOutcome → Means → Type 0
      P t m = Meets p (did_by (LocalCalls.save_answer t.report) t.room p) m

  restored_by : (image : List ℕ) (r : Saving.ImageRead) → Saving.read_image image ≡ r
      → SavingCalls.restore_promise p.settings image ≡ SavingCalls.restore_outcome_by p.settings r
  unfolding SavingCalls.restore_promise
  restored_by image r e = rw (s.valid.settings, e)

  restore-meets : (image : List ℕ) → Each Byte image
      → Meets p (did p (Histories.local (Histories.restore image))) (meant (view p) (Histories.local (Histories.restore image)))
  unfolding did meant Saving.restore SavingCalls.restore_outcome_by view
  restore-meets image b =
      by (Saving.read_image image) refl
      (sound-with p Part.settings _ s (restored-valid p.settings image s.valid.settings)
      (restored-bytes p.settings image s.bytes.settings b) (restored-long p.settings image))
    where
      after : Saving.ImageRead → Parts
      after r = with_settings_part p (SavingCalls.restore_outcome_by p.settings r).settings

      meets : (r : Saving.ImageRead) → Saving.read_image image ≡ r → Sound (after r) × Lengths p (after r)
          → Meets p (did_by (LocalCalls.restore_answer (SavingCalls.restore_outcome_by p.settings r).report) [] (after r))
          (LocalCalls.restore_means (view p) (Saving.restore_read (view p) r))
      meets (Saving.fault n at) e w = same_meets p s refl refl
      meets (Saving.good es) e w =
          record {
            answer = refl;
            out = refl;
            leaves = (
              ap (with_settings (view p)) (good_meant p.settings (settings-valid p.settings s.valid.settings) image b es e),
              w.0,
              w.1,
            );
          }

      by : (r : Saving.ImageRead) → Saving.read_image image ≡ r → let t = (SavingCalls.restore_promise p.settings image).settings in
          Sound (with_settings_part p t) × Lengths p (with_settings_part p t)
          → Meets p (let t = SavingCalls.restore_promise p.settings image in
          did_by (LocalCalls.restore_answer t.report) [] (with_settings_part p t.settings))
          (LocalCalls.restore_means (view p) (Saving.restore_read (view p) r))
      by r e w = rw (restored_by image r e) (meets r e (rw (restored_by image r e) at w))

-- ---- their rows

abbrev SaveTested : Parts → List ℕ → SavingCalls.SaveOutcome → Option ℕ → Type 0
SaveTested p room t k = Tested p (Histories.local (Histories.save room)) (did_by (LocalCalls.save_answer t.report) t.room p) k

pub save-laws : (room : List ℕ) → RowLaws (Histories.save room)
unfolding did meant parts_fit_call first_failing view SavingCalls.save_promise
save-laws room = record {
  by_taken = λ p. refl;
  of_change = tt;
  meets = λ p s t. save-meets p s room;
  refuses = λ p e. rw (last-test (valid_settings p.settings) e);
  tested = λ p e.
      rw (last-test (valid_settings p.settings) e, image_meant p.settings)
      (cond_both (SaveTested p room) (ltb (length room) (length (Saving.saved (settings_of p.settings))))
      (λ _. (λ h. omega (arith, h), refl)) (λ _. (unrefused _ tt, tt)));
  keeps_rest = λ s.
      cond-by (λ (m : Means). m.state ≡ s) (ltb (length room) (length (Saving.saved s.settings))) _ _ (λ _. refl) (λ _. refl);
  alike = λ t z e.
      rw (saved-same z t.settings e)
      (cond_both (λ m n. m ≡ with_settings_means z n) (ltb (length room) (length (Saving.saved t.settings))) (λ _. refl) (λ _. refl));
}

restore-tested : (p : Parts) (image : List ℕ) (r : Saving.ImageRead) → Faults r
    → let t = SavingCalls.restore_outcome_by p.settings r in
    Tested p (Histories.local (Histories.restore image))
    (did_by (LocalCalls.restore_answer t.report) [] (with_settings_part p t.settings)) none
unfolding SavingCalls.restore_outcome_by
restore-tested p image (Saving.fault n at) h = (λ m e. zero_one cc, (λ k. omega (arith, h, k), refl, refl))
restore-tested p image (Saving.good es) h = (unrefused Histories.done tt, tt)

-- by what reading the image came to
module _ (s : State) where
  restore-changes : (r : Saving.ImageRead)
      → (LocalCalls.restore_means s (Saving.restore_read s r)).state ≡ with_settings s (settings_by (records_of r) s.settings)
  restore-changes (Saving.fault n at) = refl
  restore-changes (Saving.good es) = refl

  restore-alike : (z : Settings) (r : Saving.ImageRead)
      → LocalCalls.restore_means (with_settings s z) (Saving.restore_read (with_settings s z) r)
      ≡ with_settings_means (settings_by (records_of r) z) (LocalCalls.restore_means s (Saving.restore_read s r))
  restore-alike z (Saving.fault n at) = refl
  restore-alike z (Saving.good es) = refl

pub restore-laws : (image : List ℕ) → RowLaws (Histories.restore image)
unfolding did meant parts_fit_call first_failing SavingCalls.restore_promise Saving.restore
restore-laws image = record {
  by_taken = λ p. refl;
  of_change = (refl, λ t. t);
  meets = λ p s t. restore-meets p s image t;
  refuses = λ p e. rw (last-test (valid_settings p.settings) e);
  tested = λ p e. rw (last-test (valid_settings p.settings) e) (restore-tested p image (Saving.read_image image) (read-faults image));
  keeps_rest = λ s. restore-changes s (Saving.read_image image);
  alike = λ t z e. restore-alike t z (Saving.read_image image);
}
