-- Document 02's item 11, saving the settings, over the supervisor's parts.
-- What was saved restores, and an accepted image is the saved form of what it leaves.
-- Assumes nothing: these are definitions and statements.
use Rattle.std.specs.Prelude.{◌≡◌, true, not, List, [], ◌∷◌, ◌++◌, ◌↔◌, ℕ, ◌+◌, ◌≤◌, ltb, length, take, drop}
use Rattle.std.proofs.Math.Option.{some}
use Rattle.octets.specs.Bytes.{Each, Byte, overlay}
use Rattle.supervisor.specs.Limits
use Rattle.supervisor.specs.Limits.{SettingsKey}
use Rattle.supervisor.specs.State.{Setting, Settings, setting, with_settings}
use Rattle.supervisor.specs.Calls.{Parts}
use Rattle.supervisor.specs.Valid.{SettingsValid, valid_settings}
use Rattle.saving.specs.Saving
use Rattle.saving.specs.Saving.{SavedEntry, saved_count, saved}
use Rattle.saving.specs.Calls as SavingCalls
use Rattle.octets.specs.TableTests.{table_test, first_failing}
use Rattle.saving_claims.specs.Item11.{SavableBy}
use Rattle.supervisor_claims.specs.View.{settings_of, view}
use Rattle.supervisor_claims.specs.Sound.{Sound}
use Rattle.supervisor_claims.specs.Histories
use Rattle.supervisor_claims.specs.Histories.{done, written, Lent, enough, Made, made, locally, AfterCalls}
use Rattle.supervisor_claims.specs.Demand2.{ValueLastSet}

abbrev pub ImageMeant : Type 0
ImageMeant = (s : List ℕ) → SavingCalls.image_bytes s ≡ saved (settings_of s)

abbrev pub GoodMeant : Type 0
GoodMeant = (s : List ℕ) → SettingsValid s → (image : List ℕ) → Each Byte image → (es : List SavedEntry)
    → Saving.read_image image ≡ Saving.good es
    → settings_of (SavingCalls.put_entries es (SavingCalls.cleared saved_count s)) ≡ Saving.restored_settings es (settings_of s)

-- a setting without a value has edition 0; one with a value has one that is not too long, and an edition of 32 bits
abbrev pub SavableKey : ℕ → Setting → Type 0
SavableKey k x = SavableBy k x.edition x.value

abbrev pub KeySavable : List Made → Parts → Type 0
KeySavable ms q = (k : ℕ) → SettingsKey k → SavableKey k (setting (view q).settings k)

-- the saved form of the settings that parts hold
abbrev pub saved_image_of : Parts → List ℕ
saved_image_of q = saved (view q).settings

abbrev pub SaveWrites : List Made → Parts → Type 0
SaveWrites ms q = (j : Lent) (room : List ℕ) → Each Byte room → enough (Histories.local (Histories.save room)) j ≡ true
    → length (saved_image_of q) ≤ length room
    → let r = made q (locally j (Histories.save room)) in
    (r.answer ≡ written (length (saved_image_of q))) × (r.out ≡ overlay 0 (saved_image_of q) room)

abbrev pub SavedRestores : List Made → Parts → Type 0
SavedRestores ms p = (q : Parts) → Sound q → (j : Lent) → enough (Histories.local (Histories.restore (saved_image_of p))) j ≡ true
    → let r = made q (locally j (Histories.restore (saved_image_of p))) in
    (r.answer ≡ done)
    × (view r.parts ≡ with_settings (view q) (take saved_count (view p).settings ++ drop saved_count (view q).settings))

abbrev pub AcceptedExact : Type 0
AcceptedExact = (q : Parts) → Sound q → (j : Lent) (image : List ℕ) → Each Byte image
    → let r = made q (locally j (Histories.restore image)) in r.answer ≡ done → image ≡ saved_image_of r.parts

abbrev pub ReplacedOther : Type 0
ReplacedOther = (es : List SavedEntry) (n : ℕ) (z : Settings) (k : ℕ) → SettingsKey k → Limits.first_setting + n ≤ k
    → setting (Saving.replaced n es z) k ≡ setting z k

abbrev pub SaveRefusedExactly : Type 0
SaveRefusedExactly = (s room : List ℕ) (n : ℕ) → ((SavingCalls.save_promise s room).report ≡ SavingCalls.refused n)
    ↔ (first_failing (table_test 12 (not (valid_settings s)) ∷ table_test 8 (ltb (length room) (length (SavingCalls.image_bytes s))) ∷ [])
    ≡ some n)

abbrev pub RestoreRefusedExactly : Type 0
RestoreRefusedExactly = (s image : List ℕ) (n : ℕ) → ((SavingCalls.restore_promise s image).report ≡ SavingCalls.RestoreReport.refused n)
    ↔ (first_failing (table_test 12 (not (valid_settings s)) ∷ []) ≡ some n)

abbrev pub RestoreFault : Type 0
RestoreFault = (s image : List ℕ) (n at : ℕ) → valid_settings s ≡ true → Saving.read_image image ≡ Saving.fault n at
    → SavingCalls.restore_promise s image ≡ record { report = SavingCalls.faulty n at; settings = s }

pub record SupervisorItem11 : Type 0 where
  -- saving tests 12, then 8
  pub save_refused_exactly : SaveRefusedExactly
  -- restore tests 12
  pub restore_refused_exactly : RestoreRefusedExactly
  -- then it refuses an image at its first fault, with the offset, changing nothing
  pub restore_fault : RestoreFault
  -- the bytes that a save writes are the saved form of the settings that the store holds
  pub image_meant : ImageMeant
  -- the bytes that a good image leaves in the store hold the settings that it restores
  pub good_meant : GoodMeant
  -- a restore leaves every setting that is not saved
  pub replaced_other : ReplacedOther
  -- over any calls every setting, key 6 too, is as a record can hold it, so that one without a value has edition 0
  pub key_savable : AfterCalls KeySavable
  -- a save with room for the image writes it, and bytes past it stay
  pub save_writes : AfterCalls SaveWrites
  -- What was saved restores: on any sound parts, of this supervisor at any time or of another, a restore of that image is done.
  -- Then the saved settings are those of the time of saving, values, presence and editions. All else of the state is as it was.
  pub saved_restores : AfterCalls SavedRestores
  -- an accepted image is the saved form of what it leaves, byte for byte, on any sound parts
  pub accepted_exact : AcceptedExact
  -- demand 2 starts each setting from what was restored, and editions count on from the image
  pub value_last_set : AfterCalls ValueLastSet
