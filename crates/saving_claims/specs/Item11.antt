-- Document 02's item 11: what was saved restores to the same settings, and an image is exactly what it restores.
-- Assumes nothing: these are definitions and statements.
use Rattle.std.specs.Prelude.{◌≡◌, true, List, [], ◌∷◌, ◌++◌, map, ℕ, suc, ◌^◌, ◌≤◌, ◌<◌, length, take, drop, replicate}
use Rattle.std.proofs.Math.Option.{Option, none, some}
use Rattle.octets.specs.Bytes.{Byte, Each}
use Rattle.supervisor.specs.Limits.{first_setting, longest_setting, longest_settings}
use Rattle.supervisor.specs.Valid.{valid_settings}
use Rattle.saving.specs.Calls.{image_bytes, longest_image}
use Rattle.supervisor.specs.State.{Settings}
use Rattle.saving.specs.Saving.{saved_count, saved, SavedEntry, fault, good, read_image, restored_settings}
use Rattle.saving_claims.specs.Samples.{image_sample_meant, image_samples}

-- no value and edition 0, or a value that is not too long and an edition of 32 bits
abbrev pub SavableBy : ℕ → ℕ → Option (List ℕ) → Type 0
SavableBy key edition none = edition ≡ 0
SavableBy key edition (some v) = (length v ≤ longest_setting key) × (edition < 256 ^ 4)

-- the settings from a key on can be saved
abbrev pub Savable : ℕ → Settings → Type 0
Savable key [] = Unit {0}
Savable key (x ∷ xs) = SavableBy key x.edition x.value × Savable (suc key) xs

-- the record of a key that has a value, ahead of others
abbrev pub ahead_of : ℕ → ℕ → Option (List ℕ) → List SavedEntry → List SavedEntry
ahead_of key edition none es = es
ahead_of key edition (some v) es = record { key = key; edition = edition; value = v } ∷ es

-- the records of the settings from a key on
unfoldable pub entries_of : ℕ → Settings → List SavedEntry
entries_of key [] = []
entries_of key (x ∷ xs) = ahead_of key x.edition x.value (entries_of (suc key) xs)

-- those of keys 3, 4 and 5, where settings begin
abbrev pub records : Settings → List SavedEntry
records xs = entries_of first_setting (take saved_count xs)

-- what holds of all settings of which those of keys 3, 4 and 5 can be saved
abbrev pub OfSavable : (Settings → Type 0) → Type 0
OfSavable P = (xs : Settings) → saved_count ≤ length xs → Savable first_setting (take saved_count xs) → P xs

abbrev pub ImageSamplesHold : Type 0
ImageSamplesHold = map image_sample_meant image_samples ≡ image_samples

abbrev pub SavedRead : Settings → Type 0
SavedRead xs = read_image (saved xs) ≡ good (records xs)

abbrev pub SettingsRestored : Settings → Type 0
SettingsRestored xs = restored_settings (records xs) xs ≡ xs

abbrev pub SavedRestoresInto : Settings → Type 0
SavedRestoresInto xs = (ys : Settings) → saved_count ≤ length ys
    → restored_settings (records xs) ys ≡ take saved_count xs ++ drop saved_count ys

abbrev pub ImageExact : Type 0
ImageExact = (image : List ℕ) → Each Byte image → (es : List SavedEntry) → read_image image ≡ good es → (ys : Settings)
    → saved_count ≤ length ys → image ≡ saved (restored_settings es ys)

abbrev pub ImageOne : Type 0
ImageOne = (i j : List ℕ) → Each Byte i → Each Byte j → (es fs : List SavedEntry) → read_image i ≡ good es → read_image j ≡ good fs
    → (ys : Settings) → saved_count ≤ length ys → restored_settings es ys ≡ restored_settings fs ys → i ≡ j

abbrev pub SavedOmits : Type 0
SavedOmits = (xs ys : Settings) → take 3 xs ≡ take 3 ys → saved xs ≡ saved ys

abbrev pub OtherKey31 : Type 0
OtherKey31 = (k : ℕ) (rest : List ℕ) → k < 256 → 5 < k → read_image (0x4b ∷ 0x56 ∷ k ∷ rest) ≡ fault 31 2

-- settings with values of these lengths
abbrev pub settings_of_lengths : List ℕ → Settings
settings_of_lengths [] = []
settings_of_lengths (n ∷ ns) = record { edition = 0; value = some (replicate n 0) } ∷ settings_of_lengths ns

abbrev pub NoLongerImage : Type 0
NoLongerImage = (s : List ℕ) → valid_settings s ≡ true → length (image_bytes s) ≤ longest_image

abbrev pub LongestReached : Type 0
LongestReached = length (saved (settings_of_lengths longest_settings)) ≡ longest_image

pub record SavingItem11 : Type 0 where
  -- no image of a valid settings store is longer than the published length, so that a room of that length is never too short
  pub no_longer_image : NoLongerImage
  -- and settings at their longest have an image of that length
  pub longest_reached : LongestReached
  -- the image is that of keys 3, 4 and 5 alone
  pub saved_omits : SavedOmits
  -- a first record of a key above 5 is fault 31, at the key
  pub other_key_31 : OtherKey31
  -- small images, each with what it holds or its first fault and that fault's offset, as a single table, over the meaning itself
  pub samples_hold : ImageSamplesHold
  -- the image of settings that can be saved has no fault, and holds their records
  pub saved_read : OfSavable SavedRead
  -- these records leave the same settings as they are
  pub saved_restores : OfSavable SettingsRestored
  -- and restore them into any others: the three saved ones are replaced, the rest stays
  pub saved_restores_into : OfSavable SavedRestoresInto
  -- an image that is accepted is the saved form of what it restores, byte for byte
  pub image_exact : ImageExact
  -- two images that restore the same settings are the same
  pub image_one : ImageOne
