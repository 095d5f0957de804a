-- The offsets of the settings: they don't overlap and lie within the store; and the longest values.
-- Assumes nothing.
use mathlib.Core.Path.{◌≡◌, refl}
use mathlib.Core.Logic.{◌⊎◌, inl, inr}
use mathlib.Core.Bool.{Bool, true, false}
use mathlib.Core.List.{List, [], ◌∷◌}
use Prim.Native.Nat.{ℕ, zero, suc, ◌+◌, ◌-◌, ◌≤◌, ◌<◌}
use native.Mathlib.Omega.{arith}
use lib.Dec.{ltb, eqb}
use lib.ListN.{length, take, get_or}
use borrow.Author.Tests.{ltb-true, ltb-false, eqb-false}
use Rattle.octets.specs.Bytes.{Each}
use Rattle.supervisor.specs.Limits.{highest_key, first_setting, SettingsKey, longest_settings, longest_setting, shortest_settings}
use Rattle.supervisor.specs.Limits.{passphrase_key, longest_value}
use Rattle.supervisor.specs.Layout.{setting_value_offset, settings_size, setting_offset, settings_length}

-- ---- a list of longest values

size-apart : (l : List ℕ) (i j : ℕ) → i < length l → i < j
    → settings_size (take i l) + (setting_value_offset + get_or l i 0) ≤ settings_size (take j l)
size-apart [] i j h k = absurd (omega arith)
size-apart (n ∷ l) i zero h k = absurd (omega arith)
size-apart (n ∷ l) zero (suc j) h k = omega arith
size-apart (n ∷ l) (suc i) (suc j) h k = omega (arith, size-apart l i j (omega arith) (omega arith))

size-within : (l : List ℕ) (i : ℕ) → settings_size (take i l) ≤ settings_size l
size-within [] zero = omega arith
size-within [] (suc i) = omega arith
size-within (n ∷ l) zero = omega arith
size-within (n ∷ l) (suc i) = omega (arith, size-within l i)

longest-within : (l : List ℕ) (most : ℕ) → Each (λ n. n ≤ most) l → (i : ℕ) → get_or l i 0 ≤ most
longest-within [] most e i = omega arith
longest-within (n ∷ l) most e zero = e.0
longest-within (n ∷ l) most e (suc i) = longest-within l most e.1 i

-- ---- the settings

pub longest-short : (key : ℕ) → longest_setting key ≤ longest_value
unfolding longest_setting
longest-short key =
    longest-within longest_settings longest_value (omega arith, (omega arith, (omega arith, (omega arith, tt)))) (key - first_setting)

-- only the passphrase has a shortest value
pub none-shortest : (i : ℕ) → (i ≡ passphrase_key - first_setting → ⊥) → get_or shortest_settings i 0 ≡ 0
none-shortest zero h = refl
none-shortest (suc zero) h = refl
none-shortest (suc (suc zero)) h = refl
none-shortest (suc (suc (suc zero))) h = absurd (h refl)
none-shortest (suc (suc (suc (suc i)))) h = refl

pub offset-short : (key : ℕ) → setting_offset key ≤ settings_length
unfolding setting_offset
offset-short key = size-within longest_settings (key - first_setting)

offset-apart : (j k : ℕ) → SettingsKey j → j < k → setting_offset j + (setting_value_offset + longest_setting j) ≤ setting_offset k
unfolding setting_offset longest_setting
offset-apart j k h l = size-apart longest_settings (j - first_setting) (k - first_setting) (omega arith) (omega arith)

pub offset-within : (key : ℕ) → SettingsKey key → setting_offset key + (setting_value_offset + longest_setting key) ≤ settings_length
offset-within key h = omega (arith, offset-apart key (key + 1) h (omega arith), offset-short (key + 1))

-- the setting of a key lies before another's, or is the same, or lies behind it
abbrev pub Lies : ℕ → ℕ → Type 0
Lies j k =
    (setting_offset j + (setting_value_offset + longest_setting j) ≤ setting_offset k)
    ⊎ (j ≡ k)
    ⊎ (setting_offset k + (setting_value_offset + longest_setting k) ≤ setting_offset j)

pub setting-lies : (j k : ℕ) → SettingsKey j → SettingsKey k → Lies j k
setting-lies j k h i = by (ltb j k) (ltb k j) refl refl
  where
    by : (t u : Bool) → ltb j k ≡ t → ltb k j ≡ u → Lies j k
    by true u e f = inl (offset-apart j k h (ltb-true j k e))
    by false true e f = inr (inr (offset-apart k j i (ltb-true k j f)))
    by false false e f = inr (inl (omega (arith, ltb-false j k e, ltb-false k j f)))

-- a key that is none of the factory store's
pub settings-key : (key : ℕ) → eqb key 0 ≡ false → eqb key 1 ≡ false → eqb key 2 ≡ false → key ≤ highest_key → SettingsKey key
settings-key key e f g h = record { lower = omega (arith, eqb-false key 0 e, eqb-false key 1 f, eqb-false key 2 g); upper = h }
