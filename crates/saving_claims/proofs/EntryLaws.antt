-- Settings and the records of an image: which setting each record has, and which records the settings have.
-- Assumes nothing.
use mathlib.Core.Path.{◌≡◌, refl, ap}
use mathlib.Core.Bool.{Bool, true, false}
use mathlib.Core.List.{List, [], ◌∷◌, ◌++◌}
use mathlib.Core.Option.{Option, none, some}
use Prim.Native.Nat.{ℕ, zero, suc, ◌+◌, ◌≤◌, ◌<◌}
use native.Mathlib.Omega.{arith}
use lib.Dec.{eqb}
use lib.ListN.{length, drop}
use borrow.Author.Tests.{eqb-true, eqb-false, eq-eqb, ne_eqb}
use Rattle.octets.specs.Bytes.{Each}
use Rattle.supervisor.specs.Limits.{first_setting}
use Rattle.supervisor.specs.State.{unset, Settings}
use Rattle.saving.specs.Saving.{highest_saved, saved_count, end_mark, saved_record, image_from, SavedEntry, setting_in, replaced}
use Rattle.saving.specs.Saving.{restored_settings}
use Rattle.saving_claims.specs.Item11.{SavableBy, Savable, ahead_of, entries_of}

-- ---- the settings of n keys from a key on, by records

unfoldable pub settings_in : ℕ → ℕ → List SavedEntry → Settings
settings_in zero key es = []
settings_in (suc n) key es = setting_in key es ∷ settings_in n (suc key) es

-- the saved settings are replaced, the others stay
pub restored-split : (es : List SavedEntry) (ys : Settings) → saved_count ≤ length ys
    → restored_settings es ys ≡ settings_in saved_count first_setting es ++ drop saved_count ys
unfolding replaced settings_in
restored-split es [] h = absurd (omega arith)
restored-split es (a ∷ []) h = absurd (omega arith)
restored-split es (a ∷ (b ∷ [])) h = absurd (omega arith)
restored-split es (a ∷ (b ∷ (c ∷ ys))) h = refl

-- a record of another key says nothing of a key
other : (e : SavedEntry) (es : List SavedEntry) (key : ℕ) → (e.key ≡ key → ⊥) → setting_in key (e ∷ es) ≡ setting_in key es
unfolding setting_in
other e es key h = rw (ne_eqb e.key key h)

lower : (e : SavedEntry) (es : List SavedEntry) (n key : ℕ) → e.key < key → settings_in n key (e ∷ es) ≡ settings_in n key es
unfolding settings_in
lower e es zero key h = refl
lower e es (suc n) key h = rw (other e es key (λ i. omega arith), lower e es n (suc key) (omega arith))

-- a key below every record's has no value
absent : (es : List SavedEntry) (key : ℕ) → Each (λ e. key < e.key) es → setting_in key es ≡ unset
unfolding setting_in
absent [] key h = refl
absent (e ∷ es) key h = rw (ne_eqb e.key key (λ i. omega (arith, h.0))) (absent es key h.1)

-- ---- the records of settings give the settings

above-by : (low key edition : ℕ) (o : Option (List ℕ)) (es : List SavedEntry) → low < key → Each (λ e. low < e.key) es
    → Each (λ e. low < e.key) (ahead_of key edition o es)
above-by low key edition none es h k = k
above-by low key edition (some v) es h k = (h, k)

above : (xs : Settings) (low key : ℕ) → low < key → Each (λ e. low < e.key) (entries_of key xs)
unfolding entries_of
above [] low key h = tt
above (x ∷ xs) low key h = above-by low key x.edition x.value (entries_of (suc key) xs) h (above xs low (suc key) (omega arith))

kept_by : (n key edition : ℕ) (o : Option (List ℕ)) (es : List SavedEntry) (xs : Settings) → SavableBy key edition o
    → Each (λ e. key < e.key) es
    → settings_in n (suc key) es ≡ xs → settings_in (suc n) key (ahead_of key edition o es) ≡ record { edition = edition; value = o } ∷ xs
unfolding settings_in setting_in
kept_by n key edition none es xs h k e = rw (absent es key k, e, h)
kept_by n key edition (some v) es xs h k e =
    rw (eq-eqb key key refl, lower (record { key = key; edition = edition; value = v }) es n (suc key) (omega arith), e)

pub settings_kept : (xs : Settings) (key : ℕ) → Savable key xs → settings_in (length xs) key (entries_of key xs) ≡ xs
unfolding entries_of settings_in
settings_kept [] key h = refl
settings_kept (x ∷ xs) key h =
    kept_by (length xs) key x.edition x.value (entries_of (suc key) xs) xs h.0 (above xs key (suc key) (omega arith))
    (settings_kept xs (suc key) h.1)

-- ---- records in key order, and their bytes

-- from a key on
abbrev pub Rising : ℕ → List SavedEntry → Type 0
Rising from [] = Unit {0}
Rising from (e ∷ es) = (from ≤ e.key) × (first_setting ≤ e.key) × (e.key ≤ highest_saved) × Rising (suc e.key) es

unfoldable pub written : List SavedEntry → List ℕ
written [] = end_mark
written (e ∷ es) = saved_record e.key e.edition e.value ++ written es

-- the first record's key is a saved setting's
pub rising-first : (from : ℕ) (es : List SavedEntry) → Rising from es → Rising first_setting es
rising-first from [] h = tt
rising-first from (e ∷ es) h = (h.1, h.1, h.2, h.3)

pub rising-above : (from low : ℕ) (es : List SavedEntry) → low < from → Rising from es → Each (λ e. low < e.key) es
rising-above from low [] l h = tt
rising-above from low (e ∷ es) l h = (omega (arith, h.0), rising-above (suc e.key) low es (omega (arith, h.0)) h.3)

pub length-settings : (n key : ℕ) (es : List SavedEntry) → length (settings_in n key es) ≡ n
unfolding settings_in
length-settings zero key es = refl
length-settings (suc n) key es = ap suc (length-settings n (suc key) es)

-- the settings of records are saved as these records
pub settings-written : (n key : ℕ) (es : List SavedEntry) → Rising key es → key + n ≡ suc highest_saved
    → image_from key (settings_in n key es) ≡ written es
unfolding settings_in image_from written setting_in
settings-written zero key [] h e = refl
settings-written zero key (x ∷ es) h e = absurd (omega (arith, h.0, h.2))
settings-written (suc n) key [] h e = settings-written n (suc key) [] tt (omega arith)
settings-written (suc n) key (x ∷ es) h e =
    by (eqb x.key key) refl (settings-written n (suc key) es) (settings-written n (suc key) (x ∷ es))
  where
    by : (t : Bool) → eqb x.key key ≡ t
        → (Rising (suc key) es → suc key + n ≡ suc highest_saved → image_from (suc key) (settings_in n (suc key) es) ≡ written es)
        → (Rising (suc key) (x ∷ es) → suc key + n ≡ suc highest_saved
        → image_from (suc key) (settings_in n (suc key) (x ∷ es)) ≡ written (x ∷ es))
        → image_from key (settings_in (suc n) key (x ∷ es)) ≡ written (x ∷ es)
    by true f here behind =
        let k = eqb-true x.key key f in
        rw (f, lower x es n (suc key) (omega arith), here (rw k at h.3) (omega arith), k)
    by false f here behind =
        let k = eqb-false x.key key f in
        let low : key < x.key = by_order k in
        rw (f, absent es key (rising-above (suc x.key) key es (omega arith) h.3))
        (behind (low, h.1, h.2, h.3) (omega arith))
      where
        by_order : (x.key ≡ key → ⊥) → key < x.key
        by_order k = omega (arith, h.0, k)
