-- What is known fits at a start, where nothing is known, behind a restore, and with another key, first answer or alert's copy.
-- Assumes nothing.
use mathlib.Core.Path.{◌≡◌, refl, sym, ◌∙◌}
use mathlib.Core.Bool.{Bool, true, false, cond}
use mathlib.Core.List.{List, [], ◌∷◌}
use mathlib.Core.Option.{Option, none, some}
use Prim.Native.Nat.{ℕ, zero, suc, ◌-◌, ◌<◌}
use native.Mathlib.Omega.{arith}
use lib.Dec.{eqb}
use lib.ListN.{length, get_or, set, replicate, length-set, get_or-replicate}
use lib.Seq.{get_or-set_same, get_or-set_other}
use borrow.Author.Tests.{eqb-true, eqb-false}
use Rattle.octets.proofs.Conditions.{zero_one}
use Rattle.octets.proofs.Equal.{equal-refl}
use Rattle.supervisor.specs.Limits.{SettingsKey, first_setting, setting_count, passphrase_key}
use Rattle.supervisor.specs.State.{Factory, Setting, unset, Settings, setting, with_setting, Retained, with_settings, fresh}
use Rattle.saving.specs.Saving
use Rattle.saving.specs.Saving.{SavedEntry}
use Rattle.supervisor_claims.proofs.claims.LastSetLaws.{replaced_other}
use Rattle.line.specs.Message.{Message}
use Rattle.tap.specs.Known.{KeyKnown, key_unset, key_unknown, Known, Copy, key_known, with_key, with_first, with_copy, most_firsts}
use Rattle.tap.specs.Known.{candidates}
use Rattle.tap.specs.Known.{known_restored, slot_of}
use Rattle.tap.specs.Accused.{differs_from, first_held, changed, accused_if, changed_accused}
use Rattle.tap.specs.Tap.{first_told}
use Rattle.tap_claims.proofs.Fits.{KeyFits, factory_told, SomeCopyFits, Fits, FitsState, FitsAtStart, FitsNothing, FitsRestored}

-- ---- no first answer

no-first : {A : Type 0} {bs : List ℕ} (slot : ℕ) → slot < most_firsts
    → get_or (replicate {A = Option (List ℕ)} most_firsts none) slot none ≡ some bs → A
no-first {bs = bs} slot l e = let f : none ≡ some bs = sym (get_or-replicate most_firsts slot none none l) ∙ e in absurd (zero_one cc)

module _ (x : KeyKnown) where
  alike-known : (key : ℕ) → SettingsKey key → get_or (replicate setting_count x) (key - first_setting) key_unknown ≡ x
  alike-known key h = get_or-replicate setting_count (key - first_setting) x key_unknown (omega (arith, h))

pub fits-nothing : FitsNothing
unfolding candidates
fits-nothing s = record {
  keys_long = refl;
  firsts_long = refl;
  keys = λ key h. rw (alike-known key_unknown key h) tt;
  firsts = λ slot l bs e. no-first slot l e;
  copy = tt;
}

pub fits-at-start : FitsAtStart
unfolding fresh
fits-at-start f = record {
  keys_long = refl;
  firsts_long = refl;
  keys = λ key h.
      rw (alike-known key_unset key h, get_or-replicate setting_count (key - first_setting) unset unset (omega (arith, h)))
      (refl, λ _. refl);
  firsts = λ slot l bs e. no-first slot l e;
  copy = tt;
}

-- ---- a restore

module _ (k : Known) (f : Factory) (z : Settings) (r : Option Retained) (fits : Fits k f z r) where
  -- of the keys that it leaves what was known; i is the key's place
  restored-key : (es : List SavedEntry) (key : ℕ) → SettingsKey key → (i : ℕ) → key - first_setting ≡ i
      → KeyFits key (get_or (key_unknown ∷ key_unknown ∷ key_unknown ∷ key_known k passphrase_key ∷ []) i key_unknown)
      (setting (Saving.restored_settings es z) key)
  unfolding candidates
  restored-key es key h zero e = tt
  restored-key es key h (suc zero) e = tt
  restored-key es key h (suc (suc zero)) e = tt
  restored-key es key h (suc (suc (suc zero))) e =
      let s : key ≡ passphrase_key = omega (arith, h) in
      rw (replaced_other es Saving.saved_count z key h (omega (arith, h)), s) (rw s at (fits.keys key h))
  restored-key es key h (suc (suc (suc (suc i)))) e = absurd (omega (arith, h))

  restored-fits : (es : List SavedEntry) → Fits (known_restored k) f (Saving.restored_settings es z) r
  unfolding known_restored
  restored-fits es = record {
    keys_long = refl;
    firsts_long = fits.firsts_long;
    keys = λ key h. restored-key es key h (key - first_setting) refl;
    firsts = fits.firsts;
    copy = fits.copy;
  }

pub fits-restored : FitsRestored
unfolding Saving.restore
fits-restored k s t image _ h = by (Saving.read_image image)
  where
    by : (x : Saving.ImageRead) → Saving.restore_read s x ≡ Saving.left t → FitsState (known_restored k) t
    by (Saving.fault n at) e = absurd (zero_one cc)
    by (Saving.good es) e =
        let y : with_settings s (Saving.restored_settings es s.settings) ≡ t = cc in
        rw (← y) (restored-fits k s.factory s.settings s.retained h es)

-- ---- another key, first answer or copy

-- what is told of the factory data: nothing, or the slot's
abbrev pub SlotTold : Factory → Option ℕ → List ℕ → Type 0
SlotTold f none bs = Unit {0}
SlotTold f (some slot) bs = (slot < most_firsts) × (bs ≡ factory_told f slot)

module _ {k : Known} {f : Factory} {z : Settings} {r : Option Retained} (fits : Fits k f z r) where
  -- a key's setting, and what is known of it
  pub key_fits : (long : length z ≡ setting_count) (key : ℕ) → SettingsKey key → (x : KeyKnown) (y : Setting) → KeyFits key x y
      → Fits (with_key k key x) f (with_setting z key y) r
  key_fits long key h x y l = record {
    keys_long = length-set k.keys (key - first_setting) x ∙ fits.keys_long;
    firsts_long = fits.firsts_long;
    keys = λ j i. by j i (eqb j key) refl;
    firsts = fits.firsts;
    copy = fits.copy;
  }
    where
      by : (j : ℕ) → SettingsKey j → (t : Bool) → eqb j key ≡ t
          → KeyFits j (key_known (with_key k key x) j) (setting (with_setting z key y) j)
      by j i true e =
          rw (
            eqb-true j key e,
            get_or-set_same k.keys (key - first_setting) x key_unknown (omega (arith, h, fits.keys_long)),
            get_or-set_same z (key - first_setting) y unset (omega (arith, h, long)),
          )
          l
      by j i false e =
          let n : j - first_setting ≡ key - first_setting → ⊥ = λ o. eqb-false j key e (omega (arith, h, i, o)) in
          rw (
            get_or-set_other k.keys (key - first_setting) (j - first_setting) x key_unknown n,
            get_or-set_other z (key - first_setting) (j - first_setting) y unset n,
          )
          (fits.keys j i)

  pub copy-fits : (c : Option Copy) (q : Option Retained) → SomeCopyFits c q → Fits (with_copy k c) f z q
  copy-fits c q h = record {
    keys_long = fits.keys_long;
    firsts_long = fits.firsts_long;
    keys = fits.keys;
    firsts = fits.firsts;
    copy = h;
  }

  first_fits : (slot : ℕ) → slot < most_firsts → Fits (with_first k slot (factory_told f slot)) f z r
  first_fits slot l = record {
    keys_long = fits.keys_long;
    firsts_long = length-set k.firsts slot _ ∙ fits.firsts_long;
    keys = fits.keys;
    firsts = λ i h bs. by i h bs (eqb i slot) refl;
    copy = fits.copy;
  }
    where
      by : (i : ℕ) → i < most_firsts → (bs : List ℕ) → (t : Bool) → eqb i slot ≡ t
          → get_or (set k.firsts slot (some (factory_told f slot))) i none ≡ some bs → bs ≡ factory_told f i
      by i h bs true e g =
          let s = eqb-true i slot e in
          let w : some (factory_told f slot) ≡ some bs =
          sym (get_or-set_same k.firsts slot (some (factory_told f slot)) none (omega (arith, fits.firsts_long))) ∙ (rw s at g) in
          rw s (cc)
      by i h bs false e g =
          fits.firsts i h bs (sym (get_or-set_other k.firsts slot i (some (factory_told f slot)) none (eqb-false i slot e)) ∙ g)

  pub first-right : (m : Message) (bs : List ℕ) → SlotTold f (slot_of m) bs
      → (changed_accused k m bs ≡ []) × Fits (first_told (first_held k (slot_of m)) (slot_of m) bs k) f z r
  unfolding changed_accused accused_if
  first-right m bs = by (slot_of m)
    where
      told : (slot : ℕ) → slot < most_firsts → (o : Option (List ℕ)) → get_or k.firsts slot none ≡ o
          → (cond (differs_from o (factory_told f slot)) (changed ∷ []) [] ≡ [])
          × Fits (first_told o (some slot) (factory_told f slot) k) f z r
      told slot l none e = (refl, first_fits slot l)
      told slot l (some cs) e = (rw (fits.firsts slot l cs e, equal-refl (factory_told f slot)), fits)

      by : (o : Option ℕ) → SlotTold f o bs
          → (cond (differs_from (first_held k o) bs) (changed ∷ []) [] ≡ []) × Fits (first_told (first_held k o) o bs k) f z r
      by none h = (refl, fits)
      by (some slot) h = rw h.1 (told slot h.0 (get_or k.firsts slot none) refl)
