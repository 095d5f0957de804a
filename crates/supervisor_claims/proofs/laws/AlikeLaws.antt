-- Settings that differ only in the passphrase's: a lookup, an edition and a saved image are the same.
-- Assumes nothing.
use mathlib.Core.Path.{◌≡◌, refl, sym, ap, ◌∙◌}
use Prim.Native.Nat.{ℕ, ◌-◌, ◌≤◌}
use native.Mathlib.Omega.{arith}
use lib.Dec.{ltb, eqb}
use lib.ListN.{take, get_or}
use lib.Seq.{take-set-le, get_or-set_other}
use borrow.Author.Tests.{ltb-false, eqb-false}
use Rattle.octets.proofs.Conditions.{cond_both}
use Rattle.supervisor.specs.Limits
use Rattle.supervisor.specs.State.{Setting, unset, Settings, State, setting, with_setting, with_settings}
use Rattle.supervisor.specs.Local
use Rattle.supervisor.proofs.OffsetLaws.{settings-key}
use Rattle.saving.specs.Saving

abbrev pub Alike : Settings → Settings → Type 0
Alike z y = with_setting z Limits.passphrase_key unset ≡ with_setting y Limits.passphrase_key unset

-- ---- keys that are looked up

module _ (z y : Settings) (e : Alike z y) where
  pub other-setting : (key : ℕ) → Limits.first_setting ≤ key → (key ≡ Limits.passphrase_key → ⊥) → setting z key ≡ setting y key
  other-setting key h n =
      let i = Limits.passphrase_key - Limits.first_setting in
      let j = key - Limits.first_setting in
      let o : j ≡ i → ⊥ = λ m. n (omega (arith, m)) in
      sym (get_or-set_other z i j unset unset o) ∙ ap (λ (l : Settings). get_or l j unset) e ∙ get_or-set_other y i j unset unset o

module _ (t : State) (z : Settings) (e : Alike z t.settings) where
  entry-same : (key : ℕ) → key ≤ Limits.highest_key → (key ≡ Limits.passphrase_key → ⊥)
      → Local.entry_of (with_settings t z) key ≡ Local.entry_of t key
  unfolding Local.entry_of
  entry-same key h n =
      cond_both ◌≡◌ (eqb key 0) (λ _. refl) (λ i.
      cond_both ◌≡◌ (eqb key 1) (λ _. refl) (λ j.
      cond_both ◌≡◌ (eqb key 2) (λ _. refl) (λ k. other-setting z t.settings e key (settings-key key i j k h).lower n)))

  pub lookup-same : (key most : ℕ) → Local.lookup (with_settings t z) key most ≡ Local.lookup t key most
  unfolding Local.lookup
  lookup-same key most =
      cond_both ◌≡◌ (ltb Limits.highest_key key) (λ _. refl) (λ h.
      cond_both ◌≡◌ (eqb key Limits.passphrase_key) (λ _. refl) (λ n.
      ap (λ (x : Setting). Local.fitted most x.edition x.value) (entry-same key (ltb-false _ _ h) (eqb-false _ _ n))))

  pub edition-same : (key : ℕ) → Local.edition (with_settings t z) key ≡ Local.edition t key
  unfolding Local.edition
  edition-same key =
      cond_both ◌≡◌ (ltb Limits.highest_key key) (λ _. refl) (λ h.
      cond_both ◌≡◌ (eqb key Limits.passphrase_key) (λ _. refl) (λ n.
      ap Local.edition_of (entry-same key (ltb-false _ _ h) (eqb-false _ _ n))))

-- ---- the passphrase is not among the saved settings

pub saved-same : (z y : Settings) → Alike z y → Saving.saved z ≡ Saving.saved y
unfolding Saving.saved
saved-same z y e =
    let i = Limits.passphrase_key - Limits.first_setting in
    ap (Saving.image_from Limits.first_setting)
    (sym (take-set-le Saving.saved_count z i unset (omega arith)) ∙ ap (take Saving.saved_count) e
    ∙ take-set-le Saving.saved_count y i unset (omega arith))
