-- What a state has that sound parts hold: the lengths of factory data, alerts and settings, editions of 32 bits, a version served.
-- Assumes nothing.
use mathlib.Core.Path.{◌≡◌, refl, sym, ap, ◌∙◌}
use mathlib.Core.Bool.{Bool, true, false}
use mathlib.Core.List.{List, ◌++◌}
use mathlib.Core.Option.{Option, none, some}
use Prim.Native.Nat.{ℕ, zero, suc, ◌+◌, ◌^◌, ◌≤◌, ◌<◌}
use native.Mathlib.Omega.{arith}
use lib.Dec.{ltb, eqb}
use lib.ListN.{length}
use borrow.Author.Tests.{ltb-true, ltb-false, eqb-false}
use Rattle.octets.specs.Bytes.{Byte, Each, bytes}
use Rattle.octets.proofs.Conditions.{cond-by}
use Rattle.octets.proofs.Numbers.{number_small}
use Rattle.octets.proofs.Overlay.{length_run}
use Rattle.supervisor.specs.Limits
use Rattle.supervisor.specs.Layout
use Rattle.supervisor.specs.State.{Item, Factory, Settings, setting, Alert, Retained, State}
use Rattle.supervisor.specs.Valid.{valid_factory, valid_registers, good_item, valid_alert, valid_alerts}
use Rattle.supervisor.proofs.ValidLaws.{factory-valid, registers-valid, all-each, item-good, alert-valid}
use Rattle.responder.specs.Requests.{version_served, oldest, item_of}
use Rattle.responder.proofs.KeptLaws.{run_short}
use Rattle.supervisor_claims.specs.View.{tabulated, item_at, factory_of, setting_of, settings_of, alert_of, retained_of, view}
use Rattle.supervisor_claims.proofs.laws.ViewLaws.{length-listed, listed-first}
use Rattle.supervisor_claims.proofs.laws.SettingLaws.{setting-is}
use Rattle.supervisor_claims.proofs.calls.AnswersClaim.{listed-item, listed-none, identity-meant, mac-meant}
use Rattle.tap_claims.proofs.Fits.{Held}

-- ---- what is had

abbrev pub ItemSized : Option Item → Type 0
ItemSized none = Unit {0}
ItemSized (some i) = (i.result < 256) × (length i.name ≡ 32) × (length i.payload ≤ Limits.longest_item_data)

pub record FactorySized (f : Factory) : Type 0 where
  pub identity : length (f.model ++ (bytes 4 f.revision ++ f.serial)) ≡ 26
  pub mac : length (f.base ++ (bytes 2 f.count ++ bytes 1 f.stride)) ≡ 9
  pub image_id : length f.image_id ≤ Limits.longest_image_id
  pub item : (index : ℕ) → ItemSized (item_of f.items index)
  pub no_item : (index : ℕ) → Limits.most_items ≤ index → item_of f.items index ≡ none

pub record SettingsSized (z : Settings) : Type 0 where
  pub long : length z ≡ Limits.setting_count
  pub edition : (key : ℕ) → Limits.SettingsKey key → (setting z key).edition < 256 ^ 4

abbrev pub AlertSized : Alert → Type 0
AlertSized a = length a.text ≤ Limits.longest_alert

abbrev pub RetainedSized : Option Retained → Type 0
RetainedSized none = Unit {0}
RetainedSized (some r) = (version_served r.version ≡ true) × AlertSized r.alert

pub record Sized (s : State) : Type 0 where
  pub factory : FactorySized s.factory
  pub settings : SettingsSized s.settings
  pub waiting : AlertSized (oldest s.waiting)
  pub retained : RetainedSized s.retained

-- ---- the factory store

module _ (f : List ℕ) (valid : valid_factory f ≡ true) (b : Each Byte f) where
  item-sized : (index : ℕ) → ItemSized (item_of (tabulated (item_at f) (Layout.item_count f)) index)
  unfolding item_at
  item-sized index = by (ltb index n) refl
    where
      n : ℕ
      n = Layout.item_count f

      by : (t : Bool) → ltb index n ≡ t → ItemSized (item_of (tabulated (item_at f) n) index)
      by true e =
          let l = ltb-true index n e in
          let v = factory-valid f valid in
          let at = Layout.item_offset index in
          rw (listed-item (item_at f) n index l) (
            number_small 1 at f b,
            length_run (at + 1) 32 f (omega arith),
            run_short (at + Layout.item_data_offset) _ _ f (item-good f index (all-each (good_item f) n v.start.items index l)).size,
          )
      by false e = rw (listed-none (item_at f) n index (ltb-false index n e)) tt

  factory-sized : FactorySized (factory_of f)
  unfolding factory_of
  factory-sized =
      let v = factory-valid f valid in
      record {
        identity = ap length (sym (identity-meant f valid b)) ∙ length_run Layout.identity_offset 26 f (omega arith);
        mac = ap length (sym (mac-meant f valid b)) ∙ length_run Layout.mac_offset 9 f (omega arith);
        image_id = run_short Layout.image_id_offset _ _ f v.start.image;
        item = item-sized;
        no_item = λ index h. listed-none (item_at f) (Layout.item_count f) index (omega arith);
      }

-- ---- the settings store

settings-sized : (s : List ℕ) → Each Byte s → SettingsSized (settings_of s)
unfolding settings_of setting_of
settings-sized s b = record {
  long = length-listed _ Limits.setting_count;
  edition = λ key h. rw (setting-is s key h) (number_small 4 (Layout.setting_offset key + Layout.setting_edition_offset) s b);
}

-- ---- the registers

module _ (r : List ℕ) (valid : valid_registers r ≡ true) where
  alert-sized : (at : ℕ) → Layout.alert_text_length r at ≤ Limits.longest_alert → AlertSized (alert_of r at)
  unfolding alert_of
  alert-sized at h = run_short (at + Layout.alert_text_offset) _ _ r h

  waiting-sized : (n : ℕ) → valid_alerts r n ≡ true → AlertSized (oldest (tabulated (λ i. alert_of r (Layout.alert_offset i)) n))
  unfolding oldest tabulated
  waiting-sized zero v = omega arith
  waiting-sized (suc n) v =
      rw (listed-first (λ i. alert_of r (Layout.alert_offset i)) n)
      (alert-sized (Layout.alert_offset 0) (alert-valid r 0 (all-each (valid_alert r) (suc n) v 0 (omega arith))).size)

  served : (version : ℕ) → version ≤ 2 → (version ≡ 0 → ⊥) → version_served version ≡ true
  served zero h n = absurd (n refl)
  served (suc zero) h n = refl
  served (suc (suc zero)) h n = refl
  served (suc (suc (suc version))) h n = absurd (omega arith)

  retained-sized : RetainedSized (retained_of r)
  unfolding retained_of
  retained-sized =
      let v = registers-valid r valid in
      cond-by RetainedSized (eqb (Layout.retained_version r) 0) _ _ (λ _. tt) (λ e.
      (served (Layout.retained_version r) v.rest.retained (eqb-false _ 0 e), alert-sized Layout.retained_alert_offset v.rest.text))

pub held-sized : (s : State) → Held s → Sized s
unfolding view
held-sized s h =
    let p = h.0 in
    let t = h.1 in
    rw (← h.2)
    (record {
      factory = factory-sized p.factory t.valid.factory t.bytes.factory;
      settings = settings-sized p.settings t.bytes.settings;
      waiting = waiting-sized p.registers t.valid.registers _ (registers-valid p.registers t.valid.registers).rest.alerts;
      retained = retained-sized p.registers t.valid.registers;
    })
