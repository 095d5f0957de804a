-- What each test of specs/Valid.antt says of the numbers that it reads, as a record, and back.
-- Assumes nothing.
use mathlib.Core.Path.{◌≡◌, refl, sym, ◌∙◌}
use mathlib.Core.Logic.{◌⊎◌, inl, inr, ⊎_map}
use mathlib.Core.Bool.{Bool, true, false, ◌&&◌, ◌||◌, false≢true, or-true, and-eq-true_iff}
use mathlib.Core.List.{List}
use Prim.Native.Nat.{ℕ, zero, suc, ◌+◌, ◌-◌, ◌≤◌, ◌<◌}
use native.Mathlib.Omega.{arith}
use native.Mathlib.Numerals.{add-one}
use lib.Dec.{leb, eqb}
use lib.ListN.{length}
use borrow.Author.Count.{below_none, below_more}
use borrow.Author.Tests.{leb-true, le-leb, eqb-true, eq-eqb}
use Rattle.octets.specs.Bytes.{number_at, run}
use Rattle.octets.proofs.Equal.{equal-true, equal-refl}
use Rattle.octets.proofs.SameBytes.{Same, number_same}
use Rattle.supervisor.specs.Limits
use Rattle.supervisor.specs.Local.{result_allowed, bsu_allowed, options_allowed, pong}
use Rattle.supervisor.specs.Layout
use Rattle.supervisor.specs.Valid
use Rattle.supervisor.specs.Valid.{SettingValid, SettingsValid}

-- ---- tests

-- a test that leads to what cannot be
pub untrue : (b : Bool) → (b ≡ true → ⊥) → false ≡ b
untrue true f = absurd (f refl)
untrue false f = refl

-- tests that lead to each other
pub alike : (a b : Bool) → (a ≡ true → b ≡ true) → (b ≡ true → a ≡ true) → a ≡ b
alike true b f g = sym (f refl)
alike false b f g = untrue b (λ e. false≢true (g e))

pub le-alike : (m n : ℕ) (b : Bool) → (m ≤ n → b ≡ true) → (b ≡ true → m ≤ n) → leb m n ≡ b
le-alike m n b f g = alike (leb m n) b (λ t. f (leb-true m n t)) (λ e. le-leb m n (g e))

both : (a b : Bool) → (a && b) ≡ true → (a ≡ true) × (b ≡ true)
both a b = (and-eq-true_iff a b).0

and : (a b : Bool) → a ≡ true → b ≡ true → (a && b) ≡ true
and a b h k = (and-eq-true_iff a b).1 (h, k)

le-and : (m n : ℕ) (b : Bool) → (leb m n && b) ≡ true → (m ≤ n) × (b ≡ true)
le-and m n b e = let t = both (leb m n) b e in (leb-true m n t.0, t.1)

and-le : (m n : ℕ) (b : Bool) → m ≤ n → b ≡ true → (leb m n && b) ≡ true
and-le m n b h k = and (leb m n) b (le-leb m n h) k

either : (a b : Bool) → (a || b) ≡ true → (a ≡ true) ⊎ (b ≡ true)
either true b e = inl refl
either false b e = inr e

or : (a b : Bool) → (a ≡ true) ⊎ (b ≡ true) → (a || b) ≡ true
or a b (inl e) = rw e
or a b (inr e) = rw (e, or-true)

-- ---- every number below n

pub all_none : (p : ℕ → Bool) → Valid.all p 0 ≡ true
unfolding Valid.all
all_none p = refl

pub all_more : (p : ℕ → Bool) (n : ℕ) → Valid.all p n ≡ true → p n ≡ true → Valid.all p (n + 1) ≡ true
unfolding Valid.all
all_more p n e h = rw add-one (and (Valid.all p n) (p n) e h)

pub all_done : (p : ℕ → Bool) (i n : ℕ) → i ≤ n → n ≤ i → Valid.all p i ≡ true → true ≡ Valid.all p n
all_done p i n h k e = let s : i ≡ n = omega arith in rw s at (sym e)

pub all-each : (p : ℕ → Bool) (n : ℕ) → Valid.all p n ≡ true → (i : ℕ) → i < n → p i ≡ true
unfolding Valid.all
all-each p zero e = below_none (λ k. p k ≡ true)
all-each p (suc n) e =
    let t = both (Valid.all p n) (p n) e in
    rw add-one at (below_more (λ k. p k ≡ true) n (all-each p n t.0) t.1)

pub each_all : (p : ℕ → Bool) (n : ℕ) → ((i : ℕ) → i < n → p i ≡ true) → Valid.all p n ≡ true
unfolding Valid.all
each_all p zero f = refl
each_all p (suc n) f = and (Valid.all p n) (p n) (each_all p n (λ i l. f i (omega arith))) (f n (omega arith))

-- ---- start data

pub record ItemGood (d : List ℕ) (i : ℕ) : Type 0 where
  pub result : result_allowed (number_at 1 d (Layout.item_offset i)) ≡ true
  pub size : number_at 1 d (Layout.item_offset i + Layout.item_data_length_offset) ≤ Limits.longest_item_data

pub item-good : (d : List ℕ) (i : ℕ) → Valid.good_item d i ≡ true → ItemGood d i
unfolding Valid.good_item
item-good d i e = let t = both _ _ e in record { result = t.0; size = leb-true _ _ t.1 }

pub record StartGood (d : List ℕ) : Type 0 where
  pub bsu : (number_at 1 d Layout.bsu_offset ≡ 0x41) ⊎ (number_at 1 d Layout.bsu_offset ≡ 0x42)
  pub image : Layout.image_id_length d ≤ Limits.longest_image_id
  pub count : Layout.item_count d ≤ Limits.most_items
  pub items : Valid.good_items d (Layout.item_count d) ≡ true

pub start-good : (d : List ℕ) → Valid.good_start d ≡ true → StartGood d
unfolding Valid.good_start
start-good d e =
    let a = both (bsu_allowed (number_at 1 d Layout.bsu_offset)) _ e in
    let b = le-and _ _ _ a.1 in
    let c = le-and _ _ _ b.1 in
    record { bsu = ⊎_map (eqb-true _ _) (eqb-true _ _) (either _ _ a.0); image = b.0; count = c.0; items = c.1 }

pub good_start_lem : (d : List ℕ) → StartGood d → Valid.good_start d ≡ true
unfolding Valid.good_start
good_start_lem d g =
    and (bsu_allowed (number_at 1 d Layout.bsu_offset)) _
    (or _ _ (⊎_map (eq-eqb _ _) (eq-eqb _ _) g.bsu))
    (and-le _ _ _ g.image (and-le _ _ _ g.count g.items))

-- ---- the outbox

pub record OutboxValid (o : List ℕ) : Type 0 where
  pub long : Layout.outbox_length ≤ length o
  pub order : Layout.outbox_from o ≤ Layout.outbox_to o
  pub most : Layout.outbox_to o ≤ Limits.most_pending
  pub terminator_owed : Layout.outbox_terminator_owed o ≤ 1

pub outbox-valid : (o : List ℕ) → Valid.valid_outbox o ≡ true → OutboxValid o
unfolding Valid.valid_outbox
outbox-valid o e =
    let a = le-and _ _ _ e in
    let b = le-and _ _ _ a.1 in
    let c = le-and _ _ _ b.1 in
    record { long = a.0; order = b.0; most = c.0; terminator_owed = leb-true _ _ c.1 }

pub valid-outbox : (o : List ℕ) → OutboxValid o → Valid.valid_outbox o ≡ true
unfolding Valid.valid_outbox
valid-outbox o v = and-le _ _ _ v.long (and-le _ _ _ v.order (and-le _ _ _ v.most (le-leb _ _ v.terminator_owed)))

-- ---- the factory store

pub record FactoryValid (f : List ℕ) : Type 0 where
  pub long : Layout.factory-length ≤ length f
  pub start : StartGood f
  pub version : number_at 4 f Layout.inventory_version_offset ≡ 0
  pub text : run Layout.pong_offset 4 f ≡ pong

pub factory-valid : (f : List ℕ) → Valid.valid_factory f ≡ true → FactoryValid f
unfolding Valid.valid_factory
factory-valid f e =
    let a = le-and _ _ _ e in
    let b = both (Valid.good_start f) _ a.1 in
    let c = both (eqb (number_at 4 f Layout.inventory_version_offset) 0) _ b.1 in
    record { long = a.0; start = start-good f b.0; version = eqb-true _ _ c.0; text = equal-true _ _ c.1 }

pub valid-factory : (f : List ℕ) → FactoryValid f → Valid.valid_factory f ≡ true
unfolding Valid.valid_factory
valid-factory f v =
    and-le _ _ _ v.long
    (and (Valid.good_start f) _ (good_start_lem f v.start)
    (and (eqb (number_at 4 f Layout.inventory_version_offset) 0) _ (eq-eqb _ _ v.version)
    (rw v.text (equal-refl pong))))

-- ---- the settings store

pub setting-valid : (s : List ℕ) (at shortest longest : ℕ) → Valid.valid_setting s at shortest longest ≡ true
    → SettingValid s at shortest longest
unfolding Valid.valid_setting
setting-valid s at shortest longest e =
    let a = le-and _ _ _ e in
    record {
      size = a.0;
      held =
          ⊎_map (λ t. let b = both _ _ t in (eqb-true _ _ b.0, leb-true _ _ b.1))
          (λ t.
          let b = both _ _ t in
          let c = both _ _ b.1 in
          (eqb-true _ _ b.0, eqb-true _ _ c.0, eqb-true _ _ c.1))
          (either _ _ a.1);
    }

pub valid-setting : (s : List ℕ) (at shortest longest : ℕ) → SettingValid s at shortest longest
    → Valid.valid_setting s at shortest longest ≡ true
unfolding Valid.valid_setting
valid-setting s at shortest longest v =
    and-le _ _ _ v.size
    (or _ _
    (⊎_map (λ f. and _ _ (eq-eqb _ _ f.0) (le-leb _ _ f.1))
    (λ f. and _ _ (eq-eqb _ _ f.0) (and _ _ (eq-eqb _ _ f.1) (eq-eqb _ _ f.2)))
    v.held))

-- what stands before its value is the same
pub setting_kept : {s t : List ℕ} {at shortest longest : ℕ} → Same at (at + Layout.setting_value_offset) s t
    → SettingValid s at shortest longest → SettingValid t at shortest longest
setting_kept {at = at} same g =
    let held = number_same same 1 at (omega arith) in
    let edition = number_same same 4 (at + Layout.setting_edition_offset) (omega arith) in
    let size = number_same same 2 (at + Layout.setting_length_offset) (omega arith) in
    record {
      size = omega (arith, g.size);
      held = ⊎_map (λ f. (omega (arith, f.0), omega (arith, f.1))) (λ f. (held ∙ f.0, size ∙ f.1, edition ∙ f.2)) g.held;
    }

pub settings-valid : (s : List ℕ) → Valid.valid_settings s ≡ true → SettingsValid s
unfolding Valid.valid_settings
settings-valid s e =
    let a = le-and _ _ _ e in
    record {
      long = a.0;
      each = λ key h.
          let f : Limits.first_setting + (key - Limits.first_setting) ≡ key = omega (arith, h) in
          setting-valid _ _ _ _ (rw f at (all-each _ _ a.1 (key - Limits.first_setting) (omega (arith, h))));
    }

pub valid-settings : (s : List ℕ) → SettingsValid s → Valid.valid_settings s ≡ true
unfolding Valid.valid_settings
valid-settings s v =
    and-le _ _ _ v.long
    (each_all _ _ (λ i l. valid-setting _ _ _ _ (v.each (Limits.first_setting + i) (record { lower = omega arith; upper = omega arith }))))

-- ---- the registers

pub record RecordValid (r : List ℕ) (at most : ℕ) : Type 0 where
  pub held : Layout.record_held r at ≤ 1
  pub size : Layout.record_whole r at ≤ most

pub record-valid : (r : List ℕ) (at most : ℕ) → Valid.valid_record r at most ≡ true → RecordValid r at most
unfolding Valid.valid_record
record-valid r at most e = let a = le-and _ _ _ e in record { held = a.0; size = leb-true _ _ a.1 }

pub valid-record : (r : List ℕ) (at most : ℕ) → RecordValid r at most → Valid.valid_record r at most ≡ true
unfolding Valid.valid_record
valid-record r at most v = and-le _ _ _ v.held (le-leb _ _ v.size)

pub text-valid : (r : List ℕ) (at : ℕ) → Valid.valid_text r at ≡ true → Layout.alert_text_length r at ≤ Limits.longest_alert
unfolding Valid.valid_text
text-valid r at e = leb-true _ _ e

pub valid-text : (r : List ℕ) (at : ℕ) → Layout.alert_text_length r at ≤ Limits.longest_alert → Valid.valid_text r at ≡ true
unfolding Valid.valid_text
valid-text r at h = le-leb _ _ h

pub record AlertValid (r : List ℕ) (i : ℕ) : Type 0 where
  pub size : Layout.alert_text_length r (Layout.alert_offset i) ≤ Limits.longest_alert
  pub action : 1 ≤ Layout.alert_action r (Layout.alert_offset i)

pub alert-valid : (r : List ℕ) (i : ℕ) → Valid.valid_alert r i ≡ true → AlertValid r i
unfolding Valid.valid_alert
alert-valid r i e =
    let a = both (Valid.valid_text r (Layout.alert_offset i)) _ e in
    record { size = text-valid _ _ a.0; action = leb-true _ _ a.1 }

pub valid-alert : (r : List ℕ) (i : ℕ) → AlertValid r i → Valid.valid_alert r i ≡ true
unfolding Valid.valid_alert
valid-alert r i v = and (Valid.valid_text r (Layout.alert_offset i)) _ (valid-text _ _ v.size) (le-leb _ _ v.action)

pub record RecordsAndAlertsValid (r : List ℕ) : Type 0 where
  pub reason : Layout.record_code r Layout.boot_failure_offset ≤ 255
  pub boot-failure : RecordValid r Layout.boot_failure_offset Limits.longest_boot_failure
  pub panic : RecordValid r Layout.panic_offset Limits.longest_panic
  pub count : Layout.alert_count r ≤ Limits.most_alerts
  pub alerts : Valid.valid_alerts r (Layout.alert_count r) ≡ true
  pub retained : Layout.retained_version r ≤ 2
  pub text : Layout.alert_text_length r Layout.retained_alert_offset ≤ Limits.longest_alert

pub records-and-alerts-valid : (r : List ℕ) → Valid.valid_records_and_alerts r ≡ true → RecordsAndAlertsValid r
unfolding Valid.valid_records_and_alerts
records-and-alerts-valid r e =
    let a = le-and _ _ _ e in
    let b = both (Valid.valid_record r Layout.boot_failure_offset Limits.longest_boot_failure) _ a.1 in
    let c = both (Valid.valid_record r Layout.panic_offset Limits.longest_panic) _ b.1 in
    let d = le-and _ _ _ c.1 in
    let f = both (Valid.valid_alerts r (Layout.alert_count r)) _ d.1 in
    let g = le-and _ _ _ f.1 in
    record {
      reason = a.0;
      boot-failure = record-valid _ _ _ b.0;
      panic = record-valid _ _ _ c.0;
      count = d.0;
      alerts = f.0;
      retained = g.0;
      text = text-valid _ _ g.1;
    }

pub valid-records-and-alerts : (r : List ℕ) → RecordsAndAlertsValid r → Valid.valid_records_and_alerts r ≡ true
unfolding Valid.valid_records_and_alerts
valid-records-and-alerts r v =
    and-le _ _ _ v.reason
    (and _ _ (valid-record _ _ _ v.boot-failure)
    (and _ _ (valid-record _ _ _ v.panic)
    (and-le _ _ _ v.count (and _ _ v.alerts (and-le _ _ _ v.retained (valid-text _ _ v.text))))))

pub record RegistersValid (r : List ℕ) : Type 0 where
  pub long : Layout.registers_length ≤ length r
  pub status : Layout.status_of r ≤ 3
  pub options : options_allowed (Layout.options_of r) ≡ true
  pub reboot : number_at 1 r Layout.reboot_offset ≤ 1
  pub power-off : number_at 1 r Layout.power_off_offset ≤ 1
  pub rest : RecordsAndAlertsValid r

pub registers-valid : (r : List ℕ) → Valid.valid_registers r ≡ true → RegistersValid r
unfolding Valid.valid_registers
registers-valid r e =
    let a = le-and _ _ _ e in
    let b = le-and _ _ _ a.1 in
    let c = both (options_allowed (Layout.options_of r)) _ b.1 in
    let d = le-and _ _ _ c.1 in
    let f = le-and _ _ _ d.1 in
    record { long = a.0; status = b.0; options = c.0; reboot = d.0; power-off = f.0; rest = records-and-alerts-valid r f.1 }

pub valid-registers : (r : List ℕ) → RegistersValid r → Valid.valid_registers r ≡ true
unfolding Valid.valid_registers
valid-registers r v =
    and-le _ _ _ v.long
    (and-le _ _ _ v.status
    (and _ _ v.options
    (and-le _ _ _ v.reboot (and-le _ _ _ v.power-off (valid-records-and-alerts r v.rest)))))
