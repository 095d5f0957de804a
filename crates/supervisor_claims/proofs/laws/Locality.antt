-- The view and what 12 requires read the published bytes alone: parts of which some bytes are lent, and parts with bytes behind them.
-- Assumes nothing.
use mathlib.Core.Path.{◌≡◌, ap, ◌∙◌}
use mathlib.Core.Bool.{Bool, true, false, cond, not, ◌||◌}
use mathlib.Core.List.{List}
use Prim.Native.Nat.{ℕ, ◌+◌, ◌-◌, ◌≤◌}
use native.Mathlib.Omega.{arith}
use lib.ListN.{length, take, length-take}
use Rattle.octets.specs.Bytes.{Each, Byte}
use Rattle.octets.proofs.SameBytes.{Same, same_first, same-within, number_same}
use Rattle.line.proofs.Received
use Rattle.line_claims.specs.Loans.{first, lent_part, enough_part}
use Rattle.line_claims.proofs.LoanLaws
use Rattle.line_claims.proofs.LoanLaws.{back-same, back-length, lent-each, back-each, whole-enough, lent-first, back-first}
use Rattle.supervisor.specs.Limits
use Rattle.supervisor.specs.Layout
use Rattle.supervisor.specs.State.{State}
use Rattle.supervisor.specs.Valid.{valid_outbox, valid_factory, valid_settings, valid_registers, SettingsValid}
use Rattle.supervisor.specs.Calls.{Parts}
use Rattle.supervisor.proofs.ValidLaws.{OutboxValid, FactoryValid, RegistersValid}
use Rattle.supervisor.proofs.ValidLaws.{outbox-valid, valid-outbox, factory-valid, valid-factory, settings-valid, valid-settings}
use Rattle.supervisor.proofs.ValidLaws.{registers-valid, setting_kept}
use Rattle.supervisor.proofs.ValidLaws.{start-good, good_start_lem}
use Rattle.supervisor.proofs.KeptRegisters.{groups-valid, numbers-kept, flags-kept, failure-kept, panic-kept, waiting_kept, retained-kept}
use Rattle.supervisor.proofs.OffsetLaws.{offset-within}
use Rattle.supervisor_claims.specs.ByPart.{Part, published, part, Every}
use Rattle.supervisor_claims.specs.View.{factory_of, settings_of, pending_of, view}
use Rattle.supervisor_claims.specs.Sound.{Valid, Bytes, Sound, Lengths, Leaves}
use Rattle.supervisor_claims.specs.Histories.{Lent, lent_by, lent_of, back_by, given_back}
use Rattle.supervisor_claims.proofs.ByPart.{every, of, part_by, every-by, parts_same, published-some}
use Rattle.supervisor_claims.proofs.Sound.{Long, valid-long}
use Rattle.supervisor_claims.proofs.laws.ViewLaws.{listed_same, factory-same}
use Rattle.supervisor_claims.proofs.laws.GoodStart.{good-bad}
use Rattle.supervisor_claims.proofs.laws.RegisterLaws.{recorded-same, retained-same, alerts-same}
use Rattle.supervisor_claims.proofs.laws.SettingLaws.{setting_same}

-- ---- the outbox

module _ {o q : List ℕ} (same : Same 0 Layout.outbox_length o q) (v : OutboxValid o) where
  pending-alike : pending_of q ≡ pending_of o
  unfolding pending_of
  pending-alike =
      let from = Layout.outbox_from o in
      let n = Layout.outbox_to o - from in
      rw (
        number_same same 2 Layout.outbox_from_offset (omega arith),
        number_same same 2 Layout.outbox_to_offset (omega arith),
        same.runs (Layout.outbox_bytes_offset + from) n (omega arith),
      )

  outbox-alike : Layout.outbox_length ≤ length q → valid_outbox q ≡ true
  outbox-alike h =
      let from = number_same same 2 Layout.outbox_from_offset (omega arith) in
      let to = number_same same 2 Layout.outbox_to_offset (omega arith) in
      let terminator_owed = number_same same 1 Layout.outbox_terminator_owed_offset (omega arith) in
      valid-outbox q (record { long = h; order = omega arith; most = omega arith; terminator_owed = omega arith })

-- ---- the factory store

module _ {f g : List ℕ} (same : Same 0 Layout.factory-length f g) (v : FactoryValid f) where
  contents-alike : factory_of g ≡ factory_of f
  contents-alike = factory-same g f (same.runs 0 Layout.start_length (omega arith)) v.start

  factory-alike : Layout.factory-length ≤ length g → valid_factory g ≡ true
  factory-alike h =
      valid-factory g
      (record {
        long = h;
        start = start-good g (good-bad g (omega arith) ∙ rw (contents-alike, ← good-bad f (omega arith)) (good_start_lem f v.start));
        version = number_same same 4 Layout.inventory_version_offset (omega arith) ∙ v.version;
        text = same.runs Layout.pong_offset 4 (omega arith) ∙ v.text;
      })

-- ---- the settings store

module _ {s t : List ℕ} (same : Same 0 Layout.settings_length s t) (v : SettingsValid s) where
  values-alike : settings_of t ≡ settings_of s
  unfolding settings_of
  values-alike =
      listed_same _ _ Limits.setting_count (λ i l.
      let key = Limits.first_setting + i in
      let h : Limits.SettingsKey key = record { lower = omega arith; upper = omega arith } in
      setting_same same (Layout.setting_offset key) (Limits.longest_setting key) (v.each key h) (omega (arith, offset-within key h)))

  settings-alike : Layout.settings_length ≤ length t → valid_settings t ≡ true
  settings-alike h =
      valid-settings t
      (record {
        long = h;
        each = λ key i. setting_kept (same-within same (omega (arith, offset-within key i))) (v.each key i);
      })

-- ---- the registers

registers-alike : {r s : List ℕ} → Same 0 Layout.registers_length r s → RegistersValid r → Layout.registers_length ≤ length s
    → valid_registers s ≡ true
registers-alike same v h =
    groups-valid h (numbers-kept same v (omega arith)) (flags-kept same v (omega arith)) (failure-kept same v (omega arith))
    (panic-kept same v (omega arith)) (waiting_kept same v (omega arith)) (retained-kept same v (omega arith))

-- ---- all parts

-- q has p's published bytes
abbrev pub Alike : Parts → Parts → Type 0
Alike p q = Every (λ i. take (published i) (part q i) ≡ take (published i) (part p i))

module _ {p q : Parts} (a : Alike p q) (v : Valid p) where
  same : (i : Part) → Same 0 (published i) (part p i) (part q i)
  same i = same_first _ _ _ (of a i)

  pub view-alike : view q ≡ view p
  unfolding view
  view-alike =
      let w = registers-valid p.registers v.registers in
      let r : Same 0 Layout.registers_length p.registers q.registers = same Part.registers in
      let o : Same 0 Layout.outbox_length p.outbox q.outbox = same Part.outbox in
      rw (
        number_same r 8 Layout.status_offset (omega arith),
        number_same r 8 Layout.options_offset (omega arith),
        number_same r 1 Layout.reboot_offset (omega arith),
        number_same r 1 Layout.power_off_offset (omega arith),
        recorded-same r Layout.boot_failure_offset (omega arith),
        recorded-same r Layout.panic_offset (omega arith),
        contents-alike (same Part.factory) (factory-valid p.factory v.factory),
        values-alike (same Part.settings) (settings-valid p.settings v.settings),
        number_same r 1 Layout.alert_count_offset (omega arith),
        alerts-same r (Layout.alert_count p.registers) (omega arith) w.rest.alerts,
        retained-same r (omega arith) w.rest.text,
        Received.received-alike p.reader q.reader v.reader (of a Part.reader),
        pending-alike o (outbox-valid p.outbox v.outbox),
        number_same o 1 Layout.outbox_terminator_owed_offset (omega arith),
      )

  long-alike : Long q
  long-alike = every (λ i. first-long (published i) (part p i) (part q i) (of a i) (of (valid-long {p = p} v) i))
    where
      first-long : (n : ℕ) (s t : List ℕ) → take n t ≡ take n s → n ≤ length s → n ≤ length t
      first-long n s t e h = omega (arith, length-take n s, length-take n t, ap length e)

  pub valid-alike : Valid q
  valid-alike =
      let r = long-alike in
      record {
        reader = Received.valid-alike p.reader q.reader v.reader (of a Part.reader);
        outbox = outbox-alike (same Part.outbox) (outbox-valid p.outbox v.outbox) r.outbox;
        factory = factory-alike (same Part.factory) (factory-valid p.factory v.factory) r.factory;
        settings = settings-alike (same Part.settings) (settings-valid p.settings v.settings) r.settings;
        registers = registers-alike (same Part.registers) (registers-valid p.registers v.registers) r.registers;
      }

-- ---- parts of which some bytes are lent

-- the published length of each part is lent
abbrev pub EnoughOfAll : Lent → Type 0
EnoughOfAll l = Every (λ i. enough_part (published i) (l i) ≡ true)

-- some parts as lent, and all bytes of the others
abbrev pub widened : (Part → Bool) → Lent → Parts → Lent
widened takes l p i = cond (takes i) (l i) (first (length (part p i)))

-- where enough is lent of those
pub widened-all : (takes : Part → Bool) (l : Lent) (p : Parts) → Long p
    → Every (λ i. (not (takes i) || enough_part (published i) (l i)) ≡ true) → EnoughOfAll (widened takes l p)
widened-all takes l p r e = every (λ i. by i (takes i) (of e i))
  where
    by : (i : Part) (t : Bool) → (not t || enough_part (published i) (l i)) ≡ true
        → enough_part (published i) (cond t (l i) (first (length (part p i)))) ≡ true
    by i true h = h
    by i false h = whole-enough (published i) (part p i) (of r i)

module _ (l : Lent) (p : Parts) where
  pub lent-part : (i : Part) → part (lent_of l p) i ≡ lent_part (published i) (l i) (part p i)
  lent-part i = part_by (lent_by l p) i

  pub lent-enough : Long (lent_of l p) → EnoughOfAll l
  lent-enough r = every (λ i. LoanLaws.lent-enough (published i) (part p i) (l i) (published-some i) (rw (lent-part i) at (of r i)))

  pub lent-bytes : Bytes p → Bytes (lent_of l p)
  lent-bytes b = every-by (lent_by l p) (λ i s. Each Byte s) (λ i. lent-each (published i) (part p i) Byte (l i) (of b i))

  module _ (e : EnoughOfAll l) where
    lent_alike : Alike p (lent_of l p)
    lent_alike =
        every-by (lent_by l p) (λ i s. take (published i) s ≡ take (published i) (part p i))
        (λ i. lent-first (published i) (part p i) (l i) (of e i))

    -- enough of sound parts holds the same state
    pub lent-sound : Sound p → Sound (lent_of l p)
    lent-sound s = record { valid = valid-alike {p = p} lent_alike s.valid; bytes = lent-bytes s.bytes }

    pub lent_view : Valid p → view (lent_of l p) ≡ view p
    lent_view v = view-alike {p = p} lent_alike v

  -- what comes back unchanged
  pub back-lent : given_back l p (lent_of l p) ≡ p
  back-lent = parts_same (back_by l p (lent_of l p)) (part p) (λ i. rw (lent-part i) (back-same (published i) (part p i) (l i)))

  -- parts as they come back
  module _ (q : Parts) where
    -- where enough was lent, with the bytes that were not lent behind them
    back-alike : EnoughOfAll l → Long q → Alike q (given_back l p q)
    back-alike e r =
        every-by (back_by l p q) (λ i s. take (published i) s ≡ take (published i) (part q i))
        (λ i. back-first (published i) (part p i) (l i) (part q i) (of e i) (of r i))

    back-bytes : Bytes p → Bytes q → Bytes (given_back l p q)
    back-bytes b c =
        every-by (back_by l p q) (λ i s. Each Byte s) (λ i. back-each (published i) (part p i) Byte (l i) (part q i) (of b i) (of c i))

    module _ (n : Lengths (lent_of l p) q) where
      as_long : (i : Part) → length (part q i) ≡ length (lent_part (published i) (l i) (part p i))
      as_long i = of n i ∙ ap length (lent-part i)

      back-lengths : Lengths p (given_back l p q)
      back-lengths =
          every-by (back_by l p q) (λ i s. length s ≡ length (part p i))
          (λ i. back-length (published i) (part p i) (l i) (part q i) (as_long i))

      -- what came back is lent in the same way
      pub lent_again : lent_of l (given_back l p q) ≡ q
      lent_again =
          parts_same (lent_by l (given_back l p q)) (part q)
          (λ i. rw (part_by (back_by l p q) i) (LoanLaws.lent_again (published i) (part p i) (l i) (part q i) (as_long i)))

      -- and takes the place of what came back before
      pub back-again : (r : Parts) → given_back l (given_back l p q) r ≡ given_back l p r
      back-again r =
          parts_same (back_by l (given_back l p q) r) (back_by l p r)
          (λ i. rw (part_by (back_by l p q) i) (LoanLaws.back-again (published i) (part p i) (l i) (part q i) (part r i) (as_long i)))

    -- parts that hold a state have their published lengths, so enough was lent
    pub back-leaves : {s : State} → Bytes p → Leaves (lent_of l p) q s → Leaves p (given_back l p q) s
    back-leaves b k =
        let v = k.1.valid in
        let r : Long q = valid-long {p = q} v in
        let n = k.2 in
        let a = back-alike (lent-enough (every (λ i. rw (of n i) at (of r i)))) r in
        (view-alike {p = q} a v ∙ k.0, record { valid = valid-alike {p = q} a v; bytes = back-bytes b k.1.bytes }, back-lengths n)
