-- Start on any parts of sufficient length: what is refused, and the fresh state that is left.
-- Assumes nothing.
use mathlib.Core.Path.{◌≡◌, refl, ap, ◌∙◌}
use mathlib.Core.Logic.{inr}
use mathlib.Core.Bool.{true, false, not}
use mathlib.Core.List.{List, [], ◌++◌, append_assoc, append-nil}
use mathlib.Core.Option.{none, some}
use Prim.Native.Nat.{ℕ, ◌+◌, ◌-◌, ◌≤◌}
use native.Mathlib.Omega.{arith}
use lib.ListN.{length, take, replicate, length-append}
use lib.Seq.{take_all}
use Rattle.line.specs.Reader.{received_of}
use Rattle.octets.proofs.Conditions.{cond-by}
use Rattle.octets.specs.Bytes.{number, bytes, overlay}
use Rattle.octets.proofs.Numbers.{length-bytes, number-bytes}
use Rattle.octets.proofs.Overlay.{length-overlay}
use Rattle.line.proofs.Received.{fresh-received, fresh-stays}
use Rattle.supervisor.specs.Limits
use Rattle.supervisor.specs.Layout
use Rattle.supervisor.specs.State.{Factory, fresh, unset}
use Rattle.supervisor.specs.Local
use Rattle.supervisor.specs.Local.{pong}
use Rattle.supervisor.specs.Valid.{good_start, SettingValid, SettingsValid}
use Rattle.supervisor.specs.Calls
use Rattle.supervisor.proofs.OffsetLaws.{offset-within}
use Rattle.supervisor.proofs.StartLaws.{LongEnough, long-enough-is}
use Rattle.supervisor.proofs.ValidLaws.{OutboxValid, FactoryValid, RecordValid, RegistersValid}
use Rattle.supervisor.proofs.ValidLaws.{all_none, start-good, valid-outbox, valid-factory, valid-settings, valid-registers}
use Rattle.supervisor_claims.specs.View.{tabulated, factory_of, setting_of, settings_of, recorded_of, retained_of, pending_of, view}
use Rattle.supervisor_claims.specs.Sound.{Valid}
use Rattle.supervisor_claims.specs.Demand2.{Starts, StartMeant}
use Rattle.supervisor_claims.proofs.laws.ViewLaws.{listed_same, listed-replicate, factory-same, Clear, length-clear, clear}
use Rattle.supervisor_claims.proofs.laws.ViewLaws.{overlay-middle}
use Rattle.supervisor_claims.proofs.laws.GoodStart.{good-bad}

-- ---- parts that are clear

setting-unset : (s : List ℕ) (at : ℕ) → Layout.setting_held s at ≡ 0 → Layout.setting_edition s at ≡ 0 → setting_of s at ≡ unset
unfolding setting_of
setting-unset s at e f = rw (e, f)

recorded-none : (r : List ℕ) (at : ℕ) → Layout.record_held r at ≡ 0 → recorded_of r at ≡ none
unfolding recorded_of
recorded-none r at e = rw e

module _ (s : List ℕ) (z : Clear 0 Layout.settings_length s) where
  settings-none : settings_of s ≡ replicate Limits.setting_count unset
  unfolding settings_of
  settings-none =
      listed_same _ (λ i. unset) Limits.setting_count (λ i l.
      let at = Layout.setting_offset (Limits.first_setting + i) in
      let h = offset-within (Limits.first_setting + i) (record { lower = omega arith; upper = omega arith }) in
      setting-unset s at (z 1 at (omega arith) (omega (arith, h)))
      (z 4 (at + Layout.setting_edition_offset) (omega arith) (omega (arith, h))))
      ∙ listed-replicate unset Limits.setting_count

  settings-clear : Layout.settings_length ≤ length s → SettingsValid s
  settings-clear h = record {
    long = h;
    each = λ key i. setting-clear (Layout.setting_offset key) _ _ (omega (arith, offset-within key i));
  }
    where
      setting-clear : (at least most : ℕ) → at + Layout.setting_value_offset ≤ Layout.settings_length → SettingValid s at least most
      setting-clear at least most h =
          let held = z 1 at (omega arith) (omega arith) in
          let edition = z 4 (at + Layout.setting_edition_offset) (omega arith) (omega arith) in
          let size = z 2 (at + Layout.setting_length_offset) (omega arith) (omega arith) in
          record { size = omega arith; held = inr (held, size, edition) }

none_allowed : Local.options_allowed 0 ≡ true
unfolding Local.options_allowed Local.highest
none_allowed = refl

module _ (r : List ℕ) (status : Layout.status_of r ≡ 1) (z : Clear 8 Layout.registers_length r) where
  registers-clear : Layout.registers_length ≤ length r → RegistersValid r
  registers-clear h = record {
    long = h;
    status = omega arith;
    options = rw (z 8 Layout.options_offset (omega arith) (omega arith)) none_allowed;
    reboot = omega (arith, z 1 Layout.reboot_offset (omega arith) (omega arith));
    power-off = omega (arith, z 1 Layout.power_off_offset (omega arith) (omega arith));
    rest = record {
      reason = omega (arith, z 2 (Layout.boot_failure_offset + Layout.record_code_offset) (omega arith) (omega arith));
      boot-failure = record-clear Layout.boot_failure_offset 4103 (omega arith) (omega arith);
      panic = record-clear Layout.panic_offset 4102 (omega arith) (omega arith);
      count = omega (arith, count);
      alerts = rw count (all_none _);
      retained = omega (arith, z 1 Layout.retained_offset (omega arith) (omega arith));
      text = omega (arith, z 2 Layout.retained_alert_offset (omega arith) (omega arith));
    };
  }
    where
      record-clear : (at most : ℕ) → 8 ≤ at → at + Layout.record_kept_offset ≤ Layout.registers_length → RecordValid r at most
      record-clear at most k l = record {
        held = omega (arith, z 1 at (omega arith) (omega arith));
        size = omega (arith, z 2 (at + Layout.record_whole_offset) (omega arith) (omega arith));
      }

      count : Layout.alert_count r ≡ 0
      count = z 1 Layout.alert_count_offset (omega arith) (omega arith)

module _ (o : List ℕ) (z : Clear 0 Layout.outbox_length o) where
  outbox-clear : Layout.outbox_length ≤ length o → OutboxValid o
  outbox-clear h =
      let from = z 2 Layout.outbox_from_offset (omega arith) (omega arith) in
      let to = z 2 Layout.outbox_to_offset (omega arith) (omega arith) in
      record {
        long = h;
        order = omega arith;
        most = omega arith;
        terminator_owed = omega (arith, z 1 Layout.outbox_terminator_owed_offset (omega arith) (omega arith));
      }

  pending-none : pending_of o ≡ []
  unfolding pending_of
  pending-none = rw (z 2 Layout.outbox_from_offset (omega arith) (omega arith), z 2 Layout.outbox_to_offset (omega arith) (omega arith))

-- ---- the state that parts hold

-- parts that are clear but for status and the factory store
record Begun (f : Factory) (q : Calls.Parts) : Type 0 where
  reader : received_of q.reader ≡ some []
  outbox : Clear 0 Layout.outbox_length q.outbox
  factory : factory_of q.factory ≡ f
  settings : Clear 0 Layout.settings_length q.settings
  status : Layout.status_of q.registers ≡ 1
  registers : Clear 8 Layout.registers_length q.registers

begun-view : (f : Factory) (q : Calls.Parts) → Begun f q → view q ≡ fresh f
unfolding view fresh retained_of tabulated
begun-view f q b =
    let r = q.registers in
    let z = b.registers in
    rw (
      b.status,
      z 8 Layout.options_offset (omega arith) (omega arith),
      z 1 Layout.reboot_offset (omega arith) (omega arith),
      z 1 Layout.power_off_offset (omega arith) (omega arith),
      recorded-none r Layout.boot_failure_offset (z 1 Layout.boot_failure_offset (omega arith) (omega arith)),
      recorded-none r Layout.panic_offset (z 1 Layout.panic_offset (omega arith) (omega arith)),
      b.factory,
      settings-none q.settings b.settings,
      z 1 Layout.alert_count_offset (omega arith) (omega arith),
      z 1 Layout.retained_offset (omega arith) (omega arith),
      b.reader,
      pending-none q.outbox b.outbox,
      b.outbox 1 Layout.outbox_terminator_owed_offset (omega arith) (omega arith),
    )

-- the first eight bytes are status
status-put : (n : ℕ) (s : List ℕ) → Layout.status_of (overlay 0 (bytes 8 1 ++ replicate n 0) s) ≡ 1
status-put n s = ap number (overlay-middle 0 8 [] (bytes 8 1) (replicate n 0) s refl (length-bytes 8 1)) ∙ number-bytes 8 1 (omega arith)

-- ---- the factory store

stored : List ℕ → List ℕ → List ℕ
stored d f = overlay 0 (d ++ bytes 4 0 ++ pong) f

module _ (d : List ℕ) (size : length d ≡ Layout.start_length) (good : good_start d ≡ true) (f : List ℕ) where
  stored-data : take Layout.start_length (stored d f) ≡ take Layout.start_length d
  unfolding stored
  stored-data =
      rw (append_assoc, take_all Layout.start_length d (omega arith))
      (overlay-middle 0 Layout.start_length [] d (bytes 4 0 ++ pong) f refl size)

  stored-factory : factory_of (stored d f) ≡ factory_of d
  stored-factory = factory-same (stored d f) d stored-data (start-good d good)

  stored-valid : Layout.factory-length ≤ length f → FactoryValid (stored d f)
  unfolding stored
  stored-valid h =
      let four = length-bytes 4 0 in
      let front = length-append d (bytes 4 0) in
      let whole = length-append (d ++ bytes 4 0) pong in
      let long : length (stored d f) ≡ length f = length-overlay 0 (d ++ bytes 4 0 ++ pong) f (omega arith) in
      record {
        long = omega arith;
        start = start-good (stored d f) (good-bad (stored d f) (omega arith) ∙ rw (stored-factory, ← good-bad d (omega arith)) good);
        version =
            ap number (overlay-middle Layout.inventory_version_offset 4 d (bytes 4 0) pong f size four) ∙ number-bytes 4 0 (omega arith);
        text = rw append-nil at (overlay-middle Layout.pong_offset 4 (d ++ bytes 4 0) pong [] f (omega arith) refl);
      }

-- ---- the parts that start leaves

module _ (d : List ℕ) (size : length d ≡ Layout.start_length) (good : good_start d ≡ true) (p : Calls.Parts) (r : LongEnough p) where
  parts-begun : Begun (factory_of d) (Calls.fresh_parts d p)
  unfolding Calls.fresh_parts stored
  parts-begun = record {
    reader = fresh-received p.reader r.reader;
    outbox = clear 0 Layout.outbox_length [] p.outbox refl;
    factory = stored-factory d size good p.factory;
    settings = clear 0 Layout.settings_length [] p.settings refl;
    status = status-put (Layout.registers_length - 8) p.registers;
    registers = clear 8 (Layout.registers_length - 8) (bytes 8 1) p.registers (length-bytes 8 1);
  }

  parts-valid : Valid (Calls.fresh_parts d p)
  unfolding Calls.fresh_parts stored
  parts-valid =
      let b = parts-begun in
      let outbox = length-clear 0 Layout.outbox_length [] p.outbox refl r.outbox in
      let settings = length-clear 0 Layout.settings_length [] p.settings refl r.settings in
      let registers = length-clear 8 (Layout.registers_length - 8) (bytes 8 1) p.registers (length-bytes 8 1) r.registers in
      record {
        reader = (fresh-stays p.reader r.reader).valid;
        outbox = valid-outbox _ (outbox-clear _ b.outbox (rw outbox r.outbox));
        factory = valid-factory _ (stored-valid d size good p.factory r.factory);
        settings = valid-settings _ (settings-clear _ b.settings (rw settings r.settings));
        registers = valid-registers _ (registers-clear _ b.status b.registers (rw registers r.registers));
      }

-- ---- the claims

module _ (d : List ℕ) (size : length d ≡ Layout.start_length) (p : Calls.Parts) (long_enough : Calls.long_enough p ≡ true) where
  -- start data that document 01 refuses are refused as 11, and nothing changes
  pub start-refused : Local.bad_start (factory_of d) ≡ true → Calls.start_promise d p ≡ record { refusal = some 11; parts = p }
  unfolding Calls.start_promise
  start-refused e = rw (long_enough, good-bad d (omega arith), e)

  -- all other are accepted, and leave valid parts that hold the fresh state
  pub start-fresh : Local.bad_start (factory_of d) ≡ false
      → ((Calls.start_promise d p).refusal ≡ none) × (view (Calls.start_promise d p).parts ≡ fresh (factory_of d))
      × Valid (Calls.start_promise d p).parts
  unfolding Calls.start_promise
  start-fresh e =
      let good : good_start d ≡ true = good-bad d (omega arith) ∙ ap not e in
      let r = long-enough-is p long_enough in
      rw (long_enough, good) (refl, begun-view _ _ (parts-begun d size good p r), parts-valid d size good p r)

-- both at once
pub start_meant : StartMeant
unfolding Local.start
start_meant d size p room =
    cond-by (Starts p (Calls.start_promise d p)) (Local.bad_start (factory_of d)) _ _ (start-refused d size p room)
    (start-fresh d size p room)
