-- The registers' fields in groups, each valid where its bytes stay the same, and when registers stay valid.
-- Assumes nothing.
use mathlib.Core.Path.{◌≡◌}
use mathlib.Core.Bool.{true}
use mathlib.Core.List.{List}
use Prim.Native.Nat.{ℕ, ◌+◌, ◌≤◌}
use native.Mathlib.Omega.{arith}
use lib.ListN.{length}
use Rattle.octets.specs.Bytes.{number_at}
use Rattle.octets.proofs.SameBytes.{Same, number_same}
use Rattle.supervisor.specs.Limits
use Rattle.supervisor.specs.Local.{options_allowed}
use Rattle.supervisor.specs.Layout
use Rattle.supervisor.specs.Valid.{valid_alert, valid_alerts, valid_registers}
use Rattle.supervisor.proofs.ValidLaws.{all-each, each_all, alert-valid, valid-alert, RecordValid, RegistersValid, valid-registers}

-- ---- the groups, in their order

abbrev pub NumbersValid : List ℕ → Type 0
NumbersValid r = (Layout.status_of r ≤ 3) × (options_allowed (Layout.options_of r) ≡ true)

abbrev pub FlagsValid : List ℕ → Type 0
FlagsValid r = (number_at 1 r Layout.reboot_offset ≤ 1) × (number_at 1 r Layout.power_off_offset ≤ 1)

pub record FailureValid (r : List ℕ) : Type 0 where
  pub reason : Layout.record_code r Layout.boot_failure_offset ≤ 255
  pub entry : RecordValid r Layout.boot_failure_offset Limits.longest_boot_failure

abbrev pub PanicValid : List ℕ → Type 0
PanicValid r = RecordValid r Layout.panic_offset Limits.longest_panic

pub record WaitingValid (r : List ℕ) : Type 0 where
  pub count : Layout.alert_count r ≤ Limits.most_alerts
  pub alerts : valid_alerts r (Layout.alert_count r) ≡ true

abbrev pub RetainedValid : List ℕ → Type 0
RetainedValid r = (Layout.retained_version r ≤ 2) × (Layout.alert_text_length r Layout.retained_alert_offset ≤ Limits.longest_alert)

pub groups-valid : {s : List ℕ} → Layout.registers_length ≤ length s → NumbersValid s → FlagsValid s → FailureValid s → PanicValid s
    → WaitingValid s → RetainedValid s → valid_registers s ≡ true
groups-valid {s} long numbers flags failure panic waiting retained =
    valid-registers s
    (record {
      long = long;
      status = numbers.0;
      options = numbers.1;
      reboot = flags.0;
      power-off = flags.1;
      rest = record {
        reason = failure.reason;
        boot-failure = failure.entry;
        panic = panic;
        count = waiting.count;
        alerts = waiting.alerts;
        retained = retained.0;
        text = retained.1;
      };
    })

-- ---- a group whose bytes are the same

module _ {from to : ℕ} {r s : List ℕ} (same : Same from to r s) where
  pub alerts-valid : (n : ℕ) → (from ≤ Layout.alerts_offset) × (Layout.alert_offset n ≤ to) → valid_alerts r n ≡ true
      → valid_alerts s n ≡ true
  alerts-valid n h v =
      each_all (valid_alert s) n (λ i k.
      let a = alert-valid r i (all-each (valid_alert r) n v i k) in
      let size = number_same same 2 (Layout.alert_offset i) (omega arith) in
      let action = number_same same 1 (Layout.alert_offset i + Layout.alert_action_offset) (omega arith) in
      valid-alert s i (omega arith))

  record-kept : (at most : ℕ) → (from ≤ at) × (at + Layout.record_length ≤ to) → RecordValid r at most → RecordValid s at most
  record-kept at most h v =
      let held = number_same same 1 at (omega arith) in
      let whole = number_same same 2 (at + Layout.record_whole_offset) (omega arith) in
      omega arith

  module _ (v : RegistersValid r) where
    pub numbers-kept : (from ≤ Layout.status_offset) × (Layout.reboot_offset ≤ to) → NumbersValid s
    numbers-kept h =
        let status = number_same same 8 Layout.status_offset (omega arith) in
        let options = number_same same 8 Layout.options_offset (omega arith) in
        (omega arith, rw options v.options)

    pub flags-kept : (from ≤ Layout.reboot_offset) × (Layout.boot_failure_offset ≤ to) → FlagsValid s
    flags-kept h =
        let reboot = number_same same 1 Layout.reboot_offset (omega arith) in
        let power-off = number_same same 1 Layout.power_off_offset (omega arith) in
        omega arith

    pub failure-kept : (from ≤ Layout.boot_failure_offset) × (Layout.panic_offset ≤ to) → FailureValid s
    failure-kept h =
        let reason = number_same same 2 (Layout.boot_failure_offset + Layout.record_code_offset) (omega arith) in
        record { reason = omega arith; entry = record-kept Layout.boot_failure_offset _ (omega arith) v.rest.boot-failure }

    pub panic-kept : (from ≤ Layout.panic_offset) × (Layout.alert_count_offset ≤ to) → PanicValid s
    panic-kept h = record-kept Layout.panic_offset _ (omega arith) v.rest.panic

    pub waiting_kept : (from ≤ Layout.alert_count_offset) × (Layout.retained_offset ≤ to) → WaitingValid s
    waiting_kept h =
        let count = number_same same 1 Layout.alert_count_offset (omega arith) in
        record { count = omega arith; alerts = rw count (alerts-valid (Layout.alert_count r) (omega arith) v.rest.alerts) }

    pub retained-kept : (from ≤ Layout.retained_offset) × (Layout.registers_length ≤ to) → RetainedValid s
    retained-kept h =
        let retained = number_same same 1 Layout.retained_offset (omega arith) in
        let text = number_same same 2 Layout.retained_alert_offset (omega arith) in
        omega arith

-- ---- registers that have the same flags, records and retained reply

pub record Kept (r s : List ℕ) : Type 0 where
  pub long : length s ≡ length r
  pub flags_and_records : Same Layout.reboot_offset Layout.alert_count_offset r s
  pub retained : Same Layout.retained_offset Layout.registers_length r s

pub kept-valid : {r s : List ℕ} → Kept r s → RegistersValid r
    → (Layout.status_of s ≤ 3) × (Layout.alert_count s ≤ Limits.most_alerts) → options_allowed (Layout.options_of s) ≡ true
    → valid_alerts s (Layout.alert_count s) ≡ true → valid_registers s ≡ true
kept-valid k v small options alerts =
    let middle = k.flags_and_records in
    groups-valid (omega arith) (small.0, options) (flags-kept middle v (omega arith)) (failure-kept middle v (omega arith))
    (panic-kept middle v (omega arith)) (record { count = small.1; alerts = alerts }) (retained-kept k.retained v (omega arith))
