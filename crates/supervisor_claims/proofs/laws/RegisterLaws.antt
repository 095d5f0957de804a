-- How the registers' fields read lists that have the same bytes there.
-- Assumes nothing.
use mathlib.Core.Path.{◌≡◌}
use mathlib.Core.Bool.{true}
use mathlib.Core.List.{List}
use Prim.Native.Nat.{ℕ, ◌+◌, ◌≤◌}
use native.Mathlib.Omega.{arith}
use Rattle.octets.proofs.SameBytes.{Same, number_same}
use Rattle.supervisor.specs.Limits
use Rattle.supervisor.specs.Layout
use Rattle.supervisor.specs.State.{Alert, State, with_status, with_options, with_waiting}
use Rattle.supervisor.specs.Valid.{valid_alert, valid_alerts}
use Rattle.supervisor.specs.Calls
use Rattle.supervisor.proofs.ValidLaws.{all-each, alert-valid, RegistersValid}
use Rattle.supervisor.proofs.KeptRegisters.{Kept}
use Rattle.supervisor_claims.specs.View.{tabulated, recorded_of, alert_of, retained_of, view}
use Rattle.supervisor_claims.specs.Sound.{with_registers}
use Rattle.supervisor_claims.proofs.laws.ViewLaws.{listed_same}

-- the first n alerts
abbrev pub alerts_of : List ℕ → ℕ → List Alert
alerts_of r = tabulated (λ i. alert_of r (Layout.alert_offset i))

-- ---- what lies where two lists are the same

module _ {from to : ℕ} {r s : List ℕ} (same : Same from to r s) where
  pub recorded-same : (at : ℕ) → (from ≤ at) × (at + Layout.record_length ≤ to) → recorded_of s at ≡ recorded_of r at
  unfolding recorded_of
  recorded-same at h =
      rw (
        number_same same 1 at (omega arith),
        number_same same 2 (at + Layout.record_code_offset) (omega arith),
        number_same same 2 (at + Layout.record_whole_offset) (omega arith),
        same.runs (at + Layout.record_kept_offset) (Calls.kept_count r at) (omega arith),
      )

  pub alert-same : (at : ℕ) → (from ≤ at) × (at + Layout.alert_length ≤ to) → Layout.alert_text_length r at ≤ Limits.longest_alert
      → alert_of s at ≡ alert_of r at
  unfolding alert_of
  alert-same at h k =
      rw (
        number_same same 2 at (omega arith),
        number_same same 1 (at + Layout.alert_action_offset) (omega arith),
        same.runs (at + Layout.alert_text_offset) (Layout.alert_text_length r at) (omega arith),
      )

  pub retained-same : (from ≤ Layout.retained_offset) × (Layout.registers_length ≤ to)
      → Layout.alert_text_length r Layout.retained_alert_offset ≤ Limits.longest_alert → retained_of s ≡ retained_of r
  unfolding retained_of
  retained-same h k =
      rw (
        number_same same 1 Layout.retained_offset (omega arith),
        number_same same 8 Layout.retained_sequence_offset (omega arith),
        alert-same Layout.retained_alert_offset (omega arith) k,
      )

  pub alerts-same : (n : ℕ) → (from ≤ Layout.alerts_offset) × (Layout.alert_offset n ≤ to) → valid_alerts r n ≡ true
      → alerts_of s n ≡ alerts_of r n
  alerts-same n h v =
      listed_same _ _ n (λ i k.
      let a = alert-valid r i (all-each (valid_alert r) n v i k) in
      alert-same (Layout.alert_offset i) (omega arith) a.size)

-- the state with another status, other options and other alerts that wait
abbrev pub changed : State → ℕ → ℕ → List Alert → State
changed s status options waiting = with_waiting (with_options (with_status s status) options) waiting

pub kept-view : (p : Calls.Parts) {s : List ℕ} → Kept p.registers s → RegistersValid p.registers
    → view (with_registers p s) ≡ changed (view p) (Layout.status_of s) (Layout.options_of s) (alerts_of s (Layout.alert_count s))
unfolding view
kept-view p k v =
    rw (
      number_same k.flags_and_records 1 Layout.reboot_offset (omega arith),
      number_same k.flags_and_records 1 Layout.power_off_offset (omega arith),
      recorded-same k.flags_and_records Layout.boot_failure_offset (omega arith),
      recorded-same k.flags_and_records Layout.panic_offset (omega arith),
      retained-same k.retained (omega arith) v.rest.text,
    )
