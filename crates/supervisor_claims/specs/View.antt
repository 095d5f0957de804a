-- The view: document 01's state as the lent parts hold it.
-- Assumes nothing: these are definitions.
use Rattle.std.specs.Prelude.{cond, List, [], ◌∷◌, ◌++◌, ℕ, zero, suc, ◌+◌, ◌-◌, eqb}
use Rattle.std.proofs.Math.Option.{Option, none, some}
use Rattle.line.specs.Reader.{received_of}
use Rattle.octets.specs.Bytes.{run, number_at}
use Rattle.supervisor.specs.Limits
use Rattle.supervisor.specs.Layout
use Rattle.supervisor.specs.State.{Item, Factory, Setting, Settings, Recorded, Alert, Retained, State}
use Rattle.supervisor.specs.Calls.{Parts, kept_count}

-- the first n values of a function
unfoldable pub tabulated : {A : Type 0} → (ℕ → A) → ℕ → List A
tabulated f zero = []
tabulated f (suc n) = tabulated f n ++ (f n ∷ [])

-- ---- the factory store, and start data

unfoldable pub item_at : List ℕ → ℕ → Item
item_at f i = record {
  result = number_at 1 f (Layout.item_offset i);
  name = run (Layout.item_offset i + 1) 32 f;
  type = number_at 1 f (Layout.item_offset i + 33);
  payload = run (Layout.item_offset i + Layout.item_data_offset) (number_at 1 f (Layout.item_offset i + Layout.item_data_length_offset)) f;
}

unfoldable pub factory_of : List ℕ → Factory
factory_of f = record {
  bsu = number_at 1 f Layout.bsu_offset;
  model = run Layout.identity_offset 11 f;
  revision = number_at 4 f (Layout.identity_offset + 11);
  serial = run (Layout.identity_offset + 15) 11 f;
  base = run Layout.mac_offset 6 f;
  count = number_at 2 f (Layout.mac_offset + 6);
  stride = number_at 1 f (Layout.mac_offset + 8);
  hash = run Layout.hash_offset 32 f;
  image_id = run Layout.image_id_offset (Layout.image_id_length f) f;
  items = tabulated (item_at f) (Layout.item_count f);
}

-- ---- the settings store

unfoldable pub setting_of : List ℕ → ℕ → Setting
setting_of s at = record {
  edition = Layout.setting_edition s at;
  value = cond (eqb (Layout.setting_held s at) 1) (some (run (at + Layout.setting_value_offset) (Layout.setting_length s at) s)) none;
}

unfoldable pub settings_of : List ℕ → Settings
settings_of s = tabulated (λ i. setting_of s (Layout.setting_offset (Limits.first_setting + i))) Limits.setting_count

-- ---- the registers

unfoldable pub recorded_of : List ℕ → ℕ → Option Recorded
recorded_of r at =
    cond (eqb (Layout.record_held r at) 1)
    (some (record {
      code = Layout.record_code r at;
      whole = Layout.record_whole r at;
      kept = run (at + Layout.record_kept_offset) (kept_count r at) r;
    }))
    none

unfoldable pub alert_of : List ℕ → ℕ → Alert
alert_of r at = record { action = Layout.alert_action r at; text = run (at + Layout.alert_text_offset) (Layout.alert_text_length r at) r }

unfoldable pub retained_of : List ℕ → Option Retained
retained_of r =
    cond (eqb (Layout.retained_version r) 0) none
    (some (record {
      version = Layout.retained_version r;
      sequence = number_at 8 r Layout.retained_sequence_offset;
      alert = alert_of r Layout.retained_alert_offset;
    }))

-- ---- the outbox

unfoldable pub pending_of : List ℕ → List ℕ
pending_of o = run (Layout.outbox_bytes_offset + Layout.outbox_from o) (Layout.outbox_to o - Layout.outbox_from o) o

unfoldable pub view : Parts → State
view p = record {
  status = Layout.status_of p.registers;
  options = Layout.options_of p.registers;
  reboot_asked = eqb (number_at 1 p.registers Layout.reboot_offset) 1;
  power_off_asked = eqb (number_at 1 p.registers Layout.power_off_offset) 1;
  boot-failure = recorded_of p.registers Layout.boot_failure_offset;
  panic = recorded_of p.registers Layout.panic_offset;
  factory = factory_of p.factory;
  settings = settings_of p.settings;
  waiting = tabulated (λ i. alert_of p.registers (Layout.alert_offset i)) (Layout.alert_count p.registers);
  retained = retained_of p.registers;
  received = received_of p.reader;
  pending = pending_of p.outbox;
  terminator_owed = eqb (Layout.outbox_terminator_owed p.outbox) 1;
}
