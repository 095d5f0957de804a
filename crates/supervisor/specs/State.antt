-- The supervisor's start data and state, in document 01's words.
-- Assumes nothing: these are definitions.
use Rattle.std.specs.Prelude.{Bool, false, List, [], ℕ, ◌-◌, get_or, set, replicate}
use Rattle.std.proofs.Math.Option.{Option, none, some}
use Rattle.supervisor.specs.Limits.{first_setting, setting_count}

-- an inventory item; `payload` is the paper's data
pub record Item : Type 0 where
  pub result : ℕ
  pub name : List ℕ
  pub type : ℕ
  pub payload : List ℕ

-- the factory store's contents: what start is given
pub record Factory : Type 0 where
  pub bsu : ℕ
  pub model : List ℕ
  pub revision : ℕ
  pub serial : List ℕ
  pub base : List ℕ
  pub count : ℕ
  pub stride : ℕ
  pub hash : List ℕ
  pub image_id : List ℕ
  pub items : List Item

-- A setting: its edition, and its value, or none.
-- The edition counts the successful sets since start, or on from a restored one (document 02, items 5 and 11).
pub record Setting : Type 0 where
  pub edition : ℕ
  pub value : Option (List ℕ)

abbrev pub unset : Setting
unset = record { edition = 0; value = none }

-- the settings store: the setting of each of its keys, in their order
abbrev pub Settings : Type 0
Settings = List Setting

abbrev pub setting : Settings → ℕ → Setting
setting settings key = get_or settings (key - first_setting) unset

abbrev pub with_setting : Settings → ℕ → Setting → Settings
with_setting settings key x = set settings (key - first_setting) x

-- a boot failure or a panic: its code, the whole length of the rest, and the rest's first bytes
pub record Recorded : Type 0 where
  pub code : ℕ
  pub whole : ℕ
  pub kept : List ℕ

pub record Alert : Type 0 where
  pub action : ℕ
  pub text : List ℕ

-- the reply to the last alert request as first written: its version, that request's sequence, and its alert
pub record Retained : Type 0 where
  pub version : ℕ
  pub sequence : ℕ
  pub alert : Alert

pub record State : Type 0 where
  pub status : ℕ
  pub options : ℕ
  pub reboot_asked : Bool
  pub power_off_asked : Bool
  pub boot-failure : Option Recorded
  pub panic : Option Recorded
  pub factory : Factory
  pub settings : Settings
  -- the oldest first
  pub waiting : List Alert
  pub retained : Option Retained
  -- the bytes since the last 00; none where they are more than a form has
  pub received : Option (List ℕ)
  pub pending : List ℕ
  -- a byte has been taken and the last was non-zero
  pub terminator_owed : Bool

-- a state with another value of one field
abbrev pub with_status : State → ℕ → State
with_status s status = record {
  status = status;
  options = s.options;
  reboot_asked = s.reboot_asked;
  power_off_asked = s.power_off_asked;
  boot-failure = s.boot-failure;
  panic = s.panic;
  factory = s.factory;
  settings = s.settings;
  waiting = s.waiting;
  retained = s.retained;
  received = s.received;
  pending = s.pending;
  terminator_owed = s.terminator_owed;
}

abbrev pub with_options : State → ℕ → State
with_options s options = record {
  status = s.status;
  options = options;
  reboot_asked = s.reboot_asked;
  power_off_asked = s.power_off_asked;
  boot-failure = s.boot-failure;
  panic = s.panic;
  factory = s.factory;
  settings = s.settings;
  waiting = s.waiting;
  retained = s.retained;
  received = s.received;
  pending = s.pending;
  terminator_owed = s.terminator_owed;
}

abbrev pub with_reboot : State → Bool → State
with_reboot s asked = record {
  status = s.status;
  options = s.options;
  reboot_asked = asked;
  power_off_asked = s.power_off_asked;
  boot-failure = s.boot-failure;
  panic = s.panic;
  factory = s.factory;
  settings = s.settings;
  waiting = s.waiting;
  retained = s.retained;
  received = s.received;
  pending = s.pending;
  terminator_owed = s.terminator_owed;
}

abbrev pub with_power_off : State → Bool → State
with_power_off s asked = record {
  status = s.status;
  options = s.options;
  reboot_asked = s.reboot_asked;
  power_off_asked = asked;
  boot-failure = s.boot-failure;
  panic = s.panic;
  factory = s.factory;
  settings = s.settings;
  waiting = s.waiting;
  retained = s.retained;
  received = s.received;
  pending = s.pending;
  terminator_owed = s.terminator_owed;
}

abbrev pub with_boot_failure : State → Option Recorded → State
with_boot_failure s entry = record {
  status = s.status;
  options = s.options;
  reboot_asked = s.reboot_asked;
  power_off_asked = s.power_off_asked;
  boot-failure = entry;
  panic = s.panic;
  factory = s.factory;
  settings = s.settings;
  waiting = s.waiting;
  retained = s.retained;
  received = s.received;
  pending = s.pending;
  terminator_owed = s.terminator_owed;
}

abbrev pub with_panic : State → Option Recorded → State
with_panic s entry = record {
  status = s.status;
  options = s.options;
  reboot_asked = s.reboot_asked;
  power_off_asked = s.power_off_asked;
  boot-failure = s.boot-failure;
  panic = entry;
  factory = s.factory;
  settings = s.settings;
  waiting = s.waiting;
  retained = s.retained;
  received = s.received;
  pending = s.pending;
  terminator_owed = s.terminator_owed;
}

abbrev pub with_settings : State → Settings → State
with_settings s settings = record {
  status = s.status;
  options = s.options;
  reboot_asked = s.reboot_asked;
  power_off_asked = s.power_off_asked;
  boot-failure = s.boot-failure;
  panic = s.panic;
  factory = s.factory;
  settings = settings;
  waiting = s.waiting;
  retained = s.retained;
  received = s.received;
  pending = s.pending;
  terminator_owed = s.terminator_owed;
}

abbrev pub with_waiting : State → List Alert → State
with_waiting s alerts = record {
  status = s.status;
  options = s.options;
  reboot_asked = s.reboot_asked;
  power_off_asked = s.power_off_asked;
  boot-failure = s.boot-failure;
  panic = s.panic;
  factory = s.factory;
  settings = s.settings;
  waiting = alerts;
  retained = s.retained;
  received = s.received;
  pending = s.pending;
  terminator_owed = s.terminator_owed;
}

abbrev pub with_retained : State → Option Retained → State
with_retained s reply = record {
  status = s.status;
  options = s.options;
  reboot_asked = s.reboot_asked;
  power_off_asked = s.power_off_asked;
  boot-failure = s.boot-failure;
  panic = s.panic;
  factory = s.factory;
  settings = s.settings;
  waiting = s.waiting;
  retained = reply;
  received = s.received;
  pending = s.pending;
  terminator_owed = s.terminator_owed;
}

abbrev pub with_received : State → Option (List ℕ) → State
with_received s bytes = record {
  status = s.status;
  options = s.options;
  reboot_asked = s.reboot_asked;
  power_off_asked = s.power_off_asked;
  boot-failure = s.boot-failure;
  panic = s.panic;
  factory = s.factory;
  settings = s.settings;
  waiting = s.waiting;
  retained = s.retained;
  received = bytes;
  pending = s.pending;
  terminator_owed = s.terminator_owed;
}

abbrev pub with_pending : State → List ℕ → State
with_pending s bytes = record {
  status = s.status;
  options = s.options;
  reboot_asked = s.reboot_asked;
  power_off_asked = s.power_off_asked;
  boot-failure = s.boot-failure;
  panic = s.panic;
  factory = s.factory;
  settings = s.settings;
  waiting = s.waiting;
  retained = s.retained;
  received = s.received;
  pending = bytes;
  terminator_owed = s.terminator_owed;
}

abbrev pub with_terminator_owed : State → Bool → State
with_terminator_owed s terminator_owed = record {
  status = s.status;
  options = s.options;
  reboot_asked = s.reboot_asked;
  power_off_asked = s.power_off_asked;
  boot-failure = s.boot-failure;
  panic = s.panic;
  factory = s.factory;
  settings = s.settings;
  waiting = s.waiting;
  retained = s.retained;
  received = s.received;
  pending = s.pending;
  terminator_owed = terminator_owed;
}

-- the state that start leaves
unfoldable pub fresh : Factory → State
fresh f = record {
  status = 1;
  options = 0;
  reboot_asked = false;
  power_off_asked = false;
  boot-failure = none;
  panic = none;
  factory = f;
  settings = replicate setting_count unset;
  waiting = [];
  retained = none;
  received = some [];
  pending = [];
  terminator_owed = false;
}
