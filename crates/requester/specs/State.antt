-- The main processor's state in document 02's words (item 2): the request outstanding, a recovery, and the receive progress.
-- Assumes nothing: these are definitions.
use Rattle.std.specs.Prelude.{Bool, true, false, ◌&&◌, List, [], ℕ}
use Rattle.std.proofs.Math.Option.{Option, none, some}
use Rattle.line.specs.Numbers.{first_version, command_status, command_start_acknowledged, command_alert}
use Rattle.line.specs.Frame.{frame}

-- a request: its command and its data
pub record Request : Type 0 where
  pub command : ℕ
  pub payload : List ℕ

-- what a recovery has outstanding: its fetch of the status, or the service of bit 0 or of bit 1
pub data RecoveryStep : Type 0 where
  fetch : RecoveryStep
  acknowledge : RecoveryStep
  alert : RecoveryStep

pub record MainState : Type 0 where
  -- the newest number, 0 before the first
  pub newest : ℕ
  -- the caller's request that is outstanding, or a recovery's original
  pub kept : Option Request
  pub recovery : Option RecoveryStep
  -- whether the frame of the one outstanding is to go out
  pub unsent : Bool
  -- the bytes since the last 00; none where they are more than 4,140
  pub received : Option (List ℕ)

-- a state by its fields, in this order
abbrev pub main_state : ℕ → Option Request → Option RecoveryStep → Bool → Option (List ℕ) → MainState
main_state n k t u bs = record { newest = n; kept = k; recovery = t; unsent = u; received = bs }

-- after a start
unfoldable pub main_fresh : MainState
main_fresh = main_state 0 none none false (some [])

-- 0x08, 0x09 and 0x0a have no data
unfoldable pub step_request : RecoveryStep → Request
step_request fetch = record { command = command_status; payload = [] }
step_request acknowledge = record { command = command_start_acknowledged; payload = [] }
step_request alert = record { command = command_alert; payload = [] }

abbrev pub is_some : {A : Type 0} → Option A → Bool
is_some none = false
is_some (some x) = true

abbrev pub outstanding_of : Option RecoveryStep → Option Request → Option Request
outstanding_of none k = k
outstanding_of (some t) k = some (step_request t)

-- the one outstanding: it has the newest number
abbrev pub outstanding : MainState → Option Request
outstanding s = outstanding_of s.recovery s.kept

-- a request's frame: version 1
unfoldable pub request_frame : ℕ → Request → List ℕ
request_frame n q = frame (record { version = first_version; sequence = n; command = q.command; payload = q.payload })

-- ---- What the caller is told

-- nothing is outstanding; the caller's request is; or a step of a recovery
pub data Stage : Type 0 where
  idle : Stage
  waiting : Stage
  recovering : RecoveryStep → Stage

pub record Standing : Type 0 where
  pub stage : Stage
  -- of the one outstanding; 0 where there is none
  pub command : ℕ
  pub number : ℕ
  -- whether its frame is to go out
  pub unsent : Bool
  -- in a recovery: whether a request that was cut off goes out anew behind it
  pub original : Bool

abbrev pub idle_standing : Standing
idle_standing = record { stage = idle; command = 0; number = 0; unsent = false; original = false }

-- with one outstanding
abbrev pub stage_in : Option RecoveryStep → Stage
stage_in none = waiting
stage_in (some t) = recovering t

abbrev pub standing_of : Option Request → MainState → Standing
standing_of none s = idle_standing
standing_of (some q) s = record {
  stage = stage_in s.recovery;
  command = q.command;
  number = s.newest;
  unsent = s.unsent;
  original = is_some s.recovery && is_some s.kept;
}

unfoldable pub standing : MainState → Standing
standing s = standing_of (outstanding s) s
