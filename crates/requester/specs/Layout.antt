-- The lent part of the main processor's state beside the line reader's: which byte is where. docs/STATE.md repeats this in words.
-- Assumes nothing: these are definitions.
use Rattle.std.specs.Prelude.{Bool, cond, ◌&&◌, ◌||◌, not, List, ℕ, ◌+◌, eqb}
use Rattle.std.proofs.Math.Option.{Option, none, some}
use Rattle.octets.specs.Bytes.{number_at, run}
use Rattle.line.specs.Limits.{longest_data}
use Rattle.requester.specs.State.{Request, RecoveryStep, fetch, acknowledge, alert, step_request}

-- the newest number, u64
abbrev pub number_offset : ℕ
number_offset = 0

-- the recovery's step, u8: 0 none, 1 fetch, 2 acknowledge, 3 alert
abbrev pub recovery_offset : ℕ
recovery_offset = 8

-- whether the frame of the one outstanding is to go out, u8
abbrev pub unsent_offset : ℕ
unsent_offset = 9

-- whether a request is kept, u8, its command u8, how many bytes of data u16, its data
abbrev pub kept_offset : ℕ
kept_offset = 10

abbrev pub command_offset : ℕ
command_offset = 11

abbrev pub length_offset : ℕ
length_offset = 12

abbrev pub kept_data_offset : ℕ
kept_data_offset = 14

-- the part's published length: 4,118 bytes
abbrev pub requester_length : ℕ
requester_length = kept_data_offset + longest_data

abbrev pub newest_number : List ℕ → ℕ
newest_number r = number_at 8 r number_offset

abbrev pub recovery_of : List ℕ → ℕ
recovery_of r = number_at 1 r recovery_offset

abbrev pub unsent_of : List ℕ → ℕ
unsent_of r = number_at 1 r unsent_offset

abbrev pub kept_flag : List ℕ → ℕ
kept_flag r = number_at 1 r kept_offset

abbrev pub kept_command : List ℕ → ℕ
kept_command r = number_at 1 r command_offset

abbrev pub kept_length : List ℕ → ℕ
kept_length r = number_at 2 r length_offset

-- the step of a number, and the number of a step
unfoldable pub step_at : ℕ → Option RecoveryStep
step_at n = cond (eqb n 0) none (cond (eqb n 1) (some fetch) (cond (eqb n 2) (some acknowledge) (some alert)))

unfoldable pub step_number : Option RecoveryStep → ℕ
step_number none = 0
step_number (some fetch) = 1
step_number (some acknowledge) = 2
step_number (some alert) = 3

-- what the part holds: the recovery's step, whether a request is kept and whether one is outstanding, and that request
abbrev pub recovery_step : List ℕ → Option RecoveryStep
recovery_step r = step_at (recovery_of r)

abbrev pub is_kept : List ℕ → Bool
is_kept r = eqb (kept_flag r) 1

unfoldable pub is_outstanding : List ℕ → Bool
is_outstanding r = not (eqb (recovery_of r) 0) || is_kept r

unfoldable pub kept_request : List ℕ → Request
kept_request r = record { command = kept_command r; payload = run kept_data_offset (kept_length r) r }

abbrev pub request_in : Option RecoveryStep → Request → Request
request_in none q = q
request_in (some t) q = step_request t

unfoldable pub out_request : List ℕ → Request
out_request r = request_in (recovery_step r) (kept_request r)

-- whether its frame is to go out
unfoldable pub is_unsent : List ℕ → Bool
is_unsent r = is_outstanding r && eqb (unsent_of r) 1
