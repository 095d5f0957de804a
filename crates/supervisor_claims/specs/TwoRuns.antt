-- Two runs of calls, parts that differ only in the wireless passphrase's record, and the sets of it to come (document 02, item 14).
-- Assumes nothing: these are definitions.
use Rattle.std.specs.Prelude.{◌≡◌, Bool, false, cond, List, [], ◌∷◌, ℕ, ◌+◌, length, take, drop}
use Rattle.supervisor.specs.Limits
use Rattle.supervisor.specs.Layout
use Rattle.supervisor.specs.State.{State, unset, with_setting, with_settings}
use Rattle.supervisor.specs.Calls.{Parts}
use Rattle.supervisor_claims.specs.Sound.{Bytes}
use Rattle.supervisor_claims.specs.Histories
use Rattle.supervisor_claims.specs.Histories.{Typed, done, Lent, Made, made, start_with}
use Rattle.supervisor_claims.specs.FrameHistory.{bytes_received_by, starts_anew, received_since, frames_closed_by}
use Rattle.supervisor_claims.specs.MixedCalls
use Rattle.supervisor_claims.specs.MixedCalls.{MixedCall, AllTypedMixed, left_mixed, mixed_since, mixed_since_all}
use Rattle.supervisor_claims.specs.LastSet.{requests_in, sets_of}

-- a start that is accepted, on any bytes, then any calls, of the supervisor and of the line layer on the reader's part
pub record Run : Type 0 where
  pub room : Parts
  pub bytes : Bytes room
  pub lent : Lent
  pub start_data : List ℕ
  pub typed : Typed (Histories.start start_data)
  pub accepted : (made room (start_with lent start_data)).answer ≡ done
  pub calls : List MixedCall
  pub all_typed : AllTypedMixed calls

-- the parts that it leaves, and the bytes received in it since the last accepted start
abbrev pub left_by_run : Run → Parts
left_by_run r = left_mixed (made r.room (start_with r.lent r.start_data)).parts r.calls

abbrev pub received_in_run : Run → List ℕ
received_in_run r = mixed_since_all [] r.calls

-- where the passphrase's record begins in the settings store, and where it ends
abbrev pub record_begin : ℕ
record_begin = Layout.setting_offset Limits.passphrase_key

abbrev pub record_end : ℕ
record_end = record_begin + (Layout.setting_value_offset + Limits.longest_setting Limits.passphrase_key)

-- Parts with the same bytes, but for those of the passphrase's record in the settings store.
-- The record is presence, edition, length and all bytes that a value can have.
pub record SameButPassphrase (p q : Parts) : Type 0 where
  pub reader : p.reader ≡ q.reader
  pub outbox : p.outbox ≡ q.outbox
  pub factory : p.factory ≡ q.factory
  pub ahead : take record_begin p.settings ≡ take record_begin q.settings
  pub behind : drop record_end p.settings ≡ drop record_end q.settings
  pub registers : p.registers ≡ q.registers

-- a state in which no passphrase was set; states that are equal so differ only in the passphrase's value, length, presence and edition
abbrev pub without_passphrase : State → State
without_passphrase s = with_settings s (with_setting s.settings Limits.passphrase_key unset)

abbrev pub passphrase_edition : Parts → ℕ
passphrase_edition p = Layout.setting_edition p.settings record_begin

-- ---- The sets to come

-- The sets of the passphrase with a value of 8 to 63 bytes, among the valid requests in some frames.
-- These are the frames whose 00 a call of the supervisor brings behind the received bytes w.
-- No other request can raise the passphrase's edition.
unfoldable pub sets_brought : List ℕ → Made → ℕ
sets_brought w m = length (sets_of Limits.passphrase_key (requests_in (frames_closed_by w (bytes_received_by m))))

-- An accepted start puts the edition back to 0, in both runs, so that no set behind one counts.
-- The first run's received bytes serve for both: both have received the same of the frame that is not ended.
unfoldable pub sets_to_come : List ℕ → List Made → ℕ
sets_to_come w [] = 0
sets_to_come w (m ∷ ms) = cond (starts_anew m) 0 (sets_brought w m + sets_to_come (received_since w m) ms)

-- a frame whose 00 a line read brings is not carried out: the line layer's calls bring no set, and start nothing anew
abbrev pub sets_brought_by : List ℕ → MixedCall → ℕ
sets_brought_by w (MixedCalls.supervisor m) = sets_brought w m
sets_brought_by w (MixedCalls.line_start l) = 0
sets_brought_by w (MixedCalls.line_read l piece) = 0
sets_brought_by w (MixedCalls.line_tail l) = 0
sets_brought_by w (MixedCalls.line_data l n) = 0

abbrev pub starts_anew_by : MixedCall → Bool
starts_anew_by (MixedCalls.supervisor m) = starts_anew m
starts_anew_by (MixedCalls.line_start l) = false
starts_anew_by (MixedCalls.line_read l piece) = false
starts_anew_by (MixedCalls.line_tail l) = false
starts_anew_by (MixedCalls.line_data l n) = false

-- the same over mixed lists, where what a line read reads joins the received bytes
unfoldable pub mixed_sets_to_come : List ℕ → List MixedCall → ℕ
mixed_sets_to_come w [] = 0
mixed_sets_to_come w (c ∷ cs) = cond (starts_anew_by c) 0 (sets_brought_by w c + mixed_sets_to_come (mixed_since w c) cs)
