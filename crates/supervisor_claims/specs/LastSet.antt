-- The successful sets of a settings key among the requests of received bytes: how many, and the last.
-- A set and a lookup over the wire, with their replies.
-- Assumes nothing: these are definitions, and the statement that items 4, 5 and 14 share.
use Rattle.std.specs.Prelude.{◌≡◌, Bool, true, false, cond, ◌&&◌, ◌||◌, List, [], ◌∷◌, ◌++◌, ℕ, ◌+◌, ◌-◌, ◌<◌, leb, ltb, eqb, length, take}
use Rattle.std.proofs.Math.Option.{Option, none, some}
use Rattle.octets.specs.Bytes.{bytes}
use Rattle.line.specs.Numbers.{command_key_set, command_key_lookup, reply_key_lookup}
use Rattle.line.specs.Message.{Message}
use Rattle.line.specs.Frame.{frame, split, non_empty}
use Rattle.octets.specs.TableTests.{table_test, first_failing}
use Rattle.supervisor.specs.Number.{top_set}
use Rattle.supervisor.specs.Limits
use Rattle.supervisor.specs.Limits.{last_edition, SettingsKey}
use Rattle.supervisor.specs.State.{Setting, unset, Settings, setting}
use Rattle.supervisor.specs.Local
use Rattle.supervisor.specs.Calls.{Parts}
use Rattle.saving.specs.Saving
use Rattle.saving.specs.Saving.{SavedEntry}
use Rattle.responder.specs.Requests.{Verdict, failure, good, verdict, wrong_value_length, edition_bytes}
use Rattle.supervisor_claims.specs.LocalCalls.{Change, local_row}
use Rattle.supervisor_claims.specs.Histories
use Rattle.supervisor_claims.specs.Histories.{LocalCall, Call, Made, enough, made}
use Rattle.supervisor_claims.specs.FrameHistory.{piece_read, is_accepted_start, starts_anew, received_since, received_since_all}
use Rattle.supervisor_claims.specs.FrameHistory.{frames_closed_by, RepliedWith, OnRequest}

-- ---- Requests

-- a frame's request, ahead of others, where its verdict is good
abbrev pub request_ahead : Verdict → List Message → List Message
request_ahead (failure reason version sequence) ms = ms
request_ahead (good m) ms = m ∷ ms

-- the valid requests among frames, in order
unfoldable pub requests_in : List (List ℕ) → List Message
requests_in [] = []
requests_in (f ∷ fs) = request_ahead (verdict f) (requests_in fs)

-- the valid requests of received bytes, in order
unfoldable pub requests_of : List ℕ → List Message
requests_of w = requests_in (non_empty (split w).closed)

-- ---- Sets

-- The value that a key set's data have for key k. The first byte is the key, the rest the value.
-- There is none where its length is wrong.
unfoldable pub value_for : ℕ → List ℕ → Option (List ℕ)
value_for k [] = none
value_for k (key ∷ v) = cond (eqb key k) (cond (wrong_value_length k (length v)) none (some v)) none

-- the value that a request has for key k, where it is a set of it
unfoldable pub set_by : ℕ → Message → Option (List ℕ)
set_by k m = cond (eqb m.command command_key_set) (value_for k m.payload) none

abbrev pub listed_if : Option (List ℕ) → List (List ℕ)
listed_if none = []
listed_if (some v) = v ∷ []

-- the values for key k, in order
unfoldable pub sets_of : ℕ → List Message → List (List ℕ)
sets_of k [] = []
sets_of k (m ∷ ms) = listed_if (set_by k m) ++ sets_of k ms

-- those of the successful sets of a key with this edition: a set at the last edition is not one (`successful_exactly`)
unfoldable pub successful : ℕ → ℕ → List Message → List (List ℕ)
successful edition k ms = take (last_edition - edition) (sets_of k ms)

-- the last of some values, or what was there before them
unfoldable pub last_or : Option (List ℕ) → List (List ℕ) → Option (List ℕ)
last_or before [] = before
last_or before (v ∷ vs) = last_or (some v) vs

-- What a settings key has that had x ahead of these requests.
-- The edition counts the successful sets, and the value is that of the last of them.
unfoldable pub set_after : ℕ → Setting → List Message → Setting
set_after k x ms =
    let vs = successful x.edition k ms in
    record { edition = x.edition + length vs; value = last_or x.value vs }

-- the store has every settings key, and key k has the setting x
pub record Has (z : Settings) (k : ℕ) (x : Setting) : Type 0 where
  pub long : length z ≡ Limits.setting_count
  pub held : setting z k ≡ x

-- ---- Restores

abbrev pub records_of : Saving.ImageRead → Option (List SavedEntry)
records_of (Saving.fault n at) = none
records_of (Saving.good es) = some es

-- the records of the image that a call restores
abbrev pub records_by : Change → Option (List SavedEntry)
records_by Change.nothing = none
records_by Change.outbox = none
records_by (Change.registers added) = none
records_by (Change.settings image) = records_of (Saving.read_image image)

unfoldable pub records_restored : LocalCall → Option (List SavedEntry)
records_restored c = records_by (local_row c).change

abbrev pub some_records : Option (List SavedEntry) → Bool
some_records none = false
some_records (some es) = true

-- whether a call restores an image that is good
abbrev pub is_restore : Call → Bool
is_restore (Histories.start d) = false
is_restore (Histories.receive image piece) = false
is_restore (Histories.step image piece) = false
is_restore (Histories.local c) = some_records (records_restored c)

-- whether it is a restore that is accepted: one that is lent too little is not
unfoldable pub accepts_restore : Made → Bool
accepts_restore m = enough m.call m.lent && is_restore m.call

-- a call that is neither an accepted start nor an accepted restore: a restore can bring an older value back
pub record Stays (m : Made) : Type 0 where
  pub no_start : starts_anew m ≡ false
  pub no_restore : accepts_restore m ≡ false

-- Where a settings key's value and edition come from: what it had at an earlier moment, and the valid requests since.
-- The moment is that after the last accepted start or, of a saved key, after the last accepted restore behind it.
pub record Origin : Type 0 where
  pub setting : Setting
  pub requests : List Message

abbrev pub since_start : Origin
since_start = record { setting = unset; requests = [] }

-- a restore replaces the settings that are saved
abbrev pub since_restore : ℕ → Origin → Option (List SavedEntry) → Origin
since_restore k x none = x
since_restore k x (some es) = cond (leb k Saving.highest_saved) (record { setting = Saving.setting_in k es; requests = [] }) x

-- more requests
abbrev pub since_more : Origin → List Message → Origin
since_more x ms = record { setting = x.setting; requests = x.requests ++ ms }

-- a call behind the bytes w
unfoldable pub since_call : ℕ → List ℕ → Origin → Call → Origin
since_call k w x (Histories.start d) = cond (is_accepted_start (Histories.start d)) since_start x
since_call k w x (Histories.receive image piece) = since_more x (requests_in (frames_closed_by w piece))
since_call k w x (Histories.step image piece) = since_more x (requests_in (frames_closed_by w (piece_read (Histories.step image piece))))
since_call k w x (Histories.local c) = since_restore k x (records_restored c)

unfoldable pub since_made : ℕ → List ℕ → Origin → Made → Origin
since_made k w x m = cond (enough m.call m.lent) (since_call k w x m.call) x

unfoldable pub since_all : ℕ → List ℕ → Origin → List Made → Origin
since_all k w x [] = x
since_all k w x (m ∷ ms) = since_all k (received_since w m) (since_made k w x m) ms

-- after calls from a start, and after the bytes bs behind them
abbrev pub origin : ℕ → List Made → Origin
origin k ms = since_all k [] since_start ms

abbrev pub origin_behind : ℕ → List Made → List ℕ → Origin
origin_behind k ms bs = since_more (origin k ms) (requests_in (frames_closed_by (received_since_all [] ms) bs))

-- what the key has then
abbrev pub set_since : ℕ → Origin → Setting
set_since k x = set_after k x.setting x.requests

-- ---- Lookups

-- a lookup's answer, of what a key has
abbrev pub fitted_of : ℕ → Setting → Local.Found
fitted_of most x = Local.fitted most x.edition x.value

-- a lookup of key k with maxresponse `most`, under number n
abbrev pub lookup_message : ℕ → ℕ → ℕ → ℕ → Message
lookup_message version n k most =
    record { version = version; sequence = n; command = command_key_lookup; payload = bytes 1 k ++ bytes 2 most }

-- The frame of its reply, under n with the top bit set.
-- The result is 2 where there is no value, 3 where the value is longer than maxresponse, else 0.
-- Behind a 0 stands the value, in version 2 behind its edition.
unfoldable pub lookup_reply : ℕ → ℕ → ℕ → Setting → List ℕ
lookup_reply version n most x =
    let f = fitted_of most x in
    frame (record {
      version = version;
      sequence = top_set n;
      command = reply_key_lookup;
      payload = f.result ∷ (edition_bytes version f ++ f.value);
    })

-- a settings key that is read back
pub record ReadBack (k : ℕ) : Type 0 where
  pub key : SettingsKey k
  pub other : k ≡ Limits.passphrase_key → ⊥

-- ---- Sets over the wire

-- a set of key k under number n
abbrev pub set_message : ℕ → ℕ → ℕ → List ℕ → Message
set_message version n k v = record { version = version; sequence = n; command = 0x10; payload = bytes 1 k ++ v }

abbrev pub result_or : Option ℕ → ℕ
result_or none = 0
result_or (some n) = n

-- The result of a set of key k with a value of n bytes, where the key has this edition.
-- It is that of the first test that fails, else 0.
abbrev pub set_result : ℕ → ℕ → ℕ → ℕ
set_result k n edition =
    result_or (first_failing (
    table_test 1 (ltb 6 k) ∷ table_test 2 (ltb k 3) ∷ table_test 3 (ltb n (Limits.shortest_setting k) || ltb (Limits.longest_setting k) n)
    ∷ table_test 4 (eqb edition 4294967295) ∷ []
    ))

-- the frame of its reply, under n with the top bit set
abbrev pub set_reply : ℕ → ℕ → ℕ → List ℕ
set_reply version n result = frame (record { version = version; sequence = top_set n; command = 0x0c; payload = result ∷ [] })

-- a set over the wire, behind any calls: all requests before its 00 count for the key's edition
abbrev pub SetAnswered : List Made → Parts → Type 0
SetAnswered ms q = (version n k : ℕ) (v : List ℕ) → k < 256 → OnRequest ms (set_message version n k v) (λ bs c.
    RepliedWith q (made q c) (set_reply version n (set_result k (length v) (set_since k (origin_behind k ms bs)).edition)))
