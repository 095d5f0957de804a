-- What a judged reply is accused of: what no right supervisor answers to the frame that it answers.
-- Assumes nothing: these are definitions.
use Rattle.std.specs.Prelude.{Bool, false, cond, not, ◌&&◌, ◌||◌, List, [], ◌∷◌, ◌++◌, ℕ, ◌+◌, leb, ltb, eqb, length, take, drop, get_or}
use Rattle.std.proofs.Math.Option.{Option, none, some}
use Rattle.octets.specs.Bytes.{number_at, equal}
use Rattle.line.specs.Numbers.{second_version, status_length, command_alert, reply_acknowledged, reply_decode_failure, reply_bsu}
use Rattle.line.specs.Numbers.{reply_identity, reply_mac, reply_status, reply_alert, reply_image_block, reply_key_lookup, reply_inventory}
use Rattle.line.specs.Numbers.{reply_key_set}
use Rattle.line.specs.Message.{Message}
use Rattle.supervisor.specs.Limits.{highest_key, passphrase_key, longest_alert, longest_block, longest_image_id}
use Rattle.supervisor.specs.Limits.{longest_item_data, most_items}
use Rattle.supervisor.specs.Local.{fitted, pong}
use Rattle.responder.specs.Commands.{Command, command_of_number}
use Rattle.responder.specs.Requests.{Verdict, failure, good, version_served, inventoried}
use Rattle.tap.specs.Known.{SetSeen, KeyKnown, Known, Copy, key_known, may_find, slot_of}

pub data Accusation : Type 0 where
  -- no frame can have earned its number
  nobody_asked : Accusation
  -- another version, command or data length than the request can earn
  other_version : Accusation
  other_command : Accusation
  other_length : Accusation
  -- a decode failure whose reason is not the table's
  other_reason : Accusation
  -- a set's or a lookup's result that is not the table's
  other_result : Accusation
  -- the value of an older set: its request's number, and the newest set's
  stale : ℕ → ℕ → Accusation
  other_value : Accusation
  other_edition : Accusation
  -- a value longer than maxresponse
  too_long : Accusation
  not_pong : Accusation
  -- key 6 handed out
  passphrase_told : Accusation
  -- factory data that changed without a start
  changed : Accusation
  -- an index from 64 on with another answer than result 1
  bad_index : Accusation
  -- an alert's copy that differs from the one first sent
  other_copy : Accusation

unfoldable pub accused_if : Bool → Accusation → List Accusation
accused_if b a = cond b (a ∷ []) []

-- ---- A failed frame: its reason, in the version of the table

unfoldable pub failure_accused : ℕ → ℕ → Message → List Accusation
failure_accused reason version r =
    accused_if (not (eqb r.version version)) other_version
    ++ cond (not (eqb r.command reply_decode_failure)) (other_command ∷ [])
    (cond (not (eqb (length r.payload) 1)) (other_length ∷ []) (accused_if (not (eqb (number_at 1 r.payload 0) reason)) other_reason))

-- ---- A lookup

-- the parts of its request, and of its reply
abbrev pub key_asked : Message → ℕ
key_asked m = number_at 1 m.payload 0

abbrev pub most_asked : Message → ℕ
most_asked m = number_at 2 m.payload 1

abbrev pub result_told : Message → ℕ
result_told r = number_at 1 r.payload 0

abbrev pub head_length : ℕ → ℕ → ℕ
head_length version result = cond (eqb version second_version && eqb result 0) 5 1

abbrev pub value_told : Message → List ℕ
value_told r = drop (head_length r.version (result_told r)) r.payload

abbrev pub edition_told : Message → ℕ
edition_told r = cond (eqb r.version second_version) (number_at 4 r.payload 1) 0

-- a result other than 0 has no value
abbrev pub is_lookup_form : Message → Bool
is_lookup_form r =
    cond (eqb (result_told r) 0) (leb (head_length r.version 0) (length r.payload)) (eqb (length r.payload) 1)

-- the number of the first of some sets that has a value
unfoldable pub set_with : List ℕ → List SetSeen → Option ℕ
set_with value [] = none
set_with value (x ∷ xs) = cond (equal value x.value) (some x.number) (set_with value xs)

abbrev pub newest_set_number : List SetSeen → ℕ
newest_set_number [] = 0
newest_set_number (x ∷ xs) = x.number

-- the value of one of the last four sets other than the newest, or else a wrong value
abbrev pub stale_by : Option ℕ → ℕ → Accusation
stale_by none newest = other_value
stale_by (some older) newest = stale older newest

-- the newest set's own value is not stale: then it is too long, and a wrong value
abbrev pub is_newest : List ℕ → List SetSeen → Bool
is_newest value [] = false
is_newest value (x ∷ xs) = equal value x.value

unfoldable pub wrong_value : KeyKnown → ℕ → List ℕ → Accusation
wrong_value k result value =
    cond (eqb result 0 && not (is_newest value k.sets))
    (stale_by (set_with value (drop 1 (take 4 k.sets))) (newest_set_number k.sets))
    other_value

-- where the result is 0 in version 2, the edition that counts the sets
abbrev pub edition_accused : Option ℕ → Message → List Accusation
edition_accused none r = []
edition_accused (some e) r = accused_if (eqb r.version second_version && not (eqb (edition_told r) e)) other_edition

abbrev pub edition_accused_at : Option ℕ → Message → List Accusation
edition_accused_at e r = cond (eqb (result_told r) 0) (edition_accused e r) []

unfoldable pub setting_accused : KeyKnown → Message → Message → List Accusation
setting_accused k m r =
    accused_if (not (may_find k (most_asked m) (result_told r) (value_told r))) (wrong_value k (result_told r) (value_told r))
    ++ edition_accused_at k.edition r

-- a value that was told before, with no start between
abbrev pub differs_from : Option (List ℕ) → List ℕ → Bool
differs_from none bs = false
differs_from (some cs) bs = not (equal cs bs)

abbrev pub first_held : Known → Option ℕ → Option (List ℕ)
first_held k none = none
first_held k (some slot) = get_or k.firsts slot none

unfoldable pub changed_accused : Known → Message → List ℕ → List Accusation
changed_accused k m bs = accused_if (differs_from (first_held k (slot_of m)) bs) changed

-- keys 1 and 2 have a value of up to 64 bytes and of 8, which may be longer than maxresponse
abbrev pub factory_length : ℕ → ℕ → Bool
factory_length key n = cond (eqb key 1) (leb n longest_image_id) (eqb n 8)

unfoldable pub factory_accused : Known → Message → Message → List Accusation
factory_accused k m r =
    cond (eqb (result_told r) 0)
    (accused_if (not (factory_length (key_asked m) (length (value_told r)))) other_length
    ++ edition_accused (some 0) r ++ changed_accused k m (value_told r))
    (accused_if (not (eqb (result_told r) 3)) other_result)

abbrev pub pong_accused : Message → Message → List Accusation
pong_accused m r =
    let f = fitted (most_asked m) 0 (some pong) in
    accused_if (not (eqb (result_told r) f.result && equal (value_told r) f.value)) not_pong ++ edition_accused_at (some 0) r

abbrev pub passphrase_accused : Message → List Accusation
passphrase_accused r =
    cond (eqb (result_told r) 0) (passphrase_told ∷ []) (accused_if (not (eqb (result_told r) 4)) other_result)

unfoldable pub key_accused : Known → Message → Message → List Accusation
key_accused k m r =
    let key = key_asked m in
    cond (ltb highest_key key) (accused_if (not (eqb (result_told r) 1)) other_result)
    (cond (eqb key passphrase_key) (passphrase_accused r)
    (cond (eqb key 0) (pong_accused m r)
    (cond (ltb key 3) (factory_accused k m r)
    (setting_accused (key_known k key) m r))))

unfoldable pub lookup_accused : Known → Message → Message → List Accusation
lookup_accused k m r =
    accused_if (eqb (result_told r) 0 && ltb (most_asked m) (length (value_told r))) too_long ++ key_accused k m r

-- ---- An inventory item, a set, an alert

abbrev pub index_asked : Message → ℕ
index_asked m = number_at 4 m.payload 0

-- result, name[32], type, and data where the result is 0
abbrev pub item_head : ℕ
item_head = 34

abbrev pub is_item_form : Message → Bool
is_item_form r =
    leb item_head (length r.payload) && leb (length r.payload) (cond (eqb (result_told r) 0) (item_head + longest_item_data) item_head)

unfoldable pub item_accused : Known → Message → Message → List Accusation
item_accused k m r =
    cond (ltb (index_asked m) most_items) (changed_accused k m r.payload)
    (accused_if (not (equal r.payload (inventoried none))) bad_index)

-- 0 or 4 where the edition is not known
abbrev pub set_accused_by : Option ℕ → ℕ → Bool
set_accused_by none result = not (eqb result 0 || eqb result 4)
set_accused_by (some due) result = not (eqb result due)

abbrev pub copy_differs : Option Copy → Message → Message → Bool
copy_differs none m r = false
copy_differs (some c) m r =
    eqb c.sequence m.sequence && not (eqb c.version r.version && equal c.payload r.payload)

-- ---- A valid request

-- the reply's command; none where it earns no reply
unfoldable pub reply_earned : Command → Option ℕ
reply_earned Command.reboot = none
reply_earned Command.power-off = none
reply_earned Command.bsu = some reply_bsu
reply_earned Command.identity = some reply_identity
reply_earned Command.mac = some reply_mac
reply_earned Command.boot-failure = none
reply_earned Command.panic = some reply_acknowledged
reply_earned Command.status = some reply_status
reply_earned Command.start-acknowledged = some reply_acknowledged
reply_earned Command.alert = some reply_alert
reply_earned Command.image_block = some reply_image_block
reply_earned Command.key_lookup = some reply_key_lookup
reply_earned Command.inventory = some reply_inventory
reply_earned Command.key_set = some reply_key_set

-- whether the reply's data can be as long
unfoldable pub length_earned : Command → Message → Bool
length_earned Command.reboot r = false
length_earned Command.power-off r = false
length_earned Command.bsu r = eqb (length r.payload) 1
length_earned Command.identity r = eqb (length r.payload) 26
length_earned Command.mac r = eqb (length r.payload) 9
length_earned Command.boot-failure r = false
length_earned Command.panic r = eqb (length r.payload) 0
length_earned Command.status r = eqb (length r.payload) status_length
length_earned Command.start-acknowledged r = eqb (length r.payload) 0
length_earned Command.alert r = leb 1 (length r.payload) && leb (length r.payload) (1 + longest_alert)
length_earned Command.image_block r = leb (length r.payload) longest_block
length_earned Command.key_lookup r = is_lookup_form r
length_earned Command.inventory r = is_item_form r
length_earned Command.key_set r = eqb (length r.payload) 1

-- the request's version; an alert's copy may have the other one
abbrev pub version_earned : Message → Message → Bool
version_earned m r = cond (eqb m.command command_alert) (version_served r.version) (eqb r.version m.version)

-- what its data are accused of, where command and length are earned; due is the table's result of a set
unfoldable pub data_accused : Command → Known → Option ℕ → Message → Message → List Accusation
data_accused Command.bsu k due m r = changed_accused k m r.payload
data_accused Command.identity k due m r = changed_accused k m r.payload
data_accused Command.mac k due m r = changed_accused k m r.payload
data_accused Command.alert k due m r = accused_if (copy_differs k.copy m r) other_copy
data_accused Command.key_lookup k due m r = lookup_accused k m r
data_accused Command.inventory k due m r = item_accused k m r
data_accused Command.key_set k due m r = accused_if (set_accused_by due (result_told r)) other_result
data_accused Command.reboot k due m r = []
data_accused Command.power-off k due m r = []
data_accused Command.boot-failure k due m r = []
data_accused Command.panic k due m r = []
data_accused Command.status k due m r = []
data_accused Command.start-acknowledged k due m r = []
data_accused Command.image_block k due m r = []

abbrev pub is_command : Option ℕ → ℕ → Bool
is_command none c = false
is_command (some d) c = eqb c d

unfoldable pub request_accused : Command → Known → Option ℕ → Message → Message → List Accusation
request_accused x k due m r =
    cond (eqb r.command reply_decode_failure) (other_reason ∷ [])
    (accused_if (not (version_earned m r)) other_version
    ++ cond (not (is_command (reply_earned x) r.command)) (other_command ∷ [])
    (cond (not (length_earned x r)) (other_length ∷ []) (data_accused x k due m r)))

abbrev pub request_accused_by : Option Command → Known → Option ℕ → Message → Message → List Accusation
request_accused_by none k due m r = []
request_accused_by (some x) k due m r = request_accused x k due m r

-- a reply to a frame, by the table's verdict on it
unfoldable pub reply_accused : Known → Verdict → Option ℕ → Message → List Accusation
reply_accused k (failure reason version sequence) due r = failure_accused reason version r
reply_accused k (good m) due r = request_accused_by (command_of_number m.command) k due m r
