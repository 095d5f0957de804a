-- What a request earns and does, and what one received byte does (document 01, "Reading a request", "Requests and what they do").
-- Assumes nothing: these are definitions.
use Rattle.std.specs.Prelude.{Bool, true, cond, not, ◌&&◌, ◌||◌, List, [], ◌∷◌, ◌++◌, ℕ, zero, suc, ◌-◌, ◌^◌, leb, ltb, eqb, length, take}
use Rattle.std.specs.Prelude.{drop, replicate}
use Rattle.std.proofs.Math.Option.{Option, none, some}
use Rattle.octets.specs.Bytes.{bytes, number_at, equal, run, bit}
use Rattle.line.specs.Numbers.{first_version, second_version, top_bit, all_ones, reply_acknowledged, reply_decode_failure, reply_bsu}
use Rattle.line.specs.Numbers.{reply_identity, reply_mac, reply_status, reply_alert, reply_image_block, reply_key_lookup, reply_inventory}
use Rattle.line.specs.Numbers.{command_key_set, reply_key_set, reason_form, reason_length, reason_version, reason_sequence, reason_data}
use Rattle.line.specs.Message.{Message}
use Rattle.line.specs.Frame.{frame}
use Rattle.line.specs.Judge as Line
use Rattle.line.specs.Judge.{judge, more_received}
use Rattle.supervisor.specs.Limits.{inventory_bad_index, highest_key, first_setting, longest_setting, shortest_setting, last_edition}
use Rattle.supervisor.specs.Limits.{most_kept, longest_block}
use Rattle.supervisor.specs.State.{Item, Factory, Settings, setting, Recorded, Alert, Retained, State}
use Rattle.supervisor.specs.State.{with_status, with_reboot, with_power_off, with_boot_failure, with_panic, with_setting, with_settings}
use Rattle.supervisor.specs.State.{with_waiting}
use Rattle.supervisor.specs.State.{with_retained, with_received, with_pending}
use Rattle.supervisor.specs.Number.{top_set}
use Rattle.supervisor.specs.Local.{Found, lookup}
use Rattle.counters.specs.Ended.{Served}
use Rattle.responder.specs.Commands.{Command, command_of_number, is_listed, may_have}

-- ---- Versions (document 02, item 5)

abbrev pub version_served : ℕ → Bool
version_served version = eqb version first_version || eqb version second_version

-- ---- The tests after the line layer's

-- the listed commands, and whether a data length is right for one
unfoldable pub known : ℕ → Bool
known c = is_listed (command_of_number c)

unfoldable pub length_allowed : ℕ → ℕ → Bool
length_allowed c n = may_have (command_of_number c) n

-- What the whole table makes of a frame: a failure, or the message of a valid request.
-- A failure has its reason, the version of its reply, and the request's sequence where the reply carries that.
pub data Verdict : Type 0 where
  failure : ℕ → ℕ → Option ℕ → Verdict
  good : Message → Verdict

-- of a message that the line layer found good: version 5, top bit of the sequence 6, command 3, data length 7. The reply to a failure of
-- reason 1 to 5 has version 1, to one of reason 6 or 7 the request's
unfoldable pub tested : Message → Verdict
tested m =
    cond (not (version_served m.version)) (failure reason_version first_version (some m.sequence))
    (cond (leb top_bit m.sequence) (failure reason_sequence m.version (some m.sequence))
    (cond (not (known m.command)) (failure reason_length first_version none)
    (cond (not (length_allowed m.command (length m.payload))) (failure reason_data m.version (some m.sequence))
    (good m))))

-- the whole table, on the bytes before a 00
abbrev pub tested_where : Line.LineVerdict → Verdict
tested_where (Line.failure reason sequence) = failure reason first_version sequence
tested_where (Line.good m) = tested m

unfoldable pub verdict : List ℕ → Verdict
verdict form = tested_where (judge form)

-- ---- Replies

pub record Reply : Type 0 where
  pub version : ℕ
  pub sequence : ℕ
  pub command : ℕ
  pub payload : List ℕ

-- the sequence of a failure's reply: the request's with the top bit set, or all ones
abbrev pub failure_sequence : Option ℕ → ℕ
failure_sequence none = all_ones
failure_sequence (some sequence) = top_set sequence

-- the reply to a failure
unfoldable pub failure_reply : ℕ → ℕ → Option ℕ → Reply
failure_reply reason version sequence =
    record { version = version; sequence = failure_sequence sequence; command = reply_decode_failure; payload = reason ∷ [] }

-- ---- What a valid request does: the state, and the reply's version, command and data, or none

pub record ReplyContent : Type 0 where
  pub version : ℕ
  pub command : ℕ
  pub payload : List ℕ

pub record Carried : Type 0 where
  pub state : State
  pub reply : Option ReplyContent

abbrev pub unanswered : State → Carried
unanswered s = record { state = s; reply = none }

abbrev pub reply_with : State → ℕ → ℕ → List ℕ → Carried
reply_with s version c bs = record { state = s; reply = some (record { version = version; command = c; payload = bs }) }

-- a record keeps its code, the whole length of the rest, and the rest's first 512 bytes
unfoldable pub recorded : ℕ → List ℕ → Recorded
recorded code rest = record { code = code; whole = length rest; kept = take most_kept rest }

unfoldable pub clear_bit : ℕ → ℕ → ℕ
clear_bit n k = cond (eqb (bit n k) 1) (n - 2 ^ k) n

-- 0x01, 0x02: counted as asked for, the retained alert reply is dropped, no reply; alerts that wait stay (document 02, item 1)
unfoldable pub reboot : State → Carried
reboot s = unanswered (with_retained (with_reboot s true) none)

unfoldable pub power_off : State → Carried
power_off s = unanswered (with_retained (with_power_off s true) none)

-- 0x06: reason u8, rest free; recorded, no reply
unfoldable pub boot_failure : State → List ℕ → Carried
boot_failure s bs = unanswered (with_boot_failure s (some (recorded (number_at 1 bs 0) (drop 1 bs))))

-- 0x07: cause u16, rest free; recorded; acknowledged
unfoldable pub panicked : ℕ → State → List ℕ → Carried
panicked version s bs = reply_with (with_panic s (some (recorded (number_at 2 bs 0) (drop 2 bs)))) version reply_acknowledged []

-- 0x09: clears status bit 0; acknowledged
unfoldable pub start_acknowledged : ℕ → State → Carried
start_acknowledged version s = reply_with (with_status s (clear_bit s.status 0)) version reply_acknowledged []

-- 0x0a: the retained reply again, as first written, where it has the request's sequence. Else the oldest alert, or action 0 and no data.
-- That is then retained with the request's version and sequence, and status bit 1 is cleared if none waits.
abbrev pub alert_data : Alert → List ℕ
alert_data a = bytes 1 a.action ++ a.text

unfoldable pub oldest : List Alert → Alert
oldest [] = record { action = 0; text = [] }
oldest (a ∷ rest) = a

abbrev pub others : List Alert → List Alert
others waiting = drop 1 waiting

abbrev pub status_after : ℕ → List Alert → ℕ
status_after status [] = clear_bit status 1
status_after status (a ∷ rest) = status

unfoldable pub alert_taken : ℕ → State → ℕ → Carried
alert_taken version s sequence =
    let rest = others s.waiting in
    let kept : Retained = record { version = version; sequence = sequence; alert = oldest s.waiting } in
    reply_with (with_retained (with_waiting (with_status s (status_after s.status rest)) rest) (some kept)) version reply_alert
    (alert_data (oldest s.waiting))

unfoldable pub alert_asked : ℕ → State → ℕ → Option Retained → Carried
alert_asked version s sequence none = alert_taken version s sequence
alert_asked version s sequence (some r) =
    cond (eqb r.sequence sequence) (reply_with s r.version reply_alert (alert_data r.alert)) (alert_taken version s sequence)

-- 0x0d: up to 4,096 bytes of the image from the offset.
-- There are none where the hash is not the start data's or the offset is at or past the end.
unfoldable pub block : Factory → List ℕ → List ℕ → List ℕ
block f image bs = cond (equal (run 0 32 bs) f.hash) (take longest_block (drop (number_at 8 bs 32) image)) []

-- 0x0e: the result, and the value where it is 0, in version 2 behind its edition
abbrev pub edition_bytes : ℕ → Found → List ℕ
edition_bytes version f = cond (eqb version second_version && eqb f.result 0) (bytes 4 f.edition) []

abbrev pub found : ℕ → State → Found → Carried
found version s f = reply_with s version reply_key_lookup (f.result ∷ (edition_bytes version f ++ f.value))

-- 0x0f: out of range result 1, name and type zero, no data; a result other than 0 has no data
abbrev pub item_data : Item → List ℕ
item_data i = bytes 1 i.result ++ (i.name ++ (bytes 1 i.type ++ cond (eqb i.result 0) i.payload []))

unfoldable pub item_of : List Item → ℕ → Option Item
item_of [] n = none
item_of (i ∷ is) zero = some i
item_of (i ∷ is) (suc n) = item_of is n

unfoldable pub inventoried : Option Item → List ℕ
inventoried none = inventory_bad_index ∷ replicate 33 0
inventoried (some i) = item_data i

-- 0x10: an invalid key 1, a read-only one 2, a wrong length 3, at the last edition 4, else 0 and stored, one edition on
pub record Stored : Type 0 where
  pub result : ℕ
  pub settings : Settings

abbrev pub wrong_value_length : ℕ → ℕ → Bool
wrong_value_length key n = ltb n (shortest_setting key) || ltb (longest_setting key) n

unfoldable pub store_value : Settings → ℕ → List ℕ → Stored
store_value s key v =
    cond (ltb highest_key key) (record { result = 1; settings = s })
    (cond (ltb key first_setting) (record { result = 2; settings = s })
    (cond (wrong_value_length key (length v)) (record { result = 3; settings = s })
    (cond (eqb (setting s key).edition last_edition) (record { result = 4; settings = s })
    (record { result = 0; settings = with_setting s key (record { edition = suc (setting s key).edition; value = some v }) }))))

unfoldable pub key_set : ℕ → State → List ℕ → Carried
key_set version s bs =
    let t = store_value s.settings (number_at 1 bs 0) (drop 1 bs) in
    reply_with (with_settings s t.settings) version reply_key_set (t.result ∷ [])

-- what each command does; a reply carries the request's version, but a retained one that is sent again
unfoldable pub effect : Command → List ℕ → State → Message → Carried
effect Command.reboot image s m = reboot s
effect Command.power-off image s m = power_off s
effect Command.bsu image s m = reply_with s m.version reply_bsu (bytes 1 s.factory.bsu)
effect Command.identity image s m =
    reply_with s m.version reply_identity (s.factory.model ++ (bytes 4 s.factory.revision ++ s.factory.serial))
effect Command.mac image s m =
    reply_with s m.version reply_mac (s.factory.base ++ (bytes 2 s.factory.count ++ bytes 1 s.factory.stride))
effect Command.boot-failure image s m = boot_failure s m.payload
effect Command.panic image s m = panicked m.version s m.payload
effect Command.status image s m = reply_with s m.version reply_status (bytes 8 s.status ++ bytes 8 s.options)
effect Command.start-acknowledged image s m = start_acknowledged m.version s
effect Command.alert image s m = alert_asked m.version s m.sequence s.retained
effect Command.image_block image s m = reply_with s m.version reply_image_block (block s.factory image m.payload)
effect Command.key_lookup image s m = found m.version s (lookup s (number_at 1 m.payload 0) (number_at 2 m.payload 1))
effect Command.inventory image s m =
    reply_with s m.version reply_inventory (inventoried (item_of s.factory.items (number_at 4 m.payload 0)))
effect Command.key_set image s m = key_set m.version s m.payload

-- a valid request, which has a listed command
abbrev pub carry_out_by : Option Command → List ℕ → State → Message → Carried
carry_out_by none image s m = unanswered s
carry_out_by (some x) image s m = effect x image s m

unfoldable pub carry_out : List ℕ → State → Message → Carried
carry_out image s m = carry_out_by (command_of_number m.command) image s m

-- ---- What is told of a frame

-- A valid request, by the result of the set where it is a key set.
-- A key set gives its key, the first byte of the data, and that result. Any other request gives its command.
abbrev pub served_of : Message → ℕ → Served
served_of m result =
    cond (eqb m.command command_key_set) (Served.key_set (number_at 1 m.payload 0) result) (Served.request m.command)

-- by the table's verdict, where these settings are held as the frame ends; nothing of a failure
unfoldable pub served_by : Settings → Verdict → Served
served_by s (failure reason version sequence) = Served.nothing
served_by s (good m) = served_of m (store_value s (number_at 1 m.payload 0) (drop 1 m.payload)).result

-- ---- Sending: what is unsent is discarded; a 00 goes first where one is owed, or alone where there is no reply

abbrev pub owed : Bool → List ℕ
owed terminator_owed = cond terminator_owed (0 ∷ []) []

unfoldable pub reply_frame : Option Reply → List ℕ
reply_frame none = []
reply_frame (some r) = frame (record { version = r.version; sequence = r.sequence; command = r.command; payload = r.payload })

unfoldable pub sent : State → Option Reply → State
sent s reply = with_pending s (owed s.terminator_owed ++ reply_frame reply)

-- the reply to a valid request carries its sequence with the top bit set
unfoldable pub reply_of : ℕ → Option ReplyContent → Option Reply
reply_of sequence none = none
reply_of sequence (some r) = some (record { version = r.version; sequence = top_set sequence; command = r.command; payload = r.payload })

-- ---- One received byte

-- A frame by the table's verdict on it. A valid request is carried out.
-- A failure changes nothing but the receive progress and the pending reply.
unfoldable pub after_verdict : List ℕ → State → Verdict → State
after_verdict image s (failure reason version sequence) = sent s (some (failure_reply reason version sequence))
after_verdict image s (good m) = let c = carry_out image s m in sent c.state (reply_of m.sequence c.reply)

-- the verdict on the bytes since the last 00; none on an empty frame, which is ignored
abbrev pub verdict_since : Option (List ℕ) → Option Verdict
verdict_since none = some (failure reason_form first_version none)
verdict_since (some []) = none
verdict_since (some (b ∷ bs)) = some (verdict (b ∷ bs))

abbrev pub after_some_verdict : List ℕ → State → Option Verdict → State
after_some_verdict image s none = s
after_some_verdict image s (some v) = after_verdict image (with_received s (some [])) v

-- the 00 behind these bytes
unfoldable pub closed : List ℕ → State → Option (List ℕ) → State
closed image s received = after_some_verdict image s (verdict_since received)

unfoldable pub receive_byte : List ℕ → State → ℕ → State
receive_byte image s b = cond (eqb b 0) (closed image s s.received) (with_received s (more_received s.received b))

-- a received stream
unfoldable pub receive_stream : List ℕ → State → List ℕ → State
receive_stream image s [] = s
receive_stream image s (b ∷ bs) = receive_stream image (receive_byte image s b) bs
