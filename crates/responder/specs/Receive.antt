-- What a received byte does to the lent parts, and what the calls that receive answer and leave.
-- Assumes nothing: these are definitions.
use Rattle.std.specs.Prelude.{Bool, false, cond, not, ◌&&◌, ◌||◌, List, [], ◌∷◌, ◌++◌, ℕ, suc, ◌+◌, ◌-◌, ◌*◌, leb, ltb, eqb, length, take}
use Rattle.std.specs.Prelude.{drop, replicate, Result, ⊤}
use Rattle.std.proofs.Math.Option.{Option, none, some}
use Rattle.octets.specs.Bytes.{bytes, run, number_at, overlay, equal}
use Rattle.refusals.specs.declared.Refusal.{Refusal}
use Rattle.refusals.specs.Refusals.{refusal_of}
use Rattle.line.specs.Numbers.{status_length, reply_acknowledged, reply_decode_failure, reply_bsu, reply_identity, reply_mac, reply_status}
use Rattle.line.specs.Numbers.{reply_alert, reply_image_block, reply_key_lookup, reply_inventory, reply_key_set, first_version}
use Rattle.line.specs.Numbers.{second_version, command_key_set}
use Rattle.line.specs.Message.{Message}
use Rattle.line.specs.Frame.{frame}
use Rattle.line.specs.Reader as LineReader
use Rattle.supervisor.specs.Limits
use Rattle.supervisor.specs.Layout
use Rattle.supervisor.specs.Number.{top_set}
use Rattle.supervisor.specs.Valid.{valid_outbox, valid_factory, valid_settings, valid_registers}
use Rattle.counters.specs.Ended.{Ended, step_report, Served, served_report}
use Rattle.responder.specs.Commands.{Command, command_of_number}
use Rattle.responder.specs.Requests
use Rattle.responder.specs.Requests.{Verdict, failure, good}
use Rattle.supervisor.specs.Calls.{Parts, result_number, lookup_result_promise, lookup_promise, edition_number, edition_promise}
use Rattle.responder.specs.declared.head.ReplyHead.{ReplyHead}
use Rattle.responder.specs.declared.receive.Stepped.{Stepped}

-- ---- Sending

-- the bytes of a reply, or none, become the pending ones: offset 0 of the outbox' bytes is for a 00 that is owed
unfoldable pub sent_box : List ℕ → List ℕ → List ℕ
sent_box bs o =
    overlay Layout.outbox_from_offset (bytes 2 (cond (eqb (Layout.outbox_terminator_owed o) 1) 0 1) ++ bytes 2 (suc (length bs)))
    (overlay Layout.outbox_bytes_offset (0 ∷ bs) o)

-- a reply's head: version and number
abbrev pub Head : Type 0
Head = ReplyHead

-- that of a reply of this version to a request with this sequence, and to a failure with this one or none
abbrev pub reply_head : ℕ → ℕ → Head
reply_head version sequence = record { version = version; number = record { 0 = top_set sequence } }

abbrev pub failure_head : ℕ → Option ℕ → Head
failure_head version sequence = record { version = version; number = record { 0 = Requests.failure_sequence sequence } }

-- a reply's bytes
abbrev pub reply_bytes : Head → ℕ → List ℕ → List ℕ
reply_bytes reply command payload =
    frame (record { version = reply.version; sequence = reply.number.0; command = command; payload = payload })

-- ---- What a request changes: the outbox, the settings and the registers

pub record Inner : Type 0 where
  pub outbox : List ℕ
  pub settings : List ℕ
  pub registers : List ℕ

abbrev pub inner : List ℕ → List ℕ → List ℕ → Inner
inner o s r = record { outbox = o; settings = s; registers = r }

-- a reply alone
unfoldable pub reply_alone : Inner → Head → ℕ → List ℕ → Inner
reply_alone i reply command payload = inner (sent_box (reply_bytes reply command payload) i.outbox) i.settings i.registers

-- an acknowledgement, and other registers
unfoldable pub acknowledged : Inner → Head → List ℕ → Inner
acknowledged i reply r = inner (sent_box (reply_bytes reply reply_acknowledged []) i.outbox) i.settings r

-- no reply, and other registers
unfoldable pub no_reply : Inner → List ℕ → Inner
no_reply i r = inner (sent_box [] i.outbox) i.settings r

-- a reboot or a power-off asked for, by the offset of its flag: the flag is set, and no reply is retained
unfoldable pub asked_for : List ℕ → ℕ → List ℕ
asked_for r flag = overlay Layout.retained_offset (0 ∷ []) (overlay flag (1 ∷ []) r)

-- a record, with its code and its rest
unfoldable pub with_record : List ℕ → ℕ → ℕ → List ℕ → List ℕ
with_record r at code rest =
    overlay at (bytes 1 1 ++ (bytes 2 code ++ (bytes 2 (length rest) ++ take Limits.most_kept rest))) r

-- the retained reply's action and text
abbrev pub retained_data : List ℕ → List ℕ
retained_data r =
    run (Layout.retained_alert_offset + Layout.alert_action_offset) (1 + Layout.alert_text_length r Layout.retained_alert_offset) r

-- the oldest alert is retained, with the request's version and sequence, and the others move down; or action 0 and no text is retained
unfoldable pub with_reply : List ℕ → ℕ → ℕ → List ℕ
with_reply r version sequence =
    overlay Layout.retained_offset
    (bytes 1 version
    ++ (bytes 8 sequence ++ cond (eqb (Layout.alert_count r) 0) (replicate 3 0) (run Layout.alerts_offset Layout.alert_length r)))
    r

unfoldable pub moved_alerts : List ℕ → List ℕ
moved_alerts r = overlay Layout.alerts_offset (run (Layout.alert_offset 1) ((Limits.most_alerts - 1) * Layout.alert_length) r) r

unfoldable pub with_taken : List ℕ → ℕ → ℕ → List ℕ
with_taken r version sequence =
    overlay Layout.status_offset
    (bytes 8 (cond (leb (Layout.alert_count r) 1) (Requests.clear_bit (Layout.status_of r) 1) (Layout.status_of r)))
    (overlay Layout.alert_count_offset (bytes 1 (Layout.alert_count r - 1))
    (moved_alerts (with_reply r version sequence)))

-- whether a reply is retained with this sequence
unfoldable pub is_retained : List ℕ → ℕ → Bool
is_retained r sequence = not (eqb (Layout.retained_version r) 0) && eqb (number_at 8 r Layout.retained_sequence_offset) sequence

-- the registers after an alert request: as they are where its reply is retained
unfoldable pub alert_registers : List ℕ → ℕ → ℕ → List ℕ
alert_registers r version sequence = cond (is_retained r sequence) r (with_taken r version sequence)

pub record AlertParts : Type 0 where
  pub outbox : List ℕ
  pub registers : List ℕ

abbrev pub alert_parts : List ℕ → List ℕ → AlertParts
alert_parts o r = record { outbox = o; registers = r }

-- the retained reply goes out in its own version
unfoldable pub alert_answered : List ℕ → List ℕ → ℕ → ℕ → AlertParts
alert_answered o r version sequence =
    let q = alert_registers r version sequence in
    alert_parts (sent_box (reply_bytes (reply_head (Layout.retained_version q) sequence) reply_alert (retained_data q)) o) q

-- an item's reply: result, name and type, and its data where the result is 0
unfoldable pub item_data_length : List ℕ → ℕ → ℕ
item_data_length f at = cond (eqb (number_at 1 f at) 0) (number_at 1 f (at + Layout.item_data_length_offset)) 0

unfoldable pub item_bytes : List ℕ → ℕ → List ℕ
item_bytes f index =
    cond (ltb index (Layout.item_count f))
    (run (Layout.item_offset index) Layout.item_data_length_offset f
    ++ run (Layout.item_offset index + Layout.item_data_offset) (item_data_length f (Layout.item_offset index)) f)
    (1 ∷ replicate 33 0)

unfoldable pub block_bytes : List ℕ → List ℕ → List ℕ → List ℕ
block_bytes f image d =
    cond (equal (run 0 Layout.hash_length d) (run Layout.hash_offset Layout.hash_length f))
    (take Limits.longest_block (drop (number_at 8 d Layout.hash_length) image)) []

-- the result, and in version 2 the edition where the result is 0
abbrev pub carries_edition : ℕ → ℕ → Bool
carries_edition version result = eqb version second_version && eqb result 0

unfoldable pub value_head : ℕ → ℕ → ℕ → List ℕ
value_head version result edition = bytes 1 result ++ cond (carries_edition version result) (bytes 4 edition) []

unfoldable pub value_bytes : ℕ → List ℕ → List ℕ → List ℕ → List ℕ
value_bytes version f s d =
    let key = number_at 1 d 0 in
    let most = number_at 2 d 1 in
    value_head version (result_number (lookup_result_promise f s key most)) (edition_number (edition_promise f s key))
    ++ lookup_promise f s key most

-- the value of a key in its setting, one edition on, where so many bytes of the value before become 0 first
unfoldable pub with_value : List ℕ → ℕ → ℕ → List ℕ → List ℕ
with_value s at cleared v =
    overlay at (Layout.setting_bytes (suc (Layout.setting_edition s at)) v)
    (overlay (at + Layout.setting_value_offset) (replicate cleared 0) s)

-- all of the passphrase's, so that nothing of a longer one stays; none of any other key's
unfoldable pub cleared_for : ℕ → ℕ
cleared_for key = cond (eqb key Limits.passphrase_key) (Limits.longest_setting key) 0

pub record KeyStored : Type 0 where
  pub result : ℕ
  pub settings : List ℕ

abbrev pub key_stored : ℕ → List ℕ → KeyStored
key_stored n s = record { result = n; settings = s }

unfoldable pub store_bytes_at : List ℕ → ℕ → ℕ → ℕ → ℕ → List ℕ → KeyStored
store_bytes_at s at shortest longest cleared v =
    cond (ltb (length v) shortest || ltb longest (length v)) (key_stored 3 s)
    (cond (eqb (Layout.setting_edition s at) Limits.last_edition) (key_stored 4 s)
    (key_stored 0 (with_value s at cleared v)))

unfoldable pub store_bytes : List ℕ → ℕ → List ℕ → KeyStored
store_bytes s key v =
    cond (ltb Limits.highest_key key) (key_stored 1 s)
    (cond (ltb key Limits.first_setting) (key_stored 2 s)
    (store_bytes_at s (Layout.setting_offset key) (Limits.shortest_setting key) (Limits.longest_setting key) (cleared_for key)
    v))

pub record KeySet : Type 0 where
  pub result : ℕ
  pub outbox : List ℕ
  pub settings : List ℕ

abbrev pub key_set_parts : ℕ → List ℕ → List ℕ → KeySet
key_set_parts n o s = record { result = n; outbox = o; settings = s }

unfoldable pub key_set_answered : List ℕ → List ℕ → Head → List ℕ → KeySet
key_set_answered o s reply d =
    let t = store_bytes s (number_at 1 d 0) (drop 1 d) in
    key_set_parts t.result (sent_box (reply_bytes reply reply_key_set (bytes 1 t.result)) o) t.settings

-- ---- A valid request: its command, version, sequence and data

-- what each command leaves
unfoldable pub command_leaves : Command → List ℕ → List ℕ → Inner → ℕ → ℕ → List ℕ → Inner
command_leaves Command.reboot image f i version sequence d = no_reply i (asked_for i.registers Layout.reboot_offset)
command_leaves Command.power-off image f i version sequence d = no_reply i (asked_for i.registers Layout.power_off_offset)
command_leaves Command.bsu image f i version sequence d = reply_alone i (reply_head version sequence) reply_bsu (run Layout.bsu_offset 1 f)
command_leaves Command.identity image f i version sequence d =
    reply_alone i (reply_head version sequence) reply_identity (run Layout.identity_offset Layout.identity_length f)
command_leaves Command.mac image f i version sequence d =
    reply_alone i (reply_head version sequence) reply_mac (run Layout.mac_offset Layout.mac_length f)
command_leaves Command.boot-failure image f i version sequence d =
    no_reply i (with_record i.registers Layout.boot_failure_offset (number_at 1 d 0) (drop 1 d))
command_leaves Command.panic image f i version sequence d =
    acknowledged i (reply_head version sequence) (with_record i.registers Layout.panic_offset (number_at 2 d 0) (drop 2 d))
command_leaves Command.status image f i version sequence d =
    reply_alone i (reply_head version sequence) reply_status (run Layout.status_offset status_length i.registers)
command_leaves Command.start-acknowledged image f i version sequence d =
    acknowledged i (reply_head version sequence)
    (overlay Layout.status_offset (bytes 8 (Requests.clear_bit (Layout.status_of i.registers) 0)) i.registers)
command_leaves Command.alert image f i version sequence d =
    let a = alert_answered i.outbox i.registers version sequence in inner a.outbox i.settings a.registers
command_leaves Command.image_block image f i version sequence d =
    reply_alone i (reply_head version sequence) reply_image_block (block_bytes f image d)
command_leaves Command.key_lookup image f i version sequence d =
    reply_alone i (reply_head version sequence) reply_key_lookup (value_bytes version f i.settings d)
command_leaves Command.inventory image f i version sequence d =
    reply_alone i (reply_head version sequence) reply_inventory (item_bytes f (number_at 4 d 0))
command_leaves Command.key_set image f i version sequence d =
    let k = key_set_answered i.outbox i.settings (reply_head version sequence) d in inner k.outbox k.settings i.registers

abbrev pub command_leaves_where : Option Command → List ℕ → List ℕ → Inner → ℕ → ℕ → List ℕ → Inner
command_leaves_where none image f i version sequence d = i
command_leaves_where (some x) image f i version sequence d = command_leaves x image f i version sequence d

unfoldable pub carried_inner : List ℕ → List ℕ → Inner → ℕ → ℕ → ℕ → List ℕ → Inner
carried_inner image f i version sequence command d = command_leaves_where (command_of_number command) image f i version sequence d

-- ---- A frame, by the table's verdict on it

unfoldable pub inner_by : List ℕ → List ℕ → Inner → Verdict → Inner
inner_by image f i (failure reason version sequence) = reply_alone i (failure_head version sequence) reply_decode_failure (bytes 1 reason)
inner_by image f i (good m) = carried_inner image f i m.version m.sequence m.command m.payload

abbrev pub message_with : ℕ → ℕ → ℕ → List ℕ → Message
message_with version sequence command d = record { version = version; sequence = sequence; command = command; payload = d }

-- the table's verdict by the line reader's answer and the state that it left; none where no frame ended that is not empty
unfoldable pub verdict_of : List ℕ → LineReader.ReadReport → Option Verdict
verdict_of reader (LineReader.refused n) = none
verdict_of reader LineReader.more = none
verdict_of reader LineReader.empty = none
verdict_of reader (LineReader.failed reason sequence) = some (failure reason first_version sequence)
verdict_of reader (LineReader.message version sequence command n) =
    some (Requests.tested (message_with version sequence command (LineReader.data_promise reader n)))

unfoldable pub inner_after : List ℕ → List ℕ → Inner → Option Verdict → Inner
inner_after image f i none = i
inner_after image f i (some v) = inner_by image f i v

-- ---- The passphrase's frame (document 02, item 14)

-- a key set of the passphrase that the line layer found good, whatever the table says of it
abbrev pub is_passphrase_set : ℕ → List ℕ → Bool
is_passphrase_set command d = eqb command command_key_set && eqb (number_at 1 d 0) Limits.passphrase_key

unfoldable pub sets_passphrase : List ℕ → LineReader.ReadReport → Bool
sets_passphrase reader (LineReader.refused n) = false
sets_passphrase reader LineReader.more = false
sets_passphrase reader LineReader.empty = false
sets_passphrase reader (LineReader.failed reason sequence) = false
sets_passphrase reader (LineReader.message version sequence command n) = is_passphrase_set command (LineReader.data_promise reader n)

-- the reader's part behind a frame: begun anew by the line layer where the frame was such a set, so that nothing of it stays
unfoldable pub reader_behind : List ℕ → LineReader.ReadReport → List ℕ
reader_behind reader a = cond (sets_passphrase reader a) (LineReader.reader_start_promise reader).state reader

-- the same behind a message with so many bytes of data
abbrev pub behind_message : List ℕ → ℕ → ℕ → List ℕ
behind_message reader command n =
    cond (is_passphrase_set command (LineReader.data_promise reader n)) (LineReader.reader_start_promise reader).state reader

-- ---- One byte

abbrev pub parts_with : Parts → List ℕ → Inner → Parts
parts_with p reader i =
    record { reader = reader; outbox = i.outbox; factory = p.factory; settings = i.settings; registers = i.registers }

abbrev pub inner_of : Parts → Inner
inner_of p = inner p.outbox p.settings p.registers

-- by the line reader's answer and the state that it left
unfoldable pub after_answer : List ℕ → Parts → List ℕ → LineReader.ReadReport → Parts
after_answer image p reader a = parts_with p (reader_behind reader a) (inner_after image p.factory (inner_of p) (verdict_of reader a))

unfoldable pub feed_byte : List ℕ → Parts → ℕ → Parts
feed_byte image p b =
    cond (eqb b 0)
    (after_answer image p (LineReader.finish p.reader).state (LineReader.finish p.reader).answer)
    (parts_with p (LineReader.pushed p.reader b) (inner_of p))

-- bytes, one after the other
unfoldable pub feed_bytes : List ℕ → Parts → List ℕ → Parts
feed_bytes image p [] = p
feed_bytes image p (b ∷ bs) = feed_bytes image (feed_byte image p b) bs

-- ---- The calls

-- what 12 requires of the parts that a request may change, and of all parts
unfoldable pub valid_inner : Inner → Bool
valid_inner i = valid_outbox i.outbox && (valid_settings i.settings && valid_registers i.registers)

unfoldable pub valid_parts : Parts → Bool
valid_parts p = LineReader.valid_reader p.reader && (valid_factory p.factory && valid_inner (inner_of p))

-- how a frame ended, by the table's verdict on it and by the line reader's answer
abbrev pub ended_by_verdict : Verdict → Ended
ended_by_verdict (failure reason version sequence) = Ended.failed reason
ended_by_verdict (good m) = Ended.request

-- an empty frame has no verdict
abbrev pub ended_meant : Option Verdict → Ended
ended_meant none = Ended.empty
ended_meant (some v) = ended_by_verdict v

unfoldable pub ended_by_reader : List ℕ → LineReader.ReadReport → Ended
ended_by_reader reader (LineReader.refused n) = Ended.refused n
ended_by_reader reader LineReader.more = Ended.more
ended_by_reader reader LineReader.empty = Ended.empty
ended_by_reader reader (LineReader.failed reason sequence) = Ended.failed reason
ended_by_reader reader (LineReader.message version sequence command n) =
    ended_by_verdict (Requests.tested (message_with version sequence command (LineReader.data_promise reader n)))

-- what is told of a frame, by the settings' bytes as it ends: nothing where none ended that is not empty
unfoldable pub served_by_verdict : List ℕ → Verdict → Served
served_by_verdict s (failure reason version sequence) = Served.nothing
served_by_verdict s (good m) = Requests.served_of m (store_bytes s (number_at 1 m.payload 0) (drop 1 m.payload)).result

unfoldable pub served_after : List ℕ → Option Verdict → Served
served_after s none = Served.nothing
served_after s (some v) = served_by_verdict s v

-- a call of `step` reads its piece to the end, or up to and with its first 00
pub record StepOutcome : Type 0 where
  pub used : ℕ
  pub ended : Ended
  pub served : Served
  pub parts : Parts

abbrev pub step_outcome : Stepped → Parts → StepOutcome
step_outcome r p = record { used = r.used; ended = step_report r.outcome; served = served_report r.outcome; parts = p }

unfoldable pub valid_step : List ℕ → Parts → List ℕ → StepOutcome
valid_step image p piece =
    let o = LineReader.read_piece p.reader piece in
    record {
      used = o.used;
      ended = ended_by_reader o.state o.answer;
      served = served_after p.settings (verdict_of o.state o.answer);
      parts = after_answer image p o.state o.answer;
    }

unfoldable pub step_promise : List ℕ → Parts → List ℕ → StepOutcome
step_promise image p piece =
    cond (valid_parts p) (valid_step image p piece) (record { used = 0; ended = Ended.refused 12; served = Served.nothing; parts = p })

-- a call of `receive` reads its whole piece; the table's number of a refusal, none where it is carried out
pub record ReceiveOutcome : Type 0 where
  pub refusal : Option ℕ
  pub parts : Parts

unfoldable pub receive_report : Result ⊤ Refusal → Option ℕ
receive_report = refusal_of

abbrev pub receive_outcome : Result ⊤ Refusal → Parts → ReceiveOutcome
receive_outcome r p = record { refusal = receive_report r; parts = p }

unfoldable pub receive_promise : List ℕ → Parts → List ℕ → ReceiveOutcome
receive_promise image p piece =
    cond (valid_parts p) (record { refusal = none; parts = feed_bytes image p piece }) (record { refusal = some 12; parts = p })
