-- What each local call answers and leaves in the bytes that it is lent. This follows document 01, "When a call says no" and the rules it
-- names. Assumes nothing: these are definitions.
use Rattle.std.specs.Prelude.{Bool, cond, not, ◌&&◌, List, [], ◌∷◌, ◌++◌, ℕ, ◌+◌, ◌-◌, min, leb, ltb, eqb, length, replicate}
use Rattle.std.specs.Prelude.{get_or, ⊤, Result, Ok, Err, None, Some}
use Rattle.std.specs.declared.option.Option as code
use Rattle.refusals.specs.Refusals.{table_number, refusal_of}
use Rattle.refusals.specs.declared.Refusal.{Refusal}
use Rattle.std.proofs.Math.Option.{Option, none, some}
use Rattle.octets.specs.Bytes.{bytes, run, number_at, overlay}
use Rattle.octets.specs.Places.{LentBytes, Place, place_in, part_place}
use Rattle.line.specs.Reader
use Rattle.supervisor.specs.Limits
use Rattle.supervisor.specs.Local
use Rattle.supervisor.specs.Local.{pong}
use Rattle.supervisor.specs.Layout
use Rattle.supervisor.specs.Valid.{good_start, valid_outbox, valid_factory, valid_settings, valid_registers}
use Rattle.supervisor.specs.declared.keys.LookupError.{LookupError}
use Rattle.supervisor.specs.declared.keys.LookupError.TheVariants as lookup
use Rattle.supervisor.specs.declared.keys.Location.{Location}
use Rattle.supervisor.specs.declared.keys.Location.TheVariants as location
use Rattle.supervisor.specs.declared.registers.Asked.{Asked}
use Rattle.supervisor.specs.declared.registers.Kind.{Kind}
use Rattle.supervisor.specs.declared.registers.Kind.TheVariants as kind
use Rattle.supervisor.specs.declared.registers.Entry.{Entry}

-- ---- Start

pub record Parts : Type 0 where
  pub reader : List ℕ
  pub outbox : List ℕ
  pub factory : List ℕ
  pub settings : List ℕ
  pub registers : List ℕ

-- parts by their names, in this order
abbrev pub parts : List ℕ → List ℕ → List ℕ → List ℕ → List ℕ → Parts
parts reader outbox factory settings registers =
    record { reader = reader; outbox = outbox; factory = factory; settings = settings; registers = registers }

-- every part has its published length
unfoldable pub long_enough : Parts → Bool
long_enough p =
    leb Reader.reader_length (length p.reader)
    && (leb Layout.outbox_length (length p.outbox)
    && (leb Layout.factory-length (length p.factory)
    && (leb Layout.settings_length (length p.settings)
    && leb Layout.registers_length (length p.registers))))

-- Status is 1. Every other register, every setting and the outbox are 0.
-- The factory store has the start data, and key 2's version and key 0's text.
unfoldable pub fresh_parts : List ℕ → Parts → Parts
fresh_parts d p = record {
  reader = Reader.reader_fresh p.reader;
  outbox = overlay 0 (replicate Layout.outbox_length 0) p.outbox;
  factory = overlay 0 (d ++ bytes 4 0 ++ pong) p.factory;
  settings = overlay 0 (replicate Layout.settings_length 0) p.settings;
  registers = overlay 0 (bytes 8 1 ++ replicate (Layout.registers_length - 8) 0) p.registers;
}

-- the table's number of a refusal; none where the call is carried out
abbrev pub start_report : Result ⊤ Refusal → Option ℕ
start_report r = refusal_of r

pub record StartOutcome : Type 0 where
  pub refusal : Option ℕ
  pub parts : Parts

abbrev pub start_outcome : Result ⊤ Refusal → Parts → StartOutcome
start_outcome r p = record { refusal = start_report r; parts = p }

-- the room alone is tested for 12, then the start data for 11
unfoldable pub start_promise : List ℕ → Parts → StartOutcome
start_promise d p =
    cond (long_enough p)
    (cond (good_start d) (record { refusal = none; parts = fresh_parts d p }) (record { refusal = some 11; parts = p }))
    (record { refusal = some 12; parts = p })

-- ---- Take

-- how many bytes were moved, or the table's number
pub data TakeReport : Type 0 where
  moved : ℕ → TakeReport
  refused : ℕ → TakeReport

abbrev pub take_report : Result ℕ Refusal → TakeReport
take_report (Ok n) = moved n
take_report (Err why) = refused (table_number why)

pub record TakeOutcome : Type 0 where
  pub report : TakeReport
  pub outbox : List ℕ
  pub room : List ℕ

abbrev pub take_outcome : Result ℕ Refusal → List ℕ → List ℕ → TakeOutcome
take_outcome r outbox room = record { report = take_report r; outbox = outbox; room = room }

-- whether the last of some bytes is not zero
abbrev pub last_non_zero_flag : List ℕ → ℕ
last_non_zero_flag bs = cond (eqb (get_or bs (length bs - 1) 0) 0) 0 1

-- the outbox after bytes were taken
unfoldable pub outbox_after_take : List ℕ → List ℕ → List ℕ
outbox_after_take [] o = o
outbox_after_take (b ∷ bs) o =
    overlay Layout.outbox_terminator_owed_offset (last_non_zero_flag (b ∷ bs) ∷ [])
    (overlay Layout.outbox_from_offset (bytes 2 (Layout.outbox_from o + length (b ∷ bs))) o)

-- the smaller of the room and the bytes pending
abbrev pub takeable : List ℕ → List ℕ → ℕ
takeable o room = min (length room) (Layout.outbox_to o - Layout.outbox_from o)

abbrev pub takeable_bytes : List ℕ → List ℕ → List ℕ
takeable_bytes o room = run (Layout.outbox_bytes_offset + Layout.outbox_from o) (takeable o room) o

unfoldable pub take_promise : List ℕ → List ℕ → TakeOutcome
take_promise o room =
    cond (valid_outbox o)
    (record {
      report = moved (takeable o room);
      outbox = outbox_after_take (takeable_bytes o room) o;
      room = overlay 0 (takeable_bytes o room) room;
    })
    (record { report = refused 12; outbox = o; room = room })

-- ---- Post an alert

abbrev pub post_report : Result ⊤ Refusal → Option ℕ
post_report r = refusal_of r

-- a call that changes the registers alone
pub record RegistersOutcome : Type 0 where
  pub refusal : Option ℕ
  pub registers : List ℕ

abbrev pub registers_outcome : Option ℕ → List ℕ → RegistersOutcome
registers_outcome n r = record { refusal = n; registers = r }

-- the alert behind those that wait, one more that waits, status bit 1
unfoldable pub with_alert : List ℕ → ℕ → List ℕ → List ℕ
with_alert r action text =
    overlay Layout.status_offset (bytes 8 (Local.set_bit (Layout.status_of r) 1))
    (overlay Layout.alert_count_offset (bytes 1 (Layout.alert_count r + 1))
    (overlay (Layout.alert_offset (Layout.alert_count r)) (bytes 2 (length text) ++ (bytes 1 action ++ text)) r))

-- tests 12, 13, 9, 10
unfoldable pub post_promise : List ℕ → ℕ → List ℕ → RegistersOutcome
post_promise r action text =
    cond (valid_registers r)
    (cond (eqb action 0) (registers_outcome (some 13) r)
    (cond (ltb Limits.longest_alert (length text)) (registers_outcome (some 9) r)
    (cond (ltb (Layout.alert_count r) Limits.most_alerts) (registers_outcome none (with_alert r action text))
    (registers_outcome (some 10) r))))
    (registers_outcome (some 12) r)

-- ---- Set options

abbrev pub options_report : Result ⊤ Refusal → Option ℕ
options_report r = refusal_of r

unfoldable pub options_promise : List ℕ → ℕ → RegistersOutcome
options_promise r options =
    cond (valid_registers r)
    (cond (Local.options_allowed options) (registers_outcome none (overlay Layout.options_offset (bytes 8 options) r))
    (registers_outcome (some 13) r))
    (registers_outcome (some 12) r)

-- ---- Look a key up

-- where a key's value lies: from which byte of a store, and how many
unfoldable pub setting_at : List ℕ → ℕ → Location
setting_at s at =
    cond (eqb (Layout.setting_held s at) 1) (location.Settings (at + Layout.setting_value_offset) (Layout.setting_length s at))
    location.Nowhere

-- of a key from 0 to 6; the passphrase is not handed out
unfoldable pub location_of : List ℕ → List ℕ → ℕ → Location
location_of f s key =
    cond (eqb key 0) (location.Factory Layout.pong_offset 4)
    (cond (eqb key 1) (location.Factory Layout.image_id_offset (Layout.image_id_length f))
    (cond (eqb key 2) (location.Factory Layout.item_count_offset 8)
    (cond (eqb key Limits.passphrase_key) location.SetOnly
    (setting_at s (Layout.setting_offset key)))))

-- the result of a lookup and how many bytes were found, or the table's number
pub data LookupReport : Type 0 where
  result : ℕ → ℕ → LookupReport
  refused : ℕ → LookupReport

-- the number of a lookup that hands nothing out
abbrev pub lookup_number : LookupError → ℕ
lookup_number lookup.Refused = 12
lookup_number lookup.BadKey = 1
lookup_number lookup.NoValue = 2
lookup_number lookup.TooLong = 3
lookup_number lookup.SetOnly = 4

abbrev pub lookup_report : Result ℕ LookupError → LookupReport
lookup_report (Ok n) = result 0 n
lookup_report (Err lookup.Refused) = refused 12
lookup_report (Err lookup.BadKey) = result 1 0
lookup_report (Err lookup.NoValue) = result 2 0
lookup_report (Err lookup.TooLong) = result 3 0
lookup_report (Err lookup.SetOnly) = result 4 0

-- the number of a lookup's result
abbrev pub result_number : LookupReport → ℕ
result_number (result n k) = n
result_number (refused n) = n

abbrev pub sized : ℕ → ℕ → LookupReport
sized most n = cond (ltb most n) (result 3 0) (result 0 n)

unfoldable pub result_at : ℕ → Location → LookupReport
result_at most (location.Factory at n) = sized most n
result_at most (location.Settings at n) = sized most n
result_at most location.Nowhere = result 2 0
result_at most location.SetOnly = result 4 0

-- of a key whose value lies at p, in stores of any bytes
abbrev pub found_at_promise : ℕ → ℕ → Location → LookupReport
found_at_promise key most p = cond (ltb Limits.highest_key key) (result 1 0) (result_at most p)

unfoldable pub lookup_result_promise : List ℕ → List ℕ → ℕ → ℕ → LookupReport
lookup_result_promise f s key most =
    cond (valid_factory f && valid_settings s) (found_at_promise key most (location_of f s key)) (refused 12)

-- the result of a key's edition and the edition, or the table's number
pub data EditionReport : Type 0 where
  result : ℕ → ℕ → EditionReport
  refused : ℕ → EditionReport

abbrev pub edition_report : Result ℕ LookupError → EditionReport
edition_report (Ok n) = EditionReport.result 0 n
edition_report (Err lookup.Refused) = EditionReport.refused 12
edition_report (Err lookup.BadKey) = EditionReport.result 1 0
edition_report (Err lookup.NoValue) = EditionReport.result 2 0
edition_report (Err lookup.TooLong) = EditionReport.result 3 0
edition_report (Err lookup.SetOnly) = EditionReport.result 4 0

-- the edition, 0 where none is handed out
abbrev pub edition_number : EditionReport → ℕ
edition_number (EditionReport.result n edition) = edition
edition_number (EditionReport.refused n) = 0

-- a factory key has edition 0, a settings key the one in its setting
unfoldable pub edition_report_at : List ℕ → ℕ → Location → EditionReport
edition_report_at s key (location.Factory at n) = EditionReport.result 0 0
edition_report_at s key (location.Settings at n) = EditionReport.result 0 (Layout.setting_edition s (Layout.setting_offset key))
edition_report_at s key location.Nowhere = EditionReport.result 2 0
edition_report_at s key location.SetOnly = EditionReport.result 4 0

abbrev pub edition_at_promise : List ℕ → ℕ → Location → EditionReport
edition_at_promise s key p = cond (ltb Limits.highest_key key) (EditionReport.result 1 0) (edition_report_at s key p)

unfoldable pub edition_promise : List ℕ → List ℕ → ℕ → EditionReport
edition_promise f s key =
    cond (valid_factory f && valid_settings s) (edition_at_promise s key (location_of f s key)) (EditionReport.refused 12)

abbrev pub within : ℕ → ℕ → List ℕ → List ℕ
within most n v = cond (ltb most n) [] v

unfoldable pub value_in : List ℕ → List ℕ → ℕ → Location → List ℕ
value_in f s most (location.Factory at n) = within most n (run at n f)
value_in f s most (location.Settings at n) = within most n (run at n s)
value_in f s most location.Nowhere = []
value_in f s most location.SetOnly = []

abbrev pub value_at_promise : List ℕ → List ℕ → ℕ → ℕ → Location → List ℕ
value_at_promise f s key most p = cond (ltb Limits.highest_key key) [] (value_in f s most p)

-- a result other than 0 and a refusal hand out an empty part
unfoldable pub lookup_promise : List ℕ → List ℕ → ℕ → ℕ → List ℕ
lookup_promise f s key most = cond (valid_factory f && valid_settings s) (value_at_promise f s key most (location_of f s key)) []

-- Where n bytes at an offset of a store begin.
-- If they are more than asked for, the part is empty and begins where the store does.
abbrev pub place_within : ℕ → ℕ → LentBytes → ℕ → Place
place_within most n s at = place_in s (cond (ltb most n) 0 at)

-- the part lies in the store that holds the value
unfoldable pub value_place : LentBytes → LentBytes → ℕ → Location → Place
value_place f s most (location.Factory at n) = place_within most n f at
value_place f s most (location.Settings at n) = place_within most n s at
value_place f s most location.Nowhere = place_in f 0
value_place f s most location.SetOnly = place_in f 0

-- an empty part for want of a value, and a refused call's, begins where the factory store does
unfoldable pub lookup_place : LentBytes → LentBytes → ℕ → ℕ → Place
lookup_place f s key most =
    cond (valid_factory f.now && valid_settings s.now)
    (cond (ltb Limits.highest_key key) (place_in f 0) (value_place f s most (location_of f.now s.now key)))
    (place_in f 0)

-- The same of a location that need not lie within its store.
-- A part that would begin behind the store is empty and begins where the store does.
abbrev pub part_within : ℕ → ℕ → LentBytes → ℕ → Place
part_within most n s at = cond (ltb most n) (place_in s 0) (part_place s at)

unfoldable pub part_place_at : LentBytes → LentBytes → ℕ → Location → Place
part_place_at f s most (location.Factory at n) = part_within most n f at
part_place_at f s most (location.Settings at n) = part_within most n s at
part_place_at f s most location.Nowhere = place_in f 0
part_place_at f s most location.SetOnly = place_in f 0

abbrev pub value_at_place : LentBytes → LentBytes → ℕ → ℕ → Location → Place
value_at_place f s key most p = cond (ltb Limits.highest_key key) (place_in f 0) (part_place_at f s most p)

-- ---- Read the line signal, the two flags, a record

-- what is read, or the table's number
pub data RegisterReport (A : Type 0) : Type 0 where
  is : A → RegisterReport A
  refused : ℕ → RegisterReport A

abbrev pub signal_report : Result Bool Refusal → RegisterReport Bool
signal_report (Ok asserted) = is asserted
signal_report (Err why) = RegisterReport.refused (table_number why)

-- asserted exactly when status is not 0
unfoldable pub signal_promise : List ℕ → RegisterReport Bool
signal_promise r = cond (valid_registers r) (is (not (eqb (Layout.status_of r) 0))) (RegisterReport.refused 12)

-- reboot asked for, power off asked for
abbrev pub flags_report : Result Asked Refusal → RegisterReport (Bool × Bool)
flags_report (Ok a) = is (a.reboot, a.power_off)
flags_report (Err why) = RegisterReport.refused (table_number why)

unfoldable pub flags_promise : List ℕ → RegisterReport (Bool × Bool)
flags_promise r =
    cond (valid_registers r) (is (eqb (number_at 1 r Layout.reboot_offset) 1, eqb (number_at 1 r Layout.power_off_offset) 1))
    (RegisterReport.refused 12)

unfoldable pub record_offset : Kind → ℕ
record_offset kind.BootFailure = Layout.boot_failure_offset
record_offset kind.Panic = Layout.panic_offset

-- a record: its code, the whole length of its rest, and how many bytes of the rest are kept
pub record RecordRead : Type 0 where
  pub code : ℕ
  pub whole : ℕ
  pub kept : ℕ

abbrev pub record_report : Result (code.Option Entry) Refusal → RegisterReport (Option RecordRead)
record_report (Ok None) = is none
record_report (Ok (Some e)) = is (some (record { code = e.code; whole = e.whole; kept = e.kept }))
record_report (Err why) = RegisterReport.refused (table_number why)

abbrev pub kept_count : List ℕ → ℕ → ℕ
kept_count r at = min (Layout.record_whole r at) Limits.most_kept

unfoldable pub record_at : List ℕ → ℕ → Option RecordRead
record_at r at =
    cond (eqb (Layout.record_held r at) 1)
    (some (record { code = Layout.record_code r at; whole = Layout.record_whole r at; kept = kept_count r at })) none

unfoldable pub record_promise : List ℕ → Kind → RegisterReport (Option RecordRead)
record_promise r k = cond (valid_registers r) (is (record_at r (record_offset k))) (RegisterReport.refused 12)

-- the kept bytes; an empty part where there is no record and in a refusal
unfoldable pub record_bytes_promise : List ℕ → Kind → List ℕ
record_bytes_promise r k =
    cond (valid_registers r)
    (cond (eqb (Layout.record_held r (record_offset k)) 1)
    (run (record_offset k + Layout.record_kept_offset) (kept_count r (record_offset k)) r)
    [])
    []

-- where the part begins: at the record's kept bytes, an empty part for want of a record where the registers do
unfoldable pub record_bytes_place : LentBytes → Kind → Place
record_bytes_place r k =
    cond (valid_registers r.now)
    (cond (eqb (Layout.record_held r.now (record_offset k)) 1) (place_in r (record_offset k + Layout.record_kept_offset)) (place_in r 0))
    (place_in r 0)
