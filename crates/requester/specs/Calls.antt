-- What each call answers and leaves in the bytes that it is lent (document 02, item 2).
-- Assumes nothing: these are definitions.
use Rattle.std.specs.Prelude.{Bool, true, false, cond, ◌&&◌, List, [], ◌∷◌, ◌++◌, ℕ, suc, ◌-◌, leb, ltb, eqb, length, take, replicate, ◌≡◌}
use Rattle.std.specs.Prelude.{◌≤◌, Result, Ok, Err, ⊤}
use Rattle.std.specs.Prelude as Std
use Rattle.std.proofs.Math.Option.{Option, none, some}
use Rattle.refusals.specs.declared.Refusal.{Refusal}
use Rattle.refusals.specs.Refusals.{table_number}
use Rattle.octets.specs.Bytes.{bytes, overlay}
use Rattle.line.specs.Limits.{longest_data, longest_form}
use Rattle.line.specs.Judge.{failure, good}
use Rattle.line.specs.Reader as LineReader
use Rattle.requester.specs.Limits.{last_number}
use Rattle.requester.specs.State
use Rattle.requester.specs.State.{fetch, acknowledge, alert, is_some, request_frame}
use Rattle.requester.specs.Requester
use Rattle.requester.specs.Requester.{Heard, ground, HeardOutcome, stays_out, hear, settle}
use Rattle.requester.specs.Layout
use Rattle.requester.specs.Valid.{valid_requester}
use Rattle.requester.specs.declared.outcome.Handed.{Handed}
use Rattle.requester.specs.declared.outcome.Handed.TheVariants as handed
use Rattle.requester.specs.declared.receive.Received.{Received}
use Rattle.requester.specs.declared.state.Stage.{Stage}
use Rattle.requester.specs.declared.state.Stage.TheVariants as stage
use Rattle.requester.specs.declared.state.Standing.{Standing}

-- ---- Start

pub record MainParts : Type 0 where
  pub reader : List ℕ
  pub requester : List ℕ

abbrev pub main_parts : List ℕ → List ℕ → MainParts
main_parts reader requester = record { reader = reader; requester = requester }

-- every part has its published length
unfoldable pub main_long_enough : MainParts → Bool
main_long_enough p = leb LineReader.reader_length (length p.reader) && leb Layout.requester_length (length p.requester)

-- no number used, nothing kept, no recovery, nothing to go out: every byte of both parts' published lengths is 0
unfoldable pub main_fresh_parts : MainParts → MainParts
main_fresh_parts p =
    main_parts (LineReader.reader_start_promise p.reader).state (overlay 0 (replicate Layout.requester_length 0) p.requester)

-- the table's number of a refusal; none where the call is carried out
unfoldable pub main_start_report : Result ⊤ Refusal → Option ℕ
main_start_report (Ok u) = none
main_start_report (Err why) = some (table_number why)

pub record MainStartOutcome : Type 0 where
  pub refusal : Option ℕ
  pub parts : MainParts

abbrev pub main_start_outcome : Result ⊤ Refusal → MainParts → MainStartOutcome
main_start_outcome r p = record { refusal = main_start_report r; parts = p }

-- the room alone is tested
unfoldable pub main_start_promise : MainParts → MainStartOutcome
main_start_promise p =
    cond (main_long_enough p) (record { refusal = none; parts = main_fresh_parts p }) (record { refusal = some 12; parts = p })

-- ---- The part's first fields: newest number, recovery, whether the frame is to go out, whether a request is kept

unfoldable pub progressed : ℕ → ℕ → ℕ → ℕ → List ℕ → List ℕ
progressed number recovery unsent kept r = overlay Layout.number_offset (bytes 8 number ++ recovery ∷ unsent ∷ kept ∷ []) r

-- ---- Request, send

-- how many bytes were put out, or the table's number
pub data PutReport : Type 0 where
  wrote : ℕ → PutReport
  refused : ℕ → PutReport

unfoldable pub request_report : Result ℕ Refusal → PutReport
request_report (Ok n) = wrote n
request_report (Err why) = refused (table_number why)

unfoldable pub send_report : Result ℕ Refusal → PutReport
send_report (Ok n) = wrote n
send_report (Err why) = refused (table_number why)

-- what a call answered, the room and the part as it left them
pub record PutOutcome : Type 0 where
  pub report : PutReport
  pub out : List ℕ
  pub requester : List ℕ

abbrev pub put_outcome : PutReport → List ℕ → List ℕ → PutOutcome
put_outcome a out r = record { report = a; out = out; requester = r }

-- bytes at the start of the room, where they fit
unfoldable pub put_into : List ℕ → List ℕ → List ℕ → List ℕ → PutOutcome
put_into bs out before after =
    cond (ltb (length out) (length bs)) (put_outcome (refused 8) out before) (put_outcome (wrote (length bs)) (overlay 0 bs out) after)

-- a request under the newest number, kept unless it never stays outstanding
unfoldable pub with_request : ℕ → ℕ → List ℕ → List ℕ → List ℕ
with_request number command d r =
    cond (stays_out command)
    (overlay Layout.command_offset (command ∷ bytes 2 (length d) ++ d) (progressed number 0 0 1 r))
    (progressed number 0 0 0 r)

-- tests 12, 9, 17, 14, 8
unfoldable pub request_promise : List ℕ → ℕ → List ℕ → List ℕ → PutOutcome
request_promise r command d out =
    cond (valid_requester r)
    (cond (ltb longest_data (length d)) (put_outcome (refused 9) out r)
    (cond (Layout.is_outstanding r) (put_outcome (refused 17) out r)
    (cond (leb last_number (Layout.newest_number r)) (put_outcome (refused 14) out r)
    (put_into (request_frame (suc (Layout.newest_number r)) (record { command = command; payload = d })) out r
    (with_request (suc (Layout.newest_number r)) command d r)))))
    (put_outcome (refused 12) out r)

-- tests 12, 8; nothing goes out where nothing is to
unfoldable pub send_promise : List ℕ → List ℕ → PutOutcome
send_promise r out =
    cond (valid_requester r)
    (cond (Layout.is_unsent r)
    (put_into (request_frame (Layout.newest_number r) (Layout.out_request r)) out r (overlay Layout.unsent_offset (0 ∷ []) r))
    (put_outcome (wrote 0) out r))
    (put_outcome (refused 12) out r)

-- ---- Interrupt

unfoldable pub interrupt_report : Result ⊤ Refusal → Option ℕ
interrupt_report (Ok u) = none
interrupt_report (Err why) = some (table_number why)

pub record InterruptOutcome : Type 0 where
  pub refusal : Option ℕ
  pub requester : List ℕ

abbrev pub interrupt_outcome : Option ℕ → List ℕ → InterruptOutcome
interrupt_outcome n r = record { refusal = n; requester = r }

-- tests 12, and 14 where it would begin a recovery
unfoldable pub interrupt_promise : List ℕ → InterruptOutcome
interrupt_promise r =
    cond (valid_requester r)
    (cond (eqb (Layout.recovery_of r) 0)
    (cond (leb last_number (Layout.newest_number r)) (interrupt_outcome (some 14) r)
    (interrupt_outcome none (progressed (suc (Layout.newest_number r)) (Layout.step_number (some fetch)) 1 (Layout.kept_flag r) r)))
    (interrupt_outcome none r))
    (interrupt_outcome (some 12) r)

-- ---- Receive

-- what is handed out, in numbers
pub data HandedReport : Type 0 where
  -- the table's number
  refused : ℕ → HandedReport
  nothing : HandedReport
  -- version, sequence, command and how many bytes of data
  answered : ℕ → ℕ → ℕ → ℕ → HandedReport
  -- status, options, and how many bits of the status are set
  status : ℕ → ℕ → ℕ → HandedReport
  alerted : ℕ → ℕ → ℕ → ℕ → HandedReport

unfoldable pub handed_report : Std.Option Handed → HandedReport
handed_report Std.None = nothing
handed_report (Std.Some (handed.Answer h)) = answered h.version h.sequence h.command h.length
handed_report (Std.Some (handed.Status s)) = status s.status s.options s.set_bits
handed_report (Std.Some (handed.Alert h)) = alerted h.version h.sequence h.command h.length

unfoldable pub handed_report_of : Requester.Handed → HandedReport
handed_report_of Requester.nothing = nothing
handed_report_of (Requester.answered m) = answered m.version m.sequence m.command (length m.payload)
handed_report_of (Requester.status s o n) = status s o n
handed_report_of (Requester.alerted m) = alerted m.version m.sequence m.command (length m.payload)

-- more than 4,140 bytes of a frame have come, by the answer of the line reader's `tail`
abbrev pub is_longer : LineReader.TailReport → Bool
is_longer (LineReader.TailReport.refused n) = false
is_longer (LineReader.unfinished n) = false
is_longer LineReader.longer = true

abbrev pub is_overlong : List ℕ → Bool
is_overlong reader = is_longer (LineReader.tail_promise reader)

-- the bytes of a piece that may be read: to a frame's 4,141st, unless it has passed
abbrev pub readable_by : LineReader.TailReport → List ℕ → List ℕ
readable_by (LineReader.TailReport.refused n) piece = piece
readable_by (LineReader.unfinished n) piece = take (suc longest_form - n) piece
readable_by LineReader.longer piece = piece

abbrev pub readable : List ℕ → List ℕ → List ℕ
readable reader piece = readable_by (LineReader.tail_promise reader) piece

-- what is heard under the newest number, by the line reader's answer and the state that it left
unfoldable pub heard_of : ℕ → List ℕ → LineReader.ReadReport → Option Heard
heard_of n reader (LineReader.refused k) = none
heard_of n reader LineReader.more = cond (is_overlong reader) (some ground) none
heard_of n reader LineReader.empty = none
heard_of n reader (LineReader.failed reason sequence) = some (hear n (failure reason sequence))
heard_of n reader (LineReader.message version sequence command k) =
    some (hear n (good (record { version = version; sequence = sequence; command = command; payload = LineReader.data_promise reader k })))

-- what comes of it
unfoldable pub heard_outcome_of : List ℕ → Option Heard → HeardOutcome
heard_outcome_of r none = Requester.heard_outcome Requester.nothing Requester.same
heard_outcome_of r (some h) = settle (Layout.recovery_step r) (Layout.is_kept r) h

-- the table's number with which a recovery, and any original, ended: 14, where no new number was left; none where none ended
unfoldable pub end_report : Bool → Option ℕ
end_report false = none
end_report true = some 14

-- how a recovery ended; the part
pub record PartMoved : Type 0 where
  pub ended : Option ℕ
  pub requester : List ℕ

abbrev pub part_moved : Option ℕ → List ℕ → PartMoved
part_moved e r = record { ended = e; requester = r }

abbrev pub idle_part : List ℕ → List ℕ
idle_part r = progressed (Layout.newest_number r) 0 0 0 r

unfoldable pub part_moved_to : Requester.Next → List ℕ → PartMoved
part_moved_to Requester.same r = part_moved none r
part_moved_to Requester.again r = part_moved none (overlay Layout.unsent_offset (1 ∷ []) r)
part_moved_to (Requester.anew t) r =
    cond (leb last_number (Layout.newest_number r)) (part_moved (some 14) (idle_part r))
    (part_moved none (progressed (suc (Layout.newest_number r)) (Layout.step_number t) 1 (Layout.kept_flag r) r))
part_moved_to Requester.idle r = part_moved none (idle_part r)

-- how many bytes were read, what is handed out, how a recovery ended, whether a frame is to go out; the parts
pub record MainReceiveOutcome : Type 0 where
  pub used : ℕ
  pub report : HandedReport
  pub ended : Option ℕ
  pub unsent : Bool
  pub parts : MainParts

-- a refusal reads nothing, ends nothing and tells of no frame
abbrev pub main_receive_outcome : Result Received Refusal → MainParts → MainReceiveOutcome
main_receive_outcome (Err why) p = record {
  used = 0;
  report = HandedReport.refused (table_number why);
  ended = none;
  unsent = false;
  parts = p;
}
main_receive_outcome (Ok r) p = record {
  used = r.used;
  report = handed_report r.handed;
  ended = end_report r.ended;
  unsent = r.unsent;
  parts = p;
}

abbrev pub main_receive_by : ℕ → List ℕ → HandedReport → PartMoved → MainReceiveOutcome
main_receive_by used reader t m = record {
  used = used;
  report = t;
  ended = m.ended;
  unsent = Layout.is_unsent m.requester;
  parts = main_parts reader m.requester;
}

-- what is left of a frame of more than 4,140 bytes is dropped, with its 00
unfoldable pub main_receive_valid : MainParts → List ℕ → MainReceiveOutcome
main_receive_valid p piece =
    let o = LineReader.read_piece p.reader (readable p.reader piece) in
    let r = p.requester in
    let x = heard_outcome_of r (cond (is_overlong p.reader) none (heard_of (Layout.newest_number r) o.state o.answer)) in
    main_receive_by o.used o.state (handed_report_of x.handed) (part_moved_to x.next r)

unfoldable pub main_valid_parts : MainParts → Bool
main_valid_parts p = LineReader.valid_reader p.reader && valid_requester p.requester

unfoldable pub main_receive_promise : MainParts → List ℕ → MainReceiveOutcome
main_receive_promise p piece =
    cond (main_valid_parts p) (main_receive_valid p piece)
    (record { used = 0; report = HandedReport.refused 12; ended = none; unsent = false; parts = p })

-- ---- State

-- what is outstanding, or the table's number
pub data StateReport : Type 0 where
  refused : ℕ → StateReport
  stands : State.Standing → StateReport

unfoldable pub stage_report : Stage → State.Stage
stage_report stage.Idle = State.idle
stage_report stage.Waiting = State.waiting
stage_report stage.Fetch = State.recovering fetch
stage_report stage.Acknowledge = State.recovering acknowledge
stage_report stage.Alert = State.recovering alert

unfoldable pub standing_report : Standing → State.Standing
standing_report s = record {
  stage = stage_report s.stage;
  command = s.command;
  number = s.number;
  unsent = s.unsent;
  original = s.original;
}

unfoldable pub state_report : Result Standing Refusal → StateReport
state_report (Ok s) = stands (standing_report s)
state_report (Err why) = StateReport.refused (table_number why)

-- the one outstanding
unfoldable pub part_standing : List ℕ → State.Standing
part_standing r = record {
  stage = State.stage_in (Layout.recovery_step r);
  command = (Layout.out_request r).command;
  number = Layout.newest_number r;
  unsent = eqb (Layout.unsent_of r) 1;
  original = is_some (Layout.recovery_step r) && Layout.is_kept r;
}

-- tests 12; changes nothing
unfoldable pub state_promise : List ℕ → StateReport
state_promise r =
    cond (valid_requester r) (stands (cond (Layout.is_outstanding r) (part_standing r) State.idle_standing)) (StateReport.refused 12)

-- ---- What the parts are

-- both parts are as 12 requires
pub record MainPartsValid (p : MainParts) : Type 0 where
  pub reader : LineReader.valid_reader p.reader ≡ true
  pub requester : valid_requester p.requester ≡ true

-- both parts have their published lengths
pub record MainLongEnough (p : MainParts) : Type 0 where
  pub reader : LineReader.reader_length ≤ length p.reader
  pub requester : Layout.requester_length ≤ length p.requester
