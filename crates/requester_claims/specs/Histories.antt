-- Calls of the main processor's end, one after the other: what each answers and leaves by the promises, and what document 02 has of it.
-- Assumes nothing: these are definitions.
use Rattle.std.specs.Prelude.{◌≡◌, Bool, cond, ◌&&◌, List, [], ◌∷◌, ℕ, length}
use Rattle.std.proofs.Math.Option.{Option, none, some}
use Rattle.octets.specs.Bytes.{overlay}
use Rattle.line.specs.Reader as LineReader
use Rattle.line_claims.specs.Loans.{Loan, lent_part, back_part, enough_part}
use Rattle.requester.specs.State.{MainState, main_fresh, Standing, standing}
use Rattle.requester.specs.Requester
use Rattle.requester.specs.Layout
use Rattle.requester.specs.Calls
use Rattle.requester.specs.Calls.{MainParts, main_parts, HandedReport, handed_report_of, MainPartsValid}

-- ---- Calls and answers

-- a public call and its arguments
pub data MainCall : Type 0 where
  start : MainCall
  -- command, data and the room lent
  request : ℕ → List ℕ → List ℕ → MainCall
  interrupt : MainCall
  -- the room lent
  send : List ℕ → MainCall
  -- a piece of the received stream
  receive : List ℕ → MainCall
  state : MainCall

pub data MainAnswer : Type 0 where
  -- the table's number
  refused : ℕ → MainAnswer
  done : MainAnswer
  -- how many bytes were put out
  put : ℕ → MainAnswer
  -- how many bytes were read, what is handed out, the table's number with which a recovery ended, whether a frame is to go out
  received : ℕ → HandedReport → Option ℕ → Bool → MainAnswer
  -- what is outstanding
  stands : Standing → MainAnswer

-- ---- By the promises

-- what a call answers, the bytes of the caller's room or of the data handed out, and the parts that it leaves
pub record MainDid : Type 0 where
  pub answer : MainAnswer
  pub out : List ℕ
  pub parts : MainParts

abbrev pub main_did_by : MainAnswer → List ℕ → MainParts → MainDid
main_did_by a bs p = record { answer = a; out = bs; parts = p }

abbrev pub main_refusal : Option ℕ → MainAnswer
main_refusal none = done
main_refusal (some n) = refused n

abbrev pub put_answer : Calls.PutReport → MainAnswer
put_answer (Calls.wrote n) = put n
put_answer (Calls.refused n) = refused n

abbrev pub with_requester : MainParts → List ℕ → MainParts
with_requester p r = main_parts p.reader r

abbrev pub put_did : MainParts → Calls.PutOutcome → MainDid
put_did p t = main_did_by (put_answer t.report) t.out (with_requester p t.requester)

abbrev pub receive_answer : ℕ → HandedReport → Option ℕ → Bool → MainAnswer
receive_answer used (HandedReport.refused n) e u = refused n
receive_answer used Calls.nothing e u = received used Calls.nothing e u
receive_answer used (Calls.answered v q c n) e u = received used (Calls.answered v q c n) e u
receive_answer used (Calls.status s o n) e u = received used (Calls.status s o n) e u
receive_answer used (Calls.alerted v q c n) e u = received used (Calls.alerted v q c n) e u

-- the data of an answer: so many bytes, as the line layer hands them out of the reader's part at the call's return
unfoldable pub handed_data_in : HandedReport → List ℕ → List ℕ
handed_data_in (HandedReport.refused n) reader = []
handed_data_in Calls.nothing reader = []
handed_data_in (Calls.answered v q c n) reader = LineReader.data_promise reader n
handed_data_in (Calls.status s o n) reader = []
handed_data_in (Calls.alerted v q c n) reader = LineReader.data_promise reader n

unfoldable pub receipt_did : Calls.MainReceiveOutcome → MainDid
receipt_did r =
    main_did_by (receive_answer r.used r.report r.ended r.unsent) (handed_data_in r.report r.parts.reader) r.parts

abbrev pub state_answer : Calls.StateReport → MainAnswer
state_answer (Calls.StateReport.refused n) = refused n
state_answer (Calls.stands x) = stands x

unfoldable pub main_did : MainParts → MainCall → MainDid
main_did p start = let t = Calls.main_start_promise p in main_did_by (main_refusal t.refusal) [] t.parts
main_did p (request command d room) = put_did p (Calls.request_promise p.requester command d room)
main_did p interrupt =
    let t = Calls.interrupt_promise p.requester in main_did_by (main_refusal t.refusal) [] (with_requester p t.requester)
main_did p (send room) = put_did p (Calls.send_promise p.requester room)
main_did p (receive piece) = receipt_did (Calls.main_receive_promise p piece)
main_did p state = main_did_by (state_answer (Calls.state_promise p.requester)) [] p

-- ---- By document 02

pub record MainMeans : Type 0 where
  pub answer : MainAnswer
  pub out : List ℕ
  pub state : MainState

abbrev pub main_means : MainAnswer → List ℕ → MainState → MainMeans
main_means a bs s = record { answer = a; out = bs; state = s }

-- a refusal changes nothing
abbrev pub put_means : Option ℕ → List ℕ → List ℕ → MainState → MainMeans
put_means none room bs s = main_means (put (length bs)) (overlay 0 bs room) s
put_means (some n) room bs s = main_means (refused n) room s

abbrev pub main_done_means : Option ℕ → MainState → MainMeans
main_done_means n s = main_means (main_refusal n) [] s

-- the data handed out
unfoldable pub handed_data : Requester.Handed → List ℕ
handed_data Requester.nothing = []
handed_data (Requester.answered m) = m.payload
handed_data (Requester.status s o n) = []
handed_data (Requester.alerted m) = m.payload

abbrev pub receive_means : Requester.MainReceived → MainMeans
receive_means r =
    let x = r.result in
    main_means (received r.used (handed_report_of x.handed) x.ended (Requester.to_go_out x.state)) (handed_data x.handed)
    x.state

unfoldable pub main_meant : MainState → MainCall → MainMeans
main_meant s start = main_done_means none main_fresh
main_meant s (request command d room) =
    let t = Requester.request (length room) (record { command = command; payload = d }) s in
    put_means t.refusal room t.out t.state
main_meant s interrupt = let t = Requester.interrupt s in main_done_means t.refusal t.state
main_meant s (send room) = let t = Requester.send (length room) s in put_means t.refusal room t.out t.state
main_meant s (receive piece) = receive_means (Requester.receive s piece)
main_meant s state = main_means (stands (standing s)) [] s

-- ---- Calls that are lent some of the parts' bytes

-- what is lent of each part; a call that does not take a part leaves it
pub record MainLent : Type 0 where
  pub reader : Loan
  pub requester : Loan

-- the parts as lent
abbrev pub main_lent_of : MainLent → MainParts → MainParts
main_lent_of l p =
    main_parts (lent_part LineReader.reader_length l.reader p.reader) (lent_part Layout.requester_length l.requester p.requester)

-- the parts whose bytes lent came back as q
abbrev pub main_given_back : MainLent → MainParts → MainParts → MainParts
main_given_back l p q =
    main_parts (back_part LineReader.reader_length l.reader p.reader q.reader)
    (back_part Layout.requester_length l.requester p.requester q.requester)

-- whether the published length of a part is lent
abbrev pub enough_reader : MainLent → Bool
enough_reader l = enough_part LineReader.reader_length l.reader

abbrev pub enough_requester : MainLent → Bool
enough_requester l = enough_part Layout.requester_length l.requester

-- and of each part that a call takes
unfoldable pub main_enough : MainCall → MainLent → Bool
main_enough start l = enough_reader l && enough_requester l
main_enough (request command d room) l = enough_requester l
main_enough interrupt l = enough_requester l
main_enough (send room) l = enough_requester l
main_enough (receive piece) l = enough_reader l && enough_requester l
main_enough state l = enough_requester l

pub record MainMade : Type 0 where
  pub lent : MainLent
  pub call : MainCall

-- the caller's room before the call; nothing is handed out
abbrev pub main_untouched : MainCall → List ℕ
main_untouched start = []
main_untouched (request command d room) = room
main_untouched interrupt = []
main_untouched (send room) = room
main_untouched (receive piece) = []
main_untouched state = []

unfoldable pub main_made : MainParts → MainMade → MainDid
main_made p m = let d = main_did (main_lent_of m.lent p) m.call in main_did_by d.answer d.out (main_given_back m.lent p d.parts)

-- 12, and nothing changes, where too little is lent
unfoldable pub main_meant_made : MainState → MainMade → MainMeans
main_meant_made s m = cond (main_enough m.call m.lent) (main_meant s m.call) (main_means (refused 12) (main_untouched m.call) s)

-- ---- Lists of calls

-- each call's answer and what it wrote in the caller's room or handed out
pub record MainOutput : Type 0 where
  pub answer : MainAnswer
  pub out : List ℕ

unfoldable pub main_outputs : MainParts → List MainMade → List MainOutput
main_outputs p [] = []
main_outputs p (m ∷ ms) = record { answer = (main_made p m).answer; out = (main_made p m).out } ∷ main_outputs (main_made p m).parts ms

unfoldable pub main_left : MainParts → List MainMade → MainParts
main_left p [] = p
main_left p (m ∷ ms) = main_left (main_made p m).parts ms

unfoldable pub main_outputs_meant : MainState → List MainMade → List MainOutput
main_outputs_meant s [] = []
main_outputs_meant s (m ∷ ms) =
    record { answer = (main_meant_made s m).answer; out = (main_meant_made s m).out } ∷ main_outputs_meant (main_meant_made s m).state ms

unfoldable pub main_left_meant : MainState → List MainMade → MainState
main_left_meant s [] = s
main_left_meant s (m ∷ ms) = main_left_meant (main_meant_made s m).state ms

-- ---- What holds from a start on

-- each part of q is as long as p's
pub record MainLengths (p q : MainParts) : Type 0 where
  pub reader : length q.reader ≡ length p.reader
  pub requester : length q.requester ≡ length p.requester

-- a start that is lent this
abbrev pub main_start_call : MainLent → MainMade
main_start_call l = record { lent = l; call = start }

-- it is accepted, whatever bytes the parts hold
abbrev pub Accepted : MainParts → MainLent → Type 0
Accepted p l = (main_made p (main_start_call l)).answer ≡ done

-- the parts that it leaves
abbrev pub main_started : MainParts → MainLent → MainParts
main_started p l = (main_made p (main_start_call l)).parts

-- what holds of the parts that an accepted start leaves, on any bytes
abbrev pub OfMainStart : (MainParts → Type 0) → Type 0
OfMainStart P = (p : MainParts) (l : MainLent) → Accepted p l → P (main_started p l)

-- and of the parts that any calls behind it leave
abbrev pub OfReached : (MainParts → Type 0) → Type 0
OfReached P = OfMainStart (λ q. (ms : List MainMade) → P (main_left q ms))

-- what holds of any parts that are as 12 requires
abbrev pub OfValid : (MainParts → Type 0) → Type 0
OfValid P = (p : MainParts) → MainPartsValid p → P p
