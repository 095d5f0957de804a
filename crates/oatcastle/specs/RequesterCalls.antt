-- The main processor's calls in the C interface: the number that each returns, and what it leaves of what it is lent.
-- Assumes nothing: these are definitions.
use Rattle.std.specs.Prelude.{Bool, List, [], ◌∷◌, ℕ}
use Rattle.requester.specs.State
use Rattle.requester.specs.State.{is_some}
use Rattle.requester.specs.Calls
use Rattle.requester.specs.Calls.{MainParts}
use Rattle.oatcastle.specs.Answers.{CallOutcome, call_outcome, call_number, CallReport, refused, given, answering, answering_with}
use Rattle.oatcastle.specs.Answers.{flag}

-- ---- Start

abbrev pub requester_started : Calls.MainStartOutcome → CallOutcome MainParts
requester_started o = call_outcome (call_number o.refusal) o.parts

abbrev pub requester_start_call : MainParts → CallOutcome MainParts
requester_start_call p = requester_started (Calls.main_start_promise p)

-- ---- Request, send: how many bytes were put out

abbrev pub put_given : Calls.PutReport → CallReport
put_given (Calls.wrote n) = given (n ∷ [])
put_given (Calls.PutReport.refused n) = refused n

-- by what the call answers and leaves; the main processor's part and the room change
abbrev pub put_call_outcome : Calls.PutOutcome → List ℕ → CallOutcome ((List ℕ × List ℕ) × List ℕ)
put_call_outcome o answer = answering_with (o.requester, o.out) (put_given o.report) answer

abbrev pub request_call : List ℕ → ℕ → List ℕ → List ℕ → List ℕ → CallOutcome ((List ℕ × List ℕ) × List ℕ)
request_call r command d out answer = put_call_outcome (Calls.request_promise r command d out) answer

abbrev pub send_call : List ℕ → List ℕ → List ℕ → CallOutcome ((List ℕ × List ℕ) × List ℕ)
send_call r out answer = put_call_outcome (Calls.send_promise r out) answer

-- ---- Interrupt

abbrev pub interrupt_done : Calls.InterruptOutcome → CallOutcome (List ℕ)
interrupt_done o = call_outcome (call_number o.refusal) o.requester

abbrev pub interrupt_call : List ℕ → CallOutcome (List ℕ)
interrupt_call r = interrupt_done (Calls.interrupt_promise r)

-- ---- Receive: used, kind, ended, unsent; sequence, command, length; status, options, set bits
-- - kind 0: nothing
-- - kind 1: the answer, with sequence, command and length
-- - kind 2: a status, with status, options and set bits
-- - kind 3: the answer to a recovery's 0x0a, with sequence, command and length

abbrev pub receipt_given : ℕ → Calls.HandedReport → Bool → Bool → CallReport
receipt_given used (Calls.HandedReport.refused n) e u = refused n
receipt_given used Calls.nothing e u = given (used ∷ 0 ∷ flag e ∷ flag u ∷ 0 ∷ 0 ∷ 0 ∷ 0 ∷ 0 ∷ 0 ∷ [])
receipt_given used (Calls.answered version sequence command n) e u =
    given (used ∷ 1 ∷ flag e ∷ flag u ∷ sequence ∷ command ∷ n ∷ 0 ∷ 0 ∷ 0 ∷ [])
receipt_given used (Calls.status s o n) e u = given (used ∷ 2 ∷ flag e ∷ flag u ∷ 0 ∷ 0 ∷ 0 ∷ s ∷ o ∷ n ∷ [])
receipt_given used (Calls.alerted version sequence command n) e u =
    given (used ∷ 3 ∷ flag e ∷ flag u ∷ sequence ∷ command ∷ n ∷ 0 ∷ 0 ∷ 0 ∷ [])

-- the flag says whether a recovery ended so; its number is always 14 (`end_report`)
abbrev pub receipt_call_outcome : Calls.MainReceiveOutcome → List ℕ → CallOutcome (MainParts × List ℕ)
receipt_call_outcome x answer = answering_with x.parts (receipt_given x.used x.report (is_some x.ended) x.unsent) answer

abbrev pub listen_call : MainParts → List ℕ → List ℕ → CallOutcome (MainParts × List ℕ)
listen_call p piece answer = receipt_call_outcome (Calls.main_receive_promise p piece) answer

-- ---- State: state, command, number, unsent, original

-- 0: nothing is outstanding; 1: the caller's request is; 2, 3, 4: a recovery's 0x08, 0x09, 0x0a
abbrev pub stage_number : State.Stage → ℕ
stage_number State.idle = 0
stage_number State.waiting = 1
stage_number (State.recovering State.fetch) = 2
stage_number (State.recovering State.acknowledge) = 3
stage_number (State.recovering State.alert) = 4

abbrev pub state_given : Calls.StateReport → CallReport
state_given (Calls.StateReport.refused n) = refused n
state_given (Calls.stands s) =
    given (stage_number s.stage ∷ s.command ∷ s.number ∷ flag s.unsent ∷ flag s.original ∷ [])

abbrev pub state_call : List ℕ → List ℕ → CallOutcome (List ℕ)
state_call r answer = answering (state_given (Calls.state_promise r)) answer
