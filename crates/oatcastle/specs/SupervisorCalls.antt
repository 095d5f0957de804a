-- The calls of the supervisor in the C interface: the number that each returns, and what it leaves of what it is lent.
-- Assumes nothing: these are definitions.
use Rattle.std.specs.Prelude.{Bool, List, [], ◌∷◌, ℕ}
use Rattle.std.proofs.Math.Option.{Option, none, some}
use Rattle.supervisor.specs.Calls
use Rattle.supervisor.specs.declared.registers.Kind.{Kind}
use Rattle.oatcastle.specs.Answers.{CallOutcome, call_outcome, call_number, CallReport, refused, given, answering, answering_with}
use Rattle.oatcastle.specs.Answers.{filling_and_answering, flag}

-- ---- Start

abbrev pub start_done : Calls.StartOutcome → CallOutcome Calls.Parts
start_done o = call_outcome (call_number o.refusal) o.parts

abbrev pub start_call : List ℕ → Calls.Parts → CallOutcome Calls.Parts
start_call d p = start_done (Calls.start_promise d p)

-- ---- Take: how many bytes were moved

abbrev pub take_given : Calls.TakeReport → CallReport
take_given (Calls.moved n) = given (n ∷ [])
take_given (Calls.TakeReport.refused n) = refused n

abbrev pub take_call_outcome : Calls.TakeOutcome → List ℕ → CallOutcome ((List ℕ × List ℕ) × List ℕ)
take_call_outcome t answer = answering_with (t.outbox, t.room) (take_given t.report) answer

abbrev pub take_call : List ℕ → List ℕ → List ℕ → CallOutcome ((List ℕ × List ℕ) × List ℕ)
take_call outbox room answer = take_call_outcome (Calls.take_promise outbox room) answer

-- ---- Post an alert, set options

abbrev pub registers_done : Calls.RegistersOutcome → CallOutcome (List ℕ)
registers_done o = call_outcome (call_number o.refusal) o.registers

abbrev pub post_call : List ℕ → ℕ → List ℕ → CallOutcome (List ℕ)
post_call registers action text = registers_done (Calls.post_promise registers action text)

abbrev pub options_call : List ℕ → ℕ → CallOutcome (List ℕ)
options_call registers options = registers_done (Calls.options_promise registers options)

-- ---- Look a key up: the result, and how many bytes the value has, which go to a room

abbrev pub lookup_given : Calls.LookupReport → CallReport
lookup_given (Calls.LookupReport.result n k) = given (n ∷ k ∷ [])
lookup_given (Calls.LookupReport.refused n) = refused n

abbrev pub lookup_call : List ℕ → List ℕ → ℕ → ℕ → List ℕ → List ℕ → CallOutcome (List ℕ × List ℕ)
lookup_call factory settings key most room answer =
    filling_and_answering (lookup_given (Calls.lookup_result_promise factory settings key most))
    (Calls.lookup_promise factory settings key most) room answer

-- ---- The edition of a key: the result, and the edition

abbrev pub edition_given : Calls.EditionReport → CallReport
edition_given (Calls.EditionReport.result n edition) = given (n ∷ edition ∷ [])
edition_given (Calls.EditionReport.refused n) = refused n

abbrev pub edition_call : List ℕ → List ℕ → ℕ → List ℕ → CallOutcome (List ℕ)
edition_call factory settings key answer = answering (edition_given (Calls.edition_promise factory settings key)) answer

-- ---- Read the line signal, the two flags, a record

abbrev pub signal_given : Calls.RegisterReport Bool → CallReport
signal_given (Calls.is on) = given (flag on ∷ [])
signal_given (Calls.RegisterReport.refused n) = refused n

abbrev pub signal_call : List ℕ → List ℕ → CallOutcome (List ℕ)
signal_call registers answer = answering (signal_given (Calls.signal_promise registers)) answer

-- reboot asked for, power off asked for
abbrev pub flags_given : Calls.RegisterReport (Bool × Bool) → CallReport
flags_given (Calls.is f) = given (flag f.0 ∷ flag f.1 ∷ [])
flags_given (Calls.RegisterReport.refused n) = refused n

abbrev pub flags_call : List ℕ → List ℕ → CallOutcome (List ℕ)
flags_call registers answer = answering (flags_given (Calls.flags_promise registers)) answer

-- Whether there is one, its code, the whole length of its rest, and how many bytes of the rest are kept.
-- The bytes that are kept go to a room.
abbrev pub record_given : Calls.RegisterReport (Option Calls.RecordRead) → CallReport
record_given (Calls.is none) = given (0 ∷ 0 ∷ 0 ∷ 0 ∷ [])
record_given (Calls.is (some e)) = given (1 ∷ e.code ∷ e.whole ∷ e.kept ∷ [])
record_given (Calls.RegisterReport.refused n) = refused n

abbrev pub record_call : List ℕ → Kind → List ℕ → List ℕ → CallOutcome (List ℕ × List ℕ)
record_call registers kind room answer =
    filling_and_answering (record_given (Calls.record_promise registers kind)) (Calls.record_bytes_promise registers kind) room answer
