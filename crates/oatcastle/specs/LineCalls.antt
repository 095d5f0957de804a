-- The calls of the line layer in the C interface: the number that each returns, and what it leaves of what it is lent.
-- Assumes nothing: these are definitions.
use Rattle.std.specs.Prelude.{List, [], ◌∷◌, ℕ}
use Rattle.std.proofs.Math.Option.{none, some}
use Rattle.line.specs.Checksum.{checksum}
use Rattle.line.specs.Message.{Message}
use Rattle.line.specs.Reader as LineReader
use Rattle.line.specs.Writer as LineWriter
use Rattle.oatcastle.specs.Answers.{CallOutcome, call_outcome, call_number, CallReport, refused, given, part_given, answering}
use Rattle.oatcastle.specs.Answers.{answering_with, filling}

-- ---- Start

-- by what the line layer's call answers and leaves, here and below
abbrev pub line_started : LineReader.ReaderStartOutcome → CallOutcome (List ℕ)
line_started o = call_outcome (call_number o.refusal) o.state

abbrev pub line_start_call : List ℕ → CallOutcome (List ℕ)
line_start_call s = line_started (LineReader.reader_start_promise s)

-- ---- Read: used, kind, reason, version, sequence, command, length
-- - kind 0: more bytes are wanted
-- - kind 1: an empty frame
-- - kind 2: a message
-- - kind 3: a failure, with its reason, and the request's sequence where the reply carries it

abbrev pub read_given : ℕ → LineReader.ReadReport → CallReport
read_given used (LineReader.refused n) = refused n
read_given used LineReader.more = given (used ∷ 0 ∷ 0 ∷ 0 ∷ 0 ∷ 0 ∷ 0 ∷ [])
read_given used LineReader.empty = given (used ∷ 1 ∷ 0 ∷ 0 ∷ 0 ∷ 0 ∷ 0 ∷ [])
read_given used (LineReader.message version sequence command n) = given (used ∷ 2 ∷ 0 ∷ version ∷ sequence ∷ command ∷ n ∷ [])
read_given used (LineReader.failed reason none) = given (used ∷ 3 ∷ reason ∷ 0 ∷ 0 ∷ 0 ∷ 0 ∷ [])
read_given used (LineReader.failed reason (some sequence)) = given (used ∷ 3 ∷ reason ∷ 0 ∷ sequence ∷ 0 ∷ 0 ∷ [])

abbrev pub read_call_outcome : LineReader.ReadOutcome → List ℕ → CallOutcome (List ℕ × List ℕ)
read_call_outcome o answer = answering_with o.state (read_given o.used o.answer) answer

abbrev pub line_read_call : List ℕ → List ℕ → List ℕ → CallOutcome (List ℕ × List ℕ)
line_read_call s piece answer = read_call_outcome (LineReader.read_promise s piece) answer

-- ---- Collect: how many bytes ahead of the first 00 were taken

-- of a piece without a 00: it gives only the first two of these reports, and the others complete the cases
abbrev pub collect_given : ℕ → LineReader.ReadReport → CallReport
collect_given taken (LineReader.refused n) = refused n
collect_given taken LineReader.more = given (taken ∷ [])
collect_given taken LineReader.empty = given (taken ∷ [])
collect_given taken (LineReader.message version sequence command n) = given (taken ∷ [])
collect_given taken (LineReader.failed reason sequence) = given (taken ∷ [])

abbrev pub collect_call : List ℕ → List ℕ → List ℕ → CallOutcome (List ℕ × List ℕ)
collect_call s piece answer =
    let o = LineReader.collect_promise s piece in answering_with o.state (collect_given o.used o.answer) answer

-- ---- The data of the message just handed out, to a room

abbrev pub line_data_call : List ℕ → ℕ → List ℕ → CallOutcome (List ℕ)
line_data_call s n room = filling (part_given (LineReader.data_given_promise s n) (LineReader.data_promise s n)) room

-- ---- An unfinished frame: 1 if longer than any form, and how many bytes of it have come

abbrev pub tail_given : LineReader.TailReport → CallReport
tail_given (LineReader.TailReport.refused n) = refused n
tail_given (LineReader.unfinished n) = given (0 ∷ n ∷ [])
tail_given LineReader.longer = given (1 ∷ 0 ∷ [])

abbrev pub line_tail_call : List ℕ → List ℕ → CallOutcome (List ℕ)
line_tail_call s answer = answering (tail_given (LineReader.tail_promise s)) answer

-- ---- Write: the frame's length

abbrev pub write_given : LineWriter.WriteReport → CallReport
write_given (LineWriter.wrote n) = given (n ∷ [])
write_given (LineWriter.refused n) = refused n

abbrev pub write_call_outcome : LineWriter.WriteOutcome → List ℕ → CallOutcome (List ℕ × List ℕ)
write_call_outcome o answer = answering_with o.out (write_given o.answer) answer

abbrev pub line_write_call : Message → List ℕ → List ℕ → CallOutcome (List ℕ × List ℕ)
line_write_call m out answer = write_call_outcome (LineWriter.write_promise m out) answer

-- ---- The checksum of a message's body

abbrev pub line_checksum_call : List ℕ → List ℕ → CallOutcome (List ℕ)
line_checksum_call body answer = answering (given (checksum body ∷ [])) answer
