-- The calls that receive in the C interface: the number that each returns, and what it leaves of what it is lent.
-- Assumes nothing: these are definitions.
use Rattle.std.specs.Prelude.{List, [], ◌∷◌, ℕ}
use Rattle.line.specs.Numbers.{command_key_set}
use Rattle.supervisor.specs.Calls.{Parts}
use Rattle.counters.specs.declared.Counters.{Counters}
use Rattle.counters.specs.Ended.{Ended, Served}
use Rattle.counters.specs.Count.{bumped_for}
use Rattle.responder.specs.Receive
use Rattle.oatcastle.specs.Answers.{CallOutcome, call_outcome, call_number, CallReport, refused, given, answering_with}

-- ---- Receive

abbrev pub receive_done : Receive.ReceiveOutcome → CallOutcome Parts
receive_done o = call_outcome (call_number o.refusal) o.parts

abbrev pub receive_call : List ℕ → Parts → List ℕ → CallOutcome Parts
receive_call image p piece = receive_done (Receive.receive_promise image p piece)

-- ---- Step: used, kind, reason; command, key, result
-- - kind 0: more bytes are wanted
-- - kind 1: an empty frame
-- - kind 2: a request, with its command, and of a key set with its key and its result
-- - kind 3: a failure, with its reason

-- command, key, result
abbrev pub served_numbers : Served → List ℕ
served_numbers Served.nothing = 0 ∷ 0 ∷ 0 ∷ []
served_numbers (Served.request command) = command ∷ 0 ∷ 0 ∷ []
served_numbers (Served.key_set key result) = command_key_set ∷ key ∷ result ∷ []

abbrev pub step_given : ℕ → Ended → Served → CallReport
step_given used (Ended.refused n) served = refused n
step_given used Ended.more served = given (used ∷ 0 ∷ 0 ∷ served_numbers served)
step_given used Ended.empty served = given (used ∷ 1 ∷ 0 ∷ served_numbers served)
step_given used Ended.request served = given (used ∷ 2 ∷ 0 ∷ served_numbers served)
step_given used (Ended.failed reason) served = given (used ∷ 3 ∷ reason ∷ served_numbers served)

abbrev pub step_call_outcome : Receive.StepOutcome → List ℕ → CallOutcome (Parts × List ℕ)
step_call_outcome o answer = answering_with o.parts (step_given o.used o.ended o.served) answer

abbrev pub step_call : List ℕ → Parts → List ℕ → List ℕ → CallOutcome (Parts × List ℕ)
step_call image p piece answer = step_call_outcome (Receive.step_promise image p piece) answer

-- with a counter block lent: the block after a step, by how its frame ended
abbrev pub step_count : Counters → List ℕ → Parts → List ℕ → Counters
step_count c image p piece = bumped_for c (Receive.step_promise image p piece).ended
