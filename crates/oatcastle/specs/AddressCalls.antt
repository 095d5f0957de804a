-- The calls of the address plan in the C interface: the number that each returns, and what it leaves of what it is lent.
-- Assumes nothing: these are definitions.
use mathlib.Core.List.{List, flatten}
use Rattle.std.specs.Prelude.{ℕ}
use Rattle.addresses.specs.Addresses.{addresses_promise, plan_promise}
use Rattle.oatcastle.specs.Answers.{CallOutcome, call_number, given, filling}

-- ---- The eight rows, one after the other, to a room

abbrev pub addresses_call : List ℕ → ℕ → ℕ → List ℕ → CallOutcome (List ℕ)
addresses_call base count stride room = filling (given (flatten (addresses_promise base count stride))) room

-- ---- Whether the plan passes

abbrev pub plan_call : List ℕ → ℕ → ℕ → ℕ
plan_call base count stride = call_number (plan_promise base count stride)
