-- How a frame ended, and what is told of a request that was carried out, as a call of `step` says it.
-- Assumes nothing: these are definitions.
use Rattle.std.specs.Prelude.{ℕ}
use Rattle.counters.specs.declared.outcome.Outcome.{Outcome}
use Rattle.counters.specs.declared.outcome.Outcome.TheVariants as outcome

-- no 00 came, an empty frame, a valid request, a failure by its reason, or the table's number of a refusal
pub data Ended : Type 0 where
  refused : ℕ → Ended
  more : Ended
  empty : Ended
  request : Ended
  failed : ℕ → Ended

unfoldable pub step_report : Outcome → Ended
step_report outcome.Refused = Ended.refused 12
step_report outcome.More = Ended.more
step_report outcome.Empty = Ended.empty
step_report (outcome.Request command) = Ended.request
step_report (outcome.KeySet key result) = Ended.request
step_report (outcome.Failure reason) = Ended.failed reason

-- what a call of `step` tells of a request that it carried out: its command; of a key set its key and its result
pub data Served : Type 0 where
  nothing : Served
  -- a command other than a key set's
  request : ℕ → Served
  -- key and result
  key_set : ℕ → ℕ → Served

unfoldable pub served_report : Outcome → Served
served_report outcome.Refused = Served.nothing
served_report outcome.More = Served.nothing
served_report outcome.Empty = Served.nothing
served_report (outcome.Request command) = Served.request command
served_report (outcome.KeySet key result) = Served.key_set key result
served_report (outcome.Failure reason) = Served.nothing
