-- `rot::reader::payload_given` meets its contract.
-- Assumes nothing.
use borrow.Author.Rules.{rules}
use Rattle.rot.specs.Reading.{judged_as, verdict_number, payload_given_promise, payload_given_report}
use Rattle.rot.proofs.reader.payload_given.Goals as goal

pub returns-in_err-judge : goal.returns-in_err-judge
unfolding judged_as verdict_number payload_given_promise payload_given_report
returns-in_err-judge c = search rules

pub returns : goal.returns
unfolding judged_as verdict_number payload_given_promise payload_given_report
returns c = search rules
