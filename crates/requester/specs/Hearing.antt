-- What the contracts of the functions that settle a frame cite: document 02's words for their answers.
-- Assumes nothing: these are definitions.
use Rattle.std.specs.Prelude.{Bool, true, List, ℕ, leb}
use Rattle.std.proofs.Math.Option.{Option, none, some}
use Rattle.line.specs.Limits.{longest_data}
use Rattle.line.specs.Message.{Message}
use Rattle.line.specs.Reader as LineReader
use Rattle.line.specs.declared.reader.Head.{Head}
use Rattle.requester.specs.Requester
use Rattle.requester.specs.Calls.{HandedReport, handed_report, handed_report_of}
use Rattle.requester.specs.Progress.{recovery_report}
use Rattle.requester.specs.declared.hearing.Heard.{Heard}
use Rattle.requester.specs.declared.hearing.Heard.TheVariants as heard
use Rattle.requester.specs.declared.outcome.Next.{Next}
use Rattle.requester.specs.declared.outcome.Next.TheVariants as next
use Rattle.requester.specs.declared.outcome.Outcome.{Outcome}
use Rattle.requester.specs.declared.progress.Progress.{Progress}

-- a message by its head and its data
abbrev pub head_message : Head → List ℕ → Message
head_message h d = record { version = h.version; sequence = h.sequence; command = h.command; payload = d }

abbrev pub heard_report : Heard → Message → Requester.Heard
heard_report heard.Ground m = Requester.ground
heard_report heard.Other m = Requester.other
heard_report heard.Answer m = Requester.answer m

abbrev pub next_of : Next → Requester.Next
next_of next.Same = Requester.same
next_of next.Again = Requester.again
next_of (next.Anew t) = Requester.anew (recovery_report t)
next_of next.Idle = Requester.idle

-- what is handed out, in numbers, and what comes next
pub record OutcomeReport : Type 0 where
  pub report : HandedReport
  pub next : Requester.Next

abbrev pub outcome_report : Outcome → OutcomeReport
outcome_report o = record { report = handed_report o.handed; next = next_of o.next }

abbrev pub outcome_report_of : Requester.HeardOutcome → OutcomeReport
outcome_report_of o = record { report = handed_report_of o.handed; next = o.next }

-- the data's length in an answer of the line reader fits a message
unfoldable pub data_fit : LineReader.ReadReport → Bool
data_fit (LineReader.refused n) = true
data_fit LineReader.more = true
data_fit LineReader.empty = true
data_fit (LineReader.failed reason sequence) = true
data_fit (LineReader.message version sequence command n) = leb n longest_data

-- what comes of what was heard
unfoldable pub heard_in : Progress → Option Requester.Heard → Requester.HeardOutcome
heard_in p none = Requester.heard_outcome Requester.nothing Requester.same
heard_in p (some h) = Requester.settle (recovery_report p.recovery) p.kept h
