-- `requester::hearing::settle` meets its contract: one answer for each kind of the reader's.
-- Assumes nothing.
use mathlib.Core.Path.{◌≡◌, ap, ◌∙◌}
use mathlib.Core.List.{List}
use mathlib.Core.Option.{some}
use Prim.Native.Nat.{ℕ}
use lib.ListN.{length}
use borrow.Author.Tests.{leb-true}
use Rattle.line.specs.Reader.{read_report}
use Rattle.line.specs.declared.reader.Answer.TheVariants as Answer
use Rattle.line.specs.declared.reader.Failure.{Failure}
use Rattle.line.specs.declared.reader.Failure.TheVariants as Failure
use Rattle.line.proofs.Received.{data-length}
use Rattle.requester.specs.Requester.{hear, ground}
use Rattle.requester.specs.Calls.{heard_of, handed_report, handed_report_of}
use Rattle.requester.specs.Hearing.{heard_in, data_fit, outcome_report, outcome_report_of}
use Rattle.requester.specs.declared.outcome.Outcome.{Outcome}
use Rattle.requester.specs.declared.progress.Progress.{Progress}
use Rattle.requester.proofs.hearing.settle.Goals as goal

pub invariant_of-settle_message : goal.invariant_of-settle_message
unfolding data_fit
invariant_of-settle_message c =
    let l = leb-true _ _ (rw c.in-Message.is at c.requires.answer_value) in
    record {
      sized = ap length c.message_data-data.ensures.result_value ∙ data-length _ _ c.requires.reader_value l;
    }

pub returns-in-More : goal.returns-in-More
unfolding heard_of
returns-in-More c =
    rw c.in-More.is c.settle_more.ensures

pub returns-in-Empty : goal.returns-in-Empty
unfolding heard_of heard_in handed_report handed_report_of
returns-in-Empty c =
    rw (c.in-Empty.is, c.silent.ensures)

pub returns-in-Message : goal.returns-in-Message
unfolding heard_of
returns-in-Message c =
    rw (c.in-Message.is, ← c.message_data-data.ensures.result_value) c.settle_message.ensures

-- whatever the reason
failed_as : (now : Progress) (s : List ℕ) (o : Outcome) (f : Failure)
    → outcome_report o ≡ outcome_report_of (heard_in now (some ground))
    → outcome_report o ≡ outcome_report_of (heard_in now (heard_of now.number s (read_report (Answer.Failed f))))
unfolding heard_of hear
failed_as now s o Failure.Form e = e
failed_as now s o Failure.Length e = e
failed_as now s o (Failure.Checksum sequence) e = e
failed_as now s o (Failure.Magic sequence) e = e

pub returns-in-Failed : goal.returns-in-Failed
returns-in-Failed c =
    rw c.in-Failed.is (failed_as c.args.now _ _ c.in-Failed.field-0 c.settle_ground.ensures)
