-- `responder::receive::answer_frame` meets its contract: one law for each kind of answer.
-- Assumes nothing.
use mathlib.Core.Path.{refl, ap, ◌∙◌}
use borrow.Author.Rules.{rules}
use Rattle.line.specs.Reader.{read_report}
use Rattle.line.proofs.Received.{data-short}
use Rattle.counters.specs.Ended.{step_report, served_report}
use Rattle.responder.specs.Receive.{inner_after, verdict_of, ended_by_reader, served_after, reader_behind, sets_passphrase}
use Rattle.responder.specs.Stores.{inner_held}
use Rattle.responder.proofs.StepLaws.{settled-failure, settled-message}
use Rattle.responder.proofs.receive.answer_frame.Goals as goal

pub returns-in-More : goal.returns-in-More
unfolding step_report served_report ended_by_reader inner_after served_after verdict_of reader_behind sets_passphrase
returns-in-More c =
    rw c.in-More.is
    (record {
      same = search rules;
      result_value = refl;
      result_value_2 = refl;
      registers_after = refl;
      registers_after_2 = c.requires.inner;
      reader_after = refl;
    })

pub returns-in-Empty : goal.returns-in-Empty
unfolding step_report served_report ended_by_reader inner_after served_after verdict_of reader_behind sets_passphrase
returns-in-Empty c =
    rw c.in-Empty.is
    (record {
      same = search rules;
      result_value = refl;
      result_value_2 = refl;
      registers_after = refl;
      registers_after_2 = c.requires.inner;
      reader_after = refl;
    })

pub respond-outcome-requires : goal.respond-outcome-requires
respond-outcome-requires c =
    record { stores_valid = c.requires; data_len_bound = rw c.message_data.ensures.result_value (data-short _ _) }

pub returns-in-Message : goal.returns-in-Message
returns-in-Message c =
    let a = c.args in
    let s = a.stores.now in
    let w = c.respond-outcome.ensures in
    let q = settled-message s.image.now s.factory.now (inner_held s) a.reader.now _ _ _ _
    (ap read_report c.in-Message.is) c.message_data.ensures.result_value
    (record { result_value = w.ends; result_value_2 = w.tells; registers_after = w.leaves; registers_after_2 = w.valid })
    c.wipe_passphrase.ensures in
    record {
      same = w.same;
      result_value = q.result_value;
      result_value_2 = q.result_value_2;
      registers_after = q.registers_after;
      registers_after_2 = q.registers_after_2;
      reader_after = q.reader_after;
    }

pub returns-in-Failed : goal.returns-in-Failed
returns-in-Failed c =
    let a = c.args in
    let s = a.stores.now in
    let h = c.head_and_reason-reason.ensures in
    let q = settled-failure s.image.now s.factory.now s.outbox.now s.settings.now s.registers.now a.reader.now _ h.0
    c.requires.inner (ap read_report c.in-Failed.is ∙ h.2) h.1 c.fail.ensures in
    record {
      same = search rules;
      result_value = q.result_value;
      result_value_2 = q.result_value_2;
      registers_after = q.registers_after;
      registers_after_2 = q.registers_after_2;
      reader_after = q.reader_after;
    }
