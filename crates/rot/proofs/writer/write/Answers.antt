-- `rot::writer::write` meets its contract.
-- Assumes nothing.
use mathlib.Core.Path.{sym, ◌∙◌}
use borrow.Author.Tests.{lt-ltb, le-ltb}
use Rattle.rot.specs.Answers.{refusal_number, rot_write_into}
use Rattle.rot.specs.Writing.{rot_write_report, rot_write_promise}
use Rattle.rot.proofs.Message.{length-message}
use Rattle.rot.proofs.writer.write.Goals as goal

pub returns-then-payload-gt-LONGEST_PAYLOAD : goal.returns-then-payload-gt-LONGEST_PAYLOAD
unfolding refusal_number rot_write_report rot_write_promise
returns-then-payload-gt-LONGEST_PAYLOAD c =
    rw (lt-ltb _ _ c.if-payload-gt-LONGEST_PAYLOAD.true)

pub returns-then-not-is_listed : goal.returns-then-not-is_listed
unfolding refusal_number rot_write_report rot_write_promise
returns-then-not-is_listed c =
    rw (le-ltb _ _ c.if-payload-gt-LONGEST_PAYLOAD.false, sym c.is_listed.ensures ∙ c.if-not-is_listed.true)

pub returns-then-out-n : goal.returns-then-out-n
unfolding refusal_number rot_write_into rot_write_report rot_write_promise
returns-then-out-n c =
    rw (
      le-ltb _ _ c.if-payload-gt-LONGEST_PAYLOAD.false,
      sym c.is_listed.ensures ∙ c.if-not-is_listed.false,
      length-message,
      lt-ltb _ _ c.if-out-n.true,
    )

pub returns : goal.returns
unfolding rot_write_into rot_write_report rot_write_promise
returns c =
    rw (
      le-ltb _ _ c.if-payload-gt-LONGEST_PAYLOAD.false,
      sym c.is_listed.ensures ∙ c.if-not-is_listed.false,
      length-message,
      le-ltb _ _ c.if-out-n.false,
      c.put.ensures,
    )
