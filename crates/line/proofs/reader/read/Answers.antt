-- `line::reader::read` meets its contract.
-- Assumes nothing.
use mathlib.Core.Path.{sym, ◌∙◌}
use native.Mathlib.Omega.{arith}
use Rattle.line.proofs.State.{valid-ready}
use Rattle.line.proofs.Reading.{reading-refused, reading-ready, reading-more, reading-stop}
use Rattle.line.proofs.reader.read.Goals as goal

pub returns-then-not-is_valid : goal.returns-then-not-is_valid
returns-then-not-is_valid c =
    reading-refused _ _ (sym c.is_valid.ensures ∙ c.if-not-is_valid.true)

pub returns-then-n-piece : goal.returns-then-n-piece
returns-then-n-piece c =
    reading-more _ _ (sym c.is_valid.ensures ∙ c.if-not-is_valid.false) c.nonzero_run-n.ensures.value
    c.append.ensures c.if-n-piece.true

pub finish_frame-answer-requires : goal.finish_frame-answer-requires
finish_frame-answer-requires c =
    let v = sym c.is_valid.ensures ∙ c.if-not-is_valid.false in
    let r = reading-ready _ _ v c.nonzero_run-n.ensures.value c.append.ensures in
    record { reader_length_in_bounds = r.0; state_bound = r.1 }

pub returns : goal.returns
returns c =
    reading-stop _ _ (sym c.is_valid.ensures ∙ c.if-not-is_valid.false) c.nonzero_run-n.ensures.value
    c.append.ensures c.if-n-piece.false c.finish_frame-answer.ensures

pub append-requires : goal.append-requires
append-requires c =
    let r = valid-ready _ (sym c.is_valid.ensures ∙ c.if-not-is_valid.false) in
    record {
      reader_length_in_bounds = r.0;
      state_bound = r.1;
      n_in_bounds = omega (arith, c.nonzero_run-n.ensures.most);
    }

pub overflow_add-result : goal.overflow_add-result
overflow_add-result c =
    omega (arith, c.nonzero_run-n.ensures.most)
