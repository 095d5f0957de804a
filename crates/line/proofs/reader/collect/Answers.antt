-- `line::reader::collect` meets its contract.
-- Assumes nothing.
use mathlib.Core.Path.{sym, ◌∙◌}
use native.Mathlib.Omega.{arith}
use Rattle.line.proofs.State.{valid-ready}
use Rattle.line.proofs.Reading.{collecting-refused, collecting-kept}
use Rattle.line.proofs.reader.collect.Goals as goal

pub returns-then-not-is_valid : goal.returns-then-not-is_valid
returns-then-not-is_valid c =
    collecting-refused _ _ (sym c.is_valid.ensures ∙ c.if-not-is_valid.true)

pub append_short-requires : goal.append_short-requires
append_short-requires c =
    let r = valid-ready _ (sym c.is_valid.ensures ∙ c.if-not-is_valid.false) in
    record { reader_length_in_bounds = r.0; have_value = c.get_count-have.ensures.0; piece_bound = omega arith }

pub returns-then-have-piece-le-LONGEST_FORM : goal.returns-then-have-piece-le-LONGEST_FORM
returns-then-have-piece-le-LONGEST_FORM c =
    collecting-kept _ _ (sym c.is_valid.ensures ∙ c.if-not-is_valid.false) c.append_short.ensures.0 c.append_short.ensures.1

pub append-requires : goal.append-requires
append-requires c =
    let r = valid-ready _ (sym c.is_valid.ensures ∙ c.if-not-is_valid.false) in
    record {
      reader_length_in_bounds = r.0;
      state_bound = r.1;
      n_in_bounds = omega (arith, c.nonzero_run-n.ensures.most);
    }

pub returns : goal.returns
returns c =
    collecting-kept _ _ (sym c.is_valid.ensures ∙ c.if-not-is_valid.false) c.nonzero_run-n.ensures.value c.append.ensures
