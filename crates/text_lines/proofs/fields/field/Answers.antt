-- `fields::field` meets its contract.
-- Assumes nothing.
use mathlib.Core.Path.{◌∙◌}
use Rattle.text_lines.proofs.Laws.{rest, rest-place}
use Rattle.text_lines.proofs.fields.field.Goals as goal

pub returns : goal.returns
returns c =
    let start = c.field_start in
    let line = c.args.line in
    record {
      result_value = c.part.ensures.result_value ∙ (rest start.result _ ∙ start.ensures.0);
      ref_ptr_value =
          c.part.ensures.ref_ptr_value ∙ rest-place line start.result _ start.ensures.1 start.ensures.0;
    }
