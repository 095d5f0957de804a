-- `fields::field_start` meets its contract. The loop keeps which field is looked for from the offset on.
-- Assumes nothing.
use mathlib.Core.Path.{◌≡◌}
use Rattle.text_lines.specs.Fields.{field}
use lib.ListN.{drop}
use Rattle.text_lines.proofs.fields.field_start.Given as goal

abbrev pub invariant-loop-i : goal.invariant-loop-i
invariant-loop-i l = field l.left (drop l.i l.line) ≡ field l.k l.line
