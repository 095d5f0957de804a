-- `fields::number` meets its contract. The loop keeps what the number comes to with the digits that are left.
-- Assumes nothing.
use mathlib.Core.Path.{◌≡◌}
use lib.ListN.{drop}
use Rattle.text_lines.specs.Fields.{with_digits}
use Rattle.text_lines.proofs.fields.number.Given as goal

abbrev pub invariant-loop-b : goal.invariant-loop-b
invariant-loop-b l = with_digits l.base l.value (drop l.b-index l.text) ≡ with_digits l.base 0 l.text
