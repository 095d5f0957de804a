-- `fields::with_digit` meets its contract: 64 bits hold the number.
-- Assumes nothing.
use mathlib.Core.Path.{refl}
use native.Mathlib.Omega.{arith}
use Rattle.text_lines.specs.Fields.{with_digit}
use Rattle.text_lines.proofs.Laws.{digit_room}
use Rattle.text_lines.proofs.fields.with_digit.Goals as goal

pub overflow_mul-result : goal.overflow_mul-result
overflow_mul-result c =
    let a = c.args in omega (arith, digit_room a.value a.d a.base c.requires.0 c.requires.1)

pub overflow_add-result : goal.overflow_add-result
overflow_add-result c =
    let a = c.args in omega (arith, digit_room a.value a.d a.base c.requires.0 c.requires.1)

pub returns : goal.returns
unfolding with_digit
returns c =
    refl
