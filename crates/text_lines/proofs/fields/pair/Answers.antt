-- `fields::pair` meets its contract.
-- Assumes nothing.
use mathlib.Core.Path.{sym}
use native.Mathlib.Omega.{arith}
use Rattle.text_lines.specs.Fields.{pair_at}
use Rattle.text_lines.proofs.Laws.{pair-past}
use Rattle.text_lines.proofs.fields.pair.Goals as goal

pub returns-then-text-k : goal.returns-then-text-k
returns-then-text-k c =
    sym (pair-past _ _ (omega arith))

pub returns : goal.returns
unfolding pair_at
returns c =
    rw (← c.read_u8.ensures, ← c.read_u8-2.ensures, ← c.digit-high.ensures.0, ← c.digit-low.ensures.0)
