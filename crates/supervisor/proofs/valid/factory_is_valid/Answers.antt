-- `valid::factory_is_valid` meets its contract.
-- Assumes nothing.
use mathlib.Core.Path.{sym, ◌∙◌}
use mathlib.Core.Bool.{false≢true}
use borrow.Author.Tests.{le-leb}
use Rattle.supervisor.specs.Valid.{valid_factory}
use Rattle.supervisor.proofs.valid.factory_is_valid.Goals as goal
use Rattle.supervisor.proofs.valid.factory_is_valid.Goals.{then-start_is_good, else-start_is_good}

pub returns-then-quad-eq0 : goal.returns-then-quad-eq0
unfolding valid_factory
returns-then-quad-eq0 c =
    elim c.if-start_is_good.branch [
      | then-start_is_good w ↦
          rw (
            c.holds_pong.ensures,
            le-leb _ _ c.if-factory-lt-FACTORY_LENGTH.false,
            sym c.start_is_good.ensures ∙ w.if-start_is_good.true,
            rw w.quad.ensures at (sym w.value-is ∙ c.if-quad-eq0.true),
          )
      | else-start_is_good w ↦ absurd (false≢true (sym w.if-start_is_good.false ∙ (sym w.value-is ∙ c.if-quad-eq0.true)))
    ]
