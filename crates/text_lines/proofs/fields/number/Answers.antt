-- `fields::number` meets its contract. The loop keeps what the number comes to with the digits that are left.
-- Assumes nothing.
use mathlib.Core.Path.{sym, ◌∙◌}
use borrow.Author.Rules.{rules}
use Rattle.text_lines.proofs.Laws.{digits-one, digits-none, digits-end}
use Rattle.text_lines.proofs.fields.number.Goals as goal

pub returns-then-base-d : goal.returns-then-base-d
returns-then-base-d c =
    let l = c.loop-b in
    sym (digits-none _ l.value l.b-index _ (search rules) (rw c.digit-d.ensures.0 at c.if-base-d.true)) ∙ l.invariant

pub loop-b-preserved : goal.loop-b-preserved
loop-b-preserved c =
    let l = c.loop-b in
    let e = c.digit-d.ensures.0 in
    rw (c.with_digit-value.ensures, e) (sym (digits-one _ l.value l.b-index _ (search rules) (rw e at c.if-base-d.false)) ∙ l.invariant)

pub returns : goal.returns
returns c =
    let l = c.loop-b in sym (digits-end _ l.value l.b-index _ (search rules)) ∙ l.invariant
