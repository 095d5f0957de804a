-- `fields::field_start` meets its contract. The loop keeps which field is looked for from the offset on.
-- Assumes nothing.
use Rattle.std.proofs.Common.{◌≡◌, length, sym, ◌∙◌, eq-eqb, ne_eqb, rules, arith}
use Rattle.text_lines.proofs.Laws.{field-here, field_next, field_end}
use Rattle.text_lines.proofs.fields.field_start.Goals as goal
use Rattle.text_lines.proofs.fields.field_start.Goals.{then-b-eq32, else-b-eq32}

pub returns-then-left-eq0 : goal.returns-then-left-eq0
returns-then-left-eq0 c = (sym (field-here _) ∙ rw c.if-left-eq0.true at c.loop-i.invariant, search rules)

pub loop-i-preserved : goal.loop-i-preserved
loop-i-preserved c =
    let l = c.loop-i in
    let e = sym (field_next l.left l.i c.args.line.now c.loop-i-test.true c.if-left-eq0.false) ∙ l.invariant in
    elim c.if-b-eq32.branch [
      | then-b-eq32 w ↦ rw w.left-is (rw (eq-eqb _ 32 w.if-b-eq32.true) at e)
      | else-b-eq32 w ↦ rw w.left-is (rw (ne_eqb _ 32 w.if-b-eq32.false) at e)
    ]

pub returns : goal.returns
returns c =
    let l = c.loop-i in
    let s = c.args.line.now in
    let e : l.i ≡ length s = omega arith in
    (rw e at (sym (field_end l.left l.i s (omega arith)) ∙ l.invariant), search rules)
