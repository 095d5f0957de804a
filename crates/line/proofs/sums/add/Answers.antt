-- `line::sums::add` meets its contract. The loop keeps what is added so far, and that the sums from the offset on are as they were.
-- Assumes nothing.
use mathlib.Core.Path.{refl, ◌∙◌}
use native.Mathlib.Omega.{arith}
use lib.ListN.{length-set}
use lib.Seq.{get_or-set_other}
use Rattle.line.proofs.Columns.{added_next, added-end}
use Rattle.line.proofs.sums.add.Goals as goal

pub loop-i-init : goal.loop-i-init
loop-i-init c =
    (c.requires.0, λ k h. refl, refl)

pub returns : goal.returns
returns c =
    let l = c.loop-i in added-end c.args.row.now l.sums l.i (omega arith) (omega arith) l.invariant.2

pub overflow_add-sums : goal.overflow_add-sums
overflow_add-sums c =
    let l = c.loop-i in omega (arith, l.invariant.1 l.i (omega arith), c.requires.2 l.i)

pub loop-i-preserved : goal.loop-i-preserved
loop-i-preserved c =
    let l = c.loop-i in
    let a = c.args in (
      simp length-set l.invariant.0,
      λ k h. get_or-set_other l.sums l.i k _ 0 (λ e. omega arith) ∙ l.invariant.1 k (omega arith),
      added_next a.row.now l.sums l.i _ (omega arith) (omega arith) refl l.invariant.2,
    )
