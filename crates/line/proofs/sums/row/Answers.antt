-- `line::sums::row` meets its contract. The loop keeps that the bytes so far stand in the row, and none above 255 does.
-- Assumes nothing.
use mathlib.Core.Path.{◌≡◌, refl, sym, ◌∙◌}
use Prim.Native.Nat.{◌+◌, ◌<◌}
use native.Mathlib.Nat.{add-sub_cancel_left}
use native.Mathlib.Omega.{arith}
use lib.ListN.{get_or, length-set}
use lib.Seq.{take_all, get_or-take, get_or-drop}
use Rattle.line.specs.Columns.{columns}
use Rattle.line.proofs.Columns.{row_next, at-most-zeros, at-most-set}
use Rattle.line.proofs.sums.row.Goals as goal

pub loop-i-init : goal.loop-i-init
loop-i-init c =
    (refl, refl, λ k. omega (arith, at-most-zeros columns k))

pub loop-i-preserved : goal.loop-i-preserved
loop-i-preserved c =
    let l = c.loop-i in
    let a = c.args in
    let h : l.i < columns = omega arith in
    let b : c.from.result ≡ get_or a.body.now (a.at + l.i) 0 = c.from.ensures ∙ rw (add-sub_cancel_left, get_or-take, get_or-drop) in (
      simp length-set l.invariant.0,
      row_next a.body.now l.row a.at l.i _ (omega arith) (omega arith) b l.invariant.1,
      at-most-set 255 l.row l.i _ (omega arith) l.invariant.2,
    )

pub returns : goal.returns
returns c =
    let l = c.loop-i in
    let e : l.i ≡ columns = omega arith in
    (sym (take_all columns l.row (omega arith)) ∙ rw e at l.invariant.1, l.invariant.0, l.invariant.2)
