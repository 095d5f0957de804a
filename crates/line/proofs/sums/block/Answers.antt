-- `line::sums::block` meets its contract. The loop keeps that the columns' sums are those of the rows so far.
-- Assumes nothing.
use mathlib.Core.Path.{◌≡◌}
use native.Mathlib.Omega.{arith}
use Rattle.line.specs.Columns.{column_rows}
use Rattle.line.proofs.Columns.{summed-none, summed-next, summed-block, first-addable, second-addable}
use Rattle.line.proofs.sums.block.Goals as goal

pub loop-i-init : goal.loop-i-init
loop-i-init c =
    summed-none

pub add-requires : goal.add-requires
add-requires c =
    let l = c.loop-i in
    let bytes = c.row-bytes in
    first-addable l.i _ bytes.result l.firsts l.seconds (omega arith) bytes.ensures.1 bytes.ensures.2 l.invariant

pub add-requires-in-loop-i : goal.add-requires-in-loop-i
add-requires-in-loop-i c =
    let l = c.loop-i in
    let bytes = c.row-bytes in
    second-addable l.i _ bytes.result l.firsts l.seconds (omega arith) bytes.ensures.1 bytes.ensures.2 l.invariant _
    c.add.ensures

pub loop-i-preserved : goal.loop-i-preserved
loop-i-preserved c =
    let l = c.loop-i in
    let bytes = c.row-bytes in
    summed-next l.i _ _ _ _ _ _ _ (omega arith) bytes.ensures.0 bytes.ensures.1 bytes.ensures.2 c.add.ensures
    c.add-in-loop-i.ensures l.invariant

pub row_sums-one-requires : goal.row_sums-one-requires
row_sums-one-requires c =
    c.loop-i.invariant.first_length

pub row_sums-two-requires : goal.row_sums-two-requires
row_sums-two-requires c =
    c.loop-i.invariant.second_length

pub returns : goal.returns
returns c =
    let two = c.row_sums-two.ensures in
    let one = c.row_sums-one.ensures in
    let l = c.loop-i in
    let a = c.args in
    let e : l.i ≡ column_rows = omega arith in (
      omega arith,
      omega arith,
      summed-block a.body.now l.firsts l.seconds a.at a.sums.first a.sums.second _ _ _ c.requires.block_length_in_bounds (omega arith)
          (omega arith) (rw e at l.invariant) one.first_value.0 one.first_value.1 two.first_value.0,
    )
