-- `line::sums::row_sums` meets its contract. The loop keeps the two sums of what is read so far.
-- Assumes nothing.
use mathlib.Core.Path.{◌≡◌, refl}
use native.Mathlib.Omega.{arith}
use borrow.Author.Rules.{rules}
use lib.ListN.{take}
use lib.Seq.{take_all}
use Rattle.line.specs.Columns.{total, weighted as weighted_of}
use Rattle.line.proofs.Columns.{total-next, weighted-next}
use Rattle.line.proofs.sums.row_sums.Goals as goal

pub loop-x-init : goal.loop-x-init
unfolding total weighted_of
loop-x-init c =
    (search rules, search rules, refl, refl)

pub returns : goal.returns
returns c =
    let l = c.loop-x in
    let row = c.args.row.now in
    let e : take l.x-index row ≡ row = take_all l.x-index row (omega arith) in
    record { first_value = (rw e at l.invariant.2, rw e at l.invariant.3); first_bound = (omega arith, omega arith) }

pub loop-x-preserved : goal.loop-x-preserved
loop-x-preserved c =
    let i = c.loop-x.x-index in
    let row = c.args.row.now in (
      omega arith,
      omega arith,
      omega (arith, total-next row i (omega arith)),
      omega (arith, weighted-next row i (omega arith)),
    )
