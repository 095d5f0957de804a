-- `addresses::addresses` meets its contract.
-- The loop's invariant: the rows are those of a plan that counts i addresses, and the next row is address i.
-- Assumes nothing.
use Prim.Native.Nat.{ℕ, min}
use mathlib.Core.Path.{◌≡◌, sym, ◌∙◌}
use borrow.Author.Rules.{rules}
use native.Mathlib.Omega.{arith}
use lib.ListN.{get_or}
use mir.Syntax.{w8}
use mir.Val.{Fits}
use Rattle.addresses.proofs.Carry.{next_sum}
use Rattle.addresses.proofs.Plans.{address-first, address-next, rows-passing, rows_none, rows_more, rows-fitting}
use Rattle.addresses.proofs.addresses.Goals as goal

pub returns-then-last_passes : goal.returns-then-last_passes
returns-then-last_passes c =
    let a = c.args in
    rows-passing a.base a.count a.stride (sym c.last_passes.ensures ∙ c.if-last_passes.true)

pub loop-i-init : goal.loop-i-init
loop-i-init c =
    let base = c.args.base in
    let bytes : (i : ℕ) → Fits w8 (get_or base i 0) = λ i. search rules in
    (rows_none _ _, address-first base _ (search rules) (λ i. (bytes i).fits))

pub loop-i-preserved : goal.loop-i-preserved
loop-i-preserved c =
    let l = c.loop-i in (
      rw (l.invariant.0, l.invariant.1) (rows_more _ _ l.i (search rules)),
      rw (c.next_row-next.ensures, l.invariant.1, next_sum, address-next),
    )

pub returns : goal.returns
returns c =
    let l = c.loop-i in
    let a = c.args in
    let e : l.i ≡ min a.count 8 = omega arith in
    rw (l.invariant.0, e) (rows-fitting a.base a.stride a.count (sym c.last_passes.ensures ∙ c.if-last_passes.false))
