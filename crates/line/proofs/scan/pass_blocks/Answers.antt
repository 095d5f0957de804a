-- `pass_blocks` meets its contract. The loop's invariant: k bytes of the run are passed.
-- Assumes nothing.
use mathlib.Core.Path.{sym, ◌∙◌}
use native.Mathlib.Nat.{add-sub_cancel_left}
use native.Mathlib.Omega.{arith}
use lib.ListN.{length, drop, length-drop}
use Rattle.line.proofs.Runs.{any-nonzero, reached-block}
use Rattle.line.proofs.scan.pass_blocks.Goals as goal

pub loop-k-preserved : goal.loop-k-preserved
loop-k-preserved c =
    let l = c.loop-k in
    let a = c.args in
    let s = a.s.now in
    let value = rw add-sub_cancel_left at c.contains.ensures.value in
    let none = any-nonzero a.width (drop l.k s) (omega (arith, length-drop l.k s)) (sym value ∙ c.if-contains.false) in
    (omega arith, l.invariant.1 ∙ reached-block (length s) l.k a.width s (omega arith) none)
