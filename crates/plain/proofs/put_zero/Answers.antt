-- `plain::put_zero` meets its contract.
-- Assumes nothing.
use mathlib.Core.Path.{refl, sym}
use native.Mathlib.Nat.{add-zero}
use Rattle.octets.proofs.Overlay.{overlay-one, overlay-none}
use Rattle.plain.proofs.put_zero.Goals as goal

pub returns-then-zero : goal.returns-then-zero
returns-then-zero c =
    let a = c.args in
    rw c.if-zero.true (refl, overlay-one a.n 0 a.out.now c.requires)

pub returns : goal.returns
returns c =
    let a = c.args in rw c.if-zero.false (sym (add-zero a.n), sym (overlay-none a.n a.out.now))
