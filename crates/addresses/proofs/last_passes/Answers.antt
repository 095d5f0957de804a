-- `addresses::last_passes` meets its contract.
-- Assumes nothing.
use Rattle.std.proofs.Common.{arith}
use Rattle.addresses.proofs.Plans.{none_passes, last-passes}
use Rattle.addresses.proofs.last_passes.Goals as goal

pub returns-in_default : goal.returns-in_default
returns-in_default c =
    none_passes _ _ _ (omega (arith, c.in_default.ensures))

pub returns : goal.returns
returns c =
    let a = c.args in
    let some = c.in-Some.ensures in
    rw (c.from.ensures, some.1, c.from-2.ensures, c.number_of.ensures.0) (last-passes a.base a.count a.stride (λ e. omega (arith, some)))
