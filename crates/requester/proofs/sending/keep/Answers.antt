-- `requester::sending::keep` meets its contract.
-- Assumes nothing.
use mathlib.Core.Path.{refl}
use native.Mathlib.Omega.{arith}
use Rattle.requester.specs.Layout.{step_number}
use Rattle.requester.specs.Calls.{with_request}
use Rattle.requester.proofs.ProgressLaws.{request-kept}
use Rattle.requester.proofs.sending.keep.Goals as goal

pub returns-then-not-kept : goal.returns-then-not-kept
unfolding with_request step_number
returns-then-not-kept c =
    rw (← c.if-not-kept.ensures) (rw (c.idle.ensures, c.if-not-kept.true) at c.write.ensures)

pub returns : goal.returns
unfolding with_request step_number
returns c =
    let w = rw (c.idle.ensures, c.if-not-kept.false) at c.write.ensures in
    rw (← c.if-not-kept.ensures, ← w)
    (request-kept _ (omega arith) _ _ c.requires.data_len_bound c.write_u16.ensures c.copy_from_slice.ensures.after refl)
