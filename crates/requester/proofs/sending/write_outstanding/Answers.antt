-- `requester::sending::write_outstanding` meets its contract.
-- Assumes nothing.
use mathlib.Core.Path.{◌∙◌}
use native.Mathlib.Omega.{arith}
use Rattle.requester.proofs.ValidLaws.{requester-valid}
use Rattle.requester.proofs.SendingLaws.{kept-written, step-written}
use Rattle.requester.proofs.sending.write_outstanding.Goals as goal

pub slice_bounds-data-end : goal.slice_bounds-data-end
slice_bounds-data-end c =
    omega (arith, requester-valid _ c.requires.requester_value, c.from-n.ensures, c.read_u16.ensures)

pub returns-in-None : goal.returns-in-None
returns-in-None c =
    kept-written _ _ (requester-valid _ c.requires.requester_value) _ c.requires.now_value c.in-None.is
    (c.from-n.ensures ∙ c.read_u16.ensures)
    c.read_u8-command.ensures c.write.ensures

pub returns-in-Some : goal.returns-in-Some
returns-in-Some c =
    step-written _ _ (requester-valid _ c.requires.requester_value) _ c.requires.now_value c.in-Some.step c.in-Some.is
    (rw c.command.ensures at c.write-in-Some.ensures)
