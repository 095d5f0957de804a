-- `responder::sending::set_pending` meets its contract.
-- Assumes nothing.
use mathlib.Core.Path.{◌≡◌}
use mathlib.Core.Bool.{cond}
use native.Mathlib.Omega.{arith}
use lib.Dec.{eqb}
use Rattle.std.proofs.lemmas.Bool.Decides.{nat_tests}
use Rattle.responder.proofs.SendingLaws.{pending-set}
use Rattle.responder.proofs.sending.set_pending.Goals as goal

pub returns : goal.returns
returns c =
    let a = c.args in
    let first : c.from-from.result ≡ cond (eqb c.read_u8-owed.result 1) 0 1 = grind (arith, nat_tests, c.from-from.ensures) in
    pending-set a.outbox.now a.n c.requires.outbox_length_in_bounds c.read_u8-owed.ensures first c.write_u16.ensures
    c.write_u16-2.ensures
