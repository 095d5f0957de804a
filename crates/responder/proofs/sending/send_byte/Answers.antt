-- `responder::sending::send_byte` meets its contract.
-- Assumes nothing.
use native.Mathlib.Omega.{arith}
use Rattle.octets.proofs.Numbers.{one_byte}
use Rattle.responder.proofs.sending.send_byte.Goals as goal

pub returns : goal.returns
returns c = rw (one_byte c.args.byte (omega (arith, c.ranges.byte))) c.send_part.ensures
