-- `responder::receive::head_and_reason` meets its contract.
-- Assumes nothing.
use mathlib.Core.Option.{some}
use Rattle.responder.proofs.receive.head_and_reason.Goals as goal

pub returns-in-Checksum : goal.returns-in-Checksum
returns-in-Checksum c = (some c.in-Checksum.sequence, c.numbered.ensures, rw c.in-Checksum.is)

pub returns-in-Magic : goal.returns-in-Magic
returns-in-Magic c = (some c.in-Magic.sequence, c.numbered-in-Magic.ensures, rw c.in-Magic.is)
