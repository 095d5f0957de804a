-- `responder::sending::send_none` meets its contract.
-- Assumes nothing.
use Rattle.responder.specs.Receive.{sent_box}
use Rattle.responder.proofs.sending.send_none.Goals as goal

pub returns : goal.returns
unfolding sent_box
returns c = c.set_pending.ensures
