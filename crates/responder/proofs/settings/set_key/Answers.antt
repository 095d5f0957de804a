-- `responder::settings::set_key` meets its contract.
-- Assumes nothing.
use Rattle.responder.specs.Receive.{key_set_answered}
use Rattle.responder.proofs.settings.set_key.Goals as goal

pub returns : goal.returns
unfolding key_set_answered
returns c = rw (c.send_byte.ensures, c.result_byte-result.ensures, ← c.read_u8.ensures, ← c.store.ensures)
