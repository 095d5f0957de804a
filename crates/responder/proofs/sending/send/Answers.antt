-- `responder::sending::send` meets its contract.
-- Assumes nothing.
use mathlib.Core.List.{◌++◌}
use Rattle.responder.specs.Receive.{reply_bytes}
use Rattle.responder.proofs.SendingLaws.{sent}
use Rattle.responder.proofs.sending.send.Goals as goal

pub returns : goal.returns
returns c =
    let a = c.args in
    let w = c.write_reply-n.ensures in
    sent (reply_bytes a.reply a.command (a.head.now ++ a.rest.now)) a.outbox.now c.requires.outbox_length_in_bounds w.value
    w.outbox_after c.set_pending.ensures
