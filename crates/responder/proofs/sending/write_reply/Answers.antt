-- `responder::sending::write_reply` meets its contract.
-- Assumes nothing.
use Rattle.responder.proofs.SendingLaws.{reply-written, reply_ok}
use Rattle.responder.proofs.sending.write_reply.Goals as goal

pub unwrap-requires : goal.unwrap-requires
unwrap-requires c =
    let a = c.args in
    let p = c.requires in
    reply_ok a.reply a.command a.head.now a.rest.now a.outbox.now p.outbox_length_in_bounds p.rest_len_bound _ c.write.ensures

pub returns : goal.returns
returns c =
    let a = c.args in
    let p = c.requires in
    let r = reply-written a.reply a.command a.head.now a.rest.now a.outbox.now p.outbox_length_in_bounds p.rest_len_bound _
    c.write.ensures c.unwrap.ensures in
    record { value = r.0; upper_bound = r.1.0; outbox_after = r.1.1 }
