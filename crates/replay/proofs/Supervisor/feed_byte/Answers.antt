-- `replay::Supervisor::feed_byte` meets its contract.
-- Assumes nothing.
use Rattle.replay.specs.Feed.{parts_held}
use Rattle.replay.proofs.Feeding.{fed_byte}
use Rattle.replay.proofs.Supervisor.feed_byte.Goals as goal

pub returns : goal.returns
returns c =
    let a = c.args in
    let f = fed_byte (parts_held a.self.now) a.byte a.room.now _ _ c.requires c.receive.ensures c.take.ensures in
    rw c.unwrap_or.ensures f
