-- `responder::counting::receive_tallied` meets its contract: a step for each frame, counted.
-- Assumes nothing.
use Prim.Native.Nat.{◌-◌}
use lib.ListN.{length}
use Rattle.responder.specs.Stores.{parts_of, SameStores}
use Rattle.responder.proofs.CountLaws.{Counted}
use Rattle.responder.proofs.counting.receive_tallied.Given as goal

abbrev pub invariant-loop-at : goal.invariant-loop-at
invariant-loop-at l = record {
  same : SameStores l.stores l.initial.stores;
  counted : Counted l.image l.piece (parts_of l.initial.reader l.initial.stores) (parts_of l.reader l.stores) l.initial.tally l.tally l.at;
}

abbrev pub decreases-loop-at : goal.decreases-loop-at
decreases-loop-at l = length l.piece - l.at
