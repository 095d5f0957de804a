-- `responder::receive::receive` meets its contract: an iteration for each frame, and the rest of the piece after it.
-- Assumes nothing.
use Prim.Native.Nat.{◌-◌}
use lib.ListN.{length}
use Rattle.responder.specs.Stores.{parts_of, SameStores}
use Rattle.responder.proofs.StepLaws.{Held}
use Rattle.responder.proofs.receive.receive.Given as goal

abbrev pub invariant-loop-at : goal.invariant-loop-at
invariant-loop-at l = record {
  same : SameStores l.stores l.initial.stores;
  held : Held l.image l.piece (parts_of l.initial.reader l.initial.stores) (parts_of l.reader l.stores) l.at;
}

abbrev pub decreases-loop-at : goal.decreases-loop-at
decreases-loop-at l = length l.piece - l.at
