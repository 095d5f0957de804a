-- What a call counts that receives with a block lent: the frames whose 00 its piece brings, in order.
-- Assumes nothing: these are definitions.
use Rattle.std.specs.Prelude.{cond, List, [], ◌∷◌, ℕ, eqb}
use Rattle.std.proofs.Math.Option.{Option, some}
use Rattle.line.specs.Judge.{more_received}
use Rattle.line.specs.Reader.{received_of}
use Rattle.supervisor.specs.Calls.{Parts}
use Rattle.counters.specs.declared.Counters.{Counters}
use Rattle.counters.specs.Ended.{Ended}
use Rattle.counters.specs.Count.{bumped_for_all}
use Rattle.responder.specs.Requests.{verdict_since}
use Rattle.responder.specs.Receive.{ended_meant, valid_parts}

-- how each frame ended whose 00 stands in the bytes, by what came of the first before them
unfoldable pub endings : Option (List ℕ) → List ℕ → List Ended
endings received [] = []
endings received (b ∷ bs) =
    cond (eqb b 0) (ended_meant (verdict_since received) ∷ endings (some []) bs) (endings (more_received received b) bs)

-- the block after a receive: a call that is refused as 12 leaves it
unfoldable pub count_promise : Counters → Parts → List ℕ → Counters
count_promise c p piece = cond (valid_parts p) (bumped_for_all c (endings (received_of p.reader) piece)) c
