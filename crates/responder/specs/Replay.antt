-- The replay of a stream (document 01, "Run whole"): each byte is received, and then all that is pending is taken.
-- Assumes nothing: these are definitions.
use Rattle.std.specs.Prelude.{List, [], ◌∷◌, ◌++◌, ℕ, take, replicate}
use Rattle.supervisor.specs.Limits.{most_pending}
use Rattle.supervisor.specs.Calls.{Parts, parts, TakeReport, TakeOutcome, take_promise}
use Rattle.responder.specs.Receive.{receive_promise}

-- a room as long as all that may be pending, and a take in it
unfoldable pub whole_room : List ℕ
whole_room = replicate most_pending 0

abbrev pub take_everything : List ℕ → TakeOutcome
take_everything o = take_promise o whole_room

-- the bytes that a take moved to the start of its room
unfoldable pub moved_to : TakeReport → List ℕ → List ℕ
moved_to (TakeReport.moved n) room = take n room
moved_to (TakeReport.refused n) room = []

-- all bytes pending
abbrev pub all_pending : List ℕ → List ℕ
all_pending o = moved_to (take_everything o).report (take_everything o).room

-- the bytes taken, and the parts that are left
pub record Replayed : Type 0 where
  pub taken : List ℕ
  pub parts : Parts

-- one byte
unfoldable pub replay_byte : List ℕ → Parts → ℕ → Replayed
replay_byte image p b =
    let q = (receive_promise image p (b ∷ [])).parts in
    record {
      taken = all_pending q.outbox;
      parts = parts q.reader (take_everything q.outbox).outbox q.factory q.settings q.registers;
    }

-- bytes, one after the other
unfoldable pub replay_bytes : List ℕ → Parts → List ℕ → Replayed
replay_bytes image p [] = record { taken = []; parts = p }
replay_bytes image p (b ∷ bs) =
    let c = replay_byte image p b in
    let rest = replay_bytes image c.parts bs in
    record { taken = c.taken ++ rest.taken; parts = rest.parts }
