-- What `feed` reads of some bytes, and what it leaves, by the replay of a stream.
-- Assumes nothing: these are definitions. The image is empty, as document 01 has it of the replay program.
use Rattle.std.specs.Prelude.{◌≡◌, cond, List, [], ◌∷◌, ℕ, suc, ◌-◌, ltb, length, take}
use Rattle.std.specs.declared.option.Option.{Option}
use Rattle.std.specs.Io.KnownBytes.{Consumes, Appends}
use Rattle.octets.specs.Bytes.{overlay}
use Rattle.supervisor.specs.Limits.{most_pending}
use Rattle.supervisor.specs.Calls.{Parts, parts}
use Rattle.responder.specs.Replay.{replay_byte, replay_bytes}
use Rattle.replay.specs.declared.Fed.{Fed}
use Rattle.replay.specs.declared.Supervisor.{Supervisor}

-- the contents of a supervisor's parts
abbrev pub parts_held : Supervisor → Parts
parts_held s = parts s.reader s.outbox s.factory s.settings s.registers

-- how many bytes are read: all, or those ahead of the first where less room is left than all that may be pending
unfoldable pub read_count : Parts → ℕ → List ℕ → ℕ
read_count p room [] = 0
read_count p room (b ∷ bs) =
    let c = replay_byte [] p b in
    cond (ltb room most_pending) 0 (suc (read_count c.parts (room - length c.taken) bs))

-- how many bytes are read, how many bytes of output are kept at the start of the room, the room, and the parts
pub record FeedOutcome : Type 0 where
  pub read : ℕ
  pub kept : ℕ
  pub room : List ℕ
  pub parts : Parts

abbrev pub feed_outcome : Fed → List ℕ → Parts → FeedOutcome
feed_outcome r room p = record { read = r.read; kept = r.kept; room = room; parts = p }

unfoldable pub feed_promise : List ℕ → List ℕ → Parts → FeedOutcome
feed_promise bytes room p =
    let n = read_count p (length room) bytes in
    let c = replay_bytes [] p (take n bytes) in
    record { read = n; kept = length c.taken; room = overlay 0 c.taken room; parts = c.parts }

-- The bytes that an input lost were replayed, an output took what that replay takes, and the parts are those that it leaves.
-- Of an input and an output whose bytes are not known it says nothing.
pub record Replays (input-before input-after output-before output-after : Option (List ℕ)) (p q : Parts) (bytes : List ℕ) : Type 0 where
  pub consumed : Consumes input-before input-after bytes
  pub written : Appends output-before output-after (replay_bytes [] p bytes).taken
  pub leaves : q ≡ (replay_bytes [] p bytes).parts
