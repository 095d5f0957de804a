-- The parts that a request reads and changes, as the code lends them on: their contents, their tests, and what a request leaves of them.
-- Assumes nothing: these are definitions.
use Rattle.std.specs.Prelude.{◌≡◌, true, List, ℕ, ◌≤◌, length}
use Rattle.line.specs.Message.{Message}
use Rattle.supervisor.specs.Layout.{outbox_length, factory-length, settings_length, registers_length}
use Rattle.supervisor.specs.Valid.{valid_factory, valid_settings, valid_registers}
use Rattle.supervisor.specs.Calls.{Parts, parts}
use Rattle.counters.specs.Ended.{Ended, Served}
use Rattle.responder.specs.Requests.{Verdict}
use Rattle.responder.specs.Receive.{Inner, inner, inner_by, valid_inner, message_with, ended_by_verdict, served_by_verdict}
use Rattle.responder.specs.declared.stores.Stores.{Stores}
use Rattle.responder.specs.declared.requests.Request.{Request}

-- the parts with this content of the reader's, and those that a request may change
abbrev pub parts_of : List ℕ → Stores → Parts
parts_of reader s = parts reader s.outbox.now s.factory.now s.settings.now s.registers.now

abbrev pub inner_held : Stores → Inner
inner_held s = inner s.outbox.now s.settings.now s.registers.now

-- what a request's contents say
abbrev pub asked_message : Request → Message
asked_message r = message_with r.version r.number.0 r.command r.payload.now

-- stores that pass the tests for 12, with their lengths
pub record ValidStores (s : Stores) : Type 0 where
  pub factory : valid_factory s.factory.now ≡ true
  pub inner : valid_inner (inner_held s) ≡ true
  pub settings : valid_settings s.settings.now ≡ true
  pub registers : valid_registers s.registers.now ≡ true
  pub factory_long : factory-length ≤ length s.factory.now
  pub outbox_long : outbox_length ≤ length s.outbox.now
  pub settings_long : settings_length ≤ length s.settings.now
  pub registers_long : registers_length ≤ length s.registers.now

-- the same memory: what is only read is as it was
pub record SameStores (s t : Stores) : Type 0 where
  pub image : s.image ≡ t.image
  pub factory : s.factory ≡ t.factory
  pub outbox : s.outbox.ghost_name ≡ t.outbox.ghost_name
  pub settings : s.settings.ghost_name ≡ t.settings.ghost_name
  pub registers : s.registers.ghost_name ≡ t.registers.ghost_name

-- what comes of a message by the table's verdict on it: how its frame ended, what is told of it, and the stores that are left
pub record StoresAnswered (s : Stores) (v : Verdict) (ended : Ended) (told : Served) (t : Stores) : Type 0 where
  pub same : SameStores t s
  pub ends : ended ≡ ended_by_verdict v
  pub tells : told ≡ served_by_verdict s.settings.now v
  pub leaves : inner_held t ≡ inner_by s.image.now s.factory.now (inner_held s) v
  pub valid : valid_inner (inner_held t) ≡ true
