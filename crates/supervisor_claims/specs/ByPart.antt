-- The parts by name: the bytes and the published length of each, what 12 requires of it, and what holds of every part.
-- Assumes nothing.
use Rattle.std.specs.Prelude.{Bool, ◌&&◌, List, ℕ, eqb}
use Rattle.line.specs.Reader as LineReader
use Rattle.supervisor.specs.Layout
use Rattle.supervisor.specs.Valid.{valid_outbox, valid_factory, valid_settings, valid_registers}
use Rattle.supervisor.specs.Calls.{Parts, parts}

pub data Part : Type 0 where
  reader : Part
  outbox : Part
  factory : Part
  settings : Part
  registers : Part

-- a part by its number
abbrev pub part_number : Part → ℕ
part_number Part.reader = 0
part_number Part.outbox = 1
part_number Part.factory = 2
part_number Part.settings = 3
part_number Part.registers = 4

abbrev pub is : Part → Part → Bool
is i j = eqb (part_number i) (part_number j)

abbrev pub published : Part → ℕ
published Part.reader = LineReader.reader_length
published Part.outbox = Layout.outbox_length
published Part.factory = Layout.factory-length
published Part.settings = Layout.settings_length
published Part.registers = Layout.registers_length

-- the bytes of a part
abbrev pub part : Parts → Part → List ℕ
part p Part.reader = p.reader
part p Part.outbox = p.outbox
part p Part.factory = p.factory
part p Part.settings = p.settings
part p Part.registers = p.registers

-- whether a part is as 12 requires
abbrev pub valid_part : Part → List ℕ → Bool
valid_part Part.reader s = LineReader.valid_reader s
valid_part Part.outbox s = valid_outbox s
valid_part Part.factory s = valid_factory s
valid_part Part.settings s = valid_settings s
valid_part Part.registers s = valid_registers s

-- the parts with these bytes
abbrev pub parts_by : (Part → List ℕ) → Parts
parts_by f = parts (f Part.reader) (f Part.outbox) (f Part.factory) (f Part.settings) (f Part.registers)

-- the parts with other bytes in one
abbrev pub with_part : Parts → Part → List ℕ → Parts
with_part p Part.reader s = parts s p.outbox p.factory p.settings p.registers
with_part p Part.outbox s = parts p.reader s p.factory p.settings p.registers
with_part p Part.factory s = parts p.reader p.outbox s p.settings p.registers
with_part p Part.settings s = parts p.reader p.outbox p.factory s p.registers
with_part p Part.registers s = parts p.reader p.outbox p.factory p.settings s

-- a test that every part passes
abbrev pub every_part : (Part → Bool) → Bool
every_part f = f Part.reader && (f Part.outbox && (f Part.factory && (f Part.settings && f Part.registers)))

-- what holds of every part
pub record Every (P : Part → Type 0) : Type 0 where
  pub reader : P Part.reader
  pub outbox : P Part.outbox
  pub factory : P Part.factory
  pub settings : P Part.settings
  pub registers : P Part.registers
