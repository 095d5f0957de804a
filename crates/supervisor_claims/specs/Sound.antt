-- Valid parts, sound parts, which hold bytes too, their lengths, and parts that hold a state.
-- Assumes nothing: these are definitions.
use Rattle.std.specs.Prelude.{◌≡◌, true, List, ℕ, length}
use Rattle.octets.specs.Bytes.{Each, Byte}
use Rattle.supervisor.specs.State.{State}
use Rattle.supervisor.specs.Calls.{Parts}
use Rattle.supervisor_claims.specs.ByPart.{Part, part, valid_part, with_part, Every}
use Rattle.supervisor_claims.specs.View.{view}

-- every part is as 12 requires
abbrev pub Valid : Parts → Type 0
Valid p = Every (λ i. valid_part i (part p i) ≡ true)

-- every part holds bytes
abbrev pub Bytes : Parts → Type 0
Bytes p = Every (λ i. Each Byte (part p i))

pub record Sound (p : Parts) : Type 0 where
  pub valid : Valid p
  pub bytes : Bytes p

-- each part of q is as long as p's
abbrev pub Lengths : Parts → Parts → Type 0
Lengths p q = Every (λ i. length (part q i) ≡ length (part p i))

-- q holds the state s, is sound, and its parts are as long as p's
abbrev pub Leaves : Parts → Parts → State → Type 0
Leaves p q s = (view q ≡ s) × Sound q × Lengths p q

-- the parts with another reader, another outbox, other settings, or with other registers
abbrev pub with_reader : Parts → List ℕ → Parts
with_reader p r = with_part p Part.reader r

abbrev pub with_outbox : Parts → List ℕ → Parts
with_outbox p o = with_part p Part.outbox o

abbrev pub with_settings_part : Parts → List ℕ → Parts
with_settings_part p s = with_part p Part.settings s

abbrev pub with_registers : Parts → List ℕ → Parts
with_registers p r = with_part p Part.registers r
