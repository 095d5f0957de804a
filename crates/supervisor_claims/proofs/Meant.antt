-- What the claims over local calls say of an answer: valid parts, a refusal or the state left, a record read.
-- Assumes nothing.
use mathlib.Core.Path.{◌≡◌}
use mathlib.Core.Bool.{true}
use mathlib.Core.List.{List, []}
use mathlib.Core.Option.{Option, none, some}
use Prim.Native.Nat.{ℕ}
use lib.ListN.{length}
use Rattle.supervisor.specs.State.{Recorded}
use Rattle.supervisor.specs.Local
use Rattle.supervisor.specs.Calls
use Rattle.supervisor.specs.declared.registers.Kind.{Kind}
use Rattle.supervisor_claims.specs.ByPart.{Part, valid_part, with_part}
use Rattle.supervisor_claims.specs.View.{view}
use Rattle.supervisor_claims.specs.Sound.{Valid, with_registers}
use Rattle.supervisor_claims.proofs.ByPart.{every-with}

pub valid-with : (p : Calls.Parts) (i : Part) (s : List ℕ) → Valid p → valid_part i s ≡ true → Valid (with_part p i s)
valid-with = every-with (λ i s. valid_part i s ≡ true)

-- a refusal with nothing changed, or valid parts that hold the state
abbrev pub Does : Calls.Parts → Calls.RegistersOutcome → Local.Done → Type 0
Does p c (Local.refused n) = c ≡ Calls.registers_outcome (some n) p.registers
Does p c (Local.left s) = (c.refusal ≡ none) × (view (with_registers p c.registers) ≡ s) × Valid (with_registers p c.registers)

-- a record: its code, whole length and how many bytes are kept, and those bytes
abbrev pub Reads : Option Calls.RecordRead → List ℕ → Option Recorded → Type 0
Reads none bs none = bs ≡ []
Reads none bs (some x) = ⊥
Reads (some r) bs none = ⊥
Reads (some r) bs (some x) = (r.code ≡ x.code) × (r.whole ≡ x.whole) × (r.kept ≡ length x.kept) × (bs ≡ x.kept)

abbrev pub RecordedAs : Calls.Parts → Kind → Option Recorded → Type 0
RecordedAs p k x = (r : Option Calls.RecordRead) × (Calls.record_promise p.registers k ≡ Calls.is r)
    × Reads r (Calls.record_bytes_promise p.registers k) x
