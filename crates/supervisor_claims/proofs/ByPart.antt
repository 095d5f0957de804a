-- Laws of the parts by name: what holds of every part, parts that are given by their names, one part replaced, and the published lengths.
-- Assumes nothing.
use mathlib.Core.Path.{◌≡◌, refl}
use mathlib.Core.Bool.{Bool, true, and-eq-true_iff}
use mathlib.Core.List.{List}
use Prim.Native.Nat.{ℕ, ◌≤◌, ◌<◌}
use native.Mathlib.Omega.{arith}
use lib.ListN.{length}
use Rattle.line.proofs.Received.{valid-long}
use Rattle.supervisor.specs.Calls.{Parts}
use Rattle.supervisor.proofs.ValidLaws.{outbox-valid, factory-valid, settings-valid, registers-valid}
use Rattle.supervisor_claims.specs.ByPart.{Part, reader, outbox, factory, settings, registers, published, part, valid_part, parts_by}
use Rattle.supervisor_claims.specs.ByPart.{with_part, every_part, Every}

pub every : {P : Part → Type 0} → ((i : Part) → P i) → Every P
every f = record {
  reader = f Part.reader;
  outbox = f Part.outbox;
  factory = f Part.factory;
  settings = f Part.settings;
  registers = f Part.registers;
}

pub of : {P : Part → Type 0} → Every P → (i : Part) → P i
of e Part.reader = e.reader
of e Part.outbox = e.outbox
of e Part.factory = e.factory
of e Part.settings = e.settings
of e Part.registers = e.registers

pub every_true : (f : Part → Bool) → Every (λ i. f i ≡ true) → every_part f ≡ true
every_true f e = rw (e.reader, e.outbox, e.factory, e.settings, e.registers)

pub true-every : (f : Part → Bool) → every_part f ≡ true → Every (λ i. f i ≡ true)
true-every f e =
    let r = (and-eq-true_iff (f Part.reader) _).0 e in
    let o = (and-eq-true_iff (f Part.outbox) _).0 r.1 in
    let a = (and-eq-true_iff (f Part.factory) _).0 o.1 in
    let s = (and-eq-true_iff (f Part.settings) _).0 a.1 in
    record { reader = r.0; outbox = o.0; factory = a.0; settings = s.0; registers = s.1 }

-- the bytes that the parts were given
pub part_by : (f : Part → List ℕ) (i : Part) → part (parts_by f) i ≡ f i
part_by f Part.reader = refl
part_by f Part.outbox = refl
part_by f Part.factory = refl
part_by f Part.settings = refl
part_by f Part.registers = refl

pub every-by : (f : Part → List ℕ) (P : Part → List ℕ → Type 0) → ((i : Part) → P i (f i)) → Every (λ i. P i (part (parts_by f) i))
every-by f P h = record {
  reader = h Part.reader;
  outbox = h Part.outbox;
  factory = h Part.factory;
  settings = h Part.settings;
  registers = h Part.registers;
}

pub every-with : (P : Part → List ℕ → Type 0) (p : Parts) (i : Part) (s : List ℕ) → Every (λ j. P j (part p j)) → P i s
    → Every (λ j. P j (part (with_part p i s) j))
every-with P p Part.reader s e h =
    record { reader = h; outbox = e.outbox; factory = e.factory; settings = e.settings; registers = e.registers }
every-with P p Part.outbox s e h =
    record { reader = e.reader; outbox = h; factory = e.factory; settings = e.settings; registers = e.registers }
every-with P p Part.factory s e h =
    record { reader = e.reader; outbox = e.outbox; factory = h; settings = e.settings; registers = e.registers }
every-with P p Part.settings s e h =
    record { reader = e.reader; outbox = e.outbox; factory = e.factory; settings = h; registers = e.registers }
every-with P p Part.registers s e h =
    record { reader = e.reader; outbox = e.outbox; factory = e.factory; settings = e.settings; registers = h }

pub parts_same : (f g : Part → List ℕ) → ((i : Part) → f i ≡ g i) → parts_by f ≡ parts_by g
parts_same f g h = rw (h Part.reader, h Part.outbox, h Part.factory, h Part.settings, h Part.registers)

pub published-some : (i : Part) → 0 < published i
published-some Part.reader = omega arith
published-some Part.outbox = omega arith
published-some Part.factory = omega arith
published-some Part.settings = omega arith
published-some Part.registers = omega arith

-- a part as 12 requires has its published length
pub part-long : (i : Part) (s : List ℕ) → valid_part i s ≡ true → published i ≤ length s
part-long Part.reader s v = valid-long s v
part-long Part.outbox s v = (outbox-valid s v).long
part-long Part.factory s v = (factory-valid s v).long
part-long Part.settings s v = (settings-valid s v).long
part-long Part.registers s v = (registers-valid s v).long
