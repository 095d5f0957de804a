-- Laws of what a call hands out: bytes to a room that is long enough.
-- Assumes nothing.
use mathlib.Core.Path.{◌≡◌, refl, ◌∙◌}
use mathlib.Core.List.{List}
use Prim.Native.Nat.{ℕ, ◌≤◌}
use native.Mathlib.Omega.{arith}
use borrow.Author.Tests.{le-ltb}
use lib.ListN.{length}
use lib.Seq.{take-length}
use Rattle.std.specs.Prelude.{Ok}
use Rattle.octets.specs.Bytes.{copied}
use Rattle.octets.proofs.Overlay.{copied-fits}
use Rattle.oatcastle.specs.Answers.{room_told, room_left}

-- bytes copied to a room that is long enough
pub told-filled : {T : Type 0} (told : T) (bs room : List ℕ) {s : List ℕ} → length bs ≤ length room
    → s ≡ copied bs 0 (length bs) room 0
    → (Ok told ≡ room_told (Ok told) bs room) × (s ≡ room_left (Ok told) bs room)
told-filled told bs room h e =
    let fits = rw take-length at (copied-fits bs 0 (length bs) room 0 (omega arith) (omega arith)) in
    rw (le-ltb (length room) (length bs) h) (refl, e ∙ fits)
