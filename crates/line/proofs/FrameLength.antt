-- How long a COBS form and a frame are at most.
-- Assumes nothing.
use mathlib.Core.Path.{◌≡◌, refl}
use mathlib.Core.List.{List, [], ◌∷◌}
use Prim.Native.Nat.{ℕ, zero, suc, ◌+◌, ◌/◌, ◌≤◌}
use native.Mathlib.Omega.{arith}
use lib.ListN.{length, length-append}
use Rattle.line.specs.Limits.{longest_data, longest_form}
use Rattle.line.specs.Message.{Message, message}
use Rattle.line.specs.Frame.{frame}
use Rattle.line.specs.Cobs.{groups, cobs}
use Rattle.line.proofs.Message.{length-message}

-- `done` bytes of the first group stand ahead of the list
groups-length : (xs : List ℕ) (room done : ℕ) → room + done ≡ 253 → length (groups room xs).after ≤ length xs + (length xs + done) / 254
unfolding groups
groups-length [] room done h = omega arith
groups-length (zero ∷ xs) room done h = let r = groups-length xs 253 0 refl in omega arith
groups-length (suc b ∷ []) zero done h = omega arith
groups-length (suc b ∷ x ∷ xs) zero done h = let r = groups-length (x ∷ xs) 253 0 refl in omega arith
groups-length (suc b ∷ xs) (suc room) done h = let r = groups-length xs room (suc done) (omega arith) in omega arith

pub overhead : (xs : List ℕ) → length (cobs xs) ≤ length xs + 1 + length xs / 254
unfolding cobs
overhead xs = let r = groups-length xs 253 0 refl in omega arith

pub form_fits : (m : Message) → length m.payload ≤ longest_data → length (cobs (message m)) ≤ longest_form
form_fits m h = omega (arith, overhead (message m), length-message m)

-- 4,141 bytes with the terminator
pub frame_fits : (m : Message) → length m.payload ≤ longest_data → length (frame m) ≤ longest_form + 1
unfolding frame
frame_fits m h = rw length-append (omega (arith, form_fits m h))
