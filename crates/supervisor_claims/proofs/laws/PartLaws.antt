-- A part after bytes were put into it: as long as before, and bytes where it held bytes.
-- Assumes nothing.
use mathlib.Core.Path.{◌≡◌, refl, ◌∙◌}
use mathlib.Core.List.{List, ◌++◌}
use Prim.Native.Nat.{ℕ, ◌+◌, ◌≤◌}
use native.Mathlib.Omega.{arith}
use lib.ListN.{length}
use Rattle.octets.specs.Bytes.{Byte, Each, bytes, overlay}
use Rattle.octets.proofs.Each.{each_append}
use Rattle.octets.proofs.Numbers.{length-bytes, bytes-each}
use Rattle.octets.proofs.Overlay.{length-overlay, overlay-each}

pub record Like (s t : List ℕ) : Type 0 where
  pub long : length t ≡ length s
  pub bytes : Each Byte s → Each Byte t

pub like-itself : (s : List ℕ) → Like s s
like-itself s = record { long = refl; bytes = λ b. b }

pub like-then : {s t u : List ℕ} → Like s t → Like t u → Like s u
like-then a b = record { long = b.long ∙ a.long; bytes = λ e. b.bytes (a.bytes e) }

pub like-put : (at : ℕ) (xs s : List ℕ) → at + length xs ≤ length s → (Each Byte s → Each Byte xs) → Like s (overlay at xs s)
like-put at xs s h e = record { long = length-overlay at xs s h; bytes = λ b. overlay-each Byte at xs s (e b) b }

pub like-stored : (k at v : ℕ) (s : List ℕ) → at + k ≤ length s → Like s (overlay at (bytes k v) s)
like-stored k at v s h = like-put at (bytes k v) s (omega (arith, length-bytes k v)) (λ _. bytes-each k v)

-- a number, and bytes behind it
pub each_number : (k v : ℕ) (xs : List ℕ) → Each Byte xs → Each Byte (bytes k v ++ xs)
each_number k v xs e = each_append Byte (bytes k v) xs (bytes-each k v) e
