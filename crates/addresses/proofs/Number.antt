-- The laws of an address as a number.
-- Assumes nothing.
use Prim.Native.Nat.{ℕ, suc, ◌+◌, ◌*◌, ◌≤◌, ◌<◌}
use mathlib.Core.Path.{◌≡◌, ap, ◌∙◌}
use mathlib.Core.List.{List, [], ◌∷◌, reverse, reverse-cons, reverse-reverse}
use native.Mathlib.Omega.{arith}
use lib.ListN.{length, get_or, length-reverse}
use Rattle.octets.specs.Bytes.{Byte, Each, number}
use Rattle.octets.proofs.Each.{each_append}
use Rattle.octets.proofs.Numbers.{number-bytes, bytes-number, number_bound}
use Rattle.addresses.specs.Addresses.{address_number, address_bytes, highest_address}

-- ---- of an address's six bytes

pub number-six : (s : List ℕ) → length s ≡ 6
    → 0 + get_or s 0 0 * 1099511627776 + get_or s 1 0 * 4294967296 + get_or s 2 0 * 16777216 + get_or s 3 0 * 65536 + get_or s 4 0 * 256
    + get_or s 5 0
    ≡ address_number s
unfolding address_number number
number-six (a ∷ b ∷ c ∷ d ∷ e ∷ f ∷ []) h = omega arith
number-six [] h = absurd (omega arith)
number-six (a ∷ []) h = absurd (omega arith)
number-six (a ∷ b ∷ []) h = absurd (omega arith)
number-six (a ∷ b ∷ c ∷ []) h = absurd (omega arith)
number-six (a ∷ b ∷ c ∷ d ∷ []) h = absurd (omega arith)
number-six (a ∷ b ∷ c ∷ d ∷ e ∷ []) h = absurd (omega arith)
number-six (a ∷ b ∷ c ∷ d ∷ e ∷ f ∷ g ∷ s) h = absurd (omega arith)

-- ---- there and back

bytes_of : (s : List ℕ) → ((i : ℕ) → get_or s i 0 < 256) → Each Byte s
bytes_of [] h = tt
bytes_of (b ∷ bs) h = (h 0, bytes_of bs (λ i. h (suc i)))

each-reverse : (s : List ℕ) → Each Byte s → Each Byte (reverse s)
each-reverse [] h = tt
each-reverse (b ∷ bs) h = rw reverse-cons (each_append Byte (reverse bs) (b ∷ []) (each-reverse bs h.1) (h.0, tt))

-- six bytes are those of their number
pub bytes-address : (s : List ℕ) → length s ≡ 6 → ((i : ℕ) → get_or s i 0 < 256) → address_bytes (address_number s) ≡ s
unfolding address_number address_bytes
bytes-address s e h =
    let b = bytes-number (reverse s) (each-reverse s (bytes_of s h)) in
    ap reverse (rw (length-reverse, e) at b) ∙ reverse-reverse s

-- whose number is at most the highest
pub number_below : (s : List ℕ) → length s ≡ 6 → Each Byte s → address_number s ≤ highest_address
unfolding address_number
number_below s e b = let h = rw (length-reverse, e) at (number_bound (reverse s) (each-reverse s b)) in omega arith

-- a number that six bytes hold is that of its bytes
pub address-bytes : (v : ℕ) → v ≤ highest_address → address_number (address_bytes v) ≡ v
unfolding address_number address_bytes
address-bytes v h = rw reverse-reverse (number-bytes 6 v (omega arith))

-- ---- bounds
