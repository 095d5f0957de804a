-- The CRC32 of the root-of-trust link, bit by bit (document 02, item 7):
-- polynomial 04c11db7, top bit first, start 0, complemented at the end.
-- Assumes nothing: these are definitions.
use Rattle.std.specs.Prelude.{cond, List, [], ◌∷◌, ℕ, zero, suc, ◌*◌, ◌-◌, ◌/◌, ◌%◌, ◌^◌, eqb}
use Rattle.std.specs.Int.Bits.{bit_xor}

abbrev pub polynomial : ℕ
polynomial = 0x04c1_1db7

-- the register of 32 bits moved up by one bit, without the top bit, which leaves it
abbrev pub doubled : ℕ → ℕ
doubled register = register % 2 ^ 31 * 2

-- one bit of the message: the register moves up, and takes the polynomial where the bit that leaves it differs from the message's
unfoldable pub after_bit : ℕ → ℕ → ℕ
after_bit register bit = cond (eqb (register / 2 ^ 31) bit) (doubled register) (bit_xor (doubled register) polynomial)

unfoldable pub after_bits : ℕ → List ℕ → ℕ
after_bits register [] = register
after_bits register (b ∷ bs) = after_bits (after_bit register b) bs

-- the n bits of a number, the top bit first
unfoldable pub bits : ℕ → ℕ → List ℕ
bits zero v = []
bits (suc n) v = v / 2 ^ n ∷ bits n (v % 2 ^ n)

unfoldable pub after_bytes : ℕ → List ℕ → ℕ
after_bytes register [] = register
after_bytes register (b ∷ bs) = after_bytes (after_bits register (bits 8 b)) bs

-- every bit the other way round
abbrev pub complement : ℕ → ℕ
complement register = 2 ^ 32 - 1 - register

unfoldable pub crc : List ℕ → ℕ
crc message = complement (after_bytes 0 message)
