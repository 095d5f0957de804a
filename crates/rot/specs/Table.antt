-- What the contract of the constant table cites: the rule of its entries.
-- Assumes nothing: these are definitions.
use Rattle.std.specs.Prelude.{◌≡◌, cond, List, ℕ, zero, suc, ◌*◌, ◌-◌, ◌^◌, ◌<◌, leb, get_or}
use Rattle.std.specs.Int.Bits.{bit_xor}
use Rattle.rot.specs.Crc.{polynomial}

-- one shift of a register of 32 bits: the polynomial where the bit that leaves it is set
unfoldable pub shift : ℕ → ℕ
shift c = cond (leb (2 ^ 31) c) (bit_xor ((c - 2 ^ 31) * 2) polynomial) (c * 2)

unfoldable pub shifts : ℕ → ℕ → ℕ
shifts zero c = c
shifts (suc n) c = shifts n (shift c)

-- the entry at a byte: eight shifts of the register with the byte at its top
unfoldable pub table_entry : ℕ → ℕ
table_entry byte = shifts 8 (byte * 2 ^ 24)

-- every entry of a table of 256 follows the rule
abbrev pub Entries : List ℕ → Type 0
Entries table = (byte : ℕ) → byte < 256 → get_or table byte 0 ≡ table_entry byte
