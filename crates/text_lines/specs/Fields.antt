-- What stands in a line of text: its key, its fields, and the numbers in them.
-- Assumes nothing: these are definitions.
use Rattle.std.specs.Prelude.{cond, ◌&&◌, List, [], ◌∷◌, ℕ, ◌+◌, ◌-◌, ◌*◌, ◌%◌, ltb, leb, eqb, length, drop}
use Rattle.octets.specs.Bytes.{number_at}
use Rattle.octets.specs.Places.{LentBytes, Place, place_in, part_place}

-- the first byte, and 0 where there is none
abbrev pub key_of : List ℕ → ℕ
key_of line = number_at 1 line 0

-- what stands behind the key and a space
abbrev pub behind_key : List ℕ → List ℕ
behind_key line = drop 2 line

abbrev pub behind_key_place : LentBytes → Place
behind_key_place line = part_place line 2

-- the field behind the k-th space, with all that follows it; nothing where there are fewer spaces
unfoldable pub field : ℕ → List ℕ → List ℕ
field k [] = []
field k (b ∷ line) = cond (eqb k 0) (b ∷ line) (field (cond (eqb b 32) (k - 1) k) line)

-- it begins so far ahead of the line's end as it is long
abbrev pub field_place : ℕ → LentBytes → Place
field_place k line = place_in line (length line.now - length (field k line.now))

-- the value of one of the digits 0 to 9 and a to f, and 16 for any other byte
unfoldable pub digit : ℕ → ℕ
digit b = cond (leb 48 b && leb b 57) (b - 48) (cond (leb 97 b && leb b 102) (b - 97 + 10) 16)

-- A number with one digit more.
-- What is at or above 2 to the 60th is cut off before, so that 64 bits hold it in bases up to 16.
unfoldable pub with_digit : ℕ → ℕ → ℕ → ℕ
with_digit base value d = value % 1152921504606846976 * base + d

-- a number with the digits behind it that a text begins with
unfoldable pub with_digits : ℕ → ℕ → List ℕ → ℕ
with_digits base value [] = value
with_digits base value (b ∷ text) = cond (ltb (digit b) base) (with_digits base (with_digit base value (digit b)) text) value

-- the number whose digits a text begins with, and 0 where it begins with none
abbrev pub number_ahead : ℕ → List ℕ → ℕ
number_ahead base text = with_digits base 0 text

-- the number in the k-th field
abbrev pub decimal_in : ℕ → List ℕ → ℕ
decimal_in k line = number_ahead 10 (field k line)

abbrev pub hex_in : ℕ → List ℕ → ℕ
hex_in k line = number_ahead 16 (field k line)

-- the byte of the k-th pair of hex digits; what is no digit, or not there, counts 0
unfoldable pub pair_at : List ℕ → ℕ → ℕ
pair_at text k = digit (number_at 1 text (2 * k)) % 16 * 16 + digit (number_at 1 text (2 * k + 1)) % 16
