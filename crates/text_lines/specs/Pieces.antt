-- The bytes that a line adds to a piece.
-- Assumes nothing: these are definitions.
use Rattle.std.specs.Prelude.{cond, ◌||◌, List, [], ◌∷◌, ◌++◌, ℕ, zero, suc, ◌+◌, ◌-◌, ◌/◌, ◌%◌, eqb, length, take}
use Rattle.octets.specs.Bytes.{number_at, fits, put}
use Rattle.text_lines.specs.Fields.{key_of, behind_key, decimal_in, hex_in, pair_at}

-- the values of a function at 0 up to n
unfoldable pub values : (ℕ → ℕ) → ℕ → List ℕ
values f zero = []
values f (suc n) = values f n ++ f n ∷ []

-- the last bytes of a piece, as many as back says, again and again: the j-th; a byte that is not there counts 0
unfoldable pub last_again : ℕ → List ℕ → ℕ → ℕ
last_again back piece j = cond (eqb back 0) 0 (number_at 1 piece (length piece - back + j % back))

-- How many bytes a line adds:
-- - with the key +, one for each pair of digits behind it
-- - with * and <, as many as its second field says
-- - with any other, none
unfoldable pub adds : List ℕ → ℕ
adds line =
    cond (eqb (key_of line) 43) (length (behind_key line) / 2)
    (cond (eqb (key_of line) 42 || eqb (key_of line) 60) (decimal_in 2 line) 0)

-- The j-th byte that a line adds to a piece:
-- - with +, that of its j-th pair of digits
-- - with *, that of its first field
-- - with <, one of the piece's last, as many as the first field says
unfoldable pub added_at : List ℕ → List ℕ → ℕ → ℕ
added_at line piece j =
    cond (eqb (key_of line) 43) (pair_at (behind_key line) j)
    (cond (eqb (key_of line) 42) (hex_in 1 line % 256) (last_again (decimal_in 1 line) piece j))

-- the bytes that a line adds to a piece
unfoldable pub bytes_added : List ℕ → List ℕ → List ℕ
bytes_added line piece = values (added_at line piece) (adds line)

-- a room whose first n bytes are a piece, after a line: what it adds stands behind them, where it fits
unfoldable pub room_after : List ℕ → List ℕ → ℕ → List ℕ
room_after line room n = put n (bytes_added line (take n room)) room

-- how many bytes the piece has then
unfoldable pub count_after : List ℕ → List ℕ → ℕ → ℕ
count_after line room n = cond (fits n (adds line) room) (n + adds line) n
