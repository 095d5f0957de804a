-- Bytes, little-endian numbers, runs of a list and overlays on one.
-- Assumes nothing: these are definitions.
use Rattle.std.specs.Prelude.{Bool, true, false, cond, ◌&&◌, List, [], ◌∷◌, ◌++◌, ℕ, zero, suc, ◌+◌, ◌*◌, ◌/◌, ◌%◌, ◌^◌, ◌<◌, leb, eqb}
use Rattle.std.specs.Prelude.{length, take, drop}

abbrev pub Byte : ℕ → Type 0
Byte b = b < 256

-- every element of a list has the property
abbrev pub Each : {A : Type 0} → (A → Type 0) → List A → Type 0
Each P [] = Unit {0}
Each P (x ∷ xs) = P x × Each P xs

-- the number that bytes stand for, the lowest byte first
unfoldable pub number : List ℕ → ℕ
number [] = 0
number (b ∷ bs) = b + number bs * 256

-- the k lowest bytes of a number, the lowest byte first
unfoldable pub bytes : ℕ → ℕ → List ℕ
bytes zero v = []
bytes (suc k) v = v % 256 ∷ bytes k (v / 256)

-- the bit of a number at a position
abbrev pub bit : ℕ → ℕ → ℕ
bit n k = n / 2 ^ k % 2

-- the n bytes from an offset on, or as many as there are
abbrev pub run : ℕ → ℕ → List ℕ → List ℕ
run at n s = take n (drop at s)

-- the number in the k bytes from an offset on; a byte past the end counts 0
abbrev pub number_at : ℕ → List ℕ → ℕ → ℕ
number_at k s at = number (run at k s)

-- whether n bytes from an offset on lie within a list
abbrev pub fits : ℕ → ℕ → List ℕ → Bool
fits at n s = leb (at + n) (length s)

-- a list with xs instead of as many of its bytes from an offset on
unfoldable pub overlay : ℕ → List ℕ → List ℕ → List ℕ
overlay at xs s = take at s ++ xs ++ drop (at + length xs) s

-- the overlay where it fits; else the list as it is
unfoldable pub put : ℕ → List ℕ → List ℕ → List ℕ
put at xs s = cond (fits at (length xs) s) (overlay at xs s) s

-- n bytes of src from an offset on, put into dst; nothing where src has fewer
unfoldable pub copied : List ℕ → ℕ → ℕ → List ℕ → ℕ → List ℕ
copied src from n dst at = cond (fits from n src) (put at (run from n src) dst) dst

-- n bytes moved to a lower offset, or to their own; nothing where they do not lie within the list
unfoldable pub moved_down : List ℕ → ℕ → ℕ → ℕ → List ℕ
moved_down s from to n = cond (fits from n s && leb to from) (overlay to (run from n s) s) s

-- whether two lists of numbers are equal
unfoldable pub equal : List ℕ → List ℕ → Bool
equal [] [] = true
equal [] (y ∷ ys) = false
equal (x ∷ xs) [] = false
equal (x ∷ xs) (y ∷ ys) = eqb x y && equal xs ys

-- whether n bytes of s and n bytes of t, each from an offset on, are there and equal
unfoldable pub same_run : List ℕ → ℕ → List ℕ → ℕ → ℕ → Bool
same_run s at t bt n = fits at n s && (fits bt n t && equal (run at n s) (run bt n t))
