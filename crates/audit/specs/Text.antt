-- What the audit program writes for a capture (document 02, item 13): a line for each frame that is not empty, then the tail's.
-- Assumes nothing: these are definitions.
use Rattle.std.specs.Prelude.{cond, List, [], ◌∷◌, ◌++◌, ℕ, zero, suc, ◌+◌, ◌*◌, ◌/◌, ◌%◌, ltb, length}
use Rattle.line.specs.Judge.{LineVerdict, failure, good}
use Rattle.plain.specs.Listing.{ListedFrame, Listing, listing}

abbrev pub longest_capture : ℕ
longest_capture = 65536

-- room for every text: a line has at most nine bytes for at least two of the capture's, and the tail's line eleven
abbrev pub text_room : ℕ
text_room = 5 * longest_capture + 11

-- a number's decimal digits in ASCII, at most so many, none a zero ahead of the others
unfoldable pub digits_within : ℕ → ℕ → List ℕ
digits_within zero n = []
digits_within (suc most) n = cond (ltb n 10) ((48 + n) ∷ []) (digits_within most (n / 10) ++ (48 + n % 10) ∷ [])

-- n has no more digits than n + 1
unfoldable pub decimal : ℕ → List ℕ
decimal n = digits_within (suc n) n

-- `ok`, or the reason
unfoldable pub word : LineVerdict → List ℕ
word (good m) = 0x6f ∷ 0x6b ∷ []
word (failure reason sequence) = decimal reason

-- the start, a space, the word and a line end
unfoldable pub line : ListedFrame → List ℕ
line e = decimal e.start ++ 0x20 ∷ (word e.verdict ++ 0x0a ∷ [])

unfoldable pub lines : List ListedFrame → List ℕ
lines [] = []
lines (e ∷ es) = line e ++ lines es

-- `tail`, a space, the length and a line end
unfoldable pub tail_line : ℕ → List ℕ
tail_line n = 0x74 ∷ 0x61 ∷ 0x69 ∷ 0x6c ∷ 0x20 ∷ (decimal n ++ 0x0a ∷ [])

unfoldable pub text : Listing → List ℕ
text l = lines l.entries ++ tail_line l.tail

-- `too long` and a line end
unfoldable pub too_long : List ℕ
too_long = 0x74 ∷ 0x6f ∷ 0x6f ∷ 0x20 ∷ 0x6c ∷ 0x6f ∷ 0x6e ∷ 0x67 ∷ 0x0a ∷ []

unfoldable pub audit : List ℕ → List ℕ
audit capture = cond (ltb longest_capture (length capture)) too_long (text (listing capture))
