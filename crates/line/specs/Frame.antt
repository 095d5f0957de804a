-- A message's frame, the wire bytes of a list of messages, and a stream split at its zeros. They follow document 01, "The message on the
-- wire" and "Demand 3's words", and document 02, item 13. Assumes nothing: these are definitions.
use Rattle.std.specs.Prelude.{List, [], ◌∷◌, ◌++◌, ℕ, zero, suc, ◌≤◌, length, drop}
use Rattle.line.specs.Message.{Message, InRange, message}
use Rattle.line.specs.Cobs.{cobs}

-- the COBS form
abbrev pub form : Message → List ℕ
form m = cobs (message m)

-- and then one 00
unfoldable pub frame : Message → List ℕ
frame m = cobs (message m) ++ (0 ∷ [])

-- any number of 00, then for each message its frame and any number of 00
pub data WireBytes : List Message → List ℕ → Type 0 where
  over : WireBytes [] []
  idle : {ms : List Message} {w : List ℕ} → WireBytes ms w → WireBytes ms (0 ∷ w)
  sent : {m : Message} {ms : List Message} {w : List ℕ} → InRange m → WireBytes ms w → WireBytes (m ∷ ms) (frame m ++ w)

-- ---- A stream split at its zeros

-- the pieces that end at a zero, without it, in order, and what stands after the last zero
pub record Pieces : Type 0 where
  pub closed : List (List ℕ)
  pub rest : List ℕ

-- a byte ahead of the first piece
abbrev pub ahead_of_pieces : ℕ → List (List ℕ) → List ℕ → Pieces
ahead_of_pieces b [] rest = record { closed = []; rest = b ∷ rest }
ahead_of_pieces b (p ∷ ps) rest = record { closed = (b ∷ p) ∷ ps; rest = rest }

unfoldable pub split : List ℕ → Pieces
split [] = record { closed = []; rest = [] }
split (zero ∷ w) = record { closed = [] ∷ (split w).closed; rest = (split w).rest }
split (suc b ∷ w) = ahead_of_pieces (suc b) (split w).closed (split w).rest

-- the pieces that are not empty
unfoldable pub non_empty : List (List ℕ) → List (List ℕ)
non_empty [] = []
non_empty ([] ∷ ps) = non_empty ps
non_empty ((b ∷ bs) ∷ ps) = (b ∷ bs) ∷ non_empty ps

-- of the joined bytes, the pieces whose zero is one of the bytes that came behind w
unfoldable pub closed_behind : List ℕ → List ℕ → List (List ℕ)
closed_behind w more = drop (length (split w).closed) (split (w ++ more)).closed

-- each piece with its zero
unfoldable pub with_zeros : List (List ℕ) → List ℕ
with_zeros [] = []
with_zeros (p ∷ ps) = p ++ 0 ∷ with_zeros ps

-- a byte 1 to 255
abbrev pub NonZero : ℕ → Type 0
NonZero b = (1 ≤ b) × (b ≤ 255)
