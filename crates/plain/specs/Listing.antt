-- The listing of a captured stream (document 02, item 13): what the tests make of each frame that is not empty, and the tail's length.
-- Assumes nothing: these are definitions.
use Rattle.std.specs.Prelude.{List, [], ◌∷◌, ◌++◌, ℕ, ◌+◌, length}
use Rattle.line.specs.Judge.{LineVerdict, judge}
use Rattle.line.specs.Frame.{Pieces, split}

-- a frame that is not empty: the offset of its first byte in the whole stream, and the line layer's verdict
pub record ListedFrame : Type 0 where
  pub start : ℕ
  pub verdict : LineVerdict

pub record Listing : Type 0 where
  pub entries : List ListedFrame
  -- the bytes after the last 00, however many
  pub tail : ℕ

-- the entry of the bytes before a 00 that start at an offset; no bytes are not listed
unfoldable pub listed_frame : ℕ → List ℕ → List ListedFrame
listed_frame at [] = []
listed_frame at (b ∷ bs) = (record { start = at; verdict = judge (b ∷ bs) }) ∷ []

-- pieces that end at a 00, the first of which starts at an offset; the next starts behind its bytes and its 00
unfoldable pub listed_frames : ℕ → List (List ℕ) → List ListedFrame
listed_frames at [] = []
listed_frames at (p ∷ ps) = listed_frame at p ++ listed_frames (at + length p + 1) ps

-- what is listed of a stream from an offset on
abbrev pub listing_from : ℕ → Pieces → Listing
listing_from at x = record { entries = listed_frames at x.closed; tail = length x.rest }

unfoldable pub listing : List ℕ → Listing
listing w = listing_from 0 (split w)
