-- What each call of the plain reader answers and leaves, by the meaning of the line layer's tests.
-- Assumes nothing: these are definitions.
use Rattle.std.specs.Prelude.{Bool, true, false, cond, ◌||◌, List, [], ◌∷◌, ◌++◌, ℕ, zero, suc, ◌-◌, eqb, ltb, length, drop}
use Rattle.std.specs.Prelude.{Result, Ok, Err}
use Rattle.std.proofs.Math.Option.{none, some}
use Rattle.octets.specs.Bytes.{run, overlay}
use Rattle.line.specs.Limits.{header_length, longest_form}
use Rattle.line.specs.Cobs.{full_code, implied_zero, last_one_after_full}
use Rattle.line.specs.Judge.{LineVerdict, failure, good}
use Rattle.line.specs.Frame.{Pieces, split}
use Rattle.plain.specs.declared.Piece.{Piece}
use Rattle.plain.specs.declared.Piece.TheVariants as piece
use Rattle.plain.specs.declared.Head.{Head}
use Rattle.plain.specs.declared.Failure.{Failure}
use Rattle.plain.specs.declared.Failure.TheVariants.{Form, Length, Checksum, Magic}

-- a frame with so many bytes before its 00, or the unfinished tail of so many bytes
pub data NextReport : Type 0 where
  frame : ℕ → NextReport
  tail : ℕ → NextReport

unfoldable pub next_report : Piece → NextReport
next_report (piece.Frame n) = NextReport.frame n
next_report (piece.Tail n) = NextReport.tail n

-- the first piece, by its length
unfoldable pub first_of : List (List ℕ) → List ℕ → NextReport
first_of [] rest = NextReport.tail (length rest)
first_of (p ∷ ps) rest = NextReport.frame (length p)

abbrev pub first_piece : Pieces → NextReport
first_piece x = first_of x.closed x.rest

-- what begins at an offset of a capture
unfoldable pub piece_at : List ℕ → ℕ → NextReport
piece_at w at = first_piece (split (drop at w))

-- the verdict that an answer stands for; the data stand in the array behind the message's header
unfoldable pub plain_verdict : Result Head Failure → List ℕ → LineVerdict
plain_verdict (Ok h) m =
    good (record { version = h.version; sequence = h.sequence; command = h.command; payload = run header_length h.length m })
plain_verdict (Err Form) m = failure 1 none
plain_verdict (Err Length) m = failure 3 none
plain_verdict (Err (Checksum sequence)) m = failure 2 (some sequence)
plain_verdict (Err (Magic sequence)) m = failure 4 (some sequence)

-- `group_bytes` with the bytes that come ahead of a failure.
-- It has whether the form is one, and its bytes up to the code byte that fails or to the end.
pub record Decoding : Type 0 where
  pub whole : Bool
  pub bytes : List ℕ

abbrev pub behind : List ℕ → Decoding → Decoding
behind xs d = record { whole = d.whole; bytes = xs ++ d.bytes }

unfoldable pub decode_group : ℕ → Bool → List ℕ → Decoding
decode_group zero holds [] = record { whole = true; bytes = [] }
decode_group (suc left) holds [] = record { whole = false; bytes = [] }
decode_group (suc left) holds (b ∷ bs) = behind (b ∷ []) (decode_group left holds bs)
decode_group zero holds (c ∷ cs) =
    cond (eqb c 0 || last_one_after_full c cs) (record { whole = false; bytes = [] })
    (behind (implied_zero holds) (decode_group (c - 1) (ltb c full_code) cs))

unfoldable pub decode_form : List ℕ → Decoding
decode_form form = decode_group 0 false form

-- What `judged` leaves in the array: the decoded bytes at its start, all else as it was.
-- A frame of more than 4,140 bytes is not decoded.
unfoldable pub decoded_into : List ℕ → List ℕ → List ℕ
decoded_into form m = cond (ltb longest_form (length form)) m (overlay 0 (decode_form form).bytes m)
