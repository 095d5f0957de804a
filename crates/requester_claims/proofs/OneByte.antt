-- What one byte of the received stream does to the parts. A call of receive is given as the bytes that it reads, one after the other.
-- Assumes nothing: these are definitions.
use mathlib.Core.Bool.{Bool, cond, ◌||◌}
use mathlib.Core.List.{List, [], ◌∷◌}
use mathlib.Core.Option.{Option, none}
use Prim.Native.Nat.{ℕ, zero, suc}
use lib.Dec.{eqb}
use Rattle.line.specs.Reader as LineReader
use Rattle.requester.specs.Requester
use Rattle.requester.specs.Requester.{Heard}
use Rattle.requester.specs.Layout
use Rattle.requester.specs.Calls
use Rattle.requester.specs.Calls.{MainParts, main_parts, is_overlong, heard_of, heard_outcome_of, handed_report_of}

-- what is handed out, the number with which a recovery ended, and the parts
pub record Fed : Type 0 where
  pub handed : Requester.Handed
  pub ended : Option ℕ
  pub parts : MainParts

abbrev pub fed : Requester.Handed → Option ℕ → MainParts → Fed
fed h e p = record { handed = h; ended = e; parts = p }

-- by what is heard, and the state that the line reader left
unfoldable pub fed_by : MainParts → List ℕ → Option Heard → Fed
fed_by p reader h =
    let x = heard_outcome_of p.requester h in
    let m = Calls.part_moved_to x.next p.requester in
    fed x.handed m.ended (main_parts reader m.requester)

abbrev pub reader_after : List ℕ → ℕ → List ℕ
reader_after s zero = (LineReader.finish s).state
reader_after s (suc b) = LineReader.pushed s (suc b)

abbrev pub report_after : List ℕ → ℕ → LineReader.ReadReport
report_after s zero = (LineReader.finish s).answer
report_after s (suc b) = LineReader.more

unfoldable pub feed : MainParts → ℕ → Fed
feed p b =
    let s = reader_after p.reader b in
    fed_by p s (cond (is_overlong p.reader) none (heard_of (Layout.newest_number p.requester) s (report_after p.reader b)))

-- whether a byte is a 00, or the 4,141st of its frame
abbrev pub stops_at : List ℕ → ℕ → Bool
stops_at s b = eqb b 0 || Requester.fills (LineReader.received_of s)

-- how many bytes were read, and what came of them
pub record Walked : Type 0 where
  pub used : ℕ
  pub fed : Fed

abbrev pub walked : ℕ → Fed → Walked
walked n f = record { used = n; fed = f }

unfoldable pub walk : MainParts → List ℕ → Walked
walk p [] = walked 0 (fed Requester.nothing none p)
walk p (b ∷ bs) =
    cond (stops_at p.reader b) (walked 1 (feed p b))
    (let w = walk (feed p b).parts bs in walked (suc w.used) w.fed)

-- the receipt of what came of some bytes
abbrev pub receipt_of : Walked → Calls.MainReceiveOutcome
receipt_of w = record {
  used = w.used;
  report = handed_report_of w.fed.handed;
  ended = w.fed.ended;
  unsent = Layout.is_unsent w.fed.parts.requester;
  parts = w.fed.parts;
}
