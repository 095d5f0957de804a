-- `pieces::add` meets its contract. The loop's invariant: the first j bytes stand behind the piece.
-- Assumes nothing.
use mathlib.Core.Path.{◌≡◌}
use lib.ListN.{take}
use Rattle.octets.specs.Bytes.{overlay}
use Rattle.text_lines.specs.Pieces.{values, added_at}
use Rattle.text_lines.proofs.pieces.add.Given as goal

abbrev pub invariant-loop-j : goal.invariant-loop-j
invariant-loop-j l = l.room ≡ overlay l.n (values (added_at l.line (take l.n l.initial.room)) l.j) l.initial.room
