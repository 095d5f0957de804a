-- `pieces::add` meets its contract. The loop's invariant: the first j bytes stand behind the piece.
-- Assumes nothing.
use mathlib.Core.Path.{◌≡◌, sym}
use native.Mathlib.Omega.{arith}
use Rattle.octets.proofs.Overlay.{overlay-none}
use Rattle.text_lines.specs.Pieces.{values}
use Rattle.text_lines.proofs.Laws.{add-not, add-fits, add-more}
use Rattle.text_lines.proofs.pieces.add.Goals as goal
use Rattle.text_lines.proofs.pieces.add.Goals.{then-room-n-via-then-room-n, then-room-n-via-else-room-n+then-room-n-2}

pub returns-then-room-n : goal.returns-then-room-n
returns-then-room-n c =
    elim c.then-room-n.branch [
      | then-room-n-via-then-room-n w ↦ add-not _ _ _ (omega arith)
      | then-room-n-via-else-room-n+then-room-n-2 w ↦ add-not _ _ _ (omega arith)
    ]

pub loop-j-init : goal.loop-j-init
unfolding values
loop-j-init c = sym (overlay-none _ _)

pub returns : goal.returns
returns c =
    let l = c.loop-j in
    let a = c.args in
    let more = c.how_many-more in
    let e : l.j ≡ more.result = omega arith in
    rw (l.invariant, e, more.ensures) (add-fits a.line.now a.room.now a.n (omega arith))

pub loop-j-preserved : goal.loop-j-preserved
loop-j-preserved c =
    let l = c.loop-j in
    let a = c.args in
    rw (c.added_at-byte.ensures, l.invariant) (add-more a.line.now a.room.now a.n l.j (omega arith))
