-- `line::reader::append` meets its contract.
-- Assumes nothing.
use native.Mathlib.Omega.{arith}
use Rattle.line.specs.Reader.{pushed_all}
use Rattle.line.proofs.State.{append-over, append-some, append-fit}
use Rattle.line.proofs.reader.append.Goals as goal

pub returns-then-n-eq0 : goal.returns-then-n-eq0
unfolding pushed_all
returns-then-n-eq0 c =
    rw c.if-n-eq0.true

pub returns-then-have-gt-LONGEST_FORM : goal.returns-then-have-gt-LONGEST_FORM
returns-then-have-gt-LONGEST_FORM c =
    let a = c.args in
    cc (append-over a.state.now a.piece.now a.n (omega arith, omega arith) (omega arith) (omega arith) (omega arith))

pub returns-then-room-n : goal.returns-then-room-n
returns-then-room-n c =
    let a = c.args in
    cc (append-some a.state.now a.piece.now a.n (omega arith, omega arith) (omega arith) (omega arith) (omega arith)
    (omega arith))

pub returns : goal.returns
returns c =
    let a = c.args in
    cc (append-fit a.state.now a.piece.now a.n (omega arith, omega arith) (omega arith) (omega arith) (omega arith))
