-- `line::reader::append_short` meets its contract.
-- Assumes nothing.
use mathlib.Core.Path.{◌≡◌, ap, ◌∙◌}
use Prim.Native.Nat.{◌+◌}
use native.Mathlib.Omega.{arith}
use Rattle.octets.proofs.Overlay.{overlay-none}
use Rattle.line.specs.ReaderLayout.{received_count, with_count}
use Rattle.line.specs.Reader.{pushed_all}
use Rattle.line.proofs.State.{append-put}
use Rattle.line.proofs.reader.append_short.Goals as goal

pub returns-then-taken-eq0 : goal.returns-then-taken-eq0
unfolding pushed_all
returns-then-taken-eq0 c =
    let e = c.if-taken-eq0.true in
    (cc c.copy_run-taken.ensures.value, rw e at c.copy_run-taken.ensures.dst_after ∙ overlay-none _ _)

pub returns : goal.returns
returns c =
    let a = c.args in
    let n = c.copy_run-taken.result in
    let e : a.have ≡ received_count a.state.now = omega arith in
    let kept = append-put a.state.now a.piece.now n (omega arith, omega arith) (omega arith) (omega arith) (omega arith) in (
      c.copy_run-taken.ensures.value,
      c.set_count.ensures ∙ ap (with_count (a.have + n)) c.copy_run-taken.ensures.dst_after ∙ rw (← e) at kept,
    )
