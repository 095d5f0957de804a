-- `copy_run` meets its contract. The loop's invariant: k bytes of the run are passed and put.
-- Assumes nothing.
use mathlib.Core.Path.{◌≡◌, sym, ◌∙◌}
use native.Mathlib.Omega.{arith}
use lib.ListN.{drop, length-drop}
use lib.Seq.{get_or-drop}
use Rattle.octets.proofs.Overlay.{overlay-none, overlay-run-more}
use Rattle.line.proofs.Runs.{reached-none, reached-more, reached-zero, reached-end}
use Rattle.line.proofs.scan.copy_run.Goals as goal

pub loop-k-init : goal.loop-k-init
loop-k-init c =
    (sym (overlay-none _ _), reached-none _ _)

pub returns-then-b-eq0 : goal.returns-then-b-eq0
returns-then-b-eq0 c =
    let l = c.loop-k in
    let a = c.args in
    let n = length-drop a.from a.s.now in
    let b = get_or-drop a.from a.s.now l.k 0 in
    record {
      most = omega arith;
      value = sym (l.invariant.1 ∙ reached-zero a.most l.k (drop a.from a.s.now) (omega arith) (omega arith));
      dst_after = l.invariant.0;
    }

pub loop-k-preserved : goal.loop-k-preserved
loop-k-preserved c =
    let l = c.loop-k in
    let a = c.args in
    let n = length-drop a.from a.s.now in
    let b = get_or-drop a.from a.s.now l.k 0 in (
      rw l.invariant.0 (overlay-run-more a.at a.from l.k a.s.now a.dst.now (omega arith) (omega arith)),
      l.invariant.1 ∙ reached-more a.most l.k (drop a.from a.s.now) (omega arith) (omega arith) (omega arith),
    )

pub returns : goal.returns
returns c =
    let l = c.loop-k in
    let a = c.args in
    let e : l.k ≡ a.most = omega arith in
    let end = reached-end a.most l.k (drop a.from a.s.now) (omega arith) in
    record { most = omega arith; value = omega (arith, l.invariant.1, end); dst_after = rw e at l.invariant.0 }
