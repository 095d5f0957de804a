-- `block_alike` meets its contract.
-- Assumes nothing.
use mathlib.Core.Path.{sym, ◌∙◌}
use native.Mathlib.Nat.{add-sub_cancel_left}
use native.Mathlib.Omega.{arith}
use Rattle.octets.specs.Bytes.{run}
use Rattle.octets.proofs.Overlay.{length_run}
use Rattle.line.proofs.Alike.{fold-alike}
use Rattle.line.proofs.scan.block_alike.Goals as goal

pub returns : goal.returns
returns c =
    let a = c.args in
    let all = rw add-sub_cancel_left at c.all_are.ensures in
    let n = length_run a.at 32 a.s.now (omega arith) in
    λ e. (omega arith, rw n at (fold-alike a.b (run a.at 32 a.s.now) (sym all ∙ e)))
