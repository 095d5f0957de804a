-- `group_length` meets its contract.
-- Assumes nothing.
use mathlib.Core.Path.{ap, ◌∙◌}
use native.Mathlib.Omega.{arith}
use lib.ListN.{length}
use Rattle.line.proofs.Runs.{length-part, part-run}
use Rattle.line.proofs.cobs.group_length.Goals as goal

pub returns : goal.returns
returns c =
    let a = c.args in
    let l = length-part a.i c.min-most.result a.s.now (omega arith) in
    let m = c.run_ahead.ensures.most in
    record {
      inside = (omega arith, omega arith);
      value = rw (← c.min-most.ensures) (c.run_ahead.ensures.value ∙ ap length (part-run a.i c.min-most.result a.s.now (omega arith)));
    }
