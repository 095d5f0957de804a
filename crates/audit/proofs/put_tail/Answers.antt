-- `audit::put_tail` meets its contract.
-- Assumes nothing.
use mathlib.Core.List.{append_assoc}
use mathlib.Core.Path.{ap}
use native.Mathlib.Omega.{arith}
use lib.ListN.{length, length-append}
use Rattle.audit.specs.Text.{tail_line}
use Rattle.audit.proofs.put_tail.Goals as goal

pub put-requires-2 : goal.put-requires-2
put-requires-2 c = omega (arith, simp length-append at (ap length c.put.ensures))

pub returns : goal.returns
unfolding tail_line
returns c = rw (c.put-2.ensures, c.put_number.ensures.wrote, c.put.ensures) (simp append_assoc)
