-- `plain::last_one_after_full` meets its contract.
-- Assumes nothing.
use native.Mathlib.Omega.{arith}
use Rattle.std.proofs.lemmas.Grind.{common_steps}
use Rattle.plain.proofs.Groups.{last-other, last-longer, last_byte}
use Rattle.plain.proofs.last_one_after_full.Goals as goal

pub returns-then-behind-eq255 : goal.returns-then-behind-eq255
returns-then-behind-eq255 c =
    last_byte c.args.code c.args.behind.now c.if-behind-eq255.true.0 c.if-behind-eq255.true.1

pub returns-else-behind-eq255 : goal.returns-else-behind-eq255
returns-else-behind-eq255 c =
    grind (arith, common_steps, last-other, last-longer)
