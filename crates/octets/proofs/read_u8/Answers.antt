-- `read_u8` meets its contract: of one byte the number is the byte.
-- Assumes nothing.
use Rattle.std.proofs.Common.{arith}
use Rattle.octets.proofs.Numbers.{number-none, number-one}
use Rattle.octets.proofs.read_u8.Goals as goal

pub returns-then-at-s : goal.returns-then-at-s
returns-then-at-s c =
    number-one _ _ c.if-at-s.true

pub returns-else-at-s : goal.returns-else-at-s
returns-else-at-s c =
    number-none 1 c.args.s.now c.args.at (omega arith)
