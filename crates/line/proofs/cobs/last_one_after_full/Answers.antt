-- `cobs::last_one_after_full` meets its contract.
-- Assumes nothing.
use native.Mathlib.Omega.{arith}
use Rattle.line.proofs.Decoding.{last-others, last_byte}
use Rattle.line.proofs.cobs.last_one_after_full.Goals as goal

-- it is full, and not one byte follows
pub returns-then-n-i-ne1 : goal.returns-then-n-i-ne1
returns-then-n-i-ne1 c =
    let a = c.args in
    last-others a.s.now a.n a.i a.c (omega arith) (omega arith) (omega arith) c.if-n-i-ne1.true

-- one byte follows
pub returns : goal.returns
returns c =
    let a = c.args in
    last_byte a.s.now a.n a.i a.c (omega arith) (omega arith) (omega arith) (omega arith)
