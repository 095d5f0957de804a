-- `line::writer::write` meets its contract.
-- Assumes nothing.
use native.Mathlib.Omega.{arith}
use lib.ListN.{length-append}
use Rattle.line.proofs.Sending.{write-refused}
use Rattle.line.proofs.writer.write.Goals as goal

pub returns-then-head-gt-LONGEST_DATA : goal.returns-then-head-gt-LONGEST_DATA
returns-then-head-gt-LONGEST_DATA c =
    write-refused _ _ (simp length-append (omega arith))

pub returns-then-head-rest : goal.returns-then-head-rest
returns-then-head-rest c =
    write-refused _ _ (simp length-append (omega arith))
