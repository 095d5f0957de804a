-- `line::writer::write_by` meets its contract.
-- Assumes nothing.
use native.Mathlib.Omega.{arith}
use lib.ListN.{length-append}
use Rattle.line.proofs.Sending.{write-sent}
use Rattle.line.proofs.writer.write_by.Goals as goal

pub returns : goal.returns
returns c =
    write-sent _ _ (simp length-append (omega arith)) c.assemble-n.ensures.m_after c.send.ensures
