-- `start::set_registers` meets its contract.
-- Assumes nothing.
use borrow.Author.Rules.{rules}
use Rattle.supervisor.specs.Layout.{registers_length}
use Rattle.supervisor.proofs.StartLaws.{numbered}
use Rattle.supervisor.proofs.start.set_registers.Goals as goal

pub returns : goal.returns
returns c =
    numbered 8 1 registers_length _ _ _ (search rules) (search rules) c.clear.ensures c.write_u64.ensures
