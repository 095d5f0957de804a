-- `responder::records::start_acknowledged` meets its contract.
-- Assumes nothing.
use native.Mathlib.Omega.{arith}
use Rattle.supervisor.specs.Layout.{status_offset}
use Rattle.responder.proofs.RecordLaws.{number-stored}
use Rattle.responder.proofs.records.start_acknowledged.Goals as goal

pub returns : goal.returns
returns c =
    record {
      outbox_after = c.acknowledge.ensures;
      registers_after = number-stored 8 status_offset c.args.registers.now (omega (arith, c.requires)) (cc) c.write_u64.ensures;
    }
