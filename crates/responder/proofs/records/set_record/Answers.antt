-- `responder::records::set_record` meets its contract.
-- Assumes nothing.
use mathlib.Core.Path.{refl}
use Rattle.responder.proofs.RecordLaws.{record-put}
use Rattle.responder.proofs.records.set_record.Goals as goal

pub returns : goal.returns
returns c =
    let p = c.requires in
    record-put _ _ _ _ _ p.at_le_panic_offset p.registers_length_in_bounds p.from_in_bounds refl c.min-kept.ensures
    c.write_u16.ensures c.write_u16-2.ensures c.copy.ensures
