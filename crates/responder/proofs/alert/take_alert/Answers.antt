-- `responder::alert::take_alert` meets its contract.
-- Assumes nothing.
use native.Mathlib.Omega.{arith}
use Rattle.supervisor.proofs.ValidLaws.{registers-valid}
use Rattle.responder.proofs.TakenLaws.{alert-taken}
use Rattle.responder.proofs.alert.take_alert.Goals as goal

pub retain-requires : goal.retain-requires
retain-requires c =
    let p = c.requires in
    record {
      registers_length_in_bounds = (registers-valid _ p.registers_value).long;
      version_bound = p.version_bound;
      count_value = c.read_u8-count.ensures;
    }

pub bounds-registers-1052 : goal.bounds-registers-1052
bounds-registers-1052 c = omega (arith, (registers-valid _ c.requires.registers_value).long)

pub returns : goal.returns
returns c =
    let p = c.requires in
    alert-taken _ _ _ p.version_bound (registers-valid _ p.registers_value).long c.read_u8-count.ensures (omega arith)
    c.read_u64-status.ensures c.retain.ensures c.retain.auto.registers c.move_down.ensures c.move_down.auto.s c.saturating_sub.ensures
    c.status_after.ensures c.write_u64.ensures
