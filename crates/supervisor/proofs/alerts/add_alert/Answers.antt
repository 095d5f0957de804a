-- `supervisor::alerts::add_alert` meets its contract.
-- Assumes nothing.
use mathlib.Core.Path.{ap, ◌∙◌}
use native.Mathlib.Omega.{arith}
use lib.ListN.{length, length-set}
use Rattle.octets.proofs.Overlay.{length-put}
use Rattle.supervisor.proofs.AlertLaws.{length-slot, alert-put}
use Rattle.supervisor.proofs.alerts.add_alert.Goals as goal

pub shape_of-registers : goal.shape_of-registers
shape_of-registers c =
    let slot = length-slot _ _ _ _ c.write_u16.ensures c.copy.ensures in
    ap length c.write_u64.ensures ∙ length-put _ _ _ ∙ simp length-set slot

pub bounds-registers-1052 : goal.bounds-registers-1052
bounds-registers-1052 c =
    omega (arith, length-slot _ _ _ _ c.write_u16.ensures c.copy.ensures)

pub returns : goal.returns
returns c =
    let p = c.requires in
    alert-put _ _ p.registers_length_in_bounds p.count_value p.count_lt_most_alerts p.text_len_bound
    (omega (arith, c.ranges.action)) c.write_u16.ensures c.copy.ensures (cc) c.write_u64.ensures
