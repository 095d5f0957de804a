-- `responder::alert::alert` meets its contract.
-- Assumes nothing.
use native.Mathlib.Nat.{add-sub_cancel_left}
use native.Mathlib.Omega.{arith}
use lib.ListN.{length-take}
use Rattle.supervisor.proofs.ValidLaws.{registers-valid}
use Rattle.responder.proofs.TakenLaws.{settled, alert-sent}
use Rattle.responder.proofs.alert.alert.Goals as goal

pub slice_bounds-send_part-end : goal.slice_bounds-send_part-end
slice_bounds-send_part-end c =
    let v = c.requires.registers_value in
    let s = settled _ _ _ v c.update_alerts.ensures in
    omega (arith, s.same, s.text, (registers-valid _ v).long, c.word_at-n.ensures.0)

pub send_part-requires-clause-part_len_bound : goal.send_part-requires-clause-part_len_bound
send_part-requires-clause-part_len_bound c =
    let s = settled _ _ _ c.requires.registers_value c.update_alerts.ensures in
    simp length-take (omega (arith, s.text, c.word_at-n.ensures.0))

pub returns : goal.returns
returns c =
    alert-sent _ _ _ _ c.update_alerts.ensures c.word_at-n.ensures.0 c.read_u8-first.ensures c.head_to-reply.ensures
    (simp add-sub_cancel_left at c.send_part.ensures)
