-- `responder::records::ask_for` meets its contract.
-- Assumes nothing.
use mathlib.Core.Path.{◌∙◌}
use native.Mathlib.Omega.{arith}
use lib.ListN.{set, length-set}
use Rattle.octets.proofs.Overlay.{overlay-one}
use Rattle.supervisor.specs.Layout.{retained_offset}
use Rattle.responder.specs.Receive.{asked_for}
use Rattle.responder.proofs.records.ask_for.Goals as goal

pub returns : goal.returns
unfolding asked_for
returns c =
    let r = c.args.registers.now in
    let flag = c.args.flag in
    let l = length-set r flag 1 in
    record {
      outbox_after = c.send_none.ensures;
      registers_after =
          overlay-one retained_offset 0 (set r flag 1) (omega (arith, l, c.requires))
          ∙ rw (overlay-one flag 1 r (omega (arith, c.requires)));
    }
