-- `copy_group` meets its contract.
-- Assumes nothing.
use mathlib.Core.Path.{◌≡◌, ◌∙◌}
use native.Mathlib.Nat.{add-sub_cancel_left}
use native.Mathlib.Omega.{arith}
use Rattle.octets.specs.Bytes.{run}
use Rattle.octets.proofs.Overlay.{length_run}
use Rattle.line.proofs.Rest.{part-overlay}
use Rattle.line.proofs.cobs.copy_group.Goals as goal

-- or searched first
pub returns : goal.returns
returns c =
    let a = c.args in
    let k = c.group_length-k in
    let group = run a.i k.result a.s.now in
    let after : c.copy_from_slice.new.self ≡ group = c.copy_from_slice.ensures.after ∙ rw add-sub_cancel_left in
    record {
      inside = (omega arith, omega arith);
      value = k.ensures.value;
      out_after = rw after (part-overlay a.at k.result group a.out.now (length_run a.i k.result a.s.now (omega arith)));
    }
