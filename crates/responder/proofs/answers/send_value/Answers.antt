-- `responder::answers::send_value` meets its contract.
-- Assumes nothing.
use Prim.Native.Nat.{◌≤◌}
use native.Mathlib.Omega.{arith}
use lib.ListN.{length, length-take}
use Rattle.responder.specs.Receive.{value_bytes}
use Rattle.supervisor.proofs.KeyLaws.{result-valid, edition-valid, value-valid, value-short}
use Rattle.responder.proofs.ReceiveLaws.{value-head}
use Rattle.responder.proofs.answers.send_value.Goals as goal

pub send-requires : goal.send-requires
send-requires c =
    let a = c.args in
    let p = c.requires in
    let key = c.read_u8-key.result in
    let most = c.read_u16-most.result in
    let looked = value-valid a.factory.now a.settings.now key p.factory_value p.settings_value most in
    let short : length c.value_at-value.result.now ≤ 4096 =
    rw (c.value_at-value.ensures.result_value, c.find-p.ensures, ← looked) (value-short _ _ key most p.factory_value p.settings_value) in
    record {
      outbox_length_in_bounds = p.outbox_length_in_bounds;
      rest_len_bound =
          omega (arith, length-take c.head_length-n.result c.write_u32.new.s, c.head_length-n.ensures.1, short);
    }

pub returns : goal.returns
unfolding value_bytes
returns c =
    let p = c.requires in
    rw (
      ← c.read_u8-key.ensures,
      ← c.read_u16-most.ensures,
      result-valid _ _ _ p.factory_value p.settings_value _,
      edition-valid _ _ _ p.factory_value p.settings_value,
      value-valid _ _ _ p.factory_value p.settings_value _,
      ← c.find-p.ensures,
      ← c.found_at.ensures,
      ← c.result_number-result.ensures,
      ← c.edition_at.ensures,
      ← c.edition_number-edition.ensures,
      ← value-head _ c.result_number-result.result _ (omega arith) c.head_length-n.ensures.0 c.write_u32.ensures,
      ← c.value_at-value.ensures.result_value,
    )
    c.send.ensures
