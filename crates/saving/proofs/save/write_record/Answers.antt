-- `saving::save::write_record` meets its contract.
-- Assumes nothing.
use mathlib.Core.Path.{sym, ◌∙◌}
use native.Mathlib.Nat.{add-zero}
use native.Mathlib.Omega.{arith}
use borrow.Author.Rules.{rules}
use Rattle.octets.proofs.Overlay.{overlay-none}
use Rattle.saving.proofs.StoreLaws.{record-put}
use Rattle.saving.proofs.ImageLaws.{no_record, held-record}
use Rattle.saving.proofs.save.write_record.Goals as goal

pub returns-then-read_u8-ne1 : goal.returns-then-read_u8-ne1
returns-then-read_u8-ne1 c =
    let e = no_record _ _ _ c.setting_offset-from.ensures.0 c.read_u8.ensures c.if-read_u8-ne1.true in
    record { value = rw (e, add-zero); out_after = rw e (sym (overlay-none _ _)) }

pub write_body-requires : goal.write_body-requires
write_body-requires c =
    let p = c.requires in
    let offset = c.setting_offset-from.ensures.0 in
    let h = held-record _ _ _ offset c.read_u8.ensures (c.from-n.ensures ∙ c.read_u16.ensures) c.if-read_u8-ne1.false
    p.settings_value p.settings_key in
    record { n_in_bounds = omega (arith, h.within); n_bound = search rules; n_in_bounds_2 = omega (arith, h.size) }

pub returns : goal.returns
returns c =
    let p = c.requires in
    let h =
    held-record _ _ _ c.setting_offset-from.ensures.0 c.read_u8.ensures (c.from-n.ensures ∙ c.read_u16.ensures) c.if-read_u8-ne1.false
    p.settings_value p.settings_key in
    let room = h.size in
    record {
      value = rw h.size;
      out_after =
          rw h.its_bytes
          (c.write_u16.ensures
          ∙ record-put _ _ _ _ _ _ _ (omega (arith, c.ranges.key)) h.within (omega arith) (omega arith) c.write_body.ensures
          c.checksum_of-sum.ensures);
    }
