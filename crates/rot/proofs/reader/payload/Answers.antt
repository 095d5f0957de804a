-- `rot::reader::payload` meets its contract.
-- Assumes nothing.
use borrow.Author.Rules.{rules}
use mathlib.Core.Path.{sym, ◌∙◌}
use Rattle.octets.proofs.Parts.{place-there}
use Rattle.rot.specs.Reading.{judged_as, handed_part, payload_promise, payload_offset, payload_place}
use Rattle.rot.proofs.Reading.{payload-echo, payload-handed, offset-echo, offset-handed, header-there, found}
use Rattle.rot.proofs.reader.payload.Goals as goal

pub returns-in_default : goal.returns-in_default
unfolding judged_as handed_part payload_promise payload_offset payload_place
returns-in_default c = record { result_value = search rules; ref_ptr_value = search rules }

pub returns-then-kind-eq-ECHO_REQUEST : goal.returns-then-kind-eq-ECHO_REQUEST
unfolding payload_place
returns-then-kind-eq-ECHO_REQUEST c =
    let judged = rw c.in-Ok-Some.field-0-is at c.in-Ok-Some.ensures in
    let echo = c.if-kind-eq-ECHO_REQUEST.true in
    record { result_value = payload-echo _ judged echo; ref_ptr_value = rw (offset-echo _ judged echo) (search rules) }

pub returns : goal.returns
unfolding payload_place
returns c =
    let judged = rw c.in-Ok-Some.field-0-is at c.in-Ok-Some.ensures in
    let handed = c.if-kind-eq-ECHO_REQUEST.false in
    record {
      result_value = rw (c.part.ensures.result_value, c.payload_length.ensures) (payload-handed _ judged handed);
      ref_ptr_value =
          rw (offset-handed _ judged handed) (c.part.ensures.ref_ptr_value ∙ sym (place-there _ _ (header-there _ _ (found _ judged))));
    }
