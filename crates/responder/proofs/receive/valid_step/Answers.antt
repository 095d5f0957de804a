-- `responder::receive::valid_step` meets its contract.
-- Assumes nothing.
use Rattle.responder.specs.Stores.{parts_of}
use Rattle.responder.proofs.StepLaws.{parts-valid, read_ok, valid-step-by}
use Rattle.responder.proofs.StoreLaws.{valid_stores}
use Rattle.responder.proofs.receive.valid_step.Goals as goal

pub unwrap-used-requires : goal.unwrap-used-requires
unwrap-used-requires c =
    read_ok _ _ _ _ (parts-valid (parts_of c.args.reader.now c.args.stores.now) c.requires).reader c.read.ensures

pub answer_frame-outcome-requires : goal.answer_frame-outcome-requires
answer_frame-outcome-requires c =
    let v = parts-valid (parts_of c.args.reader.now c.args.stores.now) c.requires in valid_stores c.args.stores.now v.factory v.inner

pub returns : goal.returns
returns c =
    let a = c.args in
    let s = a.stores.now in
    let w = c.answer_frame-outcome.ensures in
    let q = valid-step-by s.image.now a.piece.now (parts_of a.reader.now s) c.requires (rw c.unwrap-used.ensures at c.read.ensures)
    (record {
      result_value = w.result_value;
      result_value_2 = w.result_value_2;
      registers_after = w.registers_after;
      registers_after_2 = w.registers_after_2;
      reader_after = w.reader_after;
    }) in
    record {
      same = w.same;
      registers_after = rw w.same.factory q.registers_after;
      registers_after_2 = rw w.same.factory q.registers_after_2;
    }
