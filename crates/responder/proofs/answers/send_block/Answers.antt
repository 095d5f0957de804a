-- `responder::answers::send_block` meets its contract.
-- Assumes nothing.
use native.Mathlib.Omega.{arith}
use lib.ListN.{drop, length-take}
use Rattle.responder.proofs.ReceiveLaws.{block_same, block-other}
use Rattle.responder.proofs.answers.send_block.Goals as goal

pub returns-then-not-same : goal.returns-then-not-same
returns-then-not-same c =
    rw (← block-other _ _ _ c.requires.factory_value _ c.same.ensures c.if-not-same.true) c.send_part.ensures

pub send_part-requires-2 : goal.send_part-requires-2
send_part-requires-2 c =
    let l = length-take 4096 (drop c.read_u64-offset.result c.args.image.now) in
    record {
      outbox_length_in_bounds = c.requires.outbox_length_in_bounds;
      part_len_bound = rw c.part-block.ensures.result_value (omega arith);
    }

pub returns : goal.returns
returns c =
    rw (
      ← block_same _ _ _ c.requires.factory_value _ c.same.ensures c.if-not-same.false,
      ← c.read_u64-offset.ensures,
      ← c.part-block.ensures.result_value,
    )
    c.send_part-2.ensures
