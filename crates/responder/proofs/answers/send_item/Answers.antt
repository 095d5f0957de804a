-- `responder::answers::send_item` meets its contract.
-- Assumes nothing.
use native.Mathlib.Omega.{arith}
use lib.ListN.{length-take}
use borrow.Author.Rules.{rules}
use Rattle.responder.proofs.ReceiveLaws.{ItemHeld, item_held-by, item-there, item-none}
use Rattle.responder.proofs.answers.send_item.Goals as goal

pub returns-then-count-index : goal.returns-then-count-index
returns-then-count-index c = rw (← item-none _ c.args.index (rw c.read_u32-count.ensures at c.if-count-index.true)) c.send.ensures

pub item_data_length-n-requires : goal.item_data_length-n-requires
item_data_length-n-requires c =
    let h : ItemHeld c.args.factory.now c.args.index =
    item_held-by _ _ c.requires.factory_value c.read_u32-count.ensures c.if-count-index.false in
    search rules

pub slice_bounds-send-end-2 : goal.slice_bounds-send-end-2
slice_bounds-send-end-2 c =
    let h : ItemHeld c.args.factory.now c.args.index =
    item_held-by _ _ c.requires.factory_value c.read_u32-count.ensures c.if-count-index.false in
    search rules

pub overflow_add-from-2 : goal.overflow_add-from-2
overflow_add-from-2 c =
    let h : ItemHeld c.args.factory.now c.args.index =
    item_held-by _ _ c.requires.factory_value c.read_u32-count.ensures c.if-count-index.false in
    search rules

pub slice_bounds-send-end-3 : goal.slice_bounds-send-end-3
slice_bounds-send-end-3 c =
    let h : ItemHeld c.args.factory.now c.args.index =
    item_held-by _ _ c.requires.factory_value c.read_u32-count.ensures c.if-count-index.false in
    search rules

pub send-requires-2-clause-rest_len_bound : goal.send-requires-2-clause-rest_len_bound
send-requires-2-clause-rest_len_bound c =
    let h : ItemHeld c.args.factory.now c.args.index =
    item_held-by _ _ c.requires.factory_value c.read_u32-count.ensures c.if-count-index.false in
    simp length-take (omega arith)

pub returns : goal.returns
returns c =
    rw (← item-there _ c.args.index _ (rw c.read_u32-count.ensures at c.if-count-index.false) c.item_data_length-n.ensures) c.send-2.ensures
