-- `responder::answers::item_data_length` meets its contract.
-- Assumes nothing.
use borrow.Author.Tests.{eq-eqb, ne_eqb}
use Rattle.responder.specs.Receive.{item_data_length}
use Rattle.responder.proofs.answers.item_data_length.Goals as goal

pub returns-then-byte_at-eq-INVENTORY_ITEM : goal.returns-then-byte_at-eq-INVENTORY_ITEM
unfolding item_data_length
returns-then-byte_at-eq-INVENTORY_ITEM c =
    rw (← c.byte_at.ensures.0, eq-eqb _ _ c.if-byte_at-eq-INVENTORY_ITEM.true) c.byte_at-then-byte_at-eq-INVENTORY_ITEM.ensures.0

pub returns : goal.returns
unfolding item_data_length
returns c = rw (← c.byte_at.ensures.0, ne_eqb _ _ c.if-byte_at-eq-INVENTORY_ITEM.false)
