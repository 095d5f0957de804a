-- `requester::hearing::settle_fetch` meets its contract.
-- Assumes nothing.
use Rattle.requester.proofs.SettlingLaws.{fetch-other, fetch-length, fetch-status}
use Rattle.requester.proofs.hearing.settle_fetch.Goals as goal

pub returns-then-head-ne-REPLY_STATUS : goal.returns-then-head-ne-REPLY_STATUS
returns-then-head-ne-REPLY_STATUS c =
    rw c.silent.ensures (fetch-other _ _ c.args.message.sized _ c.if-head-ne-REPLY_STATUS.true)

pub returns-then-head-ne-STATUS_LENGTH : goal.returns-then-head-ne-STATUS_LENGTH
returns-then-head-ne-STATUS_LENGTH c =
    rw c.silent-then-head-ne-STATUS_LENGTH.ensures
    (fetch-length _ _ c.args.message.sized _ c.if-head-ne-REPLY_STATUS.false c.if-head-ne-STATUS_LENGTH.true)

pub returns : goal.returns
returns c =
    fetch-status _ _ c.args.message.sized _ c.if-head-ne-REPLY_STATUS.false c.if-head-ne-STATUS_LENGTH.false
    c.read_u64-status.ensures c.read_u64.ensures c.serve.ensures
