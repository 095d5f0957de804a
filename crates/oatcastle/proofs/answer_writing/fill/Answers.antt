-- `oatcastle::answer_writing::fill` meets its contract.
-- Assumes nothing.
use Rattle.oatcastle.proofs.AnswerLaws.{told-filled}
use Rattle.oatcastle.proofs.answer_writing.fill.Goals as goal

pub returns : goal.returns
returns g c =
    rw c.in_ok-given.was (told-filled _ _ _ c.if-room-bytes.false c.copy.ensures)
