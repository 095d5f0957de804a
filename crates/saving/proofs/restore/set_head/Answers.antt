-- `saving::restore::set_head` meets its contract.
-- Assumes nothing.
use borrow.Author.Rules.{rules}
use Rattle.saving.proofs.StoreLaws.{head-put}
use Rattle.saving.proofs.restore.set_head.Goals as goal

pub returns : goal.returns
returns c =
    rw (c.write_u16.ensures, c.write_u32.ensures) (head-put _ _ _ _ _ (search rules) (search rules))
