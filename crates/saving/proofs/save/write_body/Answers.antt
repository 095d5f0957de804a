-- `saving::save::write_body` meets its contract.
-- Assumes nothing.
use native.Mathlib.Omega.{arith}
use Rattle.saving.proofs.StoreLaws.{body-put}
use Rattle.saving.proofs.save.write_body.Goals as goal

pub returns : goal.returns
returns c =
    rw (c.copy-2.ensures, c.write_u16.ensures, c.write_u32.ensures, c.copy.ensures, c.read_u32-edition.ensures)
    (body-put _ _ _ _ _ _ _ (omega (arith, c.ranges.key)) (omega (arith, c.requires.n_in_bounds)) c.requires.n_in_bounds_2)
