-- `copy` meets its contract: the run is put where it fits.
-- Assumes nothing.
use Rattle.std.proofs.Common.{sym, ◌∙◌}
use native.Mathlib.Nat.{add-sub_cancel_left}
use Rattle.octets.specs.Bytes.{copied}
use Rattle.octets.proofs.copy.Goals as goal

pub returns-then-fits : goal.returns-then-fits
unfolding copied
returns-then-fits c =
    let e = sym c.fits.ensures ∙ c.if-fits.true in
    rw (e, c.put.ensures, add-sub_cancel_left)

pub returns-else-fits : goal.returns-else-fits
unfolding copied
returns-else-fits c =
    let e = sym c.fits.ensures ∙ c.if-fits.false in
    rw e
