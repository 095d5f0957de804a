-- `put` meets its contract: between the bytes ahead and those behind stand the new ones.
-- Assumes nothing.
use Rattle.std.proofs.Common.{refl, sym, length, ◌∙◌}
use Rattle.octets.proofs.Overlay.{put-between, put-none}
use Rattle.octets.proofs.put.Goals as goal

pub returns-then-fits : goal.returns-then-fits
returns-then-fits c =
    let a = c.args in
    let e = c.copy_from_slice.ensures.after in
    rw e (put-between a.at (length a.bytes.now) a.bytes.now a.s.now refl (sym c.fits.ensures ∙ c.if-fits.true))

pub returns-else-fits : goal.returns-else-fits
returns-else-fits c =
    let a = c.args in
    put-none a.at (length a.bytes.now) a.bytes.now a.s.now refl (sym c.fits.ensures ∙ c.if-fits.false)
