-- `clear` meets its contract: between the bytes ahead and those behind stand zeros.
-- Assumes nothing.
use Rattle.std.proofs.Common.{sym, ◌∙◌, ap}
use Rattle.octets.proofs.Zeros.{zeros, length-zeros}
use Rattle.octets.proofs.Overlay.{length-between, put-between, put-none}
use Rattle.octets.proofs.clear.Goals as goal

pub returns-then-fits : goal.returns-then-fits
returns-then-fits c =
    let a = c.args in
    let f = sym c.fits.ensures ∙ c.if-fits.true in
    let e = c.fill.ensures.after (λ y k. k) ∙ ap zeros (length-between a.at a.n a.s.now f) in
    rw e (put-between a.at a.n (zeros a.n) a.s.now (length-zeros a.n) f)

pub returns-else-fits : goal.returns-else-fits
returns-else-fits c =
    let a = c.args in
    put-none a.at a.n (zeros a.n) a.s.now (length-zeros a.n) (sym c.fits.ensures ∙ c.if-fits.false)
