-- `move_down` meets its contract.
-- Assumes nothing.
use Rattle.std.proofs.Common.{sym, ◌∙◌, arith}
use Rattle.octets.proofs.Overlay.{part-moved, fits-true, moved_down-fits, moved_down-none, moved_down-up}
use Rattle.octets.proofs.move_down.Goals as goal
use Rattle.octets.proofs.move_down.Goals.{else-to-from-via-then-to-from+else-fits, else-to-from-via-else-to-from}

pub returns-then-fits : goal.returns-then-fits
returns-then-fits c = c.copy_within.ensures.after
    ∙ part-moved _ _ _ _ (fits-true _ _ _ (sym c.fits.ensures ∙ c.if-fits.true))
    ∙ sym (moved_down-fits _ _ _ _ c.if-to-from.true (fits-true _ _ _ (sym c.fits.ensures ∙ c.if-fits.true)))

pub returns-else-to-from : goal.returns-else-to-from
returns-else-to-from c =
    let a = c.args in
    elim c.else-to-from.branch [
      | else-to-from-via-then-to-from+else-fits w ↦ sym (moved_down-none a.s.now a.from a.to a.n (sym w.fits.ensures ∙ w.if-fits.false))
      | else-to-from-via-else-to-from w ↦ sym (moved_down-up a.s.now a.from a.to a.n (omega arith))
    ]
