-- `same` meets its contract: two runs that are there are compared byte by byte.
-- Assumes nothing.
use Rattle.std.proofs.Common.{sym, ◌∙◌}
use Rattle.octets.proofs.Equal.{same_run-there, same_run-none-left, same_run-none-right}
use Rattle.octets.proofs.same.Goals as goal
use Rattle.octets.proofs.same.Goals.{then-fits, else-fits}

pub returns-then-fits-2 : goal.returns-then-fits-2
returns-then-fits-2 c =
    let a = c.args in
    elim c.if-fits.branch [
      | then-fits w ↦ (
          let e = sym c.fits.ensures ∙ w.if-fits.true in
          let f = sym w.fits-then-fits.ensures ∙ (sym w.value-is ∙ c.if-fits-2.true) in
          c.eq.ensures ∙ same_run-there a.s.now a.at a.t.now a.bt a.n e f
          )
      | else-fits w ↦ cc
    ]

pub returns-else-fits-2 : goal.returns-else-fits-2
returns-else-fits-2 c =
    let a = c.args in
    let none = c.if-fits-2.false in
    elim c.if-fits.branch [
      | then-fits w ↦ (
          let f = sym w.fits-then-fits.ensures ∙ (sym w.value-is ∙ none) in
          none ∙ sym (same_run-none-right a.s.now a.at a.t.now a.bt a.n f)
          )
      | else-fits w ↦ none ∙ sym (same_run-none-left a.s.now a.at a.t.now a.bt a.n (sym c.fits.ensures ∙ w.if-fits.false))
    ]
