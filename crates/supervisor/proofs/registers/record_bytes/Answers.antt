-- `supervisor::registers::record_bytes` meets its contract: the kept bytes lie within the registers.
-- Assumes nothing.
use mathlib.Core.Path.{sym, ◌∙◌}
use native.Mathlib.Omega.{arith}
use Rattle.supervisor.proofs.ValidLaws.{registers-valid}
use Rattle.supervisor.proofs.registers.record_bytes.Goals as goal

pub slice_bounds-result-end-2 : goal.slice_bounds-result-end-2
slice_bounds-result-end-2 c =
    omega (arith, (registers-valid _ (sym c.registers_are_valid.ensures ∙ c.if-not-registers_are_valid.false)).long)
