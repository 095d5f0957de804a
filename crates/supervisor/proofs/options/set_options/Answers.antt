-- `supervisor::options::set_options` meets its contract: the options lie within valid registers.
-- Assumes nothing.
use mathlib.Core.Path.{sym, ◌∙◌}
use native.Mathlib.Omega.{arith}
use Rattle.octets.specs.Bytes.{bytes}
use Rattle.octets.proofs.Numbers.{length-bytes}
use Rattle.octets.proofs.Overlay.{put-fits}
use Rattle.supervisor.specs.Layout.{options_offset}
use Rattle.supervisor.specs.Calls.{options_promise}
use Rattle.supervisor.proofs.ValidLaws.{registers-valid}
use Rattle.supervisor.proofs.options.set_options.Goals as goal

pub returns : goal.returns
unfolding options_promise
returns c =
    let r = c.args.registers.now in
    let valid = sym c.registers_are_valid.ensures ∙ c.if-not-registers_are_valid.false in
    let g = registers-valid r valid in
    let k = length-bytes 8 c.args.options in
    rw (
      valid,
      sym c.options_are_allowed.ensures ∙ c.if-not-options_are_allowed.false,
      c.write_u64.ensures,
      put-fits options_offset (bytes 8 c.args.options) r (omega arith),
    )
