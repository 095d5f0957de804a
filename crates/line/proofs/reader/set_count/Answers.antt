-- `line::reader::set_count` meets its contract.
-- Assumes nothing.
use mathlib.Core.Path.{◌∙◌}
use native.Mathlib.Omega.{arith}
use Rattle.octets.specs.Bytes.{bytes}
use Rattle.octets.proofs.Numbers.{length-bytes}
use Rattle.octets.proofs.Overlay.{put-fits}
use Rattle.line.specs.ReaderLayout.{with_count}
use Rattle.line.proofs.reader.set_count.Goals as goal

pub returns : goal.returns
unfolding with_count
returns c =
    let a = c.args in
    c.write_u16.ensures ∙ put-fits 0 (bytes 2 a.n) a.state.now (omega (arith, length-bytes 2 a.n))
