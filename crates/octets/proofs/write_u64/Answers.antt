-- `write_u64` meets its contract: the bytes put are those of the number.
-- Assumes nothing.
use Rattle.std.proofs.Common.{◌∙◌, ap}
use Rattle.octets.specs.Bytes.{put}
use Rattle.octets.proofs.Numbers.{bytes-of_8}
use Rattle.octets.proofs.write_u64.Goals as goal

pub returns : goal.returns
returns c =
    let a = c.args in
    c.put.ensures ∙ ap (λ xs. put a.at xs a.s.now) (c.to_le_bytes.ensures ∙ bytes-of_8 a.v)
