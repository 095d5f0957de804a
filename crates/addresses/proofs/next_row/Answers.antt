-- `addresses::next_row` meets its contract: the bytes of the row's number and the stride.
-- Assumes nothing.
use Rattle.std.proofs.Common.{rules}
use Rattle.addresses.proofs.Carry.{next-six}
use Rattle.addresses.proofs.next_row.Goals as goal

pub returns : goal.returns
returns c =
    let a = c.args in
    rw (c.to_be_bytes.ensures, c.number_of.ensures.0, c.from.ensures) (next-six a.row a.stride (search rules) (λ i. search rules))
