-- `bytes_at` meets its contract: the zeros behind the bytes that are there add nothing.
-- Assumes nothing.
use Rattle.std.proofs.Common.{length}
use Rattle.octets.proofs.Numbers.{number-padded}
use Rattle.octets.proofs.bytes_at.Goals as goal

pub returns : goal.returns
returns g c =
    let there = c.part-there in
    let copied = c.copy_from_slice in
    rw (number-padded copied.new.self (length there.result.now) g.row.N, copied.ensures.after, there.ensures.result_value)
