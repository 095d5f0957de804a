-- `addresses::number_of` meets its contract: an address is a number, the most significant byte first.
-- Assumes nothing.
use Rattle.std.proofs.Common.{ℕ, ◌<◌, ◌∙◌, get_or, arith, rules}
use Rattle.addresses.proofs.Number.{number-six}
use Rattle.addresses.proofs.number_of.Goals as goal

pub returns : goal.returns
returns c =
    let b : (i : ℕ) → get_or c.args.address i 0 < 256 = λ i. search rules in
    (c.from_be_bytes.ensures ∙ number-six c.args.address (search rules), omega (arith, b 0, b 1, b 2, b 3, b 4, b 5))
