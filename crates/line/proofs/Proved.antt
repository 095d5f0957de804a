-- What is claimed of the checksum's blocks, proved: one element of each record of statements in specs/.
-- Assumes nothing.
use Rattle.line.specs.Item3.{LineItem3}
use Rattle.line.proofs.Columns.{sums_append, all_fit}

pub item-3 : LineItem3
item-3 = record { sums_append = sums_append; all_fit = all_fit }
