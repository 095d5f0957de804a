-- `addresses::addresses` meets its contract.
-- The loop's invariant: the rows are those of a plan that counts i addresses, and the next row is address i.
-- Assumes nothing.
use mathlib.Core.Path.{◌≡◌}
use Rattle.addresses.specs.Addresses.{address_bytes, address}
use Rattle.addresses.proofs.Plans.{first_rows}
use Rattle.addresses.proofs.addresses.Given as goal

abbrev pub invariant-loop-i : goal.invariant-loop-i
invariant-loop-i l =
    (l.rows ≡ first_rows l.initial.row l.stride l.i) × (l.row ≡ address_bytes (address l.initial.row l.stride l.i))
