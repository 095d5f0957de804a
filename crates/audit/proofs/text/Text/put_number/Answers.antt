-- `audit::text::Text::put_number` meets its contract.
-- Assumes nothing.
use native.Mathlib.Omega.{arith}
use lib.ListN.{length-append}
use Rattle.audit.proofs.Digits.{number_put, number-length}
use Rattle.audit.proofs.text.Text.put_number.Goals as goal

pub put-requires : goal.put-requires
put-requires c =
    let d = c.decimal-count.ensures in
    omega (arith, number-length _ _ _ d.in_bounds d.len d.digits (omega arith))

pub returns : goal.returns
returns c =
    let d = c.decimal-count.ensures in
    record {
      wrote = rw (number_put _ _ _ d.in_bounds d.len d.digits) at c.put.ensures;
      upper_bound = rw (c.put.ensures, length-append) (omega (arith, number-length _ _ _ d.in_bounds d.len d.digits (omega arith)));
    }
