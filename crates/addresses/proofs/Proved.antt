-- What is claimed of the address plan, proved: one element of each record of statements in specs/.
-- Assumes nothing.
use Rattle.addresses.specs.Item9.{AddressesItem9}
use Rattle.addresses.proofs.Carry.{carried_sum, next_sum}
use Rattle.addresses.proofs.Plans.{row_number, row_next}
use Rattle.addresses.proofs.PlanAnswers.{passes_exactly, passing_zero, plan_refused_exactly}
use Rattle.addresses.proofs.PlanAnswers.{rows_counted, rows_past_zero, count_zero, stride_zero}

pub item-9 : AddressesItem9
item-9 = record {
  passes_exactly = passes_exactly;
  passing_zero = passing_zero;
  plan_refused_exactly = plan_refused_exactly;
  rows_counted = rows_counted;
  rows_past_zero = rows_past_zero;
  count_zero = count_zero;
  stride_zero = stride_zero;
  row_number = row_number;
  row_next = row_next;
  carried_sum = carried_sum;
  next_sum = next_sum;
}
