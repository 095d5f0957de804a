-- `line::reader::message_data` meets its contract.
-- Assumes nothing.
use mathlib.Core.Path.{refl}
use native.Mathlib.Nat.{add-sub_cancel_left}
use native.Mathlib.Omega.{arith}
use Rattle.octets.proofs.Parts.{place-start}
use Rattle.line.specs.Reader.{part_of, data_promise, data_place_by_refusal, data_place}
use Rattle.line.proofs.State.{data-given}
use Rattle.line.proofs.reader.message_data.Goals as goal

pub slice_bounds-result-end : goal.slice_bounds-result-end
slice_bounds-result-end c =
    omega (arith, data-given c.args.state.now c.args.count c.in-Ok.ensures)

pub overflow_add-result : goal.overflow_add-result
overflow_add-result c =
    omega (arith, data-given c.args.state.now c.args.count c.in-Ok.ensures)

pub returns-in-Ok : goal.returns-in-Ok
unfolding data_promise part_of data_place_by_refusal data_place
returns-in-Ok c =
    rw (← c.in-Ok.ensures, add-sub_cancel_left) (record { result_value = refl; ref_ptr_value = refl })

pub returns-in-Err : goal.returns-in-Err
unfolding data_promise part_of data_place_by_refusal data_place
returns-in-Err c =
    rw (← c.in-Err.ensures) (record { result_value = refl; ref_ptr_value = place-start _ })
