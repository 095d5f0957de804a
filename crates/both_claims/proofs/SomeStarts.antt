-- There are starts of both ends that are accepted: on zero bytes, with plain start data.
-- Assumes nothing.
use mathlib.Core.Path.{◌≡◌, refl}
use mathlib.Core.List.{List, ◌∷◌}
use Prim.Native.Nat.{ℕ, zero, suc, ◌-◌}
use native.Mathlib.Omega.{arith}
use lib.ListN.{replicate}
use Rattle.octets.specs.Bytes.{Each, Byte, number}
use Rattle.line.specs.Reader as LineReader
use Rattle.line_claims.specs.Loans.{first, lent_part}
use Rattle.requester.specs.Layout as RequesterLayout
use Rattle.requester.specs.Calls.{main_parts, main_long_enough, main_start_promise}
use Rattle.requester_claims.specs.Histories as Main
use Rattle.requester_claims.specs.Histories.{main_made, main_did}
use Rattle.supervisor.specs.Layout
use Rattle.supervisor.specs.Limits.{bsu_a}
use Rattle.supervisor.specs.Calls as SupervisorCalls
use Rattle.supervisor.specs.Valid
use Rattle.supervisor_claims.specs.ByPart.{Part, published, parts_by}
use Rattle.supervisor_claims.specs.Histories as Supervisor
use Rattle.both_claims.specs.Ends.{BothStarts}
use Rattle.both_claims.specs.Witness.{all_lent}

zero-bytes : (n : ℕ) → Each Byte (replicate n 0)
zero-bytes zero = tt
zero-bytes (suc n) = (omega arith, zero-bytes n)

abbrev plain_data : List ℕ
plain_data = bsu_a ∷ replicate (Layout.start_length - 1) 0

main-starts : (main_made (main_parts (replicate LineReader.reader_length 0) (replicate RequesterLayout.requester_length 0))
    (record { lent = all_lent; call = Main.start })).answer ≡ Main.done
unfolding main_made main_did main_start_promise main_long_enough lent_part
main-starts = refl

supervisor-starts : (Supervisor.made (parts_by (λ i. replicate (published i) 0))
    (record { lent = λ i. first (published i); call = Supervisor.start plain_data })).answer ≡ Supervisor.done
unfolding Supervisor.made Supervisor.did SupervisorCalls.start_promise SupervisorCalls.long_enough lent_part Valid.good_start number
    Valid.all
supervisor-starts = refl

pub some_starts : BothStarts
some_starts = record {
  main-parts = main_parts (replicate LineReader.reader_length 0) (replicate RequesterLayout.requester_length 0);
  main_lent = all_lent;
  main_accepted = main-starts;
  supervisor_parts = parts_by (λ i. replicate (published i) 0);
  supervisor_bytes = record {
    reader = zero-bytes (published Part.reader);
    outbox = zero-bytes (published Part.outbox);
    factory = zero-bytes (published Part.factory);
    settings = zero-bytes (published Part.settings);
    registers = zero-bytes (published Part.registers);
  };
  supervisor_lent = λ i. first (published i);
  start_data = plain_data;
  start_typed = (refl, (omega arith, zero-bytes (Layout.start_length - 1)));
  supervisor_accepted = supervisor-starts;
}
