-- Laws of the stores: their lengths where they are valid, and what a request leaves of them.
-- Assumes nothing.
use mathlib.Core.Path.{◌≡◌}
use mathlib.Core.Bool.{true, false}
use mathlib.Core.Option.{some}
use Prim.Native.Nat.{ℕ, ◌≤◌, ◌<◌}
use lib.Dec.{eqb}
use lib.ListN.{length}
use Rattle.octets.specs.Bytes.{number_at}
use Rattle.line.specs.Limits.{longest_data}
use Rattle.line.specs.Numbers.{command_key_set}
use Rattle.supervisor.specs.Valid.{valid_factory}
use Rattle.supervisor.proofs.ValidLaws.{factory-valid, outbox-valid, settings-valid, registers-valid}
use Rattle.counters.specs.Ended.{Ended, Served, step_report, served_report}
use Rattle.counters.specs.declared.outcome.Outcome.TheVariants as outcome
use Rattle.responder.specs.Commands.{Command, command_number, command_of_number}
use Rattle.responder.specs.Requests.{Verdict, good, version_served}
use Rattle.responder.specs.Receive.{valid_inner, command_leaves}
use Rattle.responder.specs.Stores.{inner_held, asked_message, ValidStores, SameStores, StoresAnswered}
use Rattle.responder.specs.declared.stores.Stores.{Stores}
use Rattle.responder.specs.declared.requests.Request.{Request}
use Rattle.responder.proofs.CommandLaws.{number_is}
use Rattle.responder.proofs.KeptLaws.{inner-valid}
use Rattle.responder.proofs.StepLaws.{Judged, carried-both, judged-other}

pub valid_stores : (s : Stores) → valid_factory s.factory.now ≡ true → valid_inner (inner_held s) ≡ true → ValidStores s
valid_stores s f i =
    let v = inner-valid (inner_held s) i in
    record {
      factory = f;
      inner = i;
      settings = v.settings;
      registers = v.registers;
      factory_long = (factory-valid _ f).long;
      outbox_long = (outbox-valid _ v.outbox).long;
      settings_long = (settings-valid _ v.settings).long;
      registers_long = (registers-valid _ v.registers).long;
    }

module _ {s t : Stores} (k : SameStores t s) where
  -- by the contents alone
  pub answered : {v : Verdict} {g : Ended} {w : Served} → Judged s.image.now s.factory.now (inner_held s) v g w (inner_held t)
      → StoresAnswered s v g w t
  answered j =
      record {
        same = k;
        ends = j.result_value;
        tells = j.result_value_2;
        leaves = j.registers_after;
        valid = j.registers_after_2;
      }

  -- a valid request other than a key set, by what its command leaves; n is the first byte of its data
  pub carried-out : (r : Request) {n : ℕ} (x : Command) → ValidStores s → version_served r.version ≡ true
      → length r.payload.now ≤ longest_data
      → (n ≡ number_at 1 r.payload.now 0) × (n < 256) → command_of_number r.command ≡ some x
      → eqb (command_number x) command_key_set ≡ false
      → inner_held t ≡ command_leaves x s.image.now s.factory.now (inner_held s) r.version r.number.0 r.payload.now
      → StoresAnswered s (good (asked_message r)) (step_report (outcome.Request r.command)) (served_report (outcome.Request r.command)) t
  carried-out r x v served short b c other e =
      let n : eqb r.command command_key_set ≡ false = rw (number_is r.command c) other in
      answered
      (judged-other s.image.now s.factory.now s.outbox.now s.settings.now s.registers.now r.version r.number.0 r.command r.payload.now n
      (carried-both s.image.now s.factory.now (inner_held s) r.version r.number.0 r.command r.payload.now served v.factory v.inner short b
      (some x) c e))
