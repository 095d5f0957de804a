-- A reply that is heard as the answer is taken as document 02 has it, outside a recovery and by its step.
-- Assumes nothing.
use mathlib.Core.Path.{◌≡◌, refl, ap, ◌∙◌, sym}
use mathlib.Core.List.{List, ◌++◌}
use mathlib.Core.Option.{Option, none, some}
use Prim.Native.Nat.{ℕ}
use lib.ListN.{length, length-append}
use Rattle.octets.specs.Bytes.{bytes}
use Rattle.octets.proofs.Numbers.{length-bytes}
use Rattle.line.specs.Numbers.{reply_status, status_length}
use Rattle.line.specs.Message.{Message}
use Rattle.requester.specs.State.{Request, RecoveryStep, fetch, acknowledge, alert, step_request, outstanding_of, is_some}
use Rattle.requester.specs.Requester.{answer, fetched, settle}
use Rattle.supervisor.specs.State.{State}
use Rattle.responder.specs.Commands.{command_of_number, with_number, command_number}
use Rattle.responder.specs.Requests.{carry_out, effect, reply_of}
use Rattle.both_claims.specs.Ends.{reply_to_request, as_message}
use Rattle.both_claims.specs.RoundTrip.{answer_taken}
use Rattle.both_claims.proofs.laws.Lists.{none-some}

-- a status of 16 bytes
pub record StatusReply (r : Message) : Type 0 where
  pub command : r.command ≡ reply_status
  pub long : length r.payload ≡ status_length

-- what a fetch earns
fetch-replied : (image : List ℕ) (s : State) (n : ℕ) (r : Message) → reply_to_request image s (as_message n (step_request fetch)) ≡ some r
    → StatusReply r
unfolding step_request carry_out command_of_number with_number command_number effect reply_of
fetch-replied image s n r e =
    let c : reply_status ≡ r.command = cc in
    let d : bytes 8 s.status ++ bytes 8 s.options ≡ r.payload = cc in
    record { command = sym c; long = ap length (sym d) ∙ simp (length-append, length-bytes) }

module _ (image : List ℕ) (s : State) (n : ℕ) (a : Request) (r : Message) (earns : reply_to_request image s (as_message n a) ≡ some r) where
  -- t is the recovery's step, k the request kept
  pub taken_as : (t : Option RecoveryStep) (k : Option Request) → outstanding_of t k ≡ some a
      → settle t (is_some k) (answer r) ≡ answer_taken t (is_some k) r
  unfolding settle fetched answer_taken
  taken_as none none e = absurd (none-some e)
  taken_as none (some q) e = refl
  taken_as (some fetch) k e =
      let q : a ≡ step_request fetch = cc in
      let y = fetch-replied image s n r (rw q at earns) in
      rw (y.command, y.long)
  taken_as (some acknowledge) k e = refl
  taken_as (some alert) k e = refl
