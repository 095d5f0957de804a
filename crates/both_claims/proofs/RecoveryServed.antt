-- The requests of a recovery pass the whole table, and what they earn.
-- Assumes nothing.
use mathlib.Core.Path.{◌≡◌, refl}
use mathlib.Core.Bool.{true}
use mathlib.Core.List.{List}
use mathlib.Core.Logic.{◌⊎◌, inl, inr}
use mathlib.Core.Option.{Option, none, some}
use Prim.Native.Nat.{ℕ, ◌≤◌}
use native.Mathlib.Omega.{arith}
use lib.Dec.{eqb}
use lib.ListN.{length}
use borrow.Author.Tests.{eqb-true}
use Rattle.octets.proofs.Conditions.{cond-by}
use Rattle.line.specs.Message.{Message}
use Rattle.line.specs.Frame.{form}
use Rattle.requester.specs.Limits.{last_number}
use Rattle.requester.specs.State.{RecoveryStep, fetch, acknowledge, alert, step_request}
use Rattle.supervisor.specs.State.{Retained, State}
use Rattle.responder.specs.Commands.{command_of_number, with_number, command_number, length_right}
use Rattle.responder.specs.Requests
use Rattle.responder.specs.Requests.{good, verdict, known, length_allowed, Carried, carry_out, effect, reply_of}
use Rattle.supervisor_claims.specs.Item5.{SentAgain}
use Rattle.both_claims.specs.Ends.{reply_message, as_message}
use Rattle.both_claims.specs.BothEnds.{RecoveryServed}
use Rattle.both_claims.proofs.laws.Ranges.{ranged-message, step-ranged}
use Rattle.both_claims.proofs.laws.Table.{table-passes}

step-listed : (t : RecoveryStep) → let q = step_request t in
    (known q.command ≡ true) × (length_allowed q.command (length q.payload) ≡ true)
unfolding step_request known length_allowed command_of_number with_number command_number length_right
step-listed fetch = (refl, refl)
step-listed acknowledge = (refl, refl)
step-listed alert = (refl, refl)

step-passes : (t : RecoveryStep) (n : ℕ) → n ≤ last_number → let m = as_message n (step_request t) in verdict (form m) ≡ good m
step-passes t n low =
    let q = step_request t in
    table-passes (as_message n q) (ranged-message n q low (step-ranged t)) refl (omega (arith, low)) (step-listed t).0 (step-listed t).1

-- a reply of version 1, or the retained one again
abbrev Earns : RecoveryStep → State → Message → Carried → Type 0
Earns t s m c =
    (r : Message) × (reply_message (reply_of m.sequence c.reply) ≡ some r)
    × ((r.version ≡ 1) ⊎ ((t ≡ alert) × SentAgain s m r.version))

alert-earns : (s : State) (m : Message) → m.version ≡ 1 → (o : Option Retained) → s.retained ≡ o
    → Earns alert s m (Requests.alert_asked m.version s m.sequence o)
unfolding Requests.alert_asked Requests.alert_taken reply_of
alert-earns s m v none e = (_, refl, inl v)
alert-earns s m v (some k) e =
    cond-by (Earns alert s m) (eqb k.sequence m.sequence) _ _
    (λ f. (_, refl, inr (refl, record { kept = k; retained = e; number = eqb-true k.sequence m.sequence f; written = refl })))
    (λ f. (_, refl, inl v))

step-earns : (t : RecoveryStep) (n : ℕ) (image : List ℕ) (s : State) → let m = as_message n (step_request t) in
    Earns t s m (carry_out image s m)
unfolding step_request carry_out command_of_number with_number command_number effect reply_of Requests.start_acknowledged
step-earns fetch n image s = (_, refl, inl refl)
step-earns acknowledge n image s = (_, refl, inl refl)
step-earns alert n image s = alert-earns s (as_message n (step_request alert)) refl s.retained refl

pub recovery_served : RecoveryServed
recovery_served t n low = (step-passes t n low, λ image s. step-earns t n image s)
