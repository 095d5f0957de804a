-- The reply to a request that passes the whole table is in range, and is no decode failure.
-- Assumes nothing.
use mathlib.Core.Path.{◌≡◌, refl, sym, subst}
use mathlib.Core.List.{List}
use mathlib.Core.Logic.{◌⊎◌, inl, inr}
use mathlib.Core.Option.{Option, none, some}
use Prim.Native.Nat.{ℕ, ◌<◌}
use native.Mathlib.Omega.{arith}
use lib.Dec.{eqb}
use Rattle.octets.specs.Bytes.{Each, Byte}
use Rattle.octets.proofs.Conditions.{cond-by}
use Rattle.line.specs.Message.{Message}
use Rattle.line.specs.Frame.{frame}
use Rattle.supervisor.specs.Number.{top_set}
use Rattle.supervisor.specs.State.{Retained, State}
use Rattle.supervisor.specs.Calls.{Parts}
use Rattle.responder.specs.Commands.{Command, command_number, command_of_number}
use Rattle.responder.proofs.CommandLaws.{number_is}
use Rattle.responder.specs.Requests
use Rattle.responder.specs.Requests.{Carried, carry_out, carry_out_by, effect, reply_of, reply_frame}
use Rattle.supervisor_claims.specs.View.{view}
use Rattle.supervisor_claims.specs.Sound.{Sound}
use Rattle.supervisor_claims.proofs.calls.ReceivedClaim.{Requestable}
use Rattle.supervisor_claims.proofs.calls.SendingClaim.{Sendable}
use Rattle.supervisor_claims.proofs.calls.CommandClaims.{SendableReply, command-does}
use Rattle.both_claims.specs.Ends.{reply_message, reply_to_request}
use Rattle.both_claims.proofs.laws.Lists.{none-some}

-- a reply has the request's version, or that of the retained reply
abbrev pub Versioned : State → Message → ℕ → Type 0
Versioned s m version = (version ≡ m.version) ⊎ ((t : Retained) × (s.retained ≡ some t) × (version ≡ t.version))

-- Its command is a byte, not that of a decode failure, and that of an alert only in reply to an alert request.
-- The request's command is c.
abbrev AnswerRange : State → Message → ℕ → Option Requests.ReplyContent → Type 0
AnswerRange s m c none = Unit {0}
AnswerRange s m c (some r) =
    (r.command < 256) × (r.command ≡ 0x02 → ⊥) × (r.command ≡ 0x07 → c ≡ 0x0a) × Versioned s m r.version

module _ (image : List ℕ) (s : State) (m : Message) where
  alert-range : (r : Option Retained) → s.retained ≡ r → AnswerRange s m 0x0a (Requests.alert_asked m.version s m.sequence r).reply
  unfolding Requests.alert_asked Requests.alert_taken
  alert-range none f = (omega arith, λ e. omega (arith, e), λ e. refl, inl refl)
  alert-range (some r) f =
      cond-by (λ (x : Carried). AnswerRange s m 0x0a x.reply) (eqb r.sequence m.sequence) _ _
      (λ _. (omega arith, λ e. omega (arith, e), λ e. refl, inr (r, f, refl)))
      (λ _. (omega arith, λ e. omega (arith, e), λ e. refl, inl refl))

  effect-range : (x : Command) → AnswerRange s m (command_number x) (effect x image s m).reply
  unfolding effect command_number Requests.reboot Requests.power_off Requests.boot_failure Requests.panicked Requests.start_acknowledged
      Requests.key_set
  effect-range Command.reboot = tt
  effect-range Command.power-off = tt
  effect-range Command.bsu = (omega arith, λ e. omega (arith, e), λ e. absurd (omega (arith, e)), inl refl)
  effect-range Command.identity = (omega arith, λ e. omega (arith, e), λ e. absurd (omega (arith, e)), inl refl)
  effect-range Command.mac = (omega arith, λ e. omega (arith, e), λ e. absurd (omega (arith, e)), inl refl)
  effect-range Command.boot-failure = tt
  effect-range Command.panic = (omega arith, λ e. omega (arith, e), λ e. absurd (omega (arith, e)), inl refl)
  effect-range Command.status = (omega arith, λ e. omega (arith, e), λ e. absurd (omega (arith, e)), inl refl)
  effect-range Command.start-acknowledged = (omega arith, λ e. omega (arith, e), λ e. absurd (omega (arith, e)), inl refl)
  effect-range Command.alert = alert-range s.retained refl
  effect-range Command.image_block = (omega arith, λ e. omega (arith, e), λ e. absurd (omega (arith, e)), inl refl)
  effect-range Command.key_lookup = (omega arith, λ e. omega (arith, e), λ e. absurd (omega (arith, e)), inl refl)
  effect-range Command.inventory = (omega arith, λ e. omega (arith, e), λ e. absurd (omega (arith, e)), inl refl)
  effect-range Command.key_set = (omega arith, λ e. omega (arith, e), λ e. absurd (omega (arith, e)), inl refl)

  carried-range : AnswerRange s m m.command (carry_out image s m).reply
  unfolding carry_out
  carried-range = by (command_of_number m.command) refl
    where
      by : (o : Option Command) → command_of_number m.command ≡ o → AnswerRange s m m.command (carry_out_by o image s m).reply
      by none e = tt
      by (some x) e = subst (λ c. AnswerRange s m c (effect x image s m).reply) (sym (number_is m.command e)) (effect-range x)

carried-sendable : (p : Parts) → Sound p → (image : List ℕ) → Each Byte image → (m : Message) → Requestable m
    → SendableReply (carry_out image (view p) m).reply
unfolding carry_out
carried-sendable p s image i m q = by (command_of_number m.command)
  where
    by : (o : Option Command) → SendableReply (carry_out_by o image (view p) m).reply
    by none = tt
    by (some x) = (command-does p s image i m q x).payload

-- what is known of a reply
pub record ReplyOf (image : List ℕ) (s : State) (m r : Message) : Type 0 where
  pub version : Versioned s m r.version
  pub sequence : r.sequence ≡ top_set m.sequence
  pub command : r.command < 256
  pub no_failure : r.command ≡ 0x02 → ⊥
  pub alert : r.command ≡ 0x07 → m.command ≡ 0x0a
  pub framed : reply_frame (reply_of m.sequence (carry_out image s m).reply) ≡ frame r

pub reply-of : (image : List ℕ) (s : State) (m r : Message) → reply_to_request image s m ≡ some r → ReplyOf image s m r
unfolding reply_of reply_frame
reply-of image s m r e = by (carry_out image s m).reply refl (carried-range image s m) e
  where
    by : (o : Option Requests.ReplyContent) → (carry_out image s m).reply ≡ o → AnswerRange s m m.command o
        → reply_message (reply_of m.sequence o) ≡ some r → ReplyOf image s m r
    by none f t g = absurd (none-some g)
    by (some z) f t g =
        let y : record { version = z.version; sequence = top_set m.sequence; command = z.command; payload = z.payload } ≡ r = cc in
        rw (← y) (record { version = t.3; sequence = refl; command = t.0; no_failure = t.1; alert = t.2; framed = rw f })

-- its data can be sent
pub reply-sendable : (p : Parts) → Sound p → (image : List ℕ) → Each Byte image → (m : Message) → Requestable m → (r : Message)
    → reply_to_request image (view p) m ≡ some r → Sendable r.payload
unfolding reply_of
reply-sendable p s image i m q r e = by (carry_out image (view p) m).reply (carried-sendable p s image i m q) e
  where
    by : (o : Option Requests.ReplyContent) → SendableReply o → reply_message (reply_of m.sequence o) ≡ some r → Sendable r.payload
    by none k g = absurd (none-some g)
    by (some z) k g = let y : z.payload ≡ r.payload = cc in rw (← y) k
