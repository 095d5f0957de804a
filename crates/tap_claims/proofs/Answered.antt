-- A request that was carried out rightly: what is known fits behind it, its reply is accused of nothing, and what that tells fits.
-- Assumes nothing.
use mathlib.Core.Path.{◌≡◌}
use mathlib.Core.Bool.{true, false}
use mathlib.Core.List.{[]}
use mathlib.Core.Option.{Option, none, some}
use Prim.Native.Nat.{ℕ}
use lib.Dec.{eqb}
use borrow.Author.Tests.{eq-eqb}
use Rattle.line.specs.Numbers.{command_alert, reply_decode_failure}
use Rattle.line.specs.Message.{Message}
use Rattle.supervisor.specs.Number.{top_set}
use Rattle.supervisor.specs.State.{State}
use Rattle.responder.specs.Commands.{Command, command_number, command_of_number}
use Rattle.responder.specs.Requests.{ReplyContent, Carried}
use Rattle.responder.proofs.CommandLaws.{number_is}
use Rattle.tap.specs.Known.{Known, known_after_by, result_due}
use Rattle.tap.specs.Accused.{accused_if, reply_earned, length_earned, version_earned, data_accused, is_command, request_accused}
use Rattle.tap.specs.Accused.{request_accused_by}
use Rattle.tap.specs.Tap.{told_by}
use Rattle.tap_claims.proofs.Fits.{FitsState}

-- the reply to a request with this number
abbrev pub numbered : ℕ → ReplyContent → Message
numbered sequence y = record { version = y.version; sequence = top_set sequence; command = y.command; payload = y.payload }

abbrev pub RepliedRightly : Option Command → Known → Option ℕ → Message → State → Option ReplyContent → Type 0
RepliedRightly x k due m t none = Unit {0}
RepliedRightly x k due m t (some y) =
    let r = numbered m.sequence y in
    (request_accused_by x k due m r ≡ []) × FitsState (told_by x m r k) t

abbrev pub CarriedRightly : Known → Message → Option Command → Carried → Type 0
CarriedRightly k m x c =
    let j = known_after_by x k m in
    FitsState j c.state × RepliedRightly x j (result_due k m.payload) m c.state c.reply

-- what a reply has that is accused of nothing
pub record Earned (x : Command) (k : Known) (due : Option ℕ) (m r : Message) : Type 0 where
  pub no_failure : eqb r.command reply_decode_failure ≡ false
  pub command : is_command (reply_earned x) r.command ≡ true
  pub version : version_earned m r ≡ true
  pub long : length_earned x r ≡ true
  pub right : data_accused x k due m r ≡ []

pub earned-right : {x : Command} {k : Known} {due : Option ℕ} {m r : Message} → Earned x k due m r → request_accused x k due m r ≡ []
unfolding request_accused accused_if
earned-right e = rw (e.no_failure, e.version, e.command, e.long, e.right)

-- the request's version, but in reply to an alert request
pub version_right : (m r : Message) {x : Command} → command_of_number m.command ≡ some x → eqb (command_number x) command_alert ≡ false
    → r.version ≡ m.version → version_earned m r ≡ true
version_right m r e n v = rw (number_is m.command e, n) (eq-eqb _ _ v)
