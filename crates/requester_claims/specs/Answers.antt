-- The message that a call hands out, when it matches the one outstanding, and how many answers and requests there are.
-- Assumes nothing: these are definitions.
use Rattle.std.specs.Prelude.{◌≡◌, cond, List, [], ◌∷◌, ℕ, ◌+◌, length}
use Rattle.std.proofs.Math.Option.{Option, none, some}
use Rattle.std.specs.Int.Count.{ones}
use Rattle.line.specs.Numbers.{status_length, reply_decode_failure, reply_status}
use Rattle.line.specs.Message.{Message}
use Rattle.requester.specs.State.{Request}
use Rattle.requester.specs.Requester.{reply_sequence, stays_out, message_status, message_options}
use Rattle.requester.specs.Layout
use Rattle.requester.specs.Calls
use Rattle.requester.specs.Calls.{MainParts, HandedReport}
use Rattle.requester_claims.specs.Histories
use Rattle.requester_claims.specs.Histories.{MainCall, MainAnswer, refused, done, put, received, stands, MainMade, main_made}

-- version 1, the reply sequence of this number, no decode failure
pub record Matching (n version sequence command : ℕ) : Type 0 where
  pub version_1 : version ≡ 1
  pub reply : sequence ≡ reply_sequence n
  pub no_failure : command ≡ reply_decode_failure → ⊥

-- the message of a status: 0x06 with 16 bytes, which are the status and the options, and so many bits of the status are set
pub record StatusMessage (m : Message) (s o n : ℕ) : Type 0 where
  pub command : m.command ≡ reply_status
  pub size : length m.payload ≡ status_length
  pub status : message_status m ≡ s
  pub options : message_options m ≡ o
  pub set_bits : ones s ≡ n

-- a status comes from such a message, which has the property
pub record StatusFrom (P : Message → Type 0) (s o n : ℕ) : Type 0 where
  pub from : Message
  pub shape : StatusMessage from s o n
  pub holds : P from

-- A property of the message that is handed out, to the caller or as a recovery's alert, by its version, sequence, command and data.
-- Of a status it is a property of the message that the status comes from.
abbrev pub OfReport : (Message → Type 0) → HandedReport → List ℕ → Type 0
OfReport P (HandedReport.refused k) d = Unit {0}
OfReport P Calls.nothing d = Unit {0}
OfReport P (Calls.answered v q c k) d = P (record { version = v; sequence = q; command = c; payload = d })
OfReport P (Calls.status s o k) d = StatusFrom P s o k
OfReport P (Calls.alerted v q c k) d = P (record { version = v; sequence = q; command = c; payload = d })

-- of that message and of how many bytes the call read
abbrev pub OfAnswer : (ℕ → Message → Type 0) → MainAnswer → List ℕ → Type 0
OfAnswer P (refused k) d = Unit {0}
OfAnswer P done d = Unit {0}
OfAnswer P (put k) d = Unit {0}
OfAnswer P (received used t e u) d = OfReport (P used) t d
OfAnswer P (stands x) d = Unit {0}

abbrev pub MessageMatching : ℕ → Message → Type 0
MessageMatching n m = Matching n m.version m.sequence m.command

-- each call of a list: the number is the newest as the call begins
abbrev pub AllMatch : MainParts → List MainMade → Type 0
AllMatch p [] = Unit {0}
AllMatch p (m ∷ ms) = OfAnswer (λ used. MessageMatching (Layout.newest_number p.requester)) (main_made p m).answer (main_made p m).out
    × AllMatch (main_made p m).parts ms

abbrev pub answers_reported : HandedReport → ℕ
answers_reported (HandedReport.refused k) = 0
answers_reported Calls.nothing = 0
answers_reported (Calls.answered v q c k) = 1
answers_reported (Calls.status s o k) = 0
answers_reported (Calls.alerted v q c k) = 0

-- how many answers a call hands out to the caller
abbrev pub answers_in : MainAnswer → ℕ
answers_in (refused k) = 0
answers_in done = 0
answers_in (put k) = 0
answers_in (received used t e u) = answers_reported t
answers_in (stands x) = 0

-- how many requests it puts out that stay outstanding
abbrev pub requests_asked : ℕ → MainAnswer → ℕ
requests_asked command (refused k) = 0
requests_asked command done = 0
requests_asked command (put k) = cond (stays_out command) 1 0
requests_asked command (received used t e u) = 0
requests_asked command (stands x) = 0

abbrev pub requests_by_call : MainCall → MainAnswer → ℕ
requests_by_call Histories.start a = 0
requests_by_call (Histories.request command d room) a = requests_asked command a
requests_by_call Histories.interrupt a = 0
requests_by_call (Histories.send room) a = 0
requests_by_call (Histories.receive piece) a = 0
requests_by_call Histories.state a = 0

unfoldable pub answers_counted : MainParts → List MainMade → ℕ
answers_counted p [] = 0
answers_counted p (m ∷ ms) = answers_in (main_made p m).answer + answers_counted (main_made p m).parts ms

unfoldable pub requests_counted : MainParts → List MainMade → ℕ
requests_counted p [] = 0
requests_counted p (m ∷ ms) = requests_by_call m.call (main_made p m).answer + requests_counted (main_made p m).parts ms

-- how many requests are kept, one or none
abbrev pub kept_number : Option Request → ℕ
kept_number none = 0
kept_number (some q) = 1
