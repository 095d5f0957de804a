-- Alerts: when a reply is retained, by the requests received, and what a reboot, a failed frame and a local call leave of alerts.
-- An alert request and its reply follow. Assumes nothing: these are definitions.
use Rattle.std.specs.Prelude.{◌≡◌, Bool, true, false, cond, ◌⊎◌, List, [], ◌∷◌, ◌++◌, ℕ, eqb}
use Rattle.std.proofs.Math.Option.{Option, none, some}
use Rattle.octets.specs.Bytes.{Each}
use Rattle.line.specs.Numbers.{command_reboot, command_power_off, command_alert, reply_alert}
use Rattle.line.specs.Message.{Message}
use Rattle.line.specs.Frame.{frame}
use Rattle.supervisor.specs.Number.{top_set}
use Rattle.supervisor.specs.State.{Alert, Retained, State}
use Rattle.responder.specs.Requests.{alert_data}
use Rattle.supervisor_claims.specs.LocalCalls.{AnswerKind, kind_of, Change, local_row}
use Rattle.supervisor_claims.specs.Histories.{LocalCall, Answer, Means, Made}
use Rattle.supervisor_claims.specs.FrameHistory.{starts_anew}

-- the retained reply and the alerts that wait are as they were
abbrev pub Keeps : State → State → Type 0
Keeps s t = (t.retained ≡ s.retained) × (t.waiting ≡ s.waiting)

-- what a reboot and a power-off leave of alerts: none retained, those that wait and the status as they were
pub record Forgets (s t : State) : Type 0 where
  pub retained : t.retained ≡ none
  pub waiting : t.waiting ≡ s.waiting
  pub status : t.status ≡ s.status

-- whether a reply is retained
abbrev pub retains : Option Retained → Bool
retains none = false
retains (some r) = true

-- after a valid request: none after a reboot or power-off, one after an alert request, else as before
unfoldable pub retains_after : Bool → Message → Bool
retains_after before m =
    cond (eqb m.command command_reboot) false
    (cond (eqb m.command command_power_off) false (cond (eqb m.command command_alert) true before))

-- after valid requests, in order
unfoldable pub retains_all : Bool → List Message → Bool
retains_all before [] = before
retains_all before (m ∷ ms) = retains_all (retains_after before m) ms

-- a request that drops it, and one that is no alert request
abbrev pub Drops : Message → Type 0
Drops m = (m.command ≡ command_reboot) ⊎ (m.command ≡ command_power_off)

abbrev pub NoAlert : Message → Type 0
NoAlert m = eqb m.command command_alert ≡ false

-- an alert request of a version under number n, and the frame of a reply to it, under n with the top bit set
abbrev pub alert_message : ℕ → ℕ → Message
alert_message version n = record { version = version; sequence = n; command = command_alert; payload = [] }

unfoldable pub alert_reply : ℕ → ℕ → Alert → List ℕ
alert_reply version n a = frame (record { version = version; sequence = top_set n; command = reply_alert; payload = alert_data a })

-- the alerts that are added where a call is done
abbrev pub where_done : AnswerKind → List Alert → List Alert
where_done (AnswerKind.number n) added = []
where_done (AnswerKind.fault n) added = []
where_done AnswerKind.carried-out added = added
where_done (AnswerKind.taken n) added = []
where_done AnswerKind.other added = []

abbrev pub added_by : Change → Answer → List Alert
added_by Change.nothing x = []
added_by Change.outbox x = []
added_by (Change.registers added) x = where_done (kind_of x) added
added_by (Change.settings image) x = []

-- the alerts that a local call with this answer adds
abbrev pub alerts_added : LocalCall → Answer → List Alert
alerts_added c x = added_by (local_row c).change x

-- a local call leaves the retained reply and the alerts that wait; a post that is done adds its alert behind them
abbrev pub CallKeeps : State → LocalCall → Means → Type 0
CallKeeps s c m = (m.state.retained ≡ s.retained) × (m.state.waiting ≡ s.waiting ++ alerts_added c m.answer)

-- calls among which no start is accepted
abbrev pub NoStarts : List Made → Type 0
NoStarts = Each (λ (m : Made). starts_anew m ≡ false)
