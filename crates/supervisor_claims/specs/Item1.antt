-- Document 02's item 1: valid reboot and power-off requests drop the retained alert reply; waiting alerts stay.
-- Assumes nothing: these are definitions and statements.
use Rattle.std.specs.Prelude.{◌≡◌, true, false, List, [], ◌∷◌, ◌++◌, ℕ, eqb}
use Rattle.std.proofs.Math.Option.{Option, some}
use Rattle.octets.specs.Bytes.{Each}
use Rattle.line.specs.Numbers.{command_reboot, command_power_off, command_alert, reply_alert}
use Rattle.line.specs.Message.{Message}
use Rattle.line.specs.Frame.{split}
use Rattle.supervisor.specs.State.{State}
use Rattle.supervisor.specs.Calls.{Parts}
use Rattle.responder.specs.Requests.{failure, good, verdict, carry_out, alert_data, oldest, others}
use Rattle.supervisor_claims.specs.View.{view}
use Rattle.supervisor_claims.specs.Histories
use Rattle.supervisor_claims.specs.Histories.{LocalCall, Typed, meant, Lent, enough, Made, made, left, AllTyped, receive_with}
use Rattle.supervisor_claims.specs.Histories.{FromStart, AfterCalls}
use Rattle.supervisor_claims.specs.FrameHistory.{received_since_all, frames_closed_by, frame_carried, RepliedWith}
use Rattle.supervisor_claims.specs.LastSet.{requests_in, requests_of}
use Rattle.supervisor_claims.specs.Alerts.{retains, retains_after, retains_all, Drops, NoAlert, alert_message, alert_reply, NoStarts}
use Rattle.supervisor_claims.specs.Alerts.{Keeps, CallKeeps, Forgets}

-- ---- One request, one call

abbrev pub RetainedStays : Type 0
RetainedStays = (image : List ℕ) (s : State) (m : Message) → eqb m.command command_reboot ≡ false
    → eqb m.command command_power_off ≡ false → eqb m.command command_alert ≡ false → Keeps s (carry_out image s m).state

abbrev pub RebootForgets : Type 0
RebootForgets = (image : List ℕ) (s : State) (m : Message) → m.command ≡ command_reboot → Forgets s (carry_out image s m).state

abbrev pub PowerOffForgets : Type 0
PowerOffForgets = (image : List ℕ) (s : State) (m : Message) → m.command ≡ command_power_off → Forgets s (carry_out image s m).state

abbrev pub FreshAlert : Type 0
FreshAlert = (image : List ℕ) (s t : State) (m : Message) → Forgets s t → m.command ≡ command_alert
    → ((carry_out image t m).reply ≡ some (record { version = m.version; command = reply_alert; payload = alert_data (oldest s.waiting) }))
    × ((carry_out image t m).state.waiting ≡ others s.waiting)

abbrev pub LocalKeeps : Type 0
LocalKeeps = (s : State) (c : LocalCall) → CallKeeps s c (meant s (Histories.local c))

abbrev pub FailedKeeps : Type 0
FailedKeeps = (image : List ℕ) (s : State) (f : List ℕ) (reason version : ℕ) (sequence : Option ℕ)
    → verdict f ≡ failure reason version sequence → Keeps s (frame_carried image s f)

abbrev pub RequestRetains : Type 0
RequestRetains = (image : List ℕ) (s : State) (m : Message)
    → retains (carry_out image s m).state.retained ≡ retains_after (retains s.retained) m

-- ---- Any calls

abbrev pub RetainedExactly : List Made → Parts → Type 0
RetainedExactly ms q = retains (view q).retained ≡ retains_all false (requests_of (received_since_all [] ms))

-- The bytes bs and a 00 are received.
-- The reply pending then has the oldest of the alerts that wait when bs have been received.
abbrev pub TakesFresh : Parts → ℕ → ℕ → Lent → List ℕ → List ℕ → Type 0
TakesFresh q version n j image bs =
    RepliedWith q (made q (receive_with image j (bs ++ (0 ∷ []))))
    (alert_reply version n (oldest (view (made q (receive_with image j bs)).parts).waiting))

abbrev pub FreshAlertAnswered : List Made → Parts → Type 0
FreshAlertAnswered ms q = (version n : ℕ) (j : Lent) (image bs : List ℕ) → Typed (Histories.receive image bs)
    → enough (Histories.receive image bs) j ≡ true
    → let w = received_since_all [] ms ++ bs in verdict (split w).rest ≡ good (alert_message version n)
    → (os rs : List Message) (r : Message) → requests_of w ≡ os ++ (r ∷ rs) → Drops r → Each NoAlert rs → TakesFresh q version n j image bs

abbrev pub FreshAfterReboot : Type 0
FreshAfterReboot = FromStart (λ p d q. (ms : List Made) → AllTyped ms
    → (k : Lent) (image₁ cs : List ℕ)
    → let first = receive_with image₁ k (cs ++ (0 ∷ [])) in Typed first.call → enough first.call k ≡ true
    → (r : Message) → verdict (split (received_since_all [] ms ++ cs)).rest ≡ good r → Drops r
    → (ns : List Made) → AllTyped ns → NoStarts ns
    → (version n : ℕ) (j : Lent) (image bs : List ℕ) → Typed (Histories.receive image bs) → enough (Histories.receive image bs) j ≡ true
    → let w = received_since_all [] ms ++ (cs ++ (0 ∷ [])) in
    let later = received_since_all [] ns ++ bs in
    Each NoAlert (requests_in (frames_closed_by w later)) → verdict (split (w ++ later)).rest ≡ good (alert_message version n)
    → TakesFresh (left q (ms ++ (first ∷ ns))) version n j image bs)

pub record SupervisorItem1 : Type 0 where
  -- a valid request other than reboot, power off and alert leaves the retained reply and the alerts that wait
  pub retained_stays : RetainedStays
  -- a reboot drops the retained reply; waiting alerts and the status stay
  pub reboot_forgets : RebootForgets
  -- so does a power-off
  pub power_off_forgets : PowerOffForgets
  -- the next alert request, whatever its number, then takes the oldest alert that waits
  pub fresh_alert : FreshAlert
  -- a local call leaves the retained reply and the alerts that wait; a post that is done adds its alert behind them
  pub local_keeps : LocalKeeps
  -- a frame that fails leaves both
  pub failed_keeps : FailedKeeps
  -- whether a reply is retained after a valid request: none after a reboot or power-off, one after an alert request, else as before
  pub request_retains : RequestRetains
  -- over any calls: a reply is retained exactly where an alert request, received since the last accepted start,
  -- has no reboot or power-off behind it
  pub retained_exactly : AfterCalls RetainedExactly
  -- Over any calls an alert request comes, under any number. Of the requests received before it since the last accepted start, r is a
  -- reboot or power-off, and no alert request follows r. Then a fresh alert is taken.
  -- Cutting the stream elsewhere changes nothing (`cut_any`).
  pub fresh_alert_answered : AfterCalls FreshAlertAnswered
  -- The calls written out:
  -- - any calls ms
  -- - a receive whose last 00 closes a reboot or power-off request r
  -- - any calls ns, among which no start is accepted
  -- - a receive whose last 00 closes an alert request under any number
  -- No alert request came between. Then a fresh alert is taken.
  pub fresh_after_reboot : FreshAfterReboot
