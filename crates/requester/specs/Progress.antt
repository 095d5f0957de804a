-- The first fields of the main processor's part as the functions pass them on: the newest number, the recovery's step and two flags.
-- Assumes nothing: these are definitions.
use Rattle.std.specs.Prelude.{true, false, cond, List, ℕ, suc, leb, eqb, ◌≡◌}
use Rattle.std.specs.Prelude as Std
use Rattle.std.specs.Int.{from_bool}
use Rattle.std.proofs.Math.Option.{Option, none, some}
use Rattle.line.specs.Numbers.{command_status, command_start_acknowledged, command_alert}
use Rattle.requester.specs.Limits.{last_number}
use Rattle.requester.specs.State.{RecoveryStep, fetch, acknowledge, alert}
use Rattle.requester.specs.Layout
use Rattle.requester.specs.Calls.{progressed}
use Rattle.requester.specs.declared.step.Step.{Step}
use Rattle.requester.specs.declared.step.Step.TheVariants as step
use Rattle.requester.specs.declared.progress.Progress.{Progress}

-- ---- A recovery's step

abbrev pub recovering_step : Step → RecoveryStep
recovering_step step.Fetch = fetch
recovering_step step.Acknowledge = acknowledge
recovering_step step.Alert = alert

abbrev pub recovery_report : Std.Option Step → Option RecoveryStep
recovery_report Std.None = none
recovery_report (Std.Some t) = some (recovering_step t)

-- the command of a step
abbrev pub step_command : Step → ℕ
step_command step.Fetch = command_status
step_command step.Acknowledge = command_start_acknowledged
step_command step.Alert = command_alert

-- ---- The first fields

-- what the part holds
pub record ProgressIn (r : List ℕ) (p : Progress) : Type 0 where
  pub number : p.number ≡ Layout.newest_number r
  pub recovery : recovery_report p.recovery ≡ Layout.recovery_step r
  pub unsent : p.unsent ≡ eqb (Layout.unsent_of r) 1
  pub kept : p.kept ≡ Layout.is_kept r

abbrev pub with_progress : Progress → List ℕ → List ℕ
with_progress p r = progressed p.number (Layout.step_number (recovery_report p.recovery)) (from_bool p.unsent) (from_bool p.kept) r

abbrev pub idle_progress : ℕ → Progress
idle_progress n = record { number = n; recovery = Std.None; unsent = false; kept = false }

-- the same under the next number, with this step or the original to go out; none where no number is left
abbrev pub anew_progress : Std.Option Step → Progress → Std.Option Progress
anew_progress t p =
    cond (leb last_number p.number) Std.None
    (Std.Some (record { number = suc p.number; recovery = t; unsent = true; kept = p.kept }))
