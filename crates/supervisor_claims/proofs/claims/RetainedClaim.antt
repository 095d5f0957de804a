-- The retained alert reply: which requests replace or drop it, and what a reboot or power-off
-- leaves (document 01, "Alerts"; document 02, item 1).
-- Assumes nothing.
use mathlib.Core.Path.{◌≡◌, refl, sym}
use mathlib.Core.Bool.{false, false≢true}
use mathlib.Core.List.{List}
use mathlib.Core.Option.{Option, none, some}
use Prim.Native.Nat.{ℕ}
use lib.Dec.{eqb}
use Rattle.line.specs.Message.{Message}
use Rattle.supervisor.specs.State.{State}
use Rattle.responder.specs.Commands.{Command, command_number, with_number, command_of_number}
use Rattle.responder.specs.Requests
use Rattle.responder.proofs.CommandLaws.{number_is}
use Rattle.responder.specs.Requests.{effect, carry_out_by, carry_out}
use Rattle.supervisor_claims.specs.Alerts.{Keeps}
use Rattle.supervisor_claims.specs.Item1.{RetainedStays, RebootForgets, PowerOffForgets, FreshAlert}

effect-stays : (image : List ℕ) (s : State) (m : Message) (x : Command) → eqb (command_number x) 0x01 ≡ false
    → eqb (command_number x) 0x02 ≡ false → eqb (command_number x) 0x0a ≡ false → Keeps s (effect x image s m).state
unfolding command_number effect Requests.boot_failure Requests.panicked Requests.start_acknowledged Requests.key_set
effect-stays image s m Command.reboot a b c = absurd (false≢true (sym a))
effect-stays image s m Command.power-off a b c = absurd (false≢true (sym b))
effect-stays image s m Command.bsu a b c = (refl, refl)
effect-stays image s m Command.identity a b c = (refl, refl)
effect-stays image s m Command.mac a b c = (refl, refl)
effect-stays image s m Command.boot-failure a b c = (refl, refl)
effect-stays image s m Command.panic a b c = (refl, refl)
effect-stays image s m Command.status a b c = (refl, refl)
effect-stays image s m Command.start-acknowledged a b c = (refl, refl)
effect-stays image s m Command.alert a b c = absurd (false≢true (sym c))
effect-stays image s m Command.image_block a b c = (refl, refl)
effect-stays image s m Command.key_lookup a b c = (refl, refl)
effect-stays image s m Command.inventory a b c = (refl, refl)
effect-stays image s m Command.key_set a b c = (refl, refl)

pub retained_stays : RetainedStays
unfolding carry_out
retained_stays image s m reboot power-off alert = by (command_of_number m.command) refl
  where
    by : (o : Option Command) → command_of_number m.command ≡ o → Keeps s (carry_out_by o image s m).state
    by none e = (refl, refl)
    by (some x) e = let n = number_is m.command e in effect-stays image s m x (rw n at reboot) (rw n at power-off) (rw n at alert)

pub reboot_forgets : RebootForgets
unfolding carry_out command_of_number with_number command_number effect Requests.reboot
reboot_forgets image s m e = rw e (record { retained = refl; waiting = refl; status = refl })

pub power_off_forgets : PowerOffForgets
unfolding carry_out command_of_number with_number command_number effect Requests.power_off
power_off_forgets image s m e = rw e (record { retained = refl; waiting = refl; status = refl })

pub fresh_alert : FreshAlert
unfolding carry_out command_of_number with_number command_number effect Requests.alert_asked Requests.alert_taken
fresh_alert image s t m f e = rw (e, f.retained, f.waiting) (refl, refl)
