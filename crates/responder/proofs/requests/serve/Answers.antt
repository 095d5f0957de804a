-- `responder::requests::serve` meets its contract: each command's arm does what the definition does for it.
-- Assumes nothing.
use mathlib.Core.Path.{refl, ap}
use native.Mathlib.Omega.{arith}
use borrow.Author.Rules.{rules}
use Rattle.responder.specs.Commands.{Command, command_number}
use Rattle.responder.specs.Receive.{AlertParts, inner, command_leaves}
use Rattle.responder.specs.Stores.{inner_held}
use Rattle.responder.proofs.ReceiveLaws.{boot-failure-long, panic-long, key-set-long}
use Rattle.responder.proofs.StepLaws.{unanswered-by, answered-by, looked-by, acknowledged-by, judged-set, served-small}
use Rattle.responder.proofs.StoreLaws.{answered, carried-out}
use Rattle.responder.proofs.requests.serve.Goals.{in-Reboot, in-PowerOff, in-Bsu, in-Identity, in-Mac, in-BootFailure, in-Panic, in-Status}
use Rattle.responder.proofs.requests.serve.Goals.{in-StartAcknowledged, in-Alert, in-ImageBlock, in-KeyLookup, in-Inventory}
use Rattle.responder.proofs.requests.serve.Goals as goal

pub boot_failure-requires-clause-in_bounds : goal.boot_failure-requires-clause-in_bounds
boot_failure-requires-clause-in_bounds c = boot-failure-long _ (rw c.in-BootFailure.is at c.requires.data_value)

pub panic-requires-clause-in_bounds : goal.panic-requires-clause-in_bounds
panic-requires-clause-in_bounds c = panic-long _ (rw c.in-Panic.is at c.requires.data_value)

pub alert-requires-clause-version_bound : goal.alert-requires-clause-version_bound
alert-requires-clause-version_bound c = omega (arith, served-small c.args.asked.now.version c.requires.version_value)

pub set_key-result-requires : goal.set_key-result-requires
set_key-result-requires c =
    let p = c.requires in
    record {
      outbox_length_in_bounds = p.stores_valid.outbox_long;
      settings_length_in_bounds = p.stores_valid.settings_long;
      in_bounds = key-set-long _ (rw c.in-KeySet.is at p.data_value);
    }

pub returns-in-KeySet : goal.returns-in-KeySet
returns-in-KeySet c =
    let s = c.args.stores.now in
    let a = c.args.asked.now in
    let p = c.requires in
    answered (search rules)
    (judged-set s.image.now s.factory.now s.outbox.now s.settings.now s.registers.now a.version a.number.0 a.command a.payload.now
    (rw c.in-KeySet.is at p.command_value) p.version_value p.stores_valid.factory p.stores_valid.inner p.data_len_bound
    (c.read_u8-first.ensures, omega arith) c.head_to-reply.ensures c.set_key-result.ensures)

pub returns : goal.returns
unfolding command_number command_leaves
returns c =
    let a = c.args.asked.now in
    let i = inner_held c.args.stores.now in
    let p = c.requires in
    let h = c.head_to-reply.ensures in
    elim c.match-command.branch [
      | in-Reboot w ↦
          rw w.stores-is
          (carried-out (search rules) a Command.reboot p.stores_valid p.version_value p.data_len_bound
          (c.read_u8-first.ensures, omega arith)
          (rw w.in-Reboot.is at p.command_value) refl
          (unanswered-by i _ w.ask_for.ensures))
      | in-PowerOff w ↦
          rw w.stores-is
          (carried-out (search rules) a Command.power-off p.stores_valid p.version_value p.data_len_bound
          (c.read_u8-first.ensures, omega arith)
          (rw w.in-PowerOff.is at p.command_value) refl
          (unanswered-by i _ w.ask_for-in-PowerOff.ensures))
      | in-Bsu w ↦
          rw w.stores-is
          (carried-out (search rules) a Command.bsu p.stores_valid p.version_value p.data_len_bound
          (c.read_u8-first.ensures, omega arith)
          (rw w.in-Bsu.is at p.command_value) refl
          (answered-by i _ _ _ _ h w.send_bsu.ensures))
      | in-Identity w ↦
          rw w.stores-is
          (carried-out (search rules) a Command.identity p.stores_valid p.version_value p.data_len_bound
          (c.read_u8-first.ensures, omega arith)
          (rw w.in-Identity.is at p.command_value) refl
          (answered-by i _ _ _ _ h w.send_identity.ensures))
      | in-Mac w ↦
          rw w.stores-is
          (carried-out (search rules) a Command.mac p.stores_valid p.version_value p.data_len_bound
          (c.read_u8-first.ensures, omega arith)
          (rw w.in-Mac.is at p.command_value) refl
          (answered-by i _ _ _ _ h w.send_mac.ensures))
      | in-BootFailure w ↦
          rw w.stores-is
          (carried-out (search rules) a Command.boot-failure p.stores_valid p.version_value p.data_len_bound
          (c.read_u8-first.ensures, omega arith)
          (rw w.in-BootFailure.is at p.command_value) refl
          (rw (← c.read_u8-first.ensures, ← w.from.ensures) (unanswered-by i _ w.boot_failure.ensures)))
      | in-Panic w ↦
          rw w.stores-is
          (carried-out (search rules) a Command.panic p.stores_valid p.version_value p.data_len_bound
          (c.read_u8-first.ensures, omega arith)
          (rw w.in-Panic.is at p.command_value) refl
          (acknowledged-by i _ _ _ h w.panic.ensures))
      | in-Status w ↦
          rw w.stores-is
          (carried-out (search rules) a Command.status p.stores_valid p.version_value p.data_len_bound
          (c.read_u8-first.ensures, omega arith)
          (rw w.in-Status.is at p.command_value) refl
          (answered-by i _ _ _ _ h w.send_status.ensures))
      | in-StartAcknowledged w ↦
          rw w.stores-is
          (carried-out (search rules) a Command.start-acknowledged p.stores_valid p.version_value p.data_len_bound
          (c.read_u8-first.ensures, omega arith)
          (rw w.in-StartAcknowledged.is at p.command_value) refl
          (acknowledged-by i _ _ _ h w.start_acknowledged.ensures))
      | in-Alert w ↦
          rw w.stores-is
          (carried-out (search rules) a Command.alert p.stores_valid p.version_value p.data_len_bound
          (c.read_u8-first.ensures, omega arith)
          (rw w.in-Alert.is at p.command_value) refl
          (ap (λ (q : AlertParts). inner q.outbox i.settings q.registers) w.alert.ensures))
      | in-ImageBlock w ↦
          rw w.stores-is
          (carried-out (search rules) a Command.image_block p.stores_valid p.version_value p.data_len_bound
          (c.read_u8-first.ensures, omega arith)
          (rw w.in-ImageBlock.is at p.command_value) refl
          (answered-by i _ _ _ _ h w.send_block.ensures))
      | in-KeyLookup w ↦
          rw w.stores-is
          (carried-out (search rules) a Command.key_lookup p.stores_valid p.version_value p.data_len_bound
          (c.read_u8-first.ensures, omega arith)
          (rw w.in-KeyLookup.is at p.command_value) refl
          (looked-by i _ _ _ _ h w.send_value.ensures))
      | in-Inventory w ↦
          rw w.stores-is
          (carried-out (search rules) a Command.inventory p.stores_valid p.version_value p.data_len_bound
          (c.read_u8-first.ensures, omega arith)
          (rw w.in-Inventory.is at p.command_value) refl
          (rw (← w.read_u32-index.ensures) (answered-by i _ _ _ _ h w.send_item.ensures)))
    ]
