-- The commands, and why a set is refused, as the code names them.
-- Assumes nothing: these are definitions.
use Rattle.std.specs.Prelude.{ℕ, Result, Ok, Err, ⊤}
use Rattle.std.proofs.Math.Option.{Option, none, some}
use Rattle.responder.specs.Commands.{Command}
use Rattle.responder.specs.declared.commands.Command as Coded
use Rattle.responder.specs.declared.commands.Command.TheVariants as coded
use Rattle.responder.specs.declared.commands.UnknownCommand.{UnknownCommand}
use Rattle.responder.specs.declared.settings.SetError.{SetError}
use Rattle.responder.specs.declared.settings.SetError.TheVariants as set_error

-- document 01's command
abbrev pub command_meant : Coded.Command → Command
command_meant coded.Reboot = Command.reboot
command_meant coded.PowerOff = Command.power-off
command_meant coded.Bsu = Command.bsu
command_meant coded.Identity = Command.identity
command_meant coded.Mac = Command.mac
command_meant coded.BootFailure = Command.boot-failure
command_meant coded.Panic = Command.panic
command_meant coded.Status = Command.status
command_meant coded.StartAcknowledged = Command.start-acknowledged
command_meant coded.Alert = Command.alert
command_meant coded.ImageBlock = Command.image_block
command_meant coded.KeyLookup = Command.key_lookup
command_meant coded.Inventory = Command.inventory
command_meant coded.KeySet = Command.key_set

-- the one that a byte is read as; none where it is none of them
abbrev pub command_listed : Result Coded.Command UnknownCommand → Option Command
command_listed (Ok command) = some (command_meant command)
command_listed (Err unknown) = none

-- a set's result: 0 where its value is stored
abbrev pub set_error_number : SetError → ℕ
set_error_number set_error.BadKey = 1
set_error_number set_error.ReadOnly = 2
set_error_number set_error.BadLength = 3
set_error_number set_error.LastEdition = 4

abbrev pub set_result_number : Result ⊤ SetError → ℕ
set_result_number (Ok stored) = 0
set_result_number (Err why) = set_error_number why
