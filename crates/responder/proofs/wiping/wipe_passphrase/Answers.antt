-- `responder::wiping::wipe_passphrase` meets its contract.
-- Assumes nothing.
use Rattle.responder.proofs.VerdictLaws.{other-command, passphrase-wiped, other_key}
use Rattle.responder.proofs.wiping.wipe_passphrase.Goals as goal

pub returns-then-command-ne-COMMAND_KEY_SET : goal.returns-then-command-ne-COMMAND_KEY_SET
returns-then-command-ne-COMMAND_KEY_SET c = other-command _ _ _ c.if-command-ne-COMMAND_KEY_SET.true

pub returns-then-key-eq-PASSPHRASE_KEY : goal.returns-then-key-eq-PASSPHRASE_KEY
returns-then-key-eq-PASSPHRASE_KEY c =
    passphrase-wiped _ _ _ c.if-command-ne-COMMAND_KEY_SET.false c.message_data.ensures.result_value c.read_u8-key.ensures _
    c.if-key-eq-PASSPHRASE_KEY.true c.start.ensures

pub returns-else-key-eq-PASSPHRASE_KEY : goal.returns-else-key-eq-PASSPHRASE_KEY
returns-else-key-eq-PASSPHRASE_KEY c =
    other_key _ _ _ c.if-command-ne-COMMAND_KEY_SET.false c.message_data.ensures.result_value c.read_u8-key.ensures
    c.if-key-eq-PASSPHRASE_KEY.false
