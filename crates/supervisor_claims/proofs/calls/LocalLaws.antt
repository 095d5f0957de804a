-- The laws of every row of the table of local calls.
-- Assumes nothing.
use Rattle.supervisor_claims.specs.LocalCalls
use Rattle.supervisor_claims.specs.LocalCalls.{LocalCall}
use Rattle.supervisor_claims.proofs.calls.RowLaws.{RowLaws}
use Rattle.supervisor_claims.proofs.calls.TakeClaim.{take-laws}
use Rattle.supervisor_claims.proofs.calls.RegistersClaim.{post-laws, options-laws, signal-laws, flags-laws, record-laws}
use Rattle.supervisor_claims.proofs.calls.LookupClaim.{lookup-laws, edition-laws}
use Rattle.supervisor_claims.proofs.calls.SavingClaim.{save-laws, restore-laws}

pub row_laws : (c : LocalCall) → RowLaws c
row_laws (LocalCalls.take room) = take-laws room
row_laws (LocalCalls.post action text) = post-laws action text
row_laws (LocalCalls.set_options options) = options-laws options
row_laws (LocalCalls.lookup key most) = lookup-laws key most
row_laws (LocalCalls.edition key) = edition-laws key
row_laws LocalCalls.signal = signal-laws
row_laws LocalCalls.flags = flags-laws
row_laws (LocalCalls.read_record k) = record-laws k
row_laws (LocalCalls.save room) = save-laws room
row_laws (LocalCalls.restore image) = restore-laws image
