-- Document 02's item 14 with counter blocks: the wireless passphrase is in no answer and no counter of calls that are lent one.
-- Assumes nothing: these are definitions and statements.
use Rattle.std.specs.Prelude.{◌≡◌, List, ◌+◌, ◌<◌}
use Rattle.supervisor.specs.Limits.{last_edition}
use Rattle.supervisor_claims.specs.View.{view}
use Rattle.supervisor_claims.specs.Histories.{AllTyped}
use Rattle.supervisor_claims.specs.TwoRuns.{Run, left_by_run, received_in_run, SameButPassphrase, without_passphrase, passphrase_edition}
use Rattle.supervisor_claims.specs.TwoRuns.{sets_to_come, mixed_sets_to_come}
use Rattle.supervisor_claims.specs.MixedCalls.{AllTypedMixed}
use Rattle.counters_claims.specs.CountHistory.{Lending, outputs_lending, blocks_lending, unlent}
use Rattle.counters_claims.specs.CountHistory.{MixedLending, outputs_mixed_lending, blocks_mixed_lending, left_mixed_lending, calls_lent}
use Rattle.counters_claims.specs.CountedPassphrases.{TwoCountedPassphrases}

-- Behind both runs come any calls, the same in both, each lent any block or none.
-- The edition is below its end in both by more than the sets to come. Then the calls give the same, and leave each block the same.
abbrev pub CountedAlike : Run → Run → Type 0
CountedAlike r s = (xs : List Lending) → AllTyped (unlent xs) → let n = sets_to_come (received_in_run r) (unlent xs) in
    passphrase_edition (left_by_run r) + n < last_edition → passphrase_edition (left_by_run s) + n < last_edition
    → (outputs_lending (left_by_run r) xs ≡ outputs_lending (left_by_run s) xs)
    × (blocks_lending (left_by_run r) xs ≡ blocks_lending (left_by_run s) xs)

abbrev pub TwoCountedRuns : Type 0
TwoCountedRuns = (r s : Run) → SameButPassphrase (left_by_run r) (left_by_run s) → (xs : List MixedLending) → AllTypedMixed (calls_lent xs)
    → let n = mixed_sets_to_come (received_in_run r) (calls_lent xs) in
    passphrase_edition (left_by_run r) + n < last_edition → passphrase_edition (left_by_run s) + n < last_edition
    → (outputs_mixed_lending (left_by_run r) xs ≡ outputs_mixed_lending (left_by_run s) xs)
    × (blocks_mixed_lending (left_by_run r) xs ≡ blocks_mixed_lending (left_by_run s) xs)
    × SameButPassphrase (left_mixed_lending (left_by_run r) xs) (left_mixed_lending (left_by_run s) xs)

abbrev pub TwoCountedStates : Type 0
TwoCountedStates = (r s : Run) → without_passphrase (view (left_by_run r)) ≡ without_passphrase (view (left_by_run s)) → CountedAlike r s

pub record CountersItem14 : Type 0 where
  -- two runs whose states differ only in the passphrase's value, length, presence and edition answer, write and count the same
  pub two_counted_states : TwoCountedStates
  -- So where all bytes of the parts outside the passphrase's record are equal, with the line layer's calls among them.
  -- All bytes outside the record stay equal.
  pub two_counted_runs : TwoCountedRuns
  -- Two runs from one start have the same calls, but for the frames of sets of the passphrase. These have values and cuts of their own.
  -- The call that brings a set's 00 is counted in both or in neither. The other calls answer and write the same, the block is the same,
  -- and so are the parts but for the record.
  pub two_counted_passphrases : TwoCountedPassphrases
