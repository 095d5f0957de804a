-- Document 02's item 14: key 6, the wireless passphrase, is set only, and two runs that differ only in it answer and write the same.
-- Assumes nothing: these are definitions and statements.
use Rattle.std.specs.Prelude.{◌≡◌, true, List, [], ◌∷◌, ℕ, ◌+◌, ◌<◌}
use Rattle.line.specs.Numbers.{reply_key_lookup}
use Rattle.line.specs.Frame.{frame}
use Rattle.supervisor.specs.Limits
use Rattle.supervisor.specs.Number.{top_set}
use Rattle.supervisor.specs.Calls.{Parts}
use Rattle.supervisor_claims.specs.View.{view}
use Rattle.supervisor_claims.specs.Histories
use Rattle.supervisor_claims.specs.Histories.{found, found_edition, Lent, enough, Made, made}
use Rattle.supervisor_claims.specs.Histories.{outputs, left, AllTyped, locally, AfterCalls}
use Rattle.supervisor_claims.specs.FrameHistory.{RepliedWith, OnRequest}
use Rattle.supervisor_claims.specs.MixedCalls.{MixedCall, AllTypedMixed, outputs_mixed, left_mixed}
use Rattle.supervisor_claims.specs.LastSet.{lookup_message, SetAnswered}
use Rattle.supervisor_claims.specs.TwoRuns.{Run, left_by_run, received_in_run, SameButPassphrase, without_passphrase, passphrase_edition}
use Rattle.supervisor_claims.specs.TwoRuns.{sets_to_come, mixed_sets_to_come}
use Rattle.supervisor_claims.specs.Forgets.{StartForgets, SetLeaves, SetUnseen}
use Rattle.supervisor_claims.specs.TwoPassphrases.{TwoPassphrases}
use Rattle.saving_claims.specs.Item11.{SavedOmits, OtherKey31}
use Rattle.supervisor_claims.specs.Item4.{ValueLengths}
use Rattle.supervisor_claims.specs.Item5.{StoresNothing}
use Rattle.supervisor_claims.specs.Item11.{ReplacedOther}

-- the reply to a lookup of the passphrase: result 4 and nothing else
abbrev pub passphrase_reply : ℕ → ℕ → List ℕ
passphrase_reply version n = frame (record { version = version; sequence = top_set n; command = reply_key_lookup; payload = 4 ∷ [] })

abbrev pub PassphraseUnread : List Made → Parts → Type 0
PassphraseUnread ms q = (version n most : ℕ) → most < 65536
    → OnRequest ms (lookup_message version n Limits.passphrase_key most) (λ bs c. RepliedWith q (made q c) (passphrase_reply version n))

abbrev pub PassphraseUnreadLocally : List Made → Parts → Type 0
PassphraseUnreadLocally ms q = (most : ℕ) → most < 65536 → (j : Lent)
    → enough (Histories.local (Histories.lookup Limits.passphrase_key most)) j ≡ true
    → let r = made q (locally j (Histories.lookup Limits.passphrase_key most)) in
    let f = made q (locally j (Histories.edition Limits.passphrase_key)) in
    (r.answer ≡ found 4 0) × (r.out ≡ []) × (f.answer ≡ found_edition 4 0)

abbrev pub TwoRuns : Type 0
TwoRuns = (r s : Run) → SameButPassphrase (left_by_run r) (left_by_run s) → (cs : List MixedCall) → AllTypedMixed cs
    → let n = mixed_sets_to_come (received_in_run r) cs in
    passphrase_edition (left_by_run r) + n < Limits.last_edition → passphrase_edition (left_by_run s) + n < Limits.last_edition
    → (outputs_mixed (left_by_run r) cs ≡ outputs_mixed (left_by_run s) cs)
    × SameButPassphrase (left_mixed (left_by_run r) cs) (left_mixed (left_by_run s) cs)

abbrev pub TwoStates : Type 0
TwoStates = (r s : Run) → without_passphrase (view (left_by_run r)) ≡ without_passphrase (view (left_by_run s)) → (ms : List Made)
    → AllTyped ms
    → let n = sets_to_come (received_in_run r) ms in
    passphrase_edition (left_by_run r) + n < Limits.last_edition → passphrase_edition (left_by_run s) + n < Limits.last_edition
    → (outputs (left_by_run r) ms ≡ outputs (left_by_run s) ms)
    × (without_passphrase (view (left (left_by_run r) ms)) ≡ without_passphrase (view (left (left_by_run s) ms)))

pub record SupervisorItem14 : Type 0 where
  -- a set of key 6 takes 8 to 63 bytes; another length answers 3, and invalid keys of a set start at 7
  pub set_answered : AfterCalls SetAnswered
  pub value_lengths : ValueLengths
  -- and stores nothing
  pub stores_nothing : StoresNothing
  -- a lookup over the wire answers result 4 and nothing else, whatever was set before, for any maxresponse and in both versions
  pub passphrase_unread : AfterCalls PassphraseUnread
  -- by the local calls no byte and no edition goes out either
  pub passphrase_unread_locally : AfterCalls PassphraseUnreadLocally
  -- Two states, each reached from a start, differ only in the passphrase's value, length, presence and edition.
  -- In both its edition is below its end by more than the sets to come. At its end a set answers 4 and not 0, which shows that edition.
  -- Then the same calls in the same order, with equal arguments and loans, return and write outside the state the same.
  -- They leave two such states.
  pub two_states : TwoStates
  -- So where all bytes of the parts outside the passphrase's record are equal; all bytes outside the record stay equal.
  -- Then the line layer's calls on the reader's part may stand among the supervisor's, in any order.
  pub two_runs : TwoRuns
  -- an accepted start leaves nothing of what the parts held, within their published lengths
  pub start_forgets : StartForgets
  -- The frame of a set of the passphrase, in any cuts, leaves zeros in all of the reader's part.
  -- It does so whatever the table says of the set.
  -- A value that is taken stands in the record with zeros behind it to the end.
  pub set_leaves : SetLeaves
  -- the frame of a set of the passphrase, in any cuts, leaves nothing of its value outside the passphrase's record
  pub set_unseen : SetUnseen
  -- Two runs from one start with the same calls, but for the frames of sets of the passphrase.
  -- Those have values of allowed lengths of their own, and come in cuts of their own.
  -- All other calls return and write outside the state the same.
  -- Whenever no such set is partly received, the parts are the same but for the passphrase's record.
  pub two_passphrases : TwoPassphrases
  -- the saved image omits key 6: it is that of keys 3, 4 and 5 alone
  pub saved_omits : SavedOmits
  -- restore refuses its record as 31, where it stands first
  pub other_key_31 : OtherKey31
  -- restore leaves key 6, as it leaves every setting that is not saved
  pub replaced_other : ReplacedOther
