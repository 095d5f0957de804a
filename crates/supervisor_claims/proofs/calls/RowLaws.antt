-- The laws of a row of the table of local calls, from which the claims over any local call follow, and what several rows share.
-- Assumes nothing.
use mathlib.Core.Path.{◌≡◌, refl, sym, ap, ◌∙◌}
use mathlib.Core.Bool.{Bool, true, false, cond, ◌&&◌, and-true}
use mathlib.Core.List.{List, [], ◌++◌}
use mathlib.Core.Option.{Option, none, some}
use Prim.Native.Nat.{ℕ}
use lib.ListN.{length}
use Rattle.octets.specs.Bytes.{Each, Byte}
use Rattle.octets.specs.TableTests.{first_failing}
use Rattle.supervisor.specs.State.{Settings, State, with_status, with_options, with_waiting, with_settings, with_pending}
use Rattle.supervisor.specs.State.{with_terminator_owed}
use Rattle.supervisor.specs.Calls.{Parts}
use Rattle.saving.specs.Saving
use Rattle.saving.specs.Saving.{SavedEntry}
use Rattle.supervisor_claims.specs.ByPart.{Part, part, parts_by}
use Rattle.supervisor_claims.specs.View.{view}
use Rattle.supervisor_claims.specs.Sound.{Sound}
use Rattle.supervisor_claims.specs.LocalCalls.{LocalCall, AnswerKind, kind_of, Change, local_row}
use Rattle.supervisor_claims.specs.Histories
use Rattle.supervisor_claims.specs.Histories.{Call, Answer, refused, Did, did_by, did, Means, means, meant, untouched}
use Rattle.supervisor_claims.specs.LastSet.{records_of, records_by}
use Rattle.supervisor_claims.specs.Alerts.{where_done}
use Rattle.supervisor_claims.specs.Demand1.{Meets, parts_fit_call}
use Rattle.supervisor_claims.proofs.Sound.{lengths-same}
use Rattle.supervisor_claims.proofs.laws.AlikeLaws.{Alike}

-- ---- refusals

-- what holds of the number where an answer is a refusal or a fault
abbrev pub WhereKind : AnswerKind → (ℕ → Type 0) → Type 0
WhereKind (AnswerKind.number n) X = X n
WhereKind (AnswerKind.fault n) X = X n
WhereKind AnswerKind.carried-out X = Unit {0}
WhereKind (AnswerKind.taken n) X = Unit {0}
WhereKind AnswerKind.other X = Unit {0}

abbrev pub WhereRefused : Answer → (ℕ → Type 0) → Type 0
WhereRefused a X = WhereKind (kind_of a) X

-- its number is not 12, and nothing has changed
abbrev pub Other : Parts → Call → Did → Type 0
Other p c d = WhereRefused d.answer (λ n. (n ≡ 12 → ⊥) × (d.parts ≡ p) × (d.out ≡ untouched c))

-- an answer that is no refusal
abbrev pub Unrefused : Answer → Type 0
Unrefused a = (n : ℕ) → a ≡ refused n → ⊥

pub unrefused : (a : Answer) → WhereRefused a (λ _. ⊥) → Unrefused a
unrefused a h n e = rw e at h

-- What a call did whose parts are as 12 requires, by the first test that fails.
-- It is refused with that number and has changed nothing. Where none fails it is not refused.
abbrev pub Tested : Parts → Call → Did → Option ℕ → Type 0
Tested p c d (some n) = (n ≡ 12 → ⊥) × (d ≡ did_by (refused n) (untouched c) p)
Tested p c d none = Unrefused d.answer × Other p c d

-- ---- what a call may change

-- the settings after a restore of these records, where there are any
abbrev pub settings_by : Option (List SavedEntry) → Settings → Settings
settings_by none z = z
settings_by (some es) z = Saving.restored_settings es z

-- the state s after a call with this answer that left t: nothing else is of t than what it may change
abbrev pub state_by : Change → Answer → State → State → State
state_by Change.nothing x s t = s
state_by Change.outbox x s t = with_terminator_owed (with_pending s t.pending) t.terminator_owed
state_by (Change.registers added) x s t =
    with_waiting (with_options (with_status s t.status) t.options) (s.waiting ++ where_done (kind_of x) added)
state_by (Change.settings image) x s t = with_settings s (settings_by (records_of (Saving.read_image image)) s.settings)

-- the part that it may change is among those that it takes; a take alone changes the outbox; an image that is restored holds bytes
abbrev pub OfChange : LocalCall → Change → Type 0
OfChange c Change.nothing = Unit {0}
OfChange c Change.outbox = ((local_row c).takes Part.outbox ≡ true) × ((room : List ℕ) × (c ≡ Histories.take room))
OfChange c (Change.registers added) = (local_row c).takes Part.registers ≡ true
OfChange c (Change.settings image) = ((local_row c).takes Part.settings ≡ true) × ((local_row c).typed → Each Byte image)

-- the parts that a call takes, and no byte of the others
abbrev pub only_taken : (Part → Bool) → Parts → Parts
only_taken takes p = parts_by (λ i. cond (takes i) (part p i) [])

-- a call's answer, and its state with other settings
abbrev pub with_settings_means : Settings → Means → Means
with_settings_means z m = means m.answer m.out (with_settings m.state z)

-- ---- the laws

pub record RowLaws (c : LocalCall) : Type 0 where
  -- the promise goes by the parts that the call takes
  pub by_taken : (p : Parts) → (local_row c).promise p ≡ (local_row c).promise (only_taken (local_row c).takes p)
  pub of_change : OfChange c (local_row c).change
  -- on sound parts it does what document 01 has of it, and leaves sound parts of the same lengths
  pub meets : (p : Parts) → Sound p → (local_row c).typed → Meets p (did p (Histories.local c)) (meant (view p) (Histories.local c))
  -- where a part is not as 12 requires: 12, and nothing changes
  pub refuses : (p : Parts) → parts_fit_call p (Histories.local c) ≡ false
      → did p (Histories.local c) ≡ did_by (refused 12) (local_row c).room p
  -- where all are, the number of the first test that fails
  pub tested : (p : Parts) → parts_fit_call p (Histories.local c) ≡ true
      → Tested p (Histories.local c) (did p (Histories.local c)) (first_failing ((local_row c).tests (view p)))
  -- by document 01 nothing else changes than what it may change
  pub keeps_rest : (s : State)
      → let m = meant s (Histories.local c) in m.state ≡ state_by (local_row c).change m.answer s m.state
  -- states that differ only in the passphrase's setting: the same answer and the same change
  pub alike : (t : State) (z : Settings) → Alike z t.settings
      → meant (with_settings t z) (Histories.local c)
      ≡ with_settings_means (settings_by (records_by (local_row c).change) z) (meant t (Histories.local c))

-- ---- what several rows share

-- the tests of one part, and of two
pub last-test : (a : Bool) {t : Bool} → (a && true) ≡ t → a ≡ t
last-test a e = sym (and-true a) ∙ e

pub both-test : (a b : Bool) {t : Bool} → (a && (b && true)) ≡ t → (a && b) ≡ t
both-test a b e = ap (λ x. a && x) (sym (and-true b)) ∙ e

-- a part as long as before that holds bytes
abbrev pub KeepsPart : List ℕ → List ℕ → Type 0
KeepsPart r s = Each Byte s × (length s ≡ length r)

-- a call that leaves the parts as they are
pub same_meets : (p : Parts) → Sound p → {answer answer' : Answer} {bs bs' : List ℕ} → answer ≡ answer' → bs ≡ bs'
    → Meets p (did_by answer bs p) (means answer' bs' (view p))
same_meets p s e f = record { answer = e; out = f; leaves = (refl, s, lengths-same) }
