-- The local calls as a table, one row for each call and its arguments. A row has the parts taken, what the call may change, its promise,
-- its tests behind 12, and what the papers have of it. Assumes nothing: these are definitions.
use Rattle.std.specs.Prelude.{Bool, cond, not, ◌||◌, List, [], ◌∷◌, ℕ, ◌^◌, ◌<◌, leb, ltb, eqb, length}
use Rattle.std.proofs.Math.Option.{Option, none, some}
use Rattle.octets.specs.Bytes.{Each, Byte, overlay}
use Rattle.octets.specs.TableTests.{TableTest, table_test}
use Rattle.supervisor.specs.State.{Recorded, Alert, State}
use Rattle.supervisor.specs.Local
use Rattle.supervisor.specs.Calls
use Rattle.supervisor.specs.Calls.{Parts}
use Rattle.supervisor.specs.declared.registers.Kind.{Kind}
use Rattle.supervisor.specs.declared.registers.Kind.TheVariants as kind
use Rattle.saving.specs.Saving
use Rattle.saving.specs.Calls as SavingCalls
use Rattle.counters.specs.Ended.{Ended, Served}
use Rattle.supervisor_claims.specs.ByPart.{Part, is}

-- ---- Calls and answers

-- a local call and its arguments; a lookup and a record are each read by two calls, whose answers stand together here
pub data LocalCall : Type 0 where
  -- the room lent
  take : List ℕ → LocalCall
  -- action and text
  post : ℕ → List ℕ → LocalCall
  set_options : ℕ → LocalCall
  -- key and maxresponse
  lookup : ℕ → ℕ → LocalCall
  -- key
  edition : ℕ → LocalCall
  signal : LocalCall
  flags : LocalCall
  read_record : Kind → LocalCall
  -- the room lent
  save : List ℕ → LocalCall
  -- an image
  restore : List ℕ → LocalCall

pub data Answer : Type 0 where
  -- the table's number
  refused : ℕ → Answer
  done : Answer
  -- how many bytes were read, how the frame ended, and what is told of a request that was carried out
  stepped : ℕ → Ended → Served → Answer
  -- how many bytes were moved
  moved : ℕ → Answer
  -- the result, and how many bytes were found
  found : ℕ → ℕ → Answer
  -- the result, and the edition
  found_edition : ℕ → ℕ → Answer
  asserted : Bool → Answer
  -- reboot, power off
  asked : Bool → Bool → Answer
  recorded : Option Calls.RecordRead → Answer
  -- how many bytes were written
  written : ℕ → Answer
  -- a fault of an image: its number and its offset
  faulty : ℕ → ℕ → Answer

-- what the claims tell apart of an answer
pub data AnswerKind : Type 0 where
  -- the table's number of a refusal
  number : ℕ → AnswerKind
  -- the number of an image's fault
  fault : ℕ → AnswerKind
  carried-out : AnswerKind
  -- how many bytes were taken
  taken : ℕ → AnswerKind
  other : AnswerKind

abbrev pub kind_of : Answer → AnswerKind
kind_of (refused n) = AnswerKind.number n
kind_of done = AnswerKind.carried-out
kind_of (stepped used ended served) = AnswerKind.other
kind_of (moved n) = AnswerKind.taken n
kind_of (found n k) = AnswerKind.other
kind_of (found_edition n k) = AnswerKind.other
kind_of (asserted b) = AnswerKind.other
kind_of (asked reboot power-off) = AnswerKind.other
kind_of (recorded r) = AnswerKind.other
kind_of (written n) = AnswerKind.other
kind_of (faulty n at) = AnswerKind.fault n

-- a refusal with the table's number, or with a fault's: 30 to 35 of a restore
abbrev pub RefusedKind : AnswerKind → Type 0
RefusedKind (AnswerKind.number n) = Unit {0}
RefusedKind (AnswerKind.fault n) = Unit {0}
RefusedKind AnswerKind.carried-out = ⊥
RefusedKind (AnswerKind.taken n) = ⊥
RefusedKind AnswerKind.other = ⊥

abbrev pub IsRefusal : Answer → Type 0
IsRefusal a = RefusedKind (kind_of a)

-- ---- Answers by the promises

abbrev pub refusal : Option ℕ → Answer
refusal none = done
refusal (some n) = refused n

abbrev pub take_answer : Calls.TakeReport → Answer
take_answer (Calls.TakeReport.moved n) = moved n
take_answer (Calls.TakeReport.refused n) = refused n

abbrev pub lookup_answer : Calls.LookupReport → Answer
lookup_answer (Calls.LookupReport.result n k) = found n k
lookup_answer (Calls.LookupReport.refused n) = refused n

abbrev pub edition_answer : Calls.EditionReport → Answer
edition_answer (Calls.EditionReport.result n k) = found_edition n k
edition_answer (Calls.EditionReport.refused n) = refused n

-- what was read
abbrev pub register_answer : {A : Type 0} → (A → Answer) → Calls.RegisterReport A → Answer
register_answer answer (Calls.RegisterReport.is x) = answer x
register_answer answer (Calls.RegisterReport.refused n) = refused n

abbrev pub save_answer : SavingCalls.SaveReport → Answer
save_answer (SavingCalls.written n) = written n
save_answer (SavingCalls.SaveReport.refused n) = refused n

abbrev pub restore_answer : SavingCalls.RestoreReport → Answer
restore_answer SavingCalls.done = done
restore_answer (SavingCalls.RestoreReport.refused n) = refused n
restore_answer (SavingCalls.faulty n at) = faulty n at

abbrev pub flags_asked : Bool × Bool → Answer
flags_asked b = asked b.0 b.1

-- ---- Answers and states by the papers

pub record Means : Type 0 where
  pub answer : Answer
  pub out : List ℕ
  pub state : State

abbrev pub means : Answer → List ℕ → State → Means
means a bs s = record { answer = a; out = bs; state = s }

-- a refusal, which changes nothing, or the state that is left
abbrev pub done_means : State → Local.Done → Means
done_means s (Local.refused n) = means (refused n) [] s
done_means s (Local.left t) = means done [] t

abbrev pub record_kept : State → Kind → Option Recorded
record_kept s kind.BootFailure = s.boot-failure
record_kept s kind.Panic = s.panic

-- a record: its code, whole length and how many bytes are kept, and those bytes
abbrev pub record_meant : Option Recorded → Option Calls.RecordRead
record_meant none = none
record_meant (some x) = some (record { code = x.code; whole = x.whole; kept = length x.kept })

abbrev pub kept_bytes : Option Recorded → List ℕ
kept_bytes none = []
kept_bytes (some x) = x.kept

-- an image goes to a room of sufficient length, else 8
abbrev pub save_means : State → List ℕ → List ℕ → Means
save_means s image room =
    cond (ltb (length room) (length image)) (means (refused 8) room s) (means (written (length image)) (overlay 0 image room) s)

abbrev pub restore_means : State → Saving.RestoreDone → Means
restore_means s (Saving.faulty n at) = means (faulty n at) [] s
restore_means s (Saving.left t) = means done [] t

-- ---- A row

-- what a local call may change: nothing else changes of the parts (`left_in`)
pub data Change : Type 0 where
  nothing : Change
  -- the bytes pending, and whether a 00 is owed
  outbox : Change
  -- status, options and the alerts that wait; these are the alerts that the call adds where it is done
  registers : List Alert → Change
  -- the settings, by the image that the call restores
  settings : List ℕ → Change

-- By its promise: what a call answers, and the bytes of the caller's room or of the part handed out.
-- Last are the bytes of the part that it may change.
pub record LocalDid : Type 0 where
  pub answer : Answer
  pub out : List ℕ
  pub left : List ℕ

abbrev pub local_did : Answer → List ℕ → List ℕ → LocalDid
local_did a bs left = record { answer = a; out = bs; left = left }

-- of a call that changes nothing
abbrev pub only_read : Answer → List ℕ → LocalDid
only_read a bs = local_did a bs []

pub record LocalRow : Type 1 where
  -- the arguments have the types that the call gives them
  pub typed : Type 0
  pub takes : Part → Bool
  pub change : Change
  -- the caller's room before the call; nothing is handed out
  pub room : List ℕ
  pub promise : Parts → LocalDid
  -- By the papers: the tests behind 12, in document 01's order, 13, 9, 11, 10, 8.
  -- Then what the call answers, writes outside the state and leaves.
  pub tests : State → List TableTest
  pub meaning : State → Means

-- both stores
abbrev pub is_store : Part → Bool
is_store i = is Part.factory i || is Part.settings i

-- ---- The table

abbrev pub local_row : LocalCall → LocalRow
local_row (take room) = record {
  typed = Each Byte room;
  takes = is Part.outbox;
  change = Change.outbox;
  room = room;
  promise = λ p. let t = Calls.take_promise p.outbox room in local_did (take_answer t.report) t.room t.outbox;
  tests = λ s. [];
  meaning = λ s.
      let bs = Local.taken s (length room) in
      means (moved (length bs)) (overlay 0 bs room) (Local.after_take s (length room));
}
local_row (post action text) = record {
  typed = (action < 256) × Each Byte text;
  takes = is Part.registers;
  change = Change.registers ((record { action = action; text = text }) ∷ []);
  room = [];
  promise = λ p. let c = Calls.post_promise p.registers action text in local_did (refusal c.refusal) [] c.registers;
  tests = λ s. table_test 13 (eqb action 0) ∷ table_test 9 (ltb 256 (length text)) ∷ table_test 10 (leb 8 (length s.waiting)) ∷ [];
  meaning = λ s. done_means s (Local.post s action text);
}
local_row (set_options options) = record {
  typed = options < 2 ^ 64;
  takes = is Part.registers;
  change = Change.registers [];
  room = [];
  promise = λ p. let c = Calls.options_promise p.registers options in local_did (refusal c.refusal) [] c.registers;
  tests = λ s. table_test 13 (not (Local.options_allowed options)) ∷ [];
  meaning = λ s. done_means s (Local.set_options s options);
}
local_row (lookup key most) = record {
  typed = (key < 256) × (most < 65536);
  takes = is_store;
  change = Change.nothing;
  room = [];
  promise = λ p.
      only_read (lookup_answer (Calls.lookup_result_promise p.factory p.settings key most))
      (Calls.lookup_promise p.factory p.settings key most);
  tests = λ s. [];
  meaning = λ s. let f = Local.lookup s key most in means (found f.result (length f.value)) f.value s;
}
local_row (edition key) = record {
  typed = key < 256;
  takes = is_store;
  change = Change.nothing;
  room = [];
  promise = λ p. only_read (edition_answer (Calls.edition_promise p.factory p.settings key)) [];
  tests = λ s. [];
  meaning = λ s. let e = Local.edition s key in means (found_edition e.result e.edition) [] s;
}
local_row signal = record {
  typed = Unit {0};
  takes = is Part.registers;
  change = Change.nothing;
  room = [];
  promise = λ p. only_read (register_answer asserted (Calls.signal_promise p.registers)) [];
  tests = λ s. [];
  meaning = λ s. means (asserted (Local.asserted s)) [] s;
}
local_row flags = record {
  typed = Unit {0};
  takes = is Part.registers;
  change = Change.nothing;
  room = [];
  promise = λ p. only_read (register_answer flags_asked (Calls.flags_promise p.registers)) [];
  tests = λ s. [];
  meaning = λ s. means (asked s.reboot_asked s.power_off_asked) [] s;
}
local_row (read_record k) = record {
  typed = Unit {0};
  takes = is Part.registers;
  change = Change.nothing;
  room = [];
  promise = λ p. only_read (register_answer recorded (Calls.record_promise p.registers k)) (Calls.record_bytes_promise p.registers k);
  tests = λ s. [];
  meaning = λ s. let x = record_kept s k in means (recorded (record_meant x)) (kept_bytes x) s;
}
local_row (save room) = record {
  typed = Each Byte room;
  takes = is Part.settings;
  change = Change.nothing;
  room = room;
  promise = λ p. let t = SavingCalls.save_promise p.settings room in only_read (save_answer t.report) t.room;
  tests = λ s. table_test 8 (ltb (length room) (length (Saving.saved s.settings))) ∷ [];
  meaning = λ s. save_means s (Saving.saved s.settings) room;
}
local_row (restore image) = record {
  typed = Each Byte image;
  takes = is Part.settings;
  change = Change.settings image;
  room = [];
  promise = λ p. let t = SavingCalls.restore_promise p.settings image in local_did (restore_answer t.report) [] t.settings;
  tests = λ s. [];
  meaning = λ s. restore_means s (Saving.restore s image);
}
