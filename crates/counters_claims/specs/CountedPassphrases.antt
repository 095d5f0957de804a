-- Two runs with sets of the wireless passphrase of their own (document 02, items 8 and 14). One counter block is lent to some of the calls.
-- Assumes nothing: these are definitions and the statement.
use Rattle.std.specs.Prelude.{◌≡◌, Bool, cond, List, [], ◌∷◌, ◌++◌, ℕ}
use Rattle.octets.specs.Bytes.{Each}
use Rattle.counters.specs.declared.Counters.{Counters}
use Rattle.supervisor_claims.specs.Histories.{Made, FromStart}
use Rattle.supervisor_claims.specs.MixedCalls
use Rattle.supervisor_claims.specs.MixedCalls.{MixedCall, TypedMixed, DidMixed, did_mixed, made_mixed, MixedOutput}
use Rattle.supervisor_claims.specs.TwoRuns.{SameButPassphrase}
use Rattle.supervisor_claims.specs.TwoPassphrases
use Rattle.supervisor_claims.specs.TwoPassphrases.{RunCall, SetCalls, Turn, TwoSets, BeginsBetween}
use Rattle.counters_claims.specs.CountHistory.{made_counted, Held, MixedEvent, lent_block, without_block, after_mixed_events}

-- ---- The calls of one run

-- a call, and whether it is lent the block
pub record RunLending : Type 0 where
  pub call : RunCall
  pub counted : Bool

-- a call of the line layer takes no block
abbrev pub event_of_mixed : Bool → MixedCall → MixedEvent
event_of_mixed counted (MixedCalls.supervisor m) = cond counted (lent_block m) (without_block (MixedCalls.supervisor m))
event_of_mixed counted (MixedCalls.line_start l) = without_block (MixedCalls.line_start l)
event_of_mixed counted (MixedCalls.line_read l piece) = without_block (MixedCalls.line_read l piece)
event_of_mixed counted (MixedCalls.line_tail l) = without_block (MixedCalls.line_tail l)
event_of_mixed counted (MixedCalls.line_data l n) = without_block (MixedCalls.line_data l n)

abbrev pub event_of_call : Bool → RunCall → MixedEvent
event_of_call counted (TwoPassphrases.brings m) = event_of_mixed counted (MixedCalls.supervisor m)
event_of_call counted (TwoPassphrases.other c) = event_of_mixed counted c

unfoldable pub events_of_run : List RunLending → List MixedEvent
events_of_run [] = []
events_of_run (x ∷ xs) = event_of_call x.counted x.call ∷ events_of_run xs

-- without the block
unfoldable pub calls_of_run : List RunLending → List RunCall
calls_of_run [] = []
calls_of_run (x ∷ xs) = x.call ∷ calls_of_run xs

-- what a call answers and writes outside the state, lent the block or not
abbrev pub did_event : Held → MixedEvent → DidMixed
did_event h (lent_block m) =
    let d = (made_counted h.block h.parts m).did in did_mixed (MixedCalls.MixedAnswer.supervisor d.answer) d.out d.parts
did_event h (without_block c) = made_mixed h.parts c

abbrev pub output_of_other : RunCall → DidMixed → List MixedOutput
output_of_other (TwoPassphrases.brings m) d = []
output_of_other (TwoPassphrases.other c) d = (record { answer = d.answer; out = d.out }) ∷ []

-- those of the calls that bring nothing of a set
unfoldable pub other_counted_outputs : Held → List RunLending → List MixedOutput
other_counted_outputs h [] = []
other_counted_outputs h (x ∷ xs) =
    let e = event_of_call x.counted x.call in
    output_of_other x.call (did_event h e) ++ other_counted_outputs (after_mixed_events h (e ∷ [])) xs

-- ---- Two runs

-- a set's value, the calls ahead of the one that brings the 00, and that one, each with whether it is lent the block
pub record LendingSet : Type 0 where
  pub value : List ℕ
  pub ahead : List RunLending
  pub last : Made
  pub counted : Bool

abbrev pub set_calls_of : LendingSet → SetCalls
set_calls_of x = record { value = x.value; ahead = calls_of_run x.ahead; last = x.last }

-- the same call in both, lent the block in both or in neither; or a set in each
pub data CountedTurn : Type 0 where
  same : Bool → MixedCall → CountedTurn
  sets : (version number : ℕ) → LendingSet → LendingSet → CountedTurn

-- as without a block; the call that brings the 00 is counted in both or in neither
pub record TwoCountedSets (version number : ℕ) (x y : LendingSet) : Type 0 where
  pub two_sets : TwoSets version number (set_calls_of x) (set_calls_of y)
  pub alike : x.counted ≡ y.counted

abbrev pub TypedCountedTurn : CountedTurn → Type 0
TypedCountedTurn (same counted c) = TypedMixed c
TypedCountedTurn (sets version number x y) = TwoCountedSets version number x y

abbrev pub turn_of : CountedTurn → Turn
turn_of (same counted c) = TwoPassphrases.same c
turn_of (sets version number x y) = TwoPassphrases.sets version number (set_calls_of x) (set_calls_of y)

unfoldable pub turns_of : List CountedTurn → List Turn
turns_of [] = []
turns_of (t ∷ ts) = turn_of t ∷ turns_of ts

abbrev pub lendings_of_set : LendingSet → List RunLending
lendings_of_set x = x.ahead ++ ((record { call = TwoPassphrases.brings x.last; counted = x.counted }) ∷ [])

-- the calls of the first run, and of the second
unfoldable pub first_counted_run : List CountedTurn → List RunLending
first_counted_run [] = []
first_counted_run (same counted c ∷ ts) = (record { call = TwoPassphrases.other c; counted = counted }) ∷ first_counted_run ts
first_counted_run (sets version number x y ∷ ts) = lendings_of_set x ++ first_counted_run ts

unfoldable pub second_counted_run : List CountedTurn → List RunLending
second_counted_run [] = []
second_counted_run (same counted c ∷ ts) = (record { call = TwoPassphrases.other c; counted = counted }) ∷ second_counted_run ts
second_counted_run (sets version number x y ∷ ts) = lendings_of_set y ++ second_counted_run ts

-- The other calls answer and write outside the state the same. Behind the last of the turns the block is the same, and so are the parts,
-- byte for byte, but for the passphrase's record. The block may have held anything at the start.
abbrev pub TwoCountedPassphrases : Type 0
TwoCountedPassphrases = FromStart (λ p d q. (c : Counters) (ts : List CountedTurn) → Each TypedCountedTurn ts
    → BeginsBetween q (turns_of ts)
    → let h : Held = record { parts = q; block = c } in
    let a = after_mixed_events h (events_of_run (first_counted_run ts)) in
    let b = after_mixed_events h (events_of_run (second_counted_run ts)) in
    (other_counted_outputs h (first_counted_run ts) ≡ other_counted_outputs h (second_counted_run ts))
    × SameButPassphrase a.parts b.parts
    × (a.block ≡ b.block))
