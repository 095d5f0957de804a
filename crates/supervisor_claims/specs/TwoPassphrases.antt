-- Two runs from one start with the same calls, but for the frames of sets of the wireless passphrase (document 02, item 14).
-- Those have values of their own and come in cuts of their own. Assumes nothing: these are definitions and the statement.
use Rattle.std.specs.Prelude.{◌≡◌, false, true, List, [], ◌∷◌, ◌++◌, ℕ, length}
use Rattle.octets.specs.Bytes.{Each}
use Rattle.line.specs.Message.{InRange, message}
use Rattle.line.specs.Cobs.{cobs}
use Rattle.supervisor.specs.Limits
use Rattle.supervisor.specs.Calls.{Parts}
use Rattle.responder.specs.Requests.{wrong_value_length}
use Rattle.supervisor_claims.specs.Histories
use Rattle.supervisor_claims.specs.Histories.{Call, Typed, Made, made, FromStart}
use Rattle.supervisor_claims.specs.FrameHistory.{bytes_received_by}
use Rattle.supervisor_claims.specs.MixedCalls
use Rattle.supervisor_claims.specs.MixedCalls.{MixedCall, TypedMixed, MixedOutput, made_mixed}
use Rattle.supervisor_claims.specs.TwoRuns.{SameButPassphrase}
use Rattle.supervisor_claims.specs.Forgets.{passphrase_set, is_receiving, NothingCome}

-- ---- The calls of one run

-- a call that brings bytes of the frame of a set of the passphrase, or any other call
pub data RunCall : Type 0 where
  brings : Made → RunCall
  other : MixedCall → RunCall

-- what the other calls answer and write outside the state
unfoldable pub other_outputs : Parts → List RunCall → List MixedOutput
other_outputs p [] = []
other_outputs p (brings m ∷ xs) = other_outputs (made p m).parts xs
other_outputs p (other c ∷ xs) =
    let d = made_mixed p c in (record { answer = d.answer; out = d.out }) ∷ other_outputs d.parts xs

-- what all calls leave
unfoldable pub left_by_calls : Parts → List RunCall → Parts
left_by_calls p [] = p
left_by_calls p (brings m ∷ xs) = left_by_calls (made p m).parts xs
left_by_calls p (other c ∷ xs) = left_by_calls (made_mixed p c).parts xs

-- ---- The frame of a set, in cuts

-- the bytes that calls bring of it, joined
unfoldable pub bytes_brought : List RunCall → List ℕ
bytes_brought [] = []
bytes_brought (brings m ∷ xs) = bytes_received_by m ++ bytes_brought xs
bytes_brought (other c ∷ xs) = bytes_brought xs

-- the other calls among them
unfoldable pub other_calls : List RunCall → List MixedCall
other_calls [] = []
other_calls (brings m ∷ xs) = other_calls xs
other_calls (other c ∷ xs) = c ∷ other_calls xs

-- a local call: no start, no receive and no step
abbrev pub IsLocal : Call → Type 0
IsLocal (Histories.start d) = ⊥
IsLocal (Histories.receive image piece) = ⊥
IsLocal (Histories.step image piece) = ⊥
IsLocal (Histories.local c) = Unit {0}

-- the same of a call of either: none of the line layer's
abbrev pub LocalMixed : MixedCall → Type 0
LocalMixed (MixedCalls.supervisor m) = IsLocal m.call × Typed m.call
LocalMixed (MixedCalls.line_start l) = ⊥
LocalMixed (MixedCalls.line_read l piece) = ⊥
LocalMixed (MixedCalls.line_tail l) = ⊥
LocalMixed (MixedCalls.line_data l n) = ⊥

-- a receive or a step
abbrev pub Brings : Made → Type 0
Brings m = (is_receiving m.call ≡ true) × Typed m.call

-- while a set comes, its bytes come in receives and steps, and no other call than local ones stands among them
abbrev pub WhileSet : RunCall → Type 0
WhileSet (brings m) = Brings m
WhileSet (other c) = LocalMixed c

-- a value, the calls ahead of the one that brings the 00, and that one
pub record SetCalls : Type 0 where
  pub value : List ℕ
  pub ahead : List RunCall
  pub last : Made

-- they bring the frame of a set under this version and number with that value, of allowed length, and nothing else
pub record BringsSet (version number : ℕ) (x : SetCalls) : Type 0 where
  pub range : InRange (passphrase_set version number x.value)
  pub allowed : wrong_value_length Limits.passphrase_key (length x.value) ≡ false
  pub each : Each WhileSet x.ahead
  pub closes : Brings x.last
  -- what the last call brings ahead of its 00
  pub rest : List ℕ
  pub form : bytes_brought x.ahead ++ rest ≡ cobs (message (passphrase_set version number x.value))
  pub ends : bytes_received_by x.last ≡ rest ++ (0 ∷ [])

-- ---- Two runs

-- the same call in both, or a set under the same version and number in both
pub data Turn : Type 0 where
  same : MixedCall → Turn
  sets : (version number : ℕ) → SetCalls → SetCalls → Turn

-- the other calls are the same, in the same order, and stand on the same side of the call that brings the 00
pub record TwoSets (version number : ℕ) (x y : SetCalls) : Type 0 where
  pub first : BringsSet version number x
  pub second : BringsSet version number y
  pub others : other_calls x.ahead ≡ other_calls y.ahead

abbrev pub TypedTurn : Turn → Type 0
TypedTurn (same c) = TypedMixed c
TypedTurn (sets version number x y) = TwoSets version number x y

abbrev pub calls_of_set : SetCalls → List RunCall
calls_of_set x = x.ahead ++ (brings x.last ∷ [])

-- the calls of the first run, and of the second
unfoldable pub first_run : List Turn → List RunCall
first_run [] = []
first_run (same c ∷ ts) = other c ∷ first_run ts
first_run (sets version number x y ∷ ts) = calls_of_set x ++ first_run ts

unfoldable pub second_run : List Turn → List RunCall
second_run [] = []
second_run (same c ∷ ts) = other c ∷ second_run ts
second_run (sets version number x y ∷ ts) = calls_of_set y ++ second_run ts

-- each set begins between frames; the first run's reader stands for both, since their parts are equal there
abbrev pub BeginsBetween : Parts → List Turn → Type 0
BeginsBetween p [] = Unit {0}
BeginsBetween p (same c ∷ ts) = BeginsBetween (made_mixed p c).parts ts
BeginsBetween p (sets version number x y ∷ ts) = NothingCome p × BeginsBetween (left_by_calls p (calls_of_set x)) ts

-- The other calls answer and write outside the state the same. What is left behind the last of the turns is the same, byte for byte,
-- but for the passphrase's record. The turns are any, so this holds behind each of them, whenever no set is partly received in either run.
-- A turn is a whole set: of the calls among a set's bytes the outputs are those of the completed turn.
abbrev pub TwoPassphrases : Type 0
TwoPassphrases = FromStart (λ p d q. (ts : List Turn) → Each TypedTurn ts → BeginsBetween q ts
    → (other_outputs q (first_run ts) ≡ other_outputs q (second_run ts))
    × SameButPassphrase (left_by_calls q (first_run ts)) (left_by_calls q (second_run ts)))
