-- What a call of the C interface returns, and what it leaves of what it was lent. It returns 0, or the number of document 01's table ("When
-- a call says no") or of document 02. Assumes nothing: these are definitions.
use Rattle.std.specs.Prelude.{Bool, cond, List, ℕ, ltb, length, Result, Ok, Err}
use Rattle.std.proofs.Math.Option.{Option, none, some}
use Rattle.refusals.specs.declared.Refusal.{Refusal}
use Rattle.refusals.specs.declared.Refusal.TheVariants.{NoRoom}
use Rattle.refusals.specs.Refusals.{table_number}
use Rattle.octets.specs.Bytes.{overlay}

-- the number that a call returns, and what it leaves of what it was lent
pub record CallOutcome (A : Type 0) : Type 0 where
  pub number : ℕ
  pub left : A

abbrev pub call_outcome : {A : Type 0} → ℕ → A → CallOutcome A
call_outcome n left = record { number = n; left = left }

-- 0 where a call is carried out, else the table's number
abbrev pub call_number : Option ℕ → ℕ
call_number none = 0
call_number (some n) = n

-- a Boolean as the number that C gets
abbrev pub flag : Bool → ℕ
flag b = cond b 1 0

-- what a call says: the table's number of a refusal, or what it hands out
pub data CallReport : Type 0 where
  refused : ℕ → CallReport
  given : List ℕ → CallReport

-- a part that is handed out, or the number of a refusal
abbrev pub part_given : Option ℕ → List ℕ → CallReport
part_given none bs = given bs
part_given (some n) bs = refused n

-- the numbers that a call gives, or the number of its refusal
abbrev pub numbers_of : Result (List ℕ) Refusal → CallReport
numbers_of (Ok ns) = given ns
numbers_of (Err why) = refused (table_number why)

-- numbers are the whole answer; a refused call leaves the answer as it was
abbrev pub answering : CallReport → List ℕ → CallOutcome (List ℕ)
answering (refused n) answer = call_outcome n answer
answering (given ns) answer = call_outcome 0 ns

-- the same of a call that is lent more to change: what its promise leaves of that, and the answer
abbrev pub answering_with : {A : Type 0} → A → CallReport → List ℕ → CallOutcome (A × List ℕ)
answering_with left (refused n) answer = call_outcome n (left, answer)
answering_with left (given ns) answer = call_outcome 0 (left, ns)

-- bytes stand at the start of a room, or 8 where that is shorter; a refused call leaves the room
abbrev pub filling : CallReport → List ℕ → CallOutcome (List ℕ)
filling (refused n) room = call_outcome n room
filling (given bs) room = cond (ltb (length room) (length bs)) (call_outcome 8 room) (call_outcome 0 (overlay 0 bs room))

-- bytes to a room and numbers to an answer; a refused call leaves both
abbrev pub filling_and_answering : CallReport → List ℕ → List ℕ → List ℕ → CallOutcome (List ℕ × List ℕ)
filling_and_answering (refused n) bs room answer = call_outcome n (room, answer)
filling_and_answering (given ns) bs room answer =
    cond (ltb (length room) (length bs)) (call_outcome 8 (room, answer)) (call_outcome 0 (overlay 0 bs room, ns))

-- what was told of a call, once bytes are to stand at the start of a room: a room that is too short refuses it
abbrev pub room_told : {T : Type 0} → Result T Refusal → List ℕ → List ℕ → Result T Refusal
room_told (Err why) bs room = Err why
room_told (Ok told) bs room = cond (ltb (length room) (length bs)) (Err NoRoom) (Ok told)

-- the room then
abbrev pub room_left : {T : Type 0} → Result T Refusal → List ℕ → List ℕ → List ℕ
room_left (Err why) bs room = room
room_left (Ok told) bs room = cond (ltb (length room) (length bs)) room (overlay 0 bs room)
