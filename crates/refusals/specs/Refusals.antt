-- The numbers of the table of document 01 ("When a call says no"), with those that document 02 adds.
-- Assumes nothing: these are definitions.
use Rattle.std.specs.Prelude.{ℕ, Result, Ok, Err}
use Rattle.std.proofs.Math.Option.{Option, none, some}
use Rattle.refusals.specs.declared.Refusal.{Refusal}
use Rattle.refusals.specs.declared.Refusal.TheVariants as refusal

-- the number of a refusal
abbrev pub table_number : Refusal → ℕ
table_number refusal.NoRoom = 8
table_number refusal.TooLong = 9
table_number refusal.AlertsFull = 10
table_number refusal.BadStart = 11
table_number refusal.BadState = 12
table_number refusal.BadValue = 13
table_number refusal.NoNumber = 14
table_number refusal.BadProbe = 15
table_number refusal.PlanPasses = 16
table_number refusal.Outstanding = 17

-- the table's number of a call that is refused, none of one that is carried out
abbrev pub refusal_of : {A : Type 0} → Result A Refusal → Option ℕ
refusal_of (Ok value) = none
refusal_of (Err why) = some (table_number why)
