-- Demand 1 of the supervisor's calls: any bytes, any arguments, any loans. Each number of the table comes exactly where it is due.
-- A refused call leaves everything lent as it was. Assumes nothing: these are definitions and statements.
use Rattle.std.specs.Prelude.{◌≡◌, Bool, true, false, not, List, [], ◌∷◌, ◌↔◌, ℕ, ◌+◌, ◌≤◌, leb, length}
use Rattle.std.proofs.Math.Option.{some}
use Rattle.line.specs.Reader as LineReader
use Rattle.octets.specs.TableTests.{TableTest, table_test, first_failing}
use Rattle.supervisor.specs.Layout
use Rattle.supervisor.specs.Local
use Rattle.supervisor.specs.Calls.{Parts}
use Rattle.supervisor_claims.specs.ByPart.{Part, published, part, valid_part}
use Rattle.supervisor_claims.specs.View.{factory_of, view}
use Rattle.supervisor_claims.specs.Sound.{Sound, Leaves}
use Rattle.supervisor_claims.specs.LocalCalls.{local_row}
use Rattle.supervisor_claims.specs.LocalCalls.{IsRefusal}
use Rattle.supervisor_claims.specs.Histories
use Rattle.supervisor_claims.specs.Histories.{Call, Typed, refused, Did, did_by, did, Means, of_taken, enough}
use Rattle.supervisor_claims.specs.Histories.{Made, untouched, made, meant_made, FromStart}
use Rattle.supervisor_claims.specs.MixedCalls.{MixedCall, AllTypedMixed, enough_mixed, Says12, made_mixed, left_mixed}

-- ---- The table's number exactly where it is due

-- a call on p did what document 01 has of it
pub record Meets (p : Parts) (d : Did) (m : Means) : Type 0 where
  pub answer : d.answer ≡ m.answer
  pub out : d.out ≡ m.out
  pub leaves : Leaves p d.parts m.state

abbrev pub OneCall : Type 0
OneCall = (p : Parts) (m : Made) → Sound p → Typed m.call → Meets p (made p m) (meant_made (view p) m)

-- what a call asks of a part that it takes: a start its length alone
abbrev pub part_asked : Call → Part → List ℕ → Bool
part_asked (Histories.start d) i s = leb (published i) (length s)
part_asked (Histories.receive image piece) i s = valid_part i s
part_asked (Histories.step image piece) i s = valid_part i s
part_asked (Histories.local c) i s = valid_part i s

-- whether the parts that a call takes are as 12 requires
unfoldable pub parts_fit_call : Parts → Call → Bool
parts_fit_call p c = of_taken c (λ i. part_asked c i (part p i))

-- the tests of a call behind 12, in document 01's order: 13, 9, 11, 10, 8
abbrev pub later_tests : Parts → Call → List TableTest
later_tests p (Histories.start d) = table_test 11 (Local.bad_start (factory_of d)) ∷ []
later_tests p (Histories.receive image piece) = []
later_tests p (Histories.step image piece) = []
later_tests p (Histories.local c) = (local_row c).tests (view p)

abbrev pub EachNumberExactly : Type 0
EachNumberExactly = (p : Parts) (c : Call) (n : ℕ) → Typed c
    → ((did p c).answer ≡ refused n) ↔ (first_failing (table_test 12 (not (parts_fit_call p c)) ∷ later_tests p c) ≡ some n)

abbrev pub RefusedExactly : Type 0
RefusedExactly = (p : Parts) (c : Call) → ((did p c).answer ≡ refused 12) ↔ (parts_fit_call p c ≡ false)

abbrev pub Made12 : Type 0
Made12 = (p : Parts) (m : Made) → enough m.call m.lent ≡ false → made p m ≡ did_by (refused 12) (untouched m.call) p

-- no call that is lent enough of these parts is refused as 12
abbrev pub Never12 : Parts → Type 0
Never12 q = (c : MixedCall) → enough_mixed c ≡ true → Says12 (made_mixed q c).answer → ⊥

-- sound parts, and what calls leave of them
abbrev pub SoundNo12 : Type 0
SoundNo12 = (q : Parts) → Sound q → (cs : List MixedCall) → AllTypedMixed cs → Sound (left_mixed q cs) × Never12 (left_mixed q cs)

abbrev pub No12 : Type 0
No12 = FromStart (λ p d q. (cs : List MixedCall) → AllTypedMixed cs → Never12 (left_mixed q cs))

abbrev pub PartsFit : Type 0
PartsFit =
    LineReader.reader_length + Layout.outbox_length + Layout.factory-length + Layout.settings_length + Layout.registers_length ≤ 65536

pub record SupervisorNumberDue : Type 0 where
  -- Every call on any parts whatever: 12 exactly where a part that it takes is not as 12 requires.
  -- Then 13, 9, 11, 10 and 8, in this order, exactly where due, and no other number.
  pub each_number_exactly : EachNumberExactly
  -- on sound parts each call answers, writes and leaves what document 01 has of it, whatever is lent
  pub one_call : OneCall
  -- 12 exactly where a part that the call takes is not as 12 requires, on any parts
  pub refused_exactly : RefusedExactly
  -- too little of a part that it takes is 12, and nothing changes
  pub made_12 : Made12
  -- contents that these calls, or the line layer's own, left there never earn 12
  pub no_12 : No12
  -- the same of any sound parts, which stay sound
  pub sound_no_12 : SoundNo12
  -- all parts together have at most 65,536 bytes
  pub parts_fit : PartsFit

-- ---- Everything lent as it was

abbrev pub RefusedHolds : Type 0
RefusedHolds = (p : Parts) (c : Call) → IsRefusal (did p c).answer → ((did p c).parts ≡ p) × ((did p c).out ≡ untouched c)

abbrev pub RefusedMade : Type 0
RefusedMade = (p : Parts) (m : Made) → IsRefusal (made p m).answer → ((made p m).parts ≡ p) × ((made p m).out ≡ untouched m.call)

pub record SupervisorAsItWas : Type 0 where
  -- a refused call leaves state and output buffers as they were, a restore that finds a fault too, 30 to 35
  pub refused_holds : RefusedHolds
  -- the same whatever it is lent
  pub refused_made : RefusedMade
