-- Demand 1 of the main processor's end. Each number of the table comes exactly where it is due. A refused call leaves everything as it was.
-- Assumes nothing: these are definitions and statements. `Item2` has the types of the other claims.
use Rattle.std.specs.Prelude.{◌≡◌}
use Rattle.requester.specs.Calls.{MainParts, MainPartsValid}
use Rattle.requester_claims.specs.View.{main_view}
use Rattle.requester_claims.specs.Histories.{MainDid, MainMeans, MainMade, main_made, main_meant_made, MainLengths, OfReached, OfValid}
use Rattle.requester_claims.specs.Item2.{MainRefusedExactly, MainStartAccepted, MainCallsMeant, MainNo12, TooLittle, MainWholeParts}
use Rattle.requester_claims.specs.Item2.{MainRefusedHolds, MainRefusedMade}

-- ---- The table's number exactly where it is due

-- what a call did is what document 02 has of it, and it leaves valid parts
pub record MainMeets (p : MainParts) (d : MainDid) (x : MainMeans) : Type 0 where
  pub answer : d.answer ≡ x.answer
  pub out : d.out ≡ x.out
  pub state : main_view d.parts ≡ x.state
  pub valid : MainPartsValid d.parts
  pub lengths : MainLengths p d.parts

abbrev pub CallAsMeant : MainParts → Type 0
CallAsMeant p = (m : MainMade) → MainMeets p (main_made p m) (main_meant_made (main_view p) m)

pub record MainNumberDue : Type 0 where
  -- Every call on any parts whatever: 12 exactly where a part that it takes is too short or not valid.
  -- Then 9, 17, 14 and 8, in this order, exactly where due, and no other number.
  pub main_refused_exactly : MainRefusedExactly
  -- a start is accepted exactly where both parts have their published lengths, whatever they hold
  pub main_start_accepted : MainStartAccepted
  -- on valid parts each call answers, writes and leaves what document 02 has of it, whatever is lent
  pub call_as_meant : OfValid CallAsMeant
  -- so from an accepted start on
  pub history : MainCallsMeant
  -- no call that is lent enough of what these calls left is refused as 12
  pub no_12 : OfReached MainNo12
  -- too little lent of a part that the call takes is 12, on any parts
  pub too_little : TooLittle
  -- enough lent of each such part does what the whole parts do
  pub whole : MainWholeParts

-- ---- Everything lent as it was

pub record MainAsItWas : Type 0 where
  -- a refused call changes nothing, on any parts at all
  pub refused_holds : MainRefusedHolds
  -- and whatever of them is lent
  pub refused_made : MainRefusedMade
