-- A law of the main processor's calls in the C interface.
-- Assumes nothing.
use mathlib.Core.Path.{◌≡◌, refl}
use mathlib.Core.Bool.{Bool, true, false}
use Rattle.requester.specs.State.{is_some}
use Rattle.requester.specs.Calls.{end_report}

-- whether a recovery ended, from the number of its end
pub end_told : (e : Bool) → is_some (end_report e) ≡ e
unfolding end_report
end_told true = refl
end_told false = refl
