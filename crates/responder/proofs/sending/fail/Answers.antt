-- `responder::sending::fail` meets its contract.
-- Assumes nothing.
use mathlib.Core.Path.{refl}
use Rattle.counters.specs.Ended.{step_report, served_report}
use Rattle.responder.proofs.sending.fail.Goals as goal

pub returns : goal.returns
unfolding step_report served_report
returns c = record { result_value = refl; result_value_2 = refl; outbox_after = c.send_byte.ensures }
