-- The samples of the probe list, computed.
-- Assumes nothing.
use mathlib.Core.Path.{refl}
use Rattle.probes.specs.Probes.{probe_changes, all_good, good, latest, probes_from, update_report, update_promise}
use Rattle.probes.specs.Item4.{ProbeSamplesHold, EmptyList}

pub samples_hold : ProbeSamplesHold
unfolding probe_changes all_good good latest probes_from update_report update_promise
samples_hold = refl

pub empty_list : EmptyList
unfolding probe_changes all_good good latest probes_from update_report update_promise
empty_list = (refl, refl)
