-- What is claimed of the probe list, proved: one element of each record of statements in specs/.
-- Assumes nothing.
use Rattle.probes.specs.Item4.{ProbesItem4}
use Rattle.probes.proofs.Records.{last_named, unnamed_stays, record-at, as_long, addresses_stay, others_stay}
use Rattle.probes.proofs.Samples.{samples_hold, empty_list}
use Rattle.probes.proofs.Updates.{update_done, update_refused}

pub item-4 : ProbesItem4
item-4 = record {
  update_done = update_done;
  update_refused = update_refused;
  last_named = last_named;
  unnamed_stays = unnamed_stays;
  record-at = record-at;
  as_long = as_long;
  addresses_stay = addresses_stay;
  others_stay = others_stay;
  samples_hold = samples_hold;
  empty_list = empty_list;
}
