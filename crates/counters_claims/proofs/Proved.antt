-- The field counters' claims, proved: one element of each record of statements in specs/.
-- Assumes nothing.
use Rattle.counters_claims.specs.Item8.{CountersItem8}
use Rattle.counters_claims.specs.Item14.{CountersItem14}
use Rattle.counters_claims.proofs.TallyLaws.{each_counted_once}
use Rattle.counters_claims.proofs.Item8.{counters_count, counters_from_start, mixed_count, overlong_once, blocks_alone}
use Rattle.counters_claims.proofs.Item8.{collect_then_receive_counted}
use Rattle.counters_claims.proofs.Item14.{two_counted_states, two_counted_runs}
use Rattle.counters_claims.proofs.CountedPassphrases.{two_counted_passphrases}

pub item-8 : CountersItem8
item-8 = record {
  counters_count = counters_count;
  counters_from_start = counters_from_start;
  mixed_count = mixed_count;
  overlong_once = overlong_once;
  each_counted_once = each_counted_once;
  blocks_alone = blocks_alone;
  collect_then_receive_counted = collect_then_receive_counted;
}

pub item-14 : CountersItem14
item-14 = record {
  two_counted_states = two_counted_states;
  two_counted_runs = two_counted_runs;
  two_counted_passphrases = two_counted_passphrases;
}
