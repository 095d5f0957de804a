-- The claims over both ends, proved: one element of each record of statements in specs/.
-- Assumes nothing.
use Rattle.both_claims.specs.BothEnds.{RepliesPutOut, Answers, ListAges, NothingLost, HypothesesMet, OverBothEnds}
use Rattle.both_claims.proofs.PendingBytes.{pending_bytes, sent_by_take}
use Rattle.both_claims.proofs.FreshAnswer.{in_order_wire, fresh_answer}
use Rattle.both_claims.proofs.AlertAnswer.{alert-answer, alert_since}
use Rattle.both_claims.proofs.AlertsPosted.{alerts_posted}
use Rattle.both_claims.proofs.AlertsInOrder.{alerts_in_order}
use Rattle.both_claims.proofs.ListAge.{list_age, not_replaced}
use Rattle.both_claims.proofs.InOrderAge.{list_not_older}
use Rattle.both_claims.proofs.NeverReplaced.{never_replaced}
use Rattle.both_claims.proofs.ValueAsked.{value_asked}
use Rattle.both_claims.proofs.RoundTrip.{round_trip, progress}
use Rattle.both_claims.proofs.RecoveryServed.{recovery_served}
use Rattle.both_claims.proofs.OlderFirst.{in_order_older_first}
use Rattle.both_claims.proofs.SetThenGot.{set_then_got}
use Rattle.both_claims.proofs.SomeStarts.{some_starts}
use Rattle.both_claims.proofs.Witness.{eventful_history}
use Rattle.both_claims.proofs.CleanExchange.{clean_exchange, served_exchanges, lookup_served, set_served}

pub replies_put_out : RepliesPutOut
replies_put_out = record { pending_bytes = pending_bytes; sent_by_take = sent_by_take }

pub answers : Answers
answers = record {
  in_order_wire = in_order_wire;
  fresh_answer = fresh_answer;
  alert-answer = alert-answer;
  alert_since = alert_since;
  alerts_posted = alerts_posted;
  alerts_in_order = alerts_in_order;
}

pub list_ages : ListAges
list_ages = record {
  list_age = list_age;
  not_replaced = not_replaced;
  list_not_older = list_not_older;
  never_replaced = never_replaced;
  value_asked = value_asked;
  in_order_older_first = in_order_older_first;
  set_then_got = set_then_got;
}

pub nothing_lost : NothingLost
nothing_lost = record {
  round_trip = round_trip;
  progress = progress;
  recovery_served = recovery_served;
  clean_exchange = clean_exchange;
  served_exchanges = served_exchanges;
  lookup_served = lookup_served;
  set_served = set_served;
}

pub hypotheses_met : HypothesesMet
hypotheses_met = record { some_starts = some_starts; eventful_history = eventful_history }

pub both_ends : OverBothEnds
both_ends = record {
  replies_put_out = replies_put_out;
  answers = answers;
  list_ages = list_ages;
  nothing_lost = nothing_lost;
  hypotheses_met = hypotheses_met;
}
