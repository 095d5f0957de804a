-- The claims of the main processor's end, proved: one element of each record of statements in specs/.
-- Assumes nothing.
use Rattle.requester_claims.specs.Demand1.{MainNumberDue, MainAsItWas}
use Rattle.requester_claims.specs.Item2.{MainItem2}
use Rattle.requester_claims.specs.Item6.{MainItem6}
use Rattle.requester_claims.specs.Item14.{MainItem14}
use Rattle.requester_claims.proofs.StartForgets.{main_start_forgets}
use Rattle.requester_claims.proofs.LentCalls.{too_little, whole}
use Rattle.requester_claims.proofs.History.{call_as_meant, history, no_12, refused_holds, refused_made, state_holds}
use Rattle.requester_claims.proofs.TableNumber.{main_refused_exactly, main_start_accepted}
use Rattle.requester_claims.proofs.Cuts.{cut, cut_between, cut_between_started}
use Rattle.requester_claims.proofs.Numbers.{one_number, one_number_started, numbers_in_range}
use Rattle.requester_claims.proofs.Answers.{answer_matches, answer_matches_started, answers-counted, one_answer_each}
use Rattle.requester_claims.proofs.AnswerBytes.{answer_bytes}
use Rattle.requester_claims.proofs.AnswerFrame.{answer_frame}
use Rattle.requester_claims.proofs.EqualFrames.{came_framed, equal_frames}

pub number_due : MainNumberDue
number_due = record {
  main_refused_exactly = main_refused_exactly;
  main_start_accepted = main_start_accepted;
  call_as_meant = call_as_meant;
  history = history;
  no_12 = no_12;
  too_little = too_little;
  whole = whole;
}

pub as_it_was : MainAsItWas
as_it_was = record { refused_holds = refused_holds; refused_made = refused_made }

pub item-2 : MainItem2
item-2 = record {
  history = history;
  main_refused_exactly = main_refused_exactly;
  main_start_accepted = main_start_accepted;
  no_12 = no_12;
  refused_holds = refused_holds;
  refused_made = refused_made;
  state_holds = state_holds;
  too_little = too_little;
  whole = whole;
  cut = cut;
  cut_between = cut_between;
  cut_between_started = cut_between_started;
  one_number = one_number;
  one_number_started = one_number_started;
  numbers_in_range = numbers_in_range;
  answer_matches = answer_matches;
  answer_matches_started = answer_matches_started;
  answers-counted = answers-counted;
  one_answer_each = one_answer_each;
}

pub item-6 : MainItem6
item-6 = record {
  answer_bytes = answer_bytes;
  answer_frame = answer_frame;
  equal_frames = equal_frames;
  came_framed = came_framed;
}

pub item-14 : MainItem14
item-14 = record { main_start_forgets = main_start_forgets }
