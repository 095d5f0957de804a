-- The supervisor's claims, proved: one element of each record of statements in specs/.
-- Assumes nothing.
use Rattle.supervisor_claims.specs.Demand1.{SupervisorNumberDue, SupervisorAsItWas}
use Rattle.supervisor_claims.specs.Demand2.{RequestsCarriedOut, NumberedFailures, Cuts, MixedLists}
use Rattle.supervisor_claims.specs.Item1.{SupervisorItem1}
use Rattle.supervisor_claims.specs.Item4.{SupervisorItem4}
use Rattle.supervisor_claims.specs.Item5.{SupervisorItem5}
use Rattle.supervisor_claims.specs.Item11.{SupervisorItem11}
use Rattle.supervisor_claims.specs.Item14.{SupervisorItem14}
use Rattle.supervisor_claims.proofs.laws.SavingLaws.{image_meant, good_meant}
use Rattle.supervisor_claims.proofs.calls.StartClaim.{start_meant}
use Rattle.supervisor_claims.proofs.calls.LookupClaim.{edition_meant}
use Rattle.supervisor_claims.proofs.claims.Refusals.{each_number_exactly, refused_exactly, refused_holds, parts_fit}
use Rattle.supervisor_claims.proofs.claims.LentCalls.{made_12}
use Rattle.supervisor_claims.proofs.claims.History.{one_call, refused_made, history, cut}
use Rattle.supervisor_claims.proofs.claims.History.{step_receives, step_then_receive, steps_receive}
use Rattle.supervisor_claims.proofs.claims.InOrder.{in_order, in_order_behind, request_carried, failure_only_pending}
use Rattle.supervisor_claims.proofs.claims.FramesClaim.{history_frames, each_once, received-since, in_order_after}
use Rattle.supervisor_claims.proofs.claims.MixedClaim.{no_12, sound_no_12, mixed_frames, without_line_calls}
use Rattle.supervisor_claims.proofs.claims.MixedClaim.{data_behind_read, collected_receives, collect_then_receive}
use Rattle.supervisor_claims.proofs.claims.FailureClaim.{failure_answered, overlong_answered, ahead_of_zero, empty_frame_ignored}
use Rattle.supervisor_claims.proofs.claims.Cuts.{cut_any}
use Rattle.supervisor_claims.proofs.claims.Replies.{replies_in_order, replies_replayed, replay_joined}
use Rattle.supervisor_claims.proofs.claims.SetResults.{more_items_11, up_to_64_items, value_lengths, stores_nothing}
use Rattle.supervisor_claims.proofs.claims.SetResults.{factory_edition, reply_version, failure_version}
use Rattle.supervisor_claims.proofs.claims.LastSetLaws.{set_successful, successful_exactly, replaced_other}
use Rattle.supervisor_claims.proofs.claims.SameEdition.{same_edition, same_edition_same_list, reads_leave}
use Rattle.supervisor_claims.proofs.claims.WithdrawnKeys.{value_last_set, last_set, withdrawn_list_answered, lookup_last_set}
use Rattle.supervisor_claims.proofs.claims.WithdrawnKeys.{set_answered, list_edition_answered}
use Rattle.supervisor_claims.proofs.claims.WithdrawnKeys.{passphrase_unread, passphrase_unread_locally}
use Rattle.supervisor_claims.proofs.claims.RetainedClaim.{retained_stays, reboot_forgets, power_off_forgets, fresh_alert}
use Rattle.supervisor_claims.proofs.claims.AlertClaim.{local_keeps, failed_keeps, request_retains, retained_exactly}
use Rattle.supervisor_claims.proofs.claims.AlertClaim.{fresh_alert_answered, fresh_after_reboot}
use Rattle.supervisor_claims.proofs.claims.SavedClaim.{key_savable, save_writes, saved_restores, accepted_exact}
use Rattle.supervisor_claims.proofs.claims.SavingRefusals.{save_refused_exactly, restore_refused_exactly, restore_fault}
use Rattle.saving_claims.proofs.Item11.{saved_omits, other_key_31}
use Rattle.supervisor_claims.proofs.TwoRuns.{two_states}
use Rattle.supervisor_claims.proofs.claims.RunsSame.{two_runs}
use Rattle.supervisor_claims.proofs.claims.StartForgets.{start_forgets}
use Rattle.supervisor_claims.proofs.claims.SetUnseen.{set_leaves, set_unseen}
use Rattle.supervisor_claims.proofs.claims.TwoPassphrases.{two_passphrases}

pub number_due : SupervisorNumberDue
number_due = record {
  each_number_exactly = each_number_exactly;
  one_call = one_call;
  refused_exactly = refused_exactly;
  made_12 = made_12;
  no_12 = no_12;
  sound_no_12 = sound_no_12;
  parts_fit = parts_fit;
}

pub as_it_was : SupervisorAsItWas
as_it_was = record { refused_holds = refused_holds; refused_made = refused_made }

pub carried-out : RequestsCarriedOut
carried-out = record {
  history_frames = history_frames;
  history = history;
  start_meant = start_meant;
  each_once = each_once;
  in_order = in_order;
  in_order_behind = in_order_behind;
  received-since = received-since;
  in_order_after = in_order_after;
  request_carried = request_carried;
  replies_in_order = replies_in_order;
  replies_replayed = replies_replayed;
  replay_joined = replay_joined;
  value_last_set = value_last_set;
  last_set = last_set;
  withdrawn_list_answered = withdrawn_list_answered;
  lookup_last_set = lookup_last_set;
  set_successful = set_successful;
  successful_exactly = successful_exactly;
}

pub numbered_failures : NumberedFailures
numbered_failures = record {
  failure_answered = failure_answered;
  overlong_answered = overlong_answered;
  ahead_of_zero = ahead_of_zero;
  empty_frame_ignored = empty_frame_ignored;
  failure_only_pending = failure_only_pending;
}

pub cuts : Cuts
cuts = record {
  cut_any = cut_any;
  cut = cut;
  step_receives = step_receives;
  step_then_receive = step_then_receive;
  steps_receive = steps_receive;
}

pub mixed_lists : MixedLists
mixed_lists = record {
  mixed_frames = mixed_frames;
  without_line_calls = without_line_calls;
  data_behind_read = data_behind_read;
  collected_receives = collected_receives;
  collect_then_receive = collect_then_receive;
}

pub item-1 : SupervisorItem1
item-1 = record {
  retained_stays = retained_stays;
  reboot_forgets = reboot_forgets;
  power_off_forgets = power_off_forgets;
  fresh_alert = fresh_alert;
  local_keeps = local_keeps;
  failed_keeps = failed_keeps;
  request_retains = request_retains;
  retained_exactly = retained_exactly;
  fresh_alert_answered = fresh_alert_answered;
  fresh_after_reboot = fresh_after_reboot;
}

pub item-4 : SupervisorItem4
item-4 = record {
  more_items_11 = more_items_11;
  up_to_64_items = up_to_64_items;
  value_lengths = value_lengths;
  set_answered = set_answered;
  parts_fit = parts_fit;
}

pub item-5 : SupervisorItem5
item-5 = record {
  set_answered = set_answered;
  stores_nothing = stores_nothing;
  factory_edition = factory_edition;
  reply_version = reply_version;
  failure_version = failure_version;
  value_last_set = value_last_set;
  successful_exactly = successful_exactly;
  list_edition_answered = list_edition_answered;
  same_edition = same_edition;
  same_edition_same_list = same_edition_same_list;
  reads_leave = reads_leave;
  edition_meant = edition_meant;
}

pub item-11 : SupervisorItem11
item-11 = record {
  save_refused_exactly = save_refused_exactly;
  restore_refused_exactly = restore_refused_exactly;
  restore_fault = restore_fault;
  image_meant = image_meant;
  good_meant = good_meant;
  replaced_other = replaced_other;
  key_savable = key_savable;
  save_writes = save_writes;
  saved_restores = saved_restores;
  accepted_exact = accepted_exact;
  value_last_set = value_last_set;
}

pub item-14 : SupervisorItem14
item-14 = record {
  set_answered = set_answered;
  value_lengths = value_lengths;
  stores_nothing = stores_nothing;
  passphrase_unread = passphrase_unread;
  passphrase_unread_locally = passphrase_unread_locally;
  two_states = two_states;
  two_runs = two_runs;
  start_forgets = start_forgets;
  set_leaves = set_leaves;
  set_unseen = set_unseen;
  two_passphrases = two_passphrases;
  saved_omits = saved_omits;
  other_key_31 = other_key_31;
  replaced_other = replaced_other;
}
