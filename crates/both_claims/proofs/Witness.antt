-- The history with a resend, a recovery, late replies and a later start of the main processor's end: what it comes to is computed.
-- Assumes nothing.
use mathlib.Core.Path.{◌≡◌, refl, ap, ◌∙◌}
use mathlib.Core.Bool.{true}
use mathlib.Core.List.{List, [], ◌∷◌, ◌++◌}
use mathlib.Core.Option.{some}
use Prim.Native.Nat.{ℕ}
use native.Mathlib.Omega.{arith}
use lib.Count.{ones}
use Rattle.octets.specs.Bytes.{Each, Byte, number, bytes, equal, overlay}
use Rattle.octets.proofs.Each.{each_append}
use Rattle.line.specs.Checksum.{sums, checksum}
use Rattle.line.specs.Message.{Message, body, message}
use Rattle.line.specs.Cobs.{groups, cobs, group_bytes, uncobs}
use Rattle.line.specs.Frame.{frame, split, non_empty, closed_behind}
use Rattle.line.specs.Judge.{fields, judge_form, judge, more_received}
use Rattle.line_claims.specs.Loans.{enough_part}
use Rattle.line_claims.specs.Calls.{gathered}
use Rattle.requester.specs.State.{main_fresh, outstanding, request_frame, step_request, fetch, acknowledge, MainState, Request}
use Rattle.requester.specs.Requester
use Rattle.requester.specs.Calls.{handed_report_of}
use Rattle.requester_claims.specs.Histories as Main
use Rattle.requester_claims.specs.Histories.{main_meant, main_meant_made, main_enough}
use Rattle.requester_claims.specs.Numbers.{frames_put_out}
use Rattle.requester_claims.specs.View.{main_view}
use Rattle.requester_claims.proofs.History as MainHistory
use Rattle.responder.specs.Requests
use Rattle.responder.specs.Commands.{command_number, with_number, command_of_number, length_right}
use Rattle.supervisor.specs.Limits
use Rattle.supervisor.specs.Local
use Rattle.supervisor.specs.Number.{top_set}
use Rattle.supervisor.specs.State.{Factory, fresh}
use Rattle.supervisor_claims.specs.View.{factory_of}
use Rattle.supervisor_claims.specs.Histories as Supervisor
use Rattle.supervisor_claims.specs.FrameHistory as Received
use Rattle.supervisor_claims.specs.LastSet.{set_by, value_for, records_restored}
use Rattle.supervisor_claims.specs.Replies.{reply_by}
use Rattle.supervisor_claims.proofs.calls.SendingClaim.{frame-bytes}
use Rattle.supervisor_claims.proofs.claims.History as SupervisorHistory
use Rattle.both_claims.specs.Ends
use Rattle.both_claims.specs.Ends.{first_log, main_logged, supervisor_logged, handled_by, brought, reply_made, is_set_of}
use Rattle.supervisor_claims.specs.LastSet.{accepts_restore}
use Rattle.both_claims.specs.Ends.{BothStarts, ends_begun, together, EndCallTyped, ends_after, ends_after_all, Always, as_message}
use Rattle.both_claims.specs.Ends.{message_handed}
use Rattle.both_claims.specs.Ends.{puts_request, GoesOn, WireUnder, SetsInOrderAfter}
use Rattle.both_claims.specs.SetThenGot.{SetDone, NoNewSet}
use Rattle.both_claims.specs.Witness.{asks, reads, served, reply, room, some_list, set_list, get_list, was_set, was_got, status_is, resend}
use Rattle.both_claims.specs.Witness.{step}
use Rattle.both_claims.specs.Witness.{recovery, anew, lookups, started_again, set_there, before_start, eventful, frames_before}
use Rattle.both_claims.specs.Witness.{eventful_answers, Eventful}
use Rattle.both_claims.specs.BothEnds.{EventfulHistory}
use Rattle.both_claims.proofs.OlderFirst.{in_order_older_first}
use Rattle.both_claims.proofs.laws.BothCalls.{Both, begun-both, keeps-both, always-then, always-split, any-calls, main-answer}
use Rattle.both_claims.proofs.laws.Seen.{Seen, seen, seen_after, seen_all, seen-after, seen_all_lem, each_seen, always-seen, seen_answers}
use Rattle.both_claims.proofs.laws.Seen.{seen_handed}
use Rattle.both_claims.proofs.laws.Seen.{seen-answers, seen-handed, all_bytes, all-bytes, past_equal, stand_in_turn, one_of, all_of}
use Rattle.both_claims.proofs.laws.Seen.{Carries, carries_seen, carries-seen, carries-wire, carries-sets, goes_on_seen, goes-on-seen}
use Rattle.both_claims.proofs.laws.Seen.{no_new_set_seen, no-new-set-seen}

-- ---- what is computed

-- both ends just started
abbrev first : Factory → Seen
first f = record { main = main_fresh; supervisor = fresh f; log = first_log }

-- the calls between the set and its answer
abbrev between : List Ends.EndCall
between = resend ++ (recovery ++ anew)

abbrev at_answer : Factory → MainState
at_answer f = (seen_all (first f) (Ends.main (asks set_list) ∷ between)).main

record Computed (f : Factory) : Type 0 where
  carries : each_seen carries_seen (first f) eventful ≡ true
  goes_on : each_seen goes_on_seen (first f) before_start ≡ true
  no_new : each_seen (no_new_set_seen 5) (seen_after (first f) (Ends.main (asks set_list)))
      (between ++ (Ends.main (reads (frame (was_set 5))) ∷ lookups)) ≡ true
  puts : puts_request (asks set_list).call (main_meant_made main_fresh (asks set_list)).answer ≡ true
  waits : outstanding (at_answer f) ≡ some set_list
  answer : let d = main_meant_made (at_answer f) (reads (frame (was_set 5))) in message_handed d.answer d.out ≡ some (was_set 5)
  put-out : (seen_all (first f) before_start).log.asked ≡ frames_before
  answers : seen_answers (first f) eventful ≡ eventful_answers
  handed : seen_handed (first f) eventful ≡ was_set 5 ∷ was_got 6 ∷ was_got 1 ∷ []

computed : (f : Factory) → Computed f
unfolding main_meant main_meant_made main_enough enough_part main_fresh Requester.request Requester.send Requester.interrupt request_frame
    frame
    cobs groups message body checksum sums bytes number equal overlay ones Requester.stays_out Requester.receive Requester.main_byte
    more_received Requester.hear Requester.settle Requester.main_moved_to Requester.fetched Requester.serve judge judge_form fields uncobs
    group_bytes Main.handed_data handed_report_of frames_put_out step_request gathered split non_empty closed_behind seen_all seen_after
    each_seen
    seen_answers seen_handed carries_seen past_equal stand_in_turn one_of all_of goes_on_seen no_new_set_seen main_logged supervisor_logged
    brought
    handled_by reply_made reply_by is_set_of accepts_restore set_by value_for records_restored Supervisor.meant_made Supervisor.meant
    Supervisor.enough Requests.receive_stream Requests.receive_byte Requests.closed Requests.after_verdict Requests.verdict Requests.tested
    Requests.known Requests.length_allowed Requests.carry_out Requests.effect Requests.key_set Requests.store_value
    Requests.start_acknowledged Requests.clear_bit Requests.sent Requests.reply_of Requests.reply_frame command_number with_number
    command_of_number length_right top_set fresh Limits.shortest_setting Limits.longest_setting Local.lookup Local.entry_of Local.fitted
    Local.taken Local.after_take Local.last_non_zero Received.received_since Received.bytes_received_by Received.frames_closed_by
    Received.starts_anew Received.piece_read Received.is_accepted_start
computed f = record {
  carries = refl;
  goes_on = refl;
  no_new = refl;
  puts = refl;
  waits = refl;
  answer = refl;
  put-out = refl;
  answers = refl;
  handed = refl;
}

-- ---- the arguments' types

frame-typed : (m : Message) → all_bytes m.payload ≡ true → Each Byte (frame m)
frame-typed m h = frame-bytes m (all-bytes m.payload h)

served-typed : (n : ℕ) (q : Request) → all_bytes q.payload ≡ true → Each EndCallTyped (served n q)
unfolding all_bytes
served-typed n q h = ((tt, frame-typed (as_message n q) h), (all-bytes room refl, tt))

-- with calls behind it, and with a reply that is read between
then_typed : (n : ℕ) (q : Request) (ts : List Ends.EndCall) → all_bytes q.payload ≡ true → Each EndCallTyped ts
    → Each EndCallTyped (served n q ++ ts)
then_typed n q ts h t = each_append EndCallTyped (served n q) ts (served-typed n q h) t

read-typed : (n : ℕ) (q : Request) (r : Message) (ts : List Ends.EndCall) → all_bytes q.payload ≡ true → all_bytes r.payload ≡ true
    → Each EndCallTyped ts → Each EndCallTyped (served n q ++ (Ends.main (reads (frame r)) ∷ ts))
read-typed n q r ts h k t = then_typed n q (Ends.main (reads (frame r)) ∷ ts) h (frame-typed r k, t)

get_typed : EndCallTyped (Ends.main (asks get_list))
unfolding all_bytes bytes
get_typed = (omega arith, all-bytes get_list.payload refl)

set_typed : EndCallTyped (Ends.main (asks set_list))
unfolding all_bytes bytes
set_typed = (omega arith, all-bytes set_list.payload refl)

anew-typed : Each EndCallTyped anew
unfolding all_bytes bytes
anew-typed = (tt, (frame-typed (was_set 1) refl, served-typed 5 set_list refl))

step_typed : (n : ℕ) (q : Request) (r : Message) → all_bytes q.payload ≡ true → all_bytes r.payload ≡ true
    → Each EndCallTyped (step n q r)
step_typed n q r h k = (tt, read-typed n q r [] h k tt)

recovery-typed : Each EndCallTyped recovery
unfolding all_bytes step_request
recovery-typed =
    let q = step_request fetch in
    let a = step_request acknowledge in
    let second = step 3 a (reply 3 1 []) in
    let third = step 4 q (status_is 4 0) in (
      tt,
      each_append EndCallTyped (step 2 q (status_is 2 1)) (second ++ third) (step_typed 2 q (status_is 2 1) refl refl)
          (each_append EndCallTyped second third (step_typed 3 a (reply 3 1 []) refl refl) (step_typed 4 q (status_is 4 0) refl refl)),
    )

between-typed : Each EndCallTyped between
unfolding all_bytes bytes
between-typed = (
  all-bytes (1 ∷ 1 ∷ 0 ∷ []) refl,
  (tt, then_typed 1 set_list (recovery ++ anew) refl (each_append EndCallTyped recovery anew recovery-typed anew-typed)),
)

lookups-typed : Each EndCallTyped lookups
unfolding all_bytes bytes
lookups-typed =
    let last : List Ends.EndCall = Ends.main (asks get_list) ∷ served 7 get_list in
    (get_typed, read-typed 6 get_list (was_got 6) last refl refl (get_typed, served-typed 7 get_list refl))

before_typed : Each EndCallTyped before_start
unfolding all_bytes
before_typed =
    let behind : List Ends.EndCall = Ends.main (reads (frame (was_set 5))) ∷ lookups in
    (set_typed, each_append EndCallTyped between behind between-typed (frame-typed (was_set 5) refl, lookups-typed))

eventful-typed : Each EndCallTyped eventful
unfolding all_bytes bytes
eventful-typed =
    each_append EndCallTyped before_start started_again before_typed
    (tt, (get_typed, (frame-typed (was_got 7) refl, read-typed 1 get_list (was_got 1) [] refl refl tt)))

-- ---- from two starts

module _ (s : BothStarts) where
  abbrev e : Ends.Ends
  e = ends_begun s

  abbrev f : Factory
  f = factory_of s.start_data

  both : Both e
  both = begun-both e (together s)

  as_first : seen e ≡ first f
  as_first =
      let m = (MainHistory.started s.main-parts s.main_lent s.main_accepted).state in
      let v =
      (SupervisorHistory.started s.supervisor_parts s.supervisor_bytes s.supervisor_lent s.start_data s.start_typed
      s.supervisor_accepted).0 in
      rw (m, v)

  carries : Always Carries e eventful
  carries = always-seen Carries carries_seen carries-seen e both eventful eventful-typed (rw as_first (computed f).carries)

  wire : (n : ℕ) → Always (WireUnder n) e eventful
  wire n = always-then Carries (WireUnder n) (λ x t h. carries-wire x t h n) e eventful carries

  sets : (k : ℕ) → Always (SetsInOrderAfter k) e eventful
  sets k = always-then Carries (SetsInOrderAfter k) (λ x t h. carries-sets x t h k) e eventful carries

  -- as the set's answer is handed out
  abbrev until_answer : List Ends.EndCall
  until_answer = Ends.main (asks set_list) ∷ between

  until-typed : Each EndCallTyped until_answer
  until-typed = (set_typed, between-typed)

  abbrev after-set : Ends.Ends
  after-set = ends_after_all e until_answer

  by_answer : main_view after-set.main ≡ at_answer f
  by_answer = ap (λ (x : Seen). x.main) (seen_all_lem e both until_answer until-typed)
      ∙ ap (λ (x : Seen). (seen_all x until_answer).main) as_first

  no_other : Always (NoNewSet 5) (ends_after e (Ends.main (asks set_list))) (between ++ (Ends.main (reads (frame (was_set 5))) ∷ lookups))
  no_other =
      let set = Ends.main (asks set_list) in
      always-seen (NoNewSet 5) (no_new_set_seen 5) (no-new-set-seen 5) (ends_after e set) (keeps-both e both set set_typed)
      (between ++ (Ends.main (reads (frame (was_set 5))) ∷ lookups)) before_typed.1
      (rw (seen-after e both set set_typed, as_first) (computed f).no_new)

  goes_on : Always GoesOn e before_start
  goes_on = always-seen GoesOn goes_on_seen goes-on-seen e both before_start before_typed (rw as_first (computed f).goes_on)

  set_done : SetDone 5 some_list (set_there s)
  unfolding ends_after_all
  set_done = record {
    begins = together s;
    typed = before_typed;
    asked = refl;
    put-out =
        rw ((MainHistory.one_call e.main (asks set_list) both.main).answer, ap (λ (x : Seen). x.main) as_first) (computed f).puts;
    waiting = rw by_answer (computed f).waits;
    reply = was_set 5;
    handed =
        main-answer after-set (any-calls (λ x. Unit {0}) (λ x b u t y. tt) e both tt until_answer until-typed).0
        (λ a d. message_handed a d ≡ some (was_set 5)) (reads (frame (was_set 5))) (rw by_answer (computed f).answer);
    result = refl;
    goes_on = goes_on;
    no_other = no_other;
    older_first = in_order_older_first 5 e before_start goes_on (always-split (SetsInOrderAfter 5) e before_start started_again (sets 5)).0;
    wire = (always-split (WireUnder _) e (until_answer ++ (Ends.main (reads (frame (was_set 5))) ∷ [])) (lookups ++ started_again)
        (wire _)).0;
  }

  is-eventful : Eventful s
  is-eventful = record {
    typed = eventful-typed;
    wire = wire;
    sets = sets;
    set_done = set_done;
    put-out =
        ap (λ (x : Seen). x.log.asked) (seen_all_lem e both before_start before_typed)
        ∙ rw as_first (computed f).put-out;
    answers = seen-answers e both eventful eventful-typed ∙ rw as_first (computed f).answers;
    handed = seen-handed e both eventful eventful-typed ∙ rw as_first (computed f).handed;
  }

pub eventful_history : EventfulHistory
eventful_history s = is-eventful s
