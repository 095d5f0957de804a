-- A history with a resend, a recovery, late replies and a later start of the main processor's end. The hypotheses of the claims hold in it.
-- Assumes nothing: these are definitions.
use Rattle.std.specs.Prelude.{◌≡◌, Bool, true, false, List, [], ◌∷◌, ◌++◌, ℕ, replicate}
use Rattle.std.proofs.Math.Option.{none}
use Rattle.octets.specs.Bytes.{Each}
use Rattle.line.specs.Numbers.{reply_acknowledged, reply_status, reply_key_lookup, reply_key_set}
use Rattle.line.specs.Message.{Message}
use Rattle.line.specs.Frame.{frame}
use Rattle.line.specs.Reader as LineReader
use Rattle.line_claims.specs.Loans.{first}
use Rattle.requester.specs.Calls.{HandedReport, answered, nothing, status}
use Rattle.requester.specs.Layout
use Rattle.requester.specs.State.{Request, fetch, acknowledge, step_request}
use Rattle.requester.specs.Requester.{reply_sequence}
use Rattle.requester_claims.specs.Histories.{MainAnswer, MainCall, MainLent, MainMade, main_made}
use Rattle.requester_claims.specs.Histories as Main
use Rattle.requester_claims.specs.Numbers.{Frame}
use Rattle.supervisor_claims.specs.ByPart.{published}
use Rattle.supervisor_claims.specs.Histories as Supervisor
use Rattle.both_claims.specs.Ends.{Ends, EndCall, main, supervisor, EndCallTyped, ends_after, ends_after_all, BothStarts, ends_begun}
use Rattle.both_claims.specs.Ends.{Always}
use Rattle.both_claims.specs.Ends.{WireUnder, SetsInOrderAfter, as_message, lookup_request}
use Rattle.both_claims.specs.Exchanges.{set_request, all_handed}
use Rattle.both_claims.specs.SetThenGot.{SetAndBehind, SetDone}

-- ---- Calls, each lent all of each part

abbrev pub all_lent : MainLent
all_lent = record { reader = first LineReader.reader_length; requester = first Layout.requester_length }

abbrev pub main_with : MainCall → MainMade
main_with c = record { lent = all_lent; call = c }

abbrev pub supervisor_call : Supervisor.Call → EndCall
supervisor_call c = supervisor (record { lent = λ i. first (published i); call = c })

-- the room that is lent
abbrev pub room : List ℕ
room = replicate 64 0

-- the main processor's end puts a request out; sends what is to go out; reads bytes
abbrev pub asks : Request → MainMade
asks q = main_with (Main.request q.command q.payload room)

abbrev pub sends : EndCall
sends = main (main_with (Main.send room))

abbrev pub reads : List ℕ → MainMade
reads bs = main_with (Main.receive bs)

-- the request q under the number n reaches the supervisor whole, and its reply is taken whole
abbrev pub served : ℕ → Request → List EndCall
served n q =
    supervisor_call (Supervisor.receive [] (frame (as_message n q))) ∷ (supervisor_call (Supervisor.local (Supervisor.take room)) ∷ [])

-- a reply of version 1 to the number n
abbrev pub reply : ℕ → ℕ → List ℕ → Message
reply n command d = record { version = 1; sequence = reply_sequence n; command = command; payload = d }

abbrev pub reads_reply : Message → EndCall
reads_reply r = main (reads (frame r))

-- ---- The history

-- a withdrawn-key list, and the requests and replies that have to do with it
abbrev pub some_list : List ℕ
some_list = 7 ∷ 0 ∷ 9 ∷ []

abbrev pub set_list : Request
set_list = set_request 5 some_list

abbrev pub get_list : Request
get_list = lookup_request 5 4096

abbrev pub was_set : ℕ → Message
was_set n = reply n reply_key_set (0 ∷ [])

abbrev pub was_got : ℕ → Message
was_got n = reply n reply_key_lookup (0 ∷ some_list)

abbrev pub status_is : ℕ → ℕ → Message
status_is n x = reply n reply_status (x ∷ replicate 15 0)

-- The set goes out under 1. A damaged frame comes, and the same bytes go out again. The supervisor reads one of the two copies.
abbrev pub resend : List EndCall
resend = main (reads (1 ∷ 1 ∷ 0 ∷ [])) ∷ (sends ∷ served 1 set_list)

-- An interrupt cuts the set off. Its recovery finds bit 0 of the status set, acknowledges it, and finds it clear: numbers 2, 3 and 4.
abbrev pub step : ℕ → Request → Message → List EndCall
step n q r = sends ∷ (served n q ++ (reads_reply r ∷ []))

abbrev pub recovery : List EndCall
recovery =
    main (main_with Main.interrupt)
    ∷ (step 2 (step_request fetch) (status_is 2 1)
    ++ (step 3 (step_request acknowledge) (reply 3 reply_acknowledged []) ++ step 4 (step_request fetch) (status_is 4 0)))

-- The set goes out anew, under 5. The reply to 1 comes late.
abbrev pub anew : List EndCall
anew = sends ∷ (reads_reply (was_set 1) ∷ served 5 set_list)

-- A lookup under 6 is answered. The reply to one under 7 is late.
abbrev pub lookups : List EndCall
lookups = main (asks get_list) ∷ (served 6 get_list ++ (reads_reply (was_got 6) ∷ (main (asks get_list) ∷ served 7 get_list)))

-- Behind a start of the main processor's end, a lookup goes out under 1. The reply to 7 comes late.
abbrev pub started_again : List EndCall
started_again =
    main (main_with Main.start) ∷ (main (asks get_list) ∷ (reads_reply (was_got 7) ∷ (served 1 get_list ++ (reads_reply (was_got 1) ∷ []))))

-- the set, its answer under 5 and the lookups behind it
abbrev pub set_there : BothStarts → SetAndBehind
set_there s = record {
  begun = ends_begun s;
  earlier = [];
  set = asks set_list;
  between = resend ++ (recovery ++ anew);
  answered = reads (frame (was_set 5));
  behind = lookups;
}

-- all calls before that start, and all
abbrev pub before_start : List EndCall
before_start = main (asks set_list) ∷ ((resend ++ (recovery ++ anew)) ++ (reads_reply (was_set 5) ∷ lookups))

abbrev pub eventful : List EndCall
eventful = before_start ++ started_again

-- ---- What holds of it

-- what each call of the main processor's end answers
unfoldable pub main_answers : Ends → List EndCall → List MainAnswer
main_answers e [] = []
main_answers e (main m ∷ ts) = (main_made e.main m).answer ∷ main_answers (ends_after e (main m)) ts
main_answers e (supervisor m ∷ ts) = main_answers (ends_after e (supervisor m)) ts

-- the frame of a request under a number
abbrev put : ℕ → Request → Frame
put n q = record { number = n; bytes = frame (as_message n q) }

-- by the number of bytes put out or read, what is handed out, and whether a frame is to go out
abbrev hears : ℕ → HandedReport → Bool → MainAnswer
hears used t unsent = Main.received used t none unsent

abbrev answers_to : ℕ → ℕ → ℕ → HandedReport
answers_to n command count = answered 1 (reply_sequence n) command count

-- The answers to these calls:
-- - the set and the resend
-- - the interrupt and the recovery
-- - the set anew, a late reply and the answer
-- - the lookups
-- - the start, the lookup behind it, a late reply and the answer
abbrev pub eventful_answers : List MainAnswer
eventful_answers =
    Main.put 25 ∷ hears 3 nothing true ∷ Main.put 25
    ∷ Main.done ∷ Main.put 21 ∷ hears 37 (status 1 0 1) true ∷ Main.put 21 ∷ hears 21 nothing true ∷ Main.put 21
    ∷ hears 37 (status 0 0 0) true
    ∷ Main.put 25 ∷ hears 22 nothing false ∷ hears 22 (answers_to 5 reply_key_set 1) false
    ∷ Main.put 24 ∷ hears 25 (answers_to 6 reply_key_lookup 4) false ∷ Main.put 24
    ∷ Main.done ∷ Main.put 24 ∷ hears 25 nothing false ∷ hears 25 (answers_to 1 reply_key_lookup 4) false ∷ []

-- The frames put out before the start: the set twice under 1, the recovery's under 2, 3 and 4, and the set anew under 5.
-- The lookups follow.
abbrev pub frames_before : List Frame
frames_before =
    put 1 set_list ∷ put 1 set_list ∷ put 2 (step_request fetch) ∷ put 3 (step_request acknowledge) ∷ put 4 (step_request fetch)
    ∷ put 5 set_list
    ∷ put 6 get_list ∷ put 7 get_list ∷ []

pub record Eventful (s : BothStarts) : Type 0 where
  pub typed : Each EndCallTyped eventful
  -- The wire is as `WireUnder` says of every number, and the sets of every key are read in order.
  pub wire : (n : ℕ) → Always (WireUnder n) (ends_begun s) eventful
  pub sets : (k : ℕ) → Always (SetsInOrderAfter k) (ends_begun s) eventful
  -- The hypotheses of `set_then_got` hold of the set, with the lookups behind it.
  pub set_done : SetDone 5 some_list (set_there s)
  pub put-out : (ends_after_all (ends_begun s) before_start).log.asked ≡ frames_before
  -- The replies to 1 and 7 that come late are read, and nothing comes of them.
  pub answers : main_answers (ends_begun s) eventful ≡ eventful_answers
  -- Exactly these are handed out as answers.
  pub handed : all_handed (ends_begun s) eventful ≡ was_set 5 ∷ was_got 6 ∷ was_got 1 ∷ []
