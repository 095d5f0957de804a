-- Document 02's item 2, the main processor's end. What one call means is in crates/requester/specs (Requester, State).
-- Assumes nothing: these are definitions and statements.
use Rattle.std.specs.Prelude.{◌≡◌, true, false, cond, not, ◌&&◌, List, [], ◌∷◌, ◌↔◌, ℕ, suc, ◌+◌, ◌≤◌, leb, ltb, length}
use Rattle.std.proofs.Math.Option.{Option, none, some}
use Rattle.octets.specs.Bytes.{Each}
use Rattle.line.specs.Limits.{longest_data}
use Rattle.octets.specs.TableTests.{TableTest, table_test, first_failing}
use Rattle.requester.specs.Limits.{last_number}
use Rattle.requester.specs.State.{Request, MainState, main_fresh, is_some, outstanding, request_frame}
use Rattle.requester.specs.Valid.{valid_requester}
use Rattle.requester.specs.Calls
use Rattle.requester.specs.Calls.{MainParts, MainPartsValid, MainLongEnough}
use Rattle.requester_claims.specs.View.{kept_request_of, main_view}
use Rattle.requester_claims.specs.Histories
use Rattle.requester_claims.specs.Histories.{MainCall, refused, done, main_did_by, main_did, MainLent, main_enough, MainMade}
use Rattle.requester_claims.specs.Histories.{main_untouched, main_made}
use Rattle.requester_claims.specs.Histories.{main_outputs, main_left, main_outputs_meant, main_left_meant}
use Rattle.requester_claims.specs.Histories.{MainLengths, Accepted, main_started, OfMainStart, OfReached, OfValid}
use Rattle.requester_claims.specs.Cuts.{MainRead, listening, after_main_reads, Stretch, stretch_outputs, left_by_stretches, SameBytes}
use Rattle.requester_claims.specs.Numbers.{frames, Between, OnePerNumber, OneAbove, RequestFrame, InNumbers}
use Rattle.requester_claims.specs.Answers.{AllMatch, answers_counted, requests_counted, kept_number}

-- calls on q do what document 02 has of the same calls on the state s, and leave valid parts, as long as p's
abbrev pub MainFollow : MainParts → MainParts → MainState → List MainMade → Type 0
MainFollow p q s ms = (main_outputs q ms ≡ main_outputs_meant s ms) × (main_view (main_left q ms) ≡ main_left_meant s ms)
    × MainPartsValid (main_left q ms) × MainLengths p (main_left q ms)

abbrev pub MainCallsMeant : Type 0
MainCallsMeant = (p : MainParts) (l : MainLent) → Accepted p l → (ms : List MainMade) → MainFollow p (main_started p l) main_fresh ms

abbrev pub MainNo12 : MainParts → Type 0
MainNo12 p = (m : MainMade) → main_enough m.call m.lent ≡ true → (main_made p m).answer ≡ refused 12 → ⊥

-- 12 of a call that takes the main processor's part alone
abbrev pub part_test : MainParts → TableTest
part_test p = table_test 12 (not (valid_requester p.requester))

-- the bytes that a send is to put out
abbrev pub frame_out : ℕ → Option Request → List ℕ
frame_out n none = []
frame_out n (some q) = request_frame n q

abbrev pub to_put_out : MainState → List ℕ
to_put_out s = cond s.unsent (frame_out s.newest (outstanding s)) []

-- the tests of a call on any parts whatever, in document 02's order: 12, 9, 17, 14, 8; a start tests the lengths alone
unfoldable pub main_tests : MainParts → MainCall → List TableTest
main_tests p Histories.start = table_test 12 (not (Calls.main_long_enough p)) ∷ []
main_tests p (Histories.request command d room) =
    part_test p
    ∷ table_test 9 (ltb longest_data (length d))
    ∷ table_test 17 (is_some (outstanding (main_view p)))
    ∷ table_test 14 (leb last_number (main_view p).newest)
    ∷ table_test 8 (ltb (length room) (length (request_frame (suc (main_view p).newest) (record { command = command; payload = d }))))
    ∷ []
main_tests p Histories.interrupt =
    part_test p ∷ table_test 14 (not (is_some (main_view p).recovery) && leb last_number (main_view p).newest) ∷ []
main_tests p (Histories.send room) = part_test p ∷ table_test 8 (ltb (length room) (length (to_put_out (main_view p)))) ∷ []
main_tests p (Histories.receive piece) = table_test 12 (not (Calls.main_valid_parts p)) ∷ []
main_tests p Histories.state = part_test p ∷ []

abbrev pub MainRefusedExactly : Type 0
MainRefusedExactly =
    (p : MainParts) (c : MainCall) (n : ℕ) → ((main_did p c).answer ≡ refused n) ↔ (first_failing (main_tests p c) ≡ some n)

abbrev pub MainStartAccepted : Type 0
MainStartAccepted = (p : MainParts) → ((main_did p Histories.start).answer ≡ done) ↔ MainLongEnough p

abbrev pub MainRefusedHolds : Type 0
MainRefusedHolds = (p : MainParts) (c : MainCall) (n : ℕ) → (main_did p c).answer ≡ refused n
    → ((main_did p c).parts ≡ p) × ((main_did p c).out ≡ main_untouched c)

abbrev pub MainRefusedMade : Type 0
MainRefusedMade = (p : MainParts) (m : MainMade) (n : ℕ) → (main_made p m).answer ≡ refused n
    → ((main_made p m).parts ≡ p) × ((main_made p m).out ≡ main_untouched m.call)

abbrev pub StateHolds : Type 0
StateHolds = (l : MainLent) (p : MainParts) → (main_made p (record { lent = l; call = Histories.state })).parts ≡ p

abbrev pub TooLittle : Type 0
TooLittle = (l : MainLent) (p : MainParts) (c : MainCall) → main_enough c l ≡ false
    → main_made p (record { lent = l; call = c }) ≡ main_did_by (refused 12) (main_untouched c) p

abbrev pub MainWholeParts : Type 0
MainWholeParts = (l : MainLent) (p : MainParts) → MainLongEnough p → (c : MainCall) → main_enough c l ≡ true
    → main_made p (record { lent = l; call = c }) ≡ main_did p c

abbrev pub MainCut : MainParts → Type 0
MainCut p = (cs ds : List MainRead)
    → let x = listening p in (after_main_reads x cs).bytes ≡ (after_main_reads x ds).bytes → after_main_reads x cs ≡ after_main_reads x ds

abbrev pub CutBetween : MainParts → Type 0
CutBetween p = (ss ts : List Stretch) → SameBytes p ss ts
    → (stretch_outputs p ss ≡ stretch_outputs p ts) × (left_by_stretches p ss ≡ left_by_stretches p ts)

abbrev pub OneNumber : MainParts → Type 0
OneNumber p = (ms : List MainMade) → Between ms → OnePerNumber (frames p ms) × Each RequestFrame (frames p ms) × OneAbove p ms

abbrev pub NumbersInRange : MainParts → Type 0
NumbersInRange p = (ms : List MainMade) → Each InNumbers (frames p ms)

abbrev pub AnswerMatches : MainParts → Type 0
AnswerMatches p = (ms : List MainMade) → AllMatch p ms

abbrev pub AnswersCounted : MainParts → Type 0
AnswersCounted p = (ms : List MainMade)
    → answers_counted p ms + kept_number (kept_request_of (main_left p ms).requester)
    ≤ requests_counted p ms + kept_number (kept_request_of p.requester)

abbrev pub OneAnswerEach : MainParts → Type 0
OneAnswerEach p = (ms : List MainMade) → answers_counted p ms ≤ requests_counted p ms

pub record MainItem2 : Type 0 where
  -- The whole item: an accepted start on any bytes, then any calls, each lent any run of each part.
  -- Every answer, all that is written or handed out, and the state left are those of the item's meaning.
  -- The parts stay valid and as long as they were.
  pub history : MainCallsMeant
  -- Tests run 12, 9, 17, 14, 8. Every call on any parts whatever: 12 exactly where a part that it takes is too short or not valid.
  -- Then 9, 17, 14 and 8 exactly where due, and no other number.
  pub main_refused_exactly : MainRefusedExactly
  -- a start is accepted exactly where both parts have their published lengths, whatever they hold
  pub main_start_accepted : MainStartAccepted
  -- no call that is lent enough of what they left is refused as 12
  pub no_12 : OfReached MainNo12
  -- a refused call changes nothing, on any parts at all
  pub refused_holds : MainRefusedHolds
  -- and whatever of them is lent
  pub refused_made : MainRefusedMade
  -- a call that tells what is outstanding changes nothing, on any parts, whatever of them is lent
  pub state_holds : StateHolds
  -- too little lent of a part that the call takes is 12, on any parts
  pub too_little : TooLittle
  -- enough lent of each such part does what the whole parts do
  pub whole : MainWholeParts
  -- Replies are read in pieces: receives that read the same bytes hand out the same, in order, whatever each is lent.
  -- They leave the same bytes in both parts.
  pub cut : OfValid MainCut
  -- so do they between the same other calls, which answer and write the same
  pub cut_between : OfValid CutBetween
  -- and from a start on
  pub cut_between_started : OfMainStart CutBetween
  -- Resend the same bytes: between two accepted starts, frames under one number are the same bytes.
  -- Each is a request's frame under its number, numbers never fall, and each call takes none or the one above the last.
  pub one_number : OfValid OneNumber
  -- so behind a start and any calls
  pub one_number_started : OfReached OneNumber
  -- sequences run from 1 to 0x7ffffffffffffffe: every frame that calls on valid parts put out has such a number
  pub numbers_in_range : OfValid NumbersInRange
  -- An answer, or an alert's answer, that is handed out has version 1 and a command other than 0x02.
  -- Its sequence is the reply sequence of the newest number.
  -- A status has the form of such a message: 0x06 with 16 bytes, these two numbers. That one came so, `answer_bytes` says.
  pub answer_matches : OfValid AnswerMatches
  -- so from a start on
  pub answer_matches_started : OfMainStart AnswerMatches
  -- One is outstanding, and answered once:
  -- answers handed out and requests still kept are at most requests that stay outstanding and those kept at first.
  pub answers-counted : OfValid AnswersCounted
  -- from a start on, no more answers than requests that stay outstanding
  pub one_answer_each : OfMainStart OneAnswerEach
