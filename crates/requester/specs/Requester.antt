-- What each call does, what a received frame comes to, and what one received byte does, in document 02's words (item 2).
-- Assumes nothing: these are definitions.
use Rattle.std.specs.Prelude.{Bool, true, false, cond, not, ◌&&◌, ◌||◌, List, [], ◌∷◌, ℕ, suc, ◌+◌, leb, ltb, eqb, length}
use Rattle.std.proofs.Math.Option.{Option, none, some}
use Rattle.std.specs.Int.Count.{ones}
use Rattle.octets.specs.Bytes.{number_at, bit}
use Rattle.line.specs.Limits.{longest_data, longest_form}
use Rattle.line.specs.Numbers.{first_version, top_bit, all_ones, status_length, command_reboot, command_power_off, command_boot_failure}
use Rattle.line.specs.Numbers.{reply_decode_failure, reply_status}
use Rattle.line.specs.Message.{Message}
use Rattle.line.specs.Judge.{LineVerdict, failure, good, judge, more_received}
use Rattle.requester.specs.Limits.{last_number}
use Rattle.requester.specs.State.{Request, RecoveryStep, fetch, acknowledge, alert, MainState, main_state, is_some, outstanding}
use Rattle.requester.specs.State.{request_frame}

-- ---- The caller's calls

-- the table's number of a refusal, none where the call is carried out; the bytes put out; the state
pub record MainDone : Type 0 where
  pub refusal : Option ℕ
  pub out : List ℕ
  pub state : MainState

abbrev pub refused_as : ℕ → MainState → MainDone
refused_as n s = record { refusal = some n; out = []; state = s }

abbrev pub done_with : List ℕ → MainState → MainDone
done_with bs s = record { refusal = none; out = bs; state = s }

-- bytes into a room of so many
abbrev pub put_out : ℕ → List ℕ → MainState → MainState → MainDone
put_out room bs before after = cond (ltb room (length bs)) (refused_as 8 before) (done_with bs after)

-- reboot, power off and boot failure never stay outstanding
unfoldable pub stays_out : ℕ → Bool
stays_out command = not (eqb command command_reboot || (eqb command command_power_off || eqb command command_boot_failure))

abbrev pub keep : Request → Option Request
keep q = cond (stays_out q.command) (some q) none

-- a request under the next number; tests 9, 17, 14, 8
unfoldable pub request : ℕ → Request → MainState → MainDone
request room q s =
    cond (ltb longest_data (length q.payload)) (refused_as 9 s)
    (cond (is_some (outstanding s)) (refused_as 17 s)
    (cond (leb last_number s.newest) (refused_as 14 s)
    (put_out room (request_frame (suc s.newest) q) s (main_state (suc s.newest) (keep q) none false s.received))))

-- in a recovery an interrupt adds nothing; else it begins one, whose fetch is to go out under a new number
abbrev pub interrupted_in : Option RecoveryStep → MainState → MainDone
interrupted_in (some t) s = done_with [] s
interrupted_in none s =
    cond (leb last_number s.newest) (refused_as 14 s)
    (done_with [] (main_state (suc s.newest) s.kept (some fetch) true s.received))

unfoldable pub interrupt : MainState → MainDone
interrupt s = interrupted_in s.recovery s

-- the frame of the one outstanding, where it is to go out
abbrev pub sent_of : ℕ → Option Request → MainState → MainDone
sent_of room none s = done_with [] s
sent_of room (some q) s =
    cond s.unsent
    (put_out room (request_frame s.newest q) s (main_state s.newest s.kept s.recovery false s.received))
    (done_with [] s)

unfoldable pub send : ℕ → MainState → MainDone
send room s = sent_of room (outstanding s) s

-- ---- What a frame is to the one outstanding

pub data Heard : Type 0 where
  -- a ground for sending the same bytes again
  ground : Heard
  -- a good reply with another reply sequence
  other : Heard
  answer : Message → Heard

-- the sequence that a reply to this number carries
abbrev pub reply_sequence : ℕ → ℕ
reply_sequence n = n + top_bit

-- a decode failure, whatever its data, with the expected sequence or all ones
abbrev pub fails_decode : ℕ → Message → Bool
fails_decode n m = eqb m.command reply_decode_failure && (eqb m.sequence (reply_sequence n) || eqb m.sequence all_ones)

-- n is the newest number
unfoldable pub hear : ℕ → LineVerdict → Heard
hear n (failure reason sequence) = ground
hear n (good m) =
    cond (not (eqb m.version first_version)) ground
    (cond (ltb m.sequence top_bit) ground
    (cond (fails_decode n m) ground
    (cond (eqb m.sequence (reply_sequence n)) (answer m) other)))

-- ---- What is handed out, and what comes next

pub data Handed : Type 0 where
  nothing : Handed
  answered : Message → Handed
  -- status, options, and how many bits of the status are set
  status : ℕ → ℕ → ℕ → Handed
  -- the answer to a recovery's 0x0a
  alerted : Message → Handed

pub data Next : Type 0 where
  same : Next
  -- the same bytes go out again
  again : Next
  -- a step of the recovery, or the original (no step), goes out under a new number
  anew : Option RecoveryStep → Next
  -- none is outstanding
  idle : Next

pub record HeardOutcome : Type 0 where
  pub handed : Handed
  pub next : Next

abbrev pub heard_outcome : Handed → Next → HeardOutcome
heard_outcome h x = record { handed = h; next = x }

-- the lowest set bit first; bits above 1 are not served; once bits 0 and 1 are clear the original goes out, if any
unfoldable pub serve : Bool → ℕ → Next
serve original n =
    cond (eqb (bit n 0) 1) (anew (some acknowledge))
    (cond (eqb (bit n 1) 1) (anew (some alert))
    (cond original (anew none) idle))

abbrev pub message_status : Message → ℕ
message_status m = number_at 8 m.payload 0

abbrev pub message_options : Message → ℕ
message_options m = number_at 8 m.payload 8

-- an answer to the fetch: 0x06 with 16 bytes, or the fetch is sent again
unfoldable pub fetched : Bool → Message → HeardOutcome
fetched original m =
    cond (eqb m.command reply_status && eqb (length m.payload) status_length)
    (heard_outcome (status (message_status m) (message_options m) (ones (message_status m))) (serve original (message_status m)))
    (heard_outcome nothing again)

-- any answer to a service ends it, and the status is read again; only 0x0a's is handed out
abbrev pub answered_in : Option RecoveryStep → Bool → Message → HeardOutcome
answered_in none original m = heard_outcome (answered m) idle
answered_in (some fetch) original m = fetched original m
answered_in (some acknowledge) original m = heard_outcome nothing (anew (some fetch))
answered_in (some alert) original m = heard_outcome (alerted m) (anew (some fetch))

abbrev pub hear_in : Option RecoveryStep → Bool → Heard → HeardOutcome
hear_in t original ground = heard_outcome nothing again
hear_in t original other = heard_outcome nothing same
hear_in t original (answer m) = answered_in t original m

-- by the recovery's step, and whether a request is kept; with none outstanding, all is dropped
unfoldable pub settle : Option RecoveryStep → Bool → Heard → HeardOutcome
settle none false h = heard_outcome nothing same
settle none true h = hear_in none true h
settle (some t) original h = hear_in (some t) original h

-- ---- The state that comes next

-- the table's number with which a recovery, and any original, ended, none where none did; the state
pub record MainMoved : Type 0 where
  pub ended : Option ℕ
  pub state : MainState

abbrev pub main_moved : Option ℕ → MainState → MainMoved
main_moved e s = record { ended = e; state = s }

abbrev pub idle_state : MainState → MainState
idle_state s = main_state s.newest none none false s.received

-- without a new number, a recovery and any original end with 14
unfoldable pub main_moved_to : Next → MainState → MainMoved
main_moved_to same s = main_moved none s
main_moved_to again s = main_moved none (main_state s.newest s.kept s.recovery true s.received)
main_moved_to (anew t) s =
    cond (leb last_number s.newest) (main_moved (some 14) (idle_state s))
    (main_moved none (main_state (suc s.newest) s.kept t true s.received))
main_moved_to idle s = main_moved none (idle_state s)

-- ---- One received byte

-- what is handed out, the number with which a recovery ended, and the state
pub record MainResult : Type 0 where
  pub handed : Handed
  pub ended : Option ℕ
  pub state : MainState

abbrev pub main_result : Handed → MainMoved → MainResult
main_result h m = record { handed = h; ended = m.ended; state = m.state }

abbrev pub dropped : MainState → MainResult
dropped s = main_result nothing (main_moved none s)

abbrev pub after_heard : Heard → MainState → MainResult
after_heard h s = let o = settle s.recovery (is_some s.kept) h in main_result o.handed (main_moved_to o.next s)

abbrev pub main_with_received : MainState → Option (List ℕ) → MainState
main_with_received s bs = main_state s.newest s.kept s.recovery s.unsent bs

-- the 00 behind these bytes: an empty frame is ignored, and so is what is left of one of more than 4,140 bytes
abbrev pub main_closed : Option (List ℕ) → MainState → MainResult
main_closed none s = dropped s
main_closed (some []) s = dropped s
main_closed (some (b ∷ bs)) s = after_heard (hear s.newest (judge (b ∷ bs))) s

-- whether a byte more is a frame's 4,141st
abbrev pub fills : Option (List ℕ) → Bool
fills none = false
fills (some bs) = leb longest_form (length bs)

-- one byte more; the 4,141st without a 00 is a ground
abbrev pub main_more : Option (List ℕ) → ℕ → MainState → MainResult
main_more received b s =
    let x = main_with_received s (more_received received b) in
    cond (fills received) (after_heard ground x) (dropped x)

unfoldable pub main_byte : MainState → ℕ → MainResult
main_byte s b = cond (eqb b 0) (main_closed s.received (main_with_received s (some []))) (main_more s.received b s)

-- ---- A piece of the received stream

-- whether a byte is a 00, or the 4,141st of its frame
abbrev pub stops : MainState → ℕ → Bool
stops s b = eqb b 0 || fills s.received

-- how many bytes are read, and what comes of them
pub record MainReceived : Type 0 where
  pub used : ℕ
  pub result : MainResult

abbrev pub main_received : ℕ → MainResult → MainReceived
main_received n r = record { used = n; result = r }

-- up to and with the first 00 or a frame's 4,141st byte, or to the end
unfoldable pub receive : MainState → List ℕ → MainReceived
receive s [] = main_received 0 (dropped s)
receive s (b ∷ bs) =
    cond (stops s b) (main_received 1 (main_byte s b))
    (let r = receive (main_byte s b).state bs in main_received (suc r.used) r.result)

-- whether the frame of the one outstanding is to go out
abbrev pub to_go_out : MainState → Bool
to_go_out s = is_some (outstanding s) && s.unsent
