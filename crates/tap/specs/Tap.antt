-- The machine that goes through what happens on the wire: which replies are judged, and what is listed of each frame.
-- Assumes nothing: these are definitions.
use Rattle.std.specs.Prelude.{Bool, true, false, cond, not, ◌&&◌, List, [], ◌∷◌, ◌++◌, ℕ, ◌-◌, leb, eqb, length, drop}
use Rattle.std.proofs.Math.Option.{Option, none, some}
use Rattle.line.specs.Numbers.{top_bit, reply_decode_failure}
use Rattle.line.specs.Message.{Message}
use Rattle.line.specs.Judge as Line
use Rattle.line.specs.Judge.{judge_received}
use Rattle.responder.specs.Commands.{Command, command_of_number}
use Rattle.responder.specs.Requests.{Verdict, failure, good, verdict_since}
use Rattle.tap.specs.Capture.{Mark, started, restored, missed, Tick, Happening, asked, answered, mark, none_unended, happenings}
use Rattle.tap.specs.Earned.{earned, Numbers, no_numbers, remember, may_hold, older_than_newest}
use Rattle.tap.specs.Known.{Known, key_known, with_key, with_first, with_copy, known_at_start, known_nothing, known_restored}
use Rattle.tap.specs.Known.{known_after, result_due, after_set_answer, is_taken_set, slot_of}
use Rattle.tap.specs.Accused.{Accusation, nobody_asked, reply_accused, result_told, value_told, first_held, key_asked}

-- ---- The state

-- a frame towards the supervisor that is not empty: the table's verdict, and of a set the result that the table gives
pub record Newest : Type 0 where
  pub verdict : Verdict
  pub due : Option ℕ

pub record Tap : Type 0 where
  -- the first frame towards the supervisor is no frame
  pub awaiting : Bool
  -- so many 00s from the supervisor end what is not judged
  pub unsure : ℕ
  -- the numbers of the frames behind the one that a judged reply last answered
  pub fresh : Numbers
  -- the newest frame that is not empty, where no mark fell since its 00
  pub newest : Option Newest
  pub known : Known

-- behind missed bytes, and where a capture does not begin with a start
abbrev pub tap_unsure : Tap
tap_unsure = record { awaiting = true; unsure = 3; fresh = no_numbers; newest = none; known = known_nothing }

abbrev pub tap_started : Tap
tap_started = record { awaiting = false; unsure = 0; fresh = no_numbers; newest = none; known = known_at_start }

-- a pending reply outlasts a restore, so that the numbers stay
unfoldable pub tap_marked : Mark → Tap → Tap
tap_marked started t = tap_started
tap_marked missed t = tap_unsure
tap_marked restored t = record {
  awaiting = t.awaiting;
  unsure = t.unsure;
  fresh = t.fresh;
  newest = none;
  known = known_restored t.known;
}

-- ---- A frame towards the supervisor

-- the result that the table gives of its data as a set; it counts for a set alone
abbrev pub due_of : Known → Verdict → Option ℕ
due_of k (failure reason version sequence) = none
due_of k (good m) = result_due k m.payload

unfoldable pub tap_asked : Tap → Verdict → Tap
tap_asked t v = record {
  awaiting = false;
  unsure = t.unsure;
  fresh = remember (earned v) t.fresh;
  newest = some (record { verdict = v; due = due_of t.known v });
  known = known_after t.known v;
}

abbrev pub tap_no_longer_awaiting : Tap → Tap
tap_no_longer_awaiting t = record {
  awaiting = false;
  unsure = t.unsure;
  fresh = t.fresh;
  newest = t.newest;
  known = t.known;
}

-- ---- A frame from it

-- one 00 more from the supervisor; it counts behind the first frame towards it
abbrev pub tap_heard : Tap → Tap
tap_heard t = record {
  awaiting = t.awaiting;
  unsure = cond t.awaiting t.unsure (t.unsure - 1);
  fresh = t.fresh;
  newest = t.newest;
  known = t.known;
}

-- A good frame is judged where it is sure and quiet, has the number that the newest frame earns, and no other frame earned that number
-- behind the one that a judged reply last answered.
abbrev pub answers : Tap → Message → Newest → Bool
answers t r w = eqb r.sequence (earned w.verdict) && not (may_hold (older_than_newest t.fresh) r.sequence)

abbrev pub judged_by : Tap → Message → Option Newest → Option Newest
judged_by t r none = none
judged_by t r (some w) = cond (answers t r w) (some w) none

unfoldable pub judged : Tap → Bool → Message → Option Newest
judged t quiet r = cond (quiet && eqb t.unsure 0) (judged_by t r t.newest) none

-- what a judged reply tells: a first answer is kept, a set's answer counts, an alert's reply is kept
abbrev pub first_told : Option (List ℕ) → Option ℕ → List ℕ → Known → Known
first_told none (some slot) bs k = with_first k slot bs
first_told none none bs k = k
first_told (some cs) slot bs k = k

abbrev pub set_told : Message → Message → Known → Known
set_told m r k =
    let key = key_asked m in
    cond (is_taken_set key (length (drop 1 m.payload))) (with_key k key (after_set_answer (result_told r) (key_known k key))) k

abbrev pub copy_told : Message → Message → Known → Known
copy_told m r k = with_copy k (some (record { sequence = m.sequence; version = r.version; payload = r.payload }))

unfoldable pub told_by : Option Command → Message → Message → Known → Known
told_by (some Command.bsu) m r k = first_told (first_held k (slot_of m)) (slot_of m) r.payload k
told_by (some Command.identity) m r k = first_told (first_held k (slot_of m)) (slot_of m) r.payload k
told_by (some Command.mac) m r k = first_told (first_held k (slot_of m)) (slot_of m) r.payload k
told_by (some Command.inventory) m r k = first_told (first_held k (slot_of m)) (slot_of m) r.payload k
told_by (some Command.key_lookup) m r k =
    cond (eqb (result_told r) 0) (first_told (first_held k (slot_of m)) (slot_of m) (value_told r) k) k
told_by (some Command.key_set) m r k = set_told m r k
told_by (some Command.alert) m r k = copy_told m r k
told_by (some Command.reboot) m r k = k
told_by (some Command.power-off) m r k = k
told_by (some Command.boot-failure) m r k = k
told_by (some Command.panic) m r k = k
told_by (some Command.status) m r k = k
told_by (some Command.start-acknowledged) m r k = k
told_by (some Command.image_block) m r k = k
told_by none m r k = k

abbrev pub told : Verdict → Message → Known → Known
told (failure reason version sequence) r k = k
told (good m) r k = told_by (command_of_number m.command) m r k

-- a decode failure of a valid request is accused, and then nothing is known
abbrev pub fails_good : Verdict → Message → Bool
fails_good (failure reason version sequence) r = false
fails_good (good m) r = eqb r.command reply_decode_failure

-- the frame is answered; only a reply that is accused of nothing tells
unfoldable pub tap_judged : Tap → Newest → Message → List Accusation → Tap
tap_judged t w r (a ∷ more) = cond (fails_good w.verdict r) tap_unsure (record {
  awaiting = t.awaiting;
  unsure = t.unsure;
  fresh = no_numbers;
  newest = none;
  known = t.known;
})
tap_judged t w r [] = record {
  awaiting = t.awaiting;
  unsure = t.unsure;
  fresh = no_numbers;
  newest = none;
  known = told w.verdict r t.known;
}

-- ---- What is listed

pub data Listed : Type 0 where
  -- a frame towards the supervisor, by the table's verdict; one of which only the end was seen
  request : Verdict → Listed
  part : Listed
  -- a frame from it, by the line layer's verdict; the frame that a judged one answers, and what it is accused of
  reply : Line.LineVerdict → Option Newest → List Accusation → Listed
  fell : Mark → Listed

pub record Noted : Type 0 where
  pub tap : Tap
  pub listed : List Listed

abbrev pub heard : Tap → List Listed → Noted
heard t xs = record { tap = t; listed = xs }

abbrev pub heard_asked : Tap → Option Verdict → Noted
heard_asked t none = heard t []
heard_asked t (some v) = heard (tap_asked t v) (request v ∷ [])

-- Nobody asked: no frame behind the one that a judged reply last answered can have earned its number, and no mark fell since its first
-- byte. A number without the top bit is earned by none.
abbrev pub is_asked : Tap → Message → Bool
is_asked t r = leb top_bit r.sequence && may_hold t.fresh r.sequence

abbrev pub unjudged_accused : Tap → Bool → Message → List Accusation
unjudged_accused t unmarked r = cond (unmarked && (eqb t.unsure 0 && not (is_asked t r))) (nobody_asked ∷ []) []

abbrev pub heard_judged : Tap → Bool → Message → Option Newest → Noted
heard_judged t unmarked r none =
    heard (tap_heard t) (reply (Line.good r) none (unjudged_accused t unmarked r) ∷ [])
heard_judged t unmarked r (some w) =
    let accused = reply_accused t.known w.verdict w.due r in
    heard (tap_judged (tap_heard t) w r accused) (reply (Line.good r) (some w) accused ∷ [])

abbrev pub heard_answered : Tap → Bool → Bool → Option Line.LineVerdict → Noted
heard_answered t quiet unmarked none = heard (tap_heard t) []
heard_answered t quiet unmarked (some (Line.failure reason sequence)) =
    heard (tap_heard t) (reply (Line.failure reason sequence) none [] ∷ [])
heard_answered t quiet unmarked (some (Line.good r)) = heard_judged t unmarked r (judged t quiet r)

unfoldable pub hearing : Tap → Happening → Noted
hearing t (asked bs) = cond t.awaiting (heard (tap_no_longer_awaiting t) (part ∷ [])) (heard_asked t (verdict_since bs))
hearing t (answered bs quiet unmarked) = heard_answered t quiet unmarked (judge_received bs)
hearing t (mark m) = heard (tap_marked m t) (fell m ∷ [])

-- what is listed of all that happens
unfoldable pub listing_of : Tap → List Happening → List Listed
listing_of t [] = []
listing_of t (h ∷ hs) = let x = hearing t h in x.listed ++ listing_of x.tap hs

-- what is listed of a capture
unfoldable pub tap_listing : List Tick → List Listed
tap_listing ts = listing_of tap_unsure (happenings none_unended ts)
