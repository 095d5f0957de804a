-- Calls of a supervisor some of which are lent a counter block, and the frames whose 00 they received.
-- Assumes nothing: these are definitions.
use Rattle.std.specs.Prelude.{cond, List, [], ◌∷◌, ◌++◌, ℕ, length, drop}
use Rattle.std.proofs.Math.Option.{Option, none, some}
use Rattle.line.specs.Frame.{split, closed_behind}
use Rattle.supervisor.specs.Calls.{Parts}
use Rattle.counters.specs.declared.Counters.{Counters}
use Rattle.counters.specs.Ended.{Ended}
use Rattle.counters.specs.Count.{cleared_counters, bumped_for}
use Rattle.responder.specs.Requests.{verdict}
use Rattle.responder.specs.Receive.{ended_by_verdict, receive_promise, step_promise}
use Rattle.responder.specs.Counting.{count_promise}
use Rattle.supervisor_claims.specs.LocalCalls.{IsRefusal}
use Rattle.supervisor_claims.specs.Histories
use Rattle.supervisor_claims.specs.Histories.{Call, Did, did_by, refusal, step_answer, did, lent_of, given_back, Made, made, Output}
use Rattle.supervisor_claims.specs.Histories.{Typed}
use Rattle.supervisor_claims.specs.FrameHistory.{bytes_received_by, starts_anew, received_since}
use Rattle.supervisor_claims.specs.MixedCalls
use Rattle.supervisor_claims.specs.MixedCalls.{MixedCall, TypedMixed, DidMixed, did_mixed, made_mixed, MixedOutput, mixed_since}

-- ---- A call that is lent a block

-- what it answers, writes and leaves, and the block
pub record DidCounted : Type 0 where
  pub did : Did
  pub block : Counters

-- by the promise of `receive_tallied`, and by those of `step` and of `bump` for how it ended; any other call takes no block
unfoldable pub did_counted : Counters → Parts → Call → DidCounted
did_counted c p (Histories.start d) = record { did = did p (Histories.start d); block = c }
did_counted c p (Histories.receive image piece) =
    let r = receive_promise image p piece in record { did = did_by (refusal r.refusal) [] r.parts; block = count_promise c p piece }
did_counted c p (Histories.step image piece) =
    let r = step_promise image p piece in
    record { did = did_by (step_answer r.used r.ended r.served) [] r.parts; block = bumped_for c r.ended }
did_counted c p (Histories.local k) = record { did = did p (Histories.local k); block = c }

-- lent some of the parts' bytes
unfoldable pub made_counted : Counters → Parts → Made → DidCounted
made_counted c p m =
    let d = did_counted c (lent_of m.lent p) m.call in
    record { did = did_by d.did.answer d.did.out (given_back m.lent p d.did.parts); block = d.block }

-- ---- Lists of calls, each lent any block or none, whatever it holds

pub record Lending : Type 0 where
  pub call : Made
  pub block : Option Counters

abbrev pub did_lending : Parts → Made → Option Counters → Did
did_lending p m none = made p m
did_lending p m (some c) = (made_counted c p m).did

unfoldable pub outputs_lending : Parts → List Lending → List Output
outputs_lending p [] = []
outputs_lending p (x ∷ xs) =
    let d = did_lending p x.call x.block in record { answer = d.answer; out = d.out } ∷ outputs_lending d.parts xs

-- the block that a call leaves, where it is lent one, and those that a list leaves
abbrev pub block_by : Parts → Made → Option Counters → Option Counters
block_by p m none = none
block_by p m (some c) = some (made_counted c p m).block

unfoldable pub blocks_lending : Parts → List Lending → List (Option Counters)
blocks_lending p [] = []
blocks_lending p (x ∷ xs) = block_by p x.call x.block ∷ blocks_lending (did_lending p x.call x.block).parts xs

unfoldable pub left_lending : Parts → List Lending → Parts
left_lending p [] = p
left_lending p (x ∷ xs) = left_lending (did_lending p x.call x.block).parts xs

-- the calls without the blocks
unfoldable pub unlent : List Lending → List Made
unlent [] = []
unlent (x ∷ xs) = x.call ∷ unlent xs

-- ---- The same with calls of the line layer among them

pub data MixedLending : Type 0 where
  lends : Lending → MixedLending
  -- a call that is lent no block
  lends_none : MixedCall → MixedLending

abbrev pub call_lent : MixedLending → MixedCall
call_lent (lends x) = MixedCalls.supervisor x.call
call_lent (lends_none c) = c

abbrev pub did_mixed_lending : Parts → MixedLending → DidMixed
did_mixed_lending p (lends x) =
    let d = did_lending p x.call x.block in did_mixed (MixedCalls.MixedAnswer.supervisor d.answer) d.out d.parts
did_mixed_lending p (lends_none c) = made_mixed p c

abbrev pub block_mixed : Parts → MixedLending → Option Counters
block_mixed p (lends x) = block_by p x.call x.block
block_mixed p (lends_none c) = none

unfoldable pub outputs_mixed_lending : Parts → List MixedLending → List MixedOutput
outputs_mixed_lending p [] = []
outputs_mixed_lending p (x ∷ xs) =
    let d = did_mixed_lending p x in (record { answer = d.answer; out = d.out }) ∷ outputs_mixed_lending d.parts xs

unfoldable pub blocks_mixed_lending : Parts → List MixedLending → List (Option Counters)
blocks_mixed_lending p [] = []
blocks_mixed_lending p (x ∷ xs) = block_mixed p x ∷ blocks_mixed_lending (did_mixed_lending p x).parts xs

unfoldable pub left_mixed_lending : Parts → List MixedLending → Parts
left_mixed_lending p [] = p
left_mixed_lending p (x ∷ xs) = left_mixed_lending (did_mixed_lending p x).parts xs

unfoldable pub calls_lent : List MixedLending → List MixedCall
calls_lent [] = []
calls_lent (x ∷ xs) = call_lent x ∷ calls_lent xs

-- ---- A history with one block, which nobody else writes

pub data CountEvent : Type 0 where
  -- a call that is not lent the block, and one that is
  plain : Made → CountEvent
  counted : Made → CountEvent
  -- the block is cleared
  clear : CountEvent

-- the parts and the block
pub record Held : Type 0 where
  pub parts : Parts
  pub block : Counters

unfoldable pub after_event : Held → CountEvent → Held
after_event h (plain m) = record { parts = (made h.parts m).parts; block = h.block }
after_event h (counted m) = let d = made_counted h.block h.parts m in record { parts = d.did.parts; block = d.block }
after_event h clear = record { parts = h.parts; block = cleared_counters }

unfoldable pub after_events : Held → List CountEvent → Held
after_events h [] = h
after_events h (e ∷ es) = after_events (after_event h e) es

-- the calls of a history
unfoldable pub calls_of_events : List CountEvent → List Made
calls_of_events [] = []
calls_of_events (plain m ∷ es) = m ∷ calls_of_events es
calls_of_events (counted m ∷ es) = m ∷ calls_of_events es
calls_of_events (clear ∷ es) = calls_of_events es

-- calls that are all lent the block
unfoldable pub all_counted : List Made → List CountEvent
all_counted [] = []
all_counted (m ∷ ms) = counted m ∷ all_counted ms

-- ---- Calls that are refused

-- a call that is refused, lent the block or not, or another clear of it
abbrev pub RefusedEvent : Held → CountEvent → Type 0
RefusedEvent h (plain m) = IsRefusal (made h.parts m).answer
RefusedEvent h (counted m) = IsRefusal (made h.parts m).answer
RefusedEvent h clear = Unit {0}

-- one after the other, each on what those before it left
abbrev pub AllRefusedEvents : Held → List CountEvent → Type 0
AllRefusedEvents h [] = Unit {0}
AllRefusedEvents h (e ∷ es) = RefusedEvent h e × AllRefusedEvents (after_event h e) es

-- ---- Calls of the line layer among them

-- a call of the supervisor that is lent the block, or a call of either that is not
pub data MixedEvent : Type 0 where
  lent_block : Made → MixedEvent
  without_block : MixedCall → MixedEvent

unfoldable pub after_mixed_events : Held → List MixedEvent → Held
after_mixed_events h [] = h
after_mixed_events h (lent_block m ∷ es) = after_mixed_events (after_event h (counted m)) es
after_mixed_events h (without_block c ∷ es) = after_mixed_events (record { parts = (made_mixed h.parts c).parts; block = h.block }) es

abbrev pub TypedEvent : MixedEvent → Type 0
TypedEvent (lent_block m) = Typed m.call
TypedEvent (without_block c) = TypedMixed c

-- the frames whose 00 the calls brought that are lent the block, where the bytes w came before
unfoldable pub frames_counted : List ℕ → List MixedEvent → List (List ℕ)
frames_counted w [] = []
frames_counted w (lent_block m ∷ es) = closed_behind w (bytes_received_by m) ++ frames_counted (received_since w m) es
frames_counted w (without_block c ∷ es) = frames_counted (mixed_since w c) es

-- ---- The frames

-- the bytes received between two accepted starts, joined, one stretch after the other; w came before in the first
unfoldable pub stretches : List ℕ → List Made → List (List ℕ)
stretches w [] = w ∷ []
stretches w (m ∷ ms) = cond (starts_anew m) (w ∷ stretches [] ms) (stretches (w ++ bytes_received_by m) ms)

-- the frames of each stretch, in order: what stands behind a stretch's last 00 is no frame
unfoldable pub frames_of_stretches : List (List ℕ) → List (List ℕ)
frames_of_stretches [] = []
frames_of_stretches (w ∷ ws) = (split w).closed ++ frames_of_stretches ws

-- those whose 00 the calls received: all but those that were closed in w
unfoldable pub frames_since : List ℕ → List Made → List (List ℕ)
frames_since w ms = drop (length (split w).closed) (frames_of_stretches (stretches w ms))

-- How a frame ended, by the bytes before its 00.
-- It is an empty one, a request that the whole table passes, or a failure by the table's reason.
unfoldable pub ended_by_frame : List ℕ → Ended
ended_by_frame [] = Ended.empty
ended_by_frame (b ∷ bs) = ended_by_verdict (verdict (b ∷ bs))

-- how each ended
unfoldable pub ended_all : List (List ℕ) → List Ended
ended_all [] = []
ended_all (f ∷ fs) = ended_by_frame f ∷ ended_all fs
