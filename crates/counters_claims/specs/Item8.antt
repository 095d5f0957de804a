-- Document 02's item 8: each counter is the number of such frames since the block was cleared, and nothing else depends on a block.
-- Assumes nothing: these are definitions and statements.
use Rattle.std.specs.Prelude.{◌≡◌, Bool, List, [], ◌∷◌, ◌++◌, ℕ, ◌+◌, ◌<◌, length, drop}
use Rattle.octets.specs.Bytes.{Each, Byte}
use Rattle.line.specs.Limits.{longest_form}
use Rattle.line.specs.Reader.{ahead_of00}
use Rattle.line_claims.specs.Loans.{Loan}
use Rattle.supervisor.specs.Calls.{Parts}
use Rattle.counters.specs.declared.Counters.{Counters}
use Rattle.counters.specs.Ended.{Ended}
use Rattle.counters.specs.Count.{cleared_counters, bumped_for_all, is_good, is_empty, is_reason, how_many, tally_of}
use Rattle.supervisor_claims.specs.Sound.{Bytes}
use Rattle.supervisor_claims.specs.Histories.{done, Lent, Made, made, AllTyped, receive_with, start_with, OfStart}
use Rattle.supervisor_claims.specs.FrameHistory.{received_since_all}
use Rattle.supervisor_claims.specs.MixedCalls.{line_collect, Says12, made_mixed}
use Rattle.counters_claims.specs.CountHistory.{made_counted, Lending, outputs_lending, left_lending, unlent, ended_by_frame}
use Rattle.counters_claims.specs.CountHistory.{CountEvent, plain, clear, after_events, calls_of_events, all_counted, frames_since}
use Rattle.counters_claims.specs.CountHistory.{AllRefusedEvents, MixedEvent, after_mixed_events, TypedEvent, frames_counted, ended_all}

-- a number for each of the nine kinds of frames that a block counts, all together
abbrev pub nine : ((Ended → Bool) → ℕ) → ℕ
nine n =
    n is_good + (n is_empty
    + (n (is_reason 1) +
    (n (is_reason 2) + (n (is_reason 3) + (n (is_reason 4) + (n (is_reason 5) + (n (is_reason 6) + n (is_reason 7))))))))

abbrev pub CountersCount : Parts → Lent → List ℕ → Type 0
CountersCount p l d = (block : Counters) (before : List CountEvent) → AllTyped (calls_of_events before) → (ms : List Made) → AllTyped ms
    → (after_events (record { parts = (made p (start_with l d)).parts; block = block }) (before ++ clear ∷ all_counted ms)).block
    ≡ tally_of (ended_all (frames_since (received_since_all [] (calls_of_events before)) ms))

abbrev pub CountersFromStart : Parts → Lent → List ℕ → Type 0
CountersFromStart p l d =
    (block : Counters) (between : List CountEvent) → AllRefusedEvents (record { parts = p; block = cleared_counters }) between
    → (ms : List Made) → AllTyped ms
    → (after_events (record { parts = p; block = block }) (clear ∷ (between ++ plain (start_with l d) ∷ all_counted ms))).block
    ≡ tally_of (ended_all (frames_since [] ms))

abbrev pub MixedCount : Parts → Lent → List ℕ → Type 0
MixedCount p l d = (block : Counters) (es : List MixedEvent) → Each TypedEvent es
    → (after_mixed_events (record { parts = (made p (start_with l d)).parts; block = block }) es).block
    ≡ bumped_for_all block (ended_all (frames_counted [] es))

abbrev pub OverlongOnce : Type 0
OverlongOnce = (f : List ℕ) → longest_form < length f → ended_by_frame f ≡ Ended.failed 1

abbrev pub EachCountedOnce : Type 0
EachCountedOnce = (fs : List (List ℕ)) → nine (λ counts. how_many counts (ended_all fs)) ≡ length fs

abbrev pub BlocksAlone : Type 0
BlocksAlone = (p : Parts) (xs ys : List Lending) → unlent xs ≡ unlent ys
    → (outputs_lending p xs ≡ outputs_lending p ys) × (left_lending p xs ≡ left_lending p ys)

abbrev pub CollectThenReceiveCounted : Type 0
CollectThenReceiveCounted = (block : Counters) (p : Parts) → Bytes p → (l : Lent) (k : Loan) (image piece : List ℕ)
    → Each Byte image → Each Byte piece
    → let w = made_counted block p (receive_with image l piece) in
    let c = made_mixed p (line_collect k piece) in
    w.did.answer ≡ done → (Says12 c.answer → ⊥)
    → made_counted block c.parts (receive_with image l (drop (length (ahead_of00 piece)) piece)) ≡ w

pub record CountersItem8 : Type 0 where
  -- After an accepted start come any calls, lent the block or not, and clears of it.
  -- A clear follows, and then any calls, lent the block wherever they take one.
  -- Each counter is the number of such frames whose 00 was received since that clear, or 4,294,967,295 where that is more (`tally_of`).
  -- What had come of a frame before the clear counts with it; what a start drops does not (`frames_since`).
  pub counters_count : OfStart CountersCount
  -- The same where the block is cleared ahead of that start, with any calls between that are refused, lent the block or not.
  -- They change nothing and count nothing.
  pub counters_from_start : OfStart CountersFromStart
  -- With the line layer's own calls among them: exactly the frames count whose 00 a call brought that is lent the block.
  -- A frame whose 00 a line read brings counts nowhere.
  pub mixed_count : OfStart MixedCount
  -- a frame of more bytes than a form has counts as reason 1
  pub overlong_once : OverlongOnce
  -- every frame is counted, in one counter: the numbers of the nine kinds of frames come to the number of all
  pub each_counted_once : EachCountedOnce
  -- Two lists of calls on the same parts differ only in the blocks lent, any or none and whatever they hold.
  -- Then they give the same answers, write outside the state or hand out the same bytes, and leave the same parts.
  pub blocks_alone : BlocksAlone
  -- A piece's bytes ahead of its first 00 are collected, and then what is left of the piece is received with the block lent.
  -- On any parts where neither the collect nor a receive of the whole piece is refused, this is receiving the whole piece so.
  -- It gives the same answer, the same bytes in every part, and the same block.
  pub collect_then_receive_counted : CollectThenReceiveCounted
