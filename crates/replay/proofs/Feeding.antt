-- Laws of feeding: bytes one after the other, those that are read while there is room, and what is kept of their output.
-- Assumes nothing.
use Rattle.std.specs.Prelude.{Result, ⊤}
use Rattle.std.specs.Result.{result_unwrap_or}
use mathlib.Core.Path.{◌≡◌, refl, sym, ap, ◌∙◌}
use mathlib.Core.List.{List, [], ◌∷◌, ◌++◌, append_assoc, append-nil}
use Prim.Native.Nat.{ℕ, suc, ◌+◌, ◌-◌, ◌≤◌, ◌<◌}
use native.Mathlib.Nat.{add-zero, zero-add}
use native.Mathlib.Numerals.{add-one}
use native.Mathlib.Omega.{arith}
use borrow.Author.Tests.{lt-ltb, le-ltb, ltb-false}
use borrow.Rule.Slice.PartMut.{put_mid, mid_of}
use lib.Dec.{ltb}
use lib.ListN.{length, take, drop, get_or, length-append, length-drop, drop_of_length-le}
use lib.Seq.{take-suc, take-add, drop-cons, take_all}
use Rattle.octets.specs.Bytes.{overlay}
use Rattle.octets.proofs.Overlay.{length-overlay, overlay-none, overlay-next, overlay-inside}
use Rattle.octets.proofs.Conditions.{cond-by}
use Rattle.supervisor.specs.Limits.{most_pending}
use Rattle.line.proofs.Rest.{rest-mid, rest-overlay}
use Rattle.supervisor.specs.Calls.{Parts, parts, take_outcome, take_promise}
use Rattle.responder.specs.Receive.{ReceiveOutcome, receive_outcome, receive_promise}
use Rattle.refusals.specs.declared.Refusal.{Refusal}
use Rattle.responder.specs.Replay.{Replayed, replay_byte, replay_bytes}
use Rattle.replay.specs.Feed.{read_count, FeedOutcome, feed_outcome, feed_promise}
use Rattle.replay.specs.declared.Fed.{Fed}
use Rattle.replay.proofs.Taking.{pending-short, took-so}

-- a replay and then another
abbrev pub joined : Replayed → Replayed → Replayed
joined a b = record { taken = a.taken ++ b.taken; parts = b.parts }

pub replay-append : (p : Parts) (xs ys : List ℕ)
    → replay_bytes [] p (xs ++ ys) ≡ joined (replay_bytes [] p xs) (replay_bytes [] (replay_bytes [] p xs).parts ys)
unfolding replay_bytes
replay-append p [] ys = refl
replay-append p (b ∷ xs) ys = rw (replay-append (replay_byte [] p b).parts xs ys, append_assoc)

replay-one : (p : Parts) (b : ℕ) → replay_bytes [] p (b ∷ []) ≡ replay_byte [] p b
unfolding replay_bytes
replay-one p b = rw append-nil

module _ (bytes : List ℕ) (p : Parts) (i : ℕ) (h : i < length bytes) where
  -- one byte more
  replay-more : let c = replay_bytes [] p (take i bytes) in
      replay_bytes [] p (take (i + 1) bytes) ≡ joined c (replay_byte [] c.parts (get_or bytes i 0))
  replay-more =
      rw (add-one i, take-suc bytes i 0 h, replay-append p (take i bytes) (get_or bytes i 0 ∷ []))
      (ap (joined (replay_bytes [] p (take i bytes))) (replay-one _ _))

taken-short : (p : Parts) (b : ℕ) → length (replay_byte [] p b).taken ≤ most_pending
unfolding replay_byte
taken-short p b = pending-short (receive_promise [] p (b ∷ [])).parts.outbox

-- a byte received, and all that is then pending taken
abbrev pub FedByte : Parts → ℕ → List ℕ → ℕ → Parts → List ℕ → Type 0
FedByte p b room n q room' = record {
  value : n ≡ length (replay_byte [] p b).taken;
  parts_after : q ≡ (replay_byte [] p b).parts;
  room_after : room' ≡ overlay 0 (replay_byte [] p b).taken room;
}

pub fed_byte : (p : Parts) (b : ℕ) (room : List ℕ) (r : Result ⊤ Refusal) (t : Result ℕ Refusal) {q : Parts} {o room' : List ℕ}
    → most_pending ≤ length room → receive_outcome r q ≡ receive_promise [] p (b ∷ []) → take_outcome t o room' ≡ take_promise q.outbox room
    → FedByte p b room (result_unwrap_or t 0) (parts q.reader o q.factory q.settings q.registers) room'
unfolding replay_byte
fed_byte p b room r t long e f =
    let left = ap (λ (x : ReceiveOutcome). x.parts) e in
    let k = took-so _ room long t f in
    rw (← left) (record { value = k.count; parts_after = rw k.left; room_after = k.holds })

pub fed-short : (p : Parts) (b : ℕ) {n : ℕ} → n ≡ length (replay_byte [] p b).taken → n ≤ most_pending
fed-short p b e = rw e (taken-short p b)

-- ---- how many bytes are read

count_none : (p : Parts) (room : ℕ) (bs : List ℕ) → room < most_pending → read_count p room bs ≡ 0
unfolding read_count
count_none p room [] h = refl
count_none p room (b ∷ bs) h = rw (lt-ltb room most_pending h)

count-end : (p : Parts) (room i : ℕ) (bs : List ℕ) → length bs ≤ i → read_count p room (drop i bs) ≡ 0
unfolding read_count
count-end p room i bs h = rw (drop_of_length-le bs h)

count-more : (p : Parts) (room i : ℕ) (bs : List ℕ) → i < length bs → most_pending ≤ room
    → let c = replay_byte [] p (get_or bs i 0) in
    read_count p room (drop i bs) ≡ suc (read_count c.parts (room - length c.taken) (drop (i + 1) bs))
unfolding read_count
count-more p room i bs h l = rw (add-one i, drop-cons bs i 0 h, le-ltb room most_pending l)

-- ---- the loop of `feed`

-- i bytes of those lent were read, and the bytes kept stand at the start of the room
pub record Feeding (bytes room₀ : List ℕ) (p₀ : Parts) (room : List ℕ) (p : Parts) (kept i : ℕ) : Type 0 where
  pub within : i ≤ length bytes
  pub fits : kept ≤ length room₀
  pub length_kept : kept ≡ length (replay_bytes [] p₀ (take i bytes)).taken
  pub holds : room ≡ overlay 0 (replay_bytes [] p₀ (take i bytes)).taken room₀
  pub leaves : p ≡ (replay_bytes [] p₀ (take i bytes)).parts
  pub count : read_count p₀ (length room₀) bytes ≡ i + read_count p (length room₀ - kept) (drop i bytes)

pub feeding-start : (bytes room : List ℕ) (p : Parts) → Feeding bytes room p room p 0 0
unfolding replay_bytes
feeding-start bytes room p =
    let e : length room - 0 ≡ length room = omega arith in
    record {
      within = omega arith;
      fits = omega arith;
      length_kept = refl;
      holds = sym (overlay-none 0 room);
      leaves = refl;
      count = rw e (sym (zero-add (read_count p (length room) bytes)));
    }

module _ {bytes room₀ room : List ℕ} {p₀ p : Parts} {kept i : ℕ} (f : Feeding bytes room₀ p₀ room p kept i) where
  pub feeding-long : length room ≡ length room₀
  feeding-long = ap length f.holds ∙ length-overlay 0 (replay_bytes [] p₀ (take i bytes)).taken room₀ (omega (arith, f.length_kept, f.fits))

  -- it stops here
  stopped : read_count p (length room₀ - kept) (drop i bytes) ≡ 0
      → feed_promise bytes room₀ p₀ ≡ record { read = i; kept = kept; room = room; parts = p }
  unfolding feed_promise
  stopped z =
      let n : read_count p₀ (length room₀) bytes ≡ i = f.count ∙ rw z (add-zero i) in
      rw (n, f.length_kept, f.holds, f.leaves)

  pub feeding-short : length room₀ - kept < most_pending
      → record { read = i; kept = kept; room = room; parts = p } ≡ feed_promise bytes room₀ p₀
  feeding-short h = sym (stopped (count_none p (length room₀ - kept) (drop i bytes) h))

  pub feeding-end : length bytes ≤ i → record { read = i; kept = kept; room = room; parts = p } ≡ feed_promise bytes room₀ p₀
  feeding-end h = sym (stopped (count-end p (length room₀ - kept) i bytes h))

  -- one byte more was fed
  module _ (h : i < length bytes) (long : most_pending ≤ length room₀ - kept) where
    fed-more : let c = replay_byte [] p (get_or bytes i 0) in
        Feeding bytes room₀ p₀ (overlay kept c.taken room) c.parts (kept + length c.taken) (i + 1)
    fed-more =
        let c = replay_byte [] p (get_or bytes i 0) in
        let before = replay_bytes [] p₀ (take i bytes) in
        let more : replay_bytes [] p₀ (take (i + 1) bytes) ≡ joined before c = rw f.leaves (replay-more bytes p₀ i h) in
        let both = length-append before.taken c.taken in
        let behind : kept ≡ 0 + length before.taken = omega (arith, f.length_kept) in
        let left : length room₀ - kept - length c.taken ≡ length room₀ - (kept + length c.taken) = omega arith in
        record {
          within = omega arith;
          fits = omega (arith, f.fits, taken-short p (get_or bytes i 0));
          length_kept = rw more (omega arith);
          holds = rw (more, f.holds, behind) (overlay-next 0 before.taken c.taken room₀ (omega arith));
          leaves = rw more;
          count = f.count ∙ rw (count-more p (length room₀ - kept) i bytes h long, left) (omega arith);
        }

    -- by what `feed_byte` left of the rest of the room
    pub feeding-next : {q : Parts} {rest : List ℕ} {b n : ℕ} → b ≡ get_or bytes i 0
        → FedByte p b (mid_of kept (length room - kept) room) n q rest
        → Feeding bytes room₀ p₀ (put_mid kept (length room - kept) room rest) q (kept + n) (i + 1)
    feeding-next e f =
        rw (f.value, f.parts_after, f.room_after, e, rest-mid room kept, rest-overlay room kept) fed-more

-- ---- the loop of `feed_all`

count-within : (p : Parts) (room : ℕ) (bs : List ℕ) → read_count p room bs ≤ length bs
unfolding read_count
count-within p room [] = omega arith
count-within p room (b ∷ bs) =
    let c = replay_byte [] p b in
    let rest = count-within c.parts (room - length c.taken) bs in
    cond-by (λ n. n ≤ length (b ∷ bs)) (ltb room most_pending) _ _ (λ e. omega arith) (λ e. omega arith)

kept-within : (p : Parts) (room : ℕ) (bs : List ℕ) → length (replay_bytes [] p (take (read_count p room bs) bs)).taken ≤ room
unfolding read_count replay_bytes
kept-within p room [] = omega arith
kept-within p room (b ∷ bs) =
    let c = replay_byte [] p b in
    let rest = kept-within c.parts (room - length c.taken) bs in
    let s = taken-short p b in
    cond-by (λ n. length (replay_bytes [] p (take n (b ∷ bs))).taken ≤ room) (ltb room most_pending) _ _ (λ e. omega arith)
    (λ e. rw length-append (omega (arith, ltb-false room most_pending e)))

-- what a call of `feed` leaves of the bytes from an offset on
pub record FedOn (bytes : List ℕ) (p₀ : Parts) (at : ℕ) (r : Fed) (room : List ℕ) (q : Parts) : Type 0 where
  pub some : 0 < r.read
  pub within : at + r.read ≤ length bytes
  pub fits : r.kept ≤ length room
  pub leaves : q ≡ (replay_bytes [] p₀ (take (at + r.read) bytes)).parts
  pub adds : (replay_bytes [] p₀ (take (at + r.read) bytes)).taken ≡ (replay_bytes [] p₀ (take at bytes)).taken ++ take r.kept room

module _ (bytes room : List ℕ) {p₀ p q : Parts} {at : ℕ} {s : List ℕ} (r : Fed) (h : at < length bytes) (long : most_pending ≤ length room)
    (e : p ≡ (replay_bytes [] p₀ (take at bytes)).parts) where
  pub fed-on : feed_outcome r s q ≡ feed_promise (mid_of at (length bytes - at) bytes) room p → FedOn bytes p₀ at r s q
  unfolding feed_promise
  fed-on done =
      let rest = drop at bytes in
      let told = rw (take_all (length bytes - at) rest (omega (arith, length-drop at bytes))) at done in
      let n = read_count p (length room) rest in
      let c = replay_bytes [] p (take n rest) in
      let read : r.read ≡ n = ap (λ (x : FeedOutcome). x.read) told in
      let kept : r.kept ≡ length c.taken = ap (λ (x : FeedOutcome). x.kept) told in
      let holds : s ≡ overlay 0 c.taken room = ap (λ (x : FeedOutcome). x.room) told in
      let k = kept-within p (length room) rest in
      record {
        some = omega (arith, count-more p (length room) at bytes h long);
        within = omega (arith, count-within p (length room) rest, length-drop at bytes);
        fits = rw holds (omega (arith, length-overlay 0 c.taken room (omega arith)));
        leaves =
            ap (λ (x : FeedOutcome). x.parts) told
            ∙ rw (read, take-add at n bytes, replay-append p₀ (take at bytes) (take n rest), e);
        adds =
            let kept_bytes : take r.kept s ≡ c.taken = rw (kept, holds) (overlay-inside 0 c.taken room (omega arith)) in
            rw (read, take-add at n bytes, replay-append p₀ (take at bytes) (take n rest), kept_bytes, e);
      }
