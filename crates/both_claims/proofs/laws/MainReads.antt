-- What a receive of the main processor's end comes to, by the bytes that it has read since its start.
-- An answer is the good message of the frame that ended. Assumes nothing.
use mathlib.Core.Path.{◌≡◌, refl, sym, ap, ◌∙◌}
use mathlib.Core.Bool.{Bool, true, false, cond, ◌||◌, false≢true}
use mathlib.Core.List.{List, [], ◌∷◌, ◌++◌, append-nil}
use mathlib.Core.Option.{Option, some}
use Prim.Native.Nat.{ℕ, zero, suc, ◌≤◌}
use native.Mathlib.Omega.{arith}
use lib.Dec.{ltb, eqb, eqb-suc-zero}
use lib.ListN.{length, take}
use lib.Seq.{append_snoc}
use borrow.Author.Tests.{ltb-true, ltb-false}
use Rattle.octets.specs.Bytes.{Each}
use Rattle.octets.proofs.Each.{each_append}
use Rattle.line.specs.Limits.{longest_form}
use Rattle.line.specs.Message.{Message}
use Rattle.line.specs.Judge.{good, judge}
use Rattle.line.specs.Frame.{split, non_empty}
use Rattle.line.proofs.Pieces.{split_at, split-none}
use Rattle.line_claims.specs.Calls.{gathered, good_of, good_messages}
use Rattle.requester.specs.State.{MainState, is_some}
use Rattle.requester.specs.Requester
use Rattle.requester.specs.Requester.{Heard, ground, other, answer, hear, settle, MainResult, dropped, after_heard, main_with_received}
use Rattle.requester_claims.proofs.MeaningLaws.{quiet-byte, quiet-positive}
use Rattle.requester_claims.proofs.AnswerBytes.{HeardGood, heard-good}
use Rattle.requester_claims.proofs.AnswerFrame.{moved-received}
use Rattle.line.specs.Judge.{progress_of, more_received}
use Rattle.line.proofs.Judged.{tail-over, tail_within, more-tail}

-- an answer under the newest number is the one good message of these
abbrev pub HeardFrom : ℕ → List Message → Heard → Type 0
HeardFrom n ms ground = Unit {0}
HeardFrom n ms other = Unit {0}
HeardFrom n ms (answer m) = (hear n (good m) ≡ answer m) × (ms ≡ m ∷ [])

-- nothing but the receive progress changes, or a frame is heard
pub data Came (s : MainState) (ms : List Message) (r : MainResult) : Type 0 where
  quiet : (x : Option (List ℕ)) → r ≡ dropped (main_with_received s x) → Came s ms r
  hearing : (x : Option (List ℕ)) (h : Heard) → r ≡ after_heard h (main_with_received s x) → HeardFrom s.newest ms h → Came s ms r

-- the bytes bs were read behind the bytes p of a frame
pub record Reads (s : MainState) (p bs : List ℕ) (r : MainResult) : Type 0 where
  pub progress : r.state.received ≡ progress_of (split (p ++ bs)).rest
  pub came : Came s (good_messages (non_empty (split (p ++ bs)).closed)) r

hears-progress : (s : MainState) (x : Option (List ℕ)) (h : Heard) → (after_heard h (main_with_received s x)).state.received ≡ x
hears-progress s x h = moved-received (settle s.recovery (is_some s.kept) h).next (main_with_received s x)

heard-from : (n : ℕ) (f : List ℕ) → HeardFrom n (good_messages (f ∷ [])) (hear n (judge f))
unfolding gathered
heard-from n f = by (hear n (judge f)) refl (heard-good n (judge f))
  where
    by : (h : Heard) → hear n (judge f) ≡ h → HeardGood (judge f) h → HeardFrom n (good_of (judge f) ++ []) h
    by ground e g = tt
    by other e g = tt
    by (answer m) e g = (rw g at e, rw g)

-- ---- one byte

-- the 00 behind the bytes p
closes-came : (s : MainState) (p : List ℕ) → let r = Requester.main_closed (progress_of p) (main_with_received s (some [])) in
    (r.state.received ≡ some []) × Came s (good_messages (non_empty (p ∷ []))) r
unfolding non_empty
closes-came s [] = rw (tail_within [] (omega arith)) (refl, quiet (some []) refl)
closes-came s (b ∷ bs) = by (ltb longest_form (length (b ∷ bs))) refl
  where
    by : (over : Bool) → ltb longest_form (length (b ∷ bs)) ≡ over
        → let r = Requester.main_closed (progress_of (b ∷ bs)) (main_with_received s (some [])) in
        (r.state.received ≡ some []) × Came s (good_messages ((b ∷ bs) ∷ [])) r
    by true k = rw (tail-over (b ∷ bs) (ltb-true _ _ k)) (refl, quiet (some []) refl)
    by false k =
        let h = hear s.newest (judge (b ∷ bs)) in
        rw (tail_within (b ∷ bs) (ltb-false _ _ k))
        (hears-progress s (some []) h, hearing (some []) h refl (heard-from s.newest (b ∷ bs)))

module _ (s : MainState) (p : List ℕ) (z : Each (λ b. 1 ≤ b) p) (e : s.received ≡ progress_of p) where
  closes-byte : Requester.main_byte s 0 ≡ Requester.main_closed (progress_of p) (main_with_received s (some []))
  unfolding Requester.main_byte
  closes-byte = ap (λ (x : Option (List ℕ)). Requester.main_closed x (main_with_received s (some []))) e

  closes-reads : Reads s p (0 ∷ []) (Requester.main_byte s 0)
  unfolding split
  closes-reads =
      let c = closes-came s p in
      rw closes-byte
      (record {
        progress = rw (split_at p [] z, tail_within [] (omega arith)) c.0;
        came = rw (split_at p [] z) c.1;
      })

  -- any other byte
  more-progress : (b : ℕ) → more_received s.received b ≡ progress_of (p ++ (b ∷ []))
  more-progress b = ap (λ (x : Option (List ℕ)). more_received x b) e ∙ more-tail p b

  -- one at which a frame has more bytes than a form has
  module _ (b : ℕ) (f : Requester.fills s.received ≡ true) where
    fills-byte : Requester.main_byte s (suc b) ≡ after_heard ground (main_with_received s (progress_of (p ++ (suc b ∷ []))))
    unfolding Requester.main_byte
    fills-byte = rw (eqb-suc-zero, f, more-progress (suc b))

    fills-reads : Reads s p (suc b ∷ []) (Requester.main_byte s (suc b))
    fills-reads =
        let y = split-none (p ++ (suc b ∷ [])) (each_append (λ b. 1 ≤ b) p (suc b ∷ []) z (omega arith, tt)) in
        let x = progress_of (p ++ (suc b ∷ [])) in
        rw fills-byte (record { progress = hears-progress s x ground ∙ rw y; came = hearing x ground refl tt })

-- ---- a piece

later : (s : MainState) (x : Option (List ℕ)) (ms : List Message) (r : MainResult) → Came (main_with_received s x) ms r → Came s ms r
later s x ms r (quiet y e) = quiet y e
later s x ms r (hearing y h e f) = hearing y h e f

reads-later : (s : MainState) (x : Option (List ℕ)) (p : List ℕ) (b : ℕ) (bs : List ℕ) (r : MainResult)
    → Reads (main_with_received s x) (p ++ (b ∷ [])) bs r → Reads s p (b ∷ bs) r
reads-later s x p b bs r h =
    let k = append_snoc p b bs in
    record { progress = rw k at h.progress; came = later s x _ r (rw k at h.came) }

stops-or : (a b : Bool) → (a || b) ≡ true → a ≡ false → b ≡ true
stops-or true b e f = absurd (false≢true (sym f))
stops-or false b e f = e

-- where the bytes p of a frame have come
pub piece-reads : (piece : List ℕ) (s : MainState) (p : List ℕ) → Each (λ b. 1 ≤ b) p → s.received ≡ progress_of p
    → let r = Requester.receive s piece in Reads s p (take r.used piece) r.result
unfolding Requester.receive
piece-reads [] s p z e = record { progress = rw (append-nil, split-none p z) e; came = quiet s.received refl }
piece-reads (b ∷ bs) s p z e =
    by (Requester.stops s b) refl (λ h f. piece-reads bs (main_with_received s (more_received s.received b)) (p ++ (b ∷ [])) h f)
  where
    x : MainState
    x = main_with_received s (more_received s.received b)

    by : (t : Bool) → Requester.stops s b ≡ t
        → (Each (λ b. 1 ≤ b) (p ++ (b ∷ [])) → more_received s.received b ≡ progress_of (p ++ (b ∷ []))
        → let r = Requester.receive x bs in Reads x (p ++ (b ∷ [])) (take r.used bs) r.result)
        → let r = cond t (Requester.main_received 1 (Requester.main_byte s b)) (let x =
        Requester.receive (Requester.main_byte s b).state bs in
        Requester.main_received (suc x.used) x.result) in
        Reads s p (take r.used (b ∷ bs)) r.result
    by true k i = at-stop b k
      where
        at-stop : (c : ℕ) → Requester.stops s c ≡ true → Reads s p (c ∷ []) (Requester.main_byte s c)
        at-stop zero k = closes-reads s p z e
        at-stop (suc c) k = fills-reads s p z e c (stops-or (eqb (suc c) 0) (Requester.fills s.received) k (eqb-suc-zero c))
    by false k i =
        let h = quiet-positive s b k in
        rw (quiet-byte s b k)
        (reads-later s (more_received s.received b) p b _ _ (i (each_append (λ b. 1 ≤ b) p (b ∷ []) z (h, tt)) (more-progress s p z e b)))
