-- The 00s that are still to come from a supervisor, where nothing else is known of its bytes: at most so many, and the last byte is one.
-- Assumes nothing.
use mathlib.Core.Path.{◌≡◌, refl, sym}
use mathlib.Core.Bool.{Bool, true, false, false≢true, not}
use mathlib.Core.List.{List, [], ◌∷◌, ◌++◌}
use mathlib.Core.Option.{Option, none, some}
use Prim.Native.Nat.{ℕ, zero, suc, ◌+◌, ◌-◌, ◌≤◌}
use native.Mathlib.Omega.{arith}
use lib.Dec.{eqb, eqb-suc-zero}
use Rattle.octets.specs.Bytes.{Each}
use Rattle.line.specs.Message.{Message, message}
use Rattle.line.specs.Frame.{form, frame}
use Rattle.line_claims.proofs.CobsClaims.{above_zero}
use Rattle.responder.specs.Requests.{Reply, owed, reply_frame}
use Rattle.tap_claims.proofs.Fits.{message_of}
use Rattle.tap_claims.proofs.Outgoing.{Sure, Stream, Edge}

-- ---- so many frames at most, each ended; one has begun where a 00 is owed

abbrev NotOwed : Bool → Type 0
NotOwed true = ⊥
NotOwed false = Unit {0}

abbrev pub Owing : ℕ → Bool → List ℕ → Type 0
Owing k owes [] = NotOwed owes
Owing k owes (zero ∷ w) = (1 ≤ k) × Owing (k - 1) false w
Owing k owes (suc b ∷ w) = Owing k true w

-- the bytes put out, and what is pending behind them; `inside` where a frame has begun for sure
abbrev pub Left : ℕ → Bool → List ℕ → Bool → List ℕ → Type 0
Left k inside [] owes pending = (inside ≡ true → owes ≡ true) × Owing k owes pending
Left k inside (zero ∷ w) owes pending = (1 ≤ k) × Left (k - 1) false w owes pending
Left k inside (suc b ∷ w) owes pending = Left k true w owes pending

-- ---- from inside a frame, a 00 is to come

owing-some : (w : List ℕ) (k : ℕ) → Owing k true w → 1 ≤ k
owing-some [] k h = absurd h
owing-some (zero ∷ w) k h = h.0
owing-some (suc b ∷ w) k h = owing-some w k h

left-some : (behind : List ℕ) (k : ℕ) (owes : Bool) (pending : List ℕ) → Left k true behind owes pending → 1 ≤ k
left-some [] k true pending h = owing-some pending k h.1
left-some [] k false pending h = absurd (false≢true (h.0 refl))
left-some (zero ∷ w) k owes pending h = h.0
left-some (suc b ∷ w) k owes pending h = left-some w k owes pending h

-- ---- a byte is put out

pub owing-put : (k : ℕ) (owes : Bool) (b : ℕ) (bs : List ℕ) → Owing k owes (b ∷ bs) → (j : ℕ) × (j ≤ k) × Owing j (not (eqb b 0)) bs
owing-put k owes zero bs h = (k - 1, omega arith, h.1)
owing-put k owes (suc b) bs h = rw eqb-suc-zero (k, omega arith, h)

pub left-put : (behind : List ℕ) (k : ℕ) (inside owes : Bool) (b : ℕ) (bs : List ℕ) → Left k inside behind owes (b ∷ bs)
    → Left k inside (behind ++ (b ∷ [])) (not (eqb b 0)) bs
left-put [] k inside owes zero bs h = (h.1.0, (λ e. absurd (false≢true e), h.1.1))
left-put [] k inside owes (suc b) bs h = rw eqb-suc-zero (λ _. refl, h.1)
left-put (zero ∷ w) k inside owes b bs h = (h.0, left-put w (k - 1) false owes b bs h.1)
left-put (suc c ∷ w) k inside owes b bs h = left-put w k true owes b bs h

-- ---- a frame is carried out

owing-walk : (xs : List ℕ) (k : ℕ) (owes : Bool) → 1 ≤ k → Each (λ b. 1 ≤ b) xs → Owing k owes (xs ++ (0 ∷ []))
owing-walk [] k owes l h = (l, tt)
owing-walk (zero ∷ xs) k owes l h = absurd (omega (arith, h.0))
owing-walk (suc b ∷ xs) k owes l h = owing-walk xs k true l h.1

owing-reply : (reply : Option Reply) (k : ℕ) → 1 ≤ k → Owing k false (reply_frame reply)
unfolding reply_frame frame
owing-reply none k l = tt
owing-reply (some r) k l = owing-walk (form (message_of r)) k false l (above_zero (message (message_of r)))

pub owing-carry : (owes : Bool) (reply : Option Reply) → Owing 2 owes (owed owes ++ reply_frame reply)
owing-carry true reply = (omega arith, owing-reply reply 1 (omega arith))
owing-carry false reply = owing-reply reply 2 (omega arith)

pub left-carry : (behind : List ℕ) (k : ℕ) (inside owes : Bool) (pending : List ℕ) (reply : Option Reply)
    → Left k inside behind owes pending → Left (k + 1) inside behind owes (owed owes ++ reply_frame reply)
left-carry [] k inside true pending reply h =
    let l = owing-some pending k h.1 in
    let e : k + 1 - 1 ≡ k = omega arith in
    (h.0, (omega arith, rw e (owing-reply reply k l)))
left-carry [] k inside false pending reply h = (h.0, owing-reply reply (k + 1) (omega arith))
left-carry (zero ∷ w) k inside owes pending reply h =
    let l = h.0 in
    let e : k + 1 - 1 ≡ k - 1 + 1 = omega arith in
    (omega arith, rw e (left-carry w (k - 1) false owes pending reply h.1))
left-carry (suc b ∷ w) k inside owes pending reply h = left-carry w k true owes pending reply h

-- ---- where so many 00s are discounted, nothing is asked of the bytes

module _ (Older : ℕ → Type 0) (Newest : Message → Type 0) where
  owing-stream : (w : List ℕ) (k u : ℕ) (owes spoiled : Bool) (x : List ℕ) → k ≤ u → (owes ≡ false → Sure u spoiled → x ≡ [])
      → Owing k owes w → Stream Older Newest u spoiled x w
  owing-stream [] k u true spoiled x l e h = absurd h
  owing-stream [] k u false spoiled x l e h = e refl
  owing-stream (zero ∷ w) k u owes spoiled x l e h = (
    λ s. absurd (omega (arith, s.0, h.0)),
    owing-stream w (k - 1) (u - 1) false false [] (omega (arith, h.0)) (λ _ _. refl) h.1,
  )
  owing-stream (suc b ∷ w) k u owes spoiled x l e h =
      owing-stream w k u true spoiled (x ++ (suc b ∷ [])) l (λ f. absurd (false≢true (sym f))) h

  pub left-stream : (behind : List ℕ) (k u : ℕ) (inside owes : Bool) (pending : List ℕ) (spoiled : Bool) (x : List ℕ) → k ≤ u
      → (Sure u spoiled → x ≡ []) → Left k inside behind owes pending → Stream Older Newest u spoiled x (behind ++ pending)
  left-stream [] k u inside owes pending spoiled x l e h = owing-stream pending k u owes spoiled x l (λ _. e) h.1
  left-stream (zero ∷ w) k u inside owes pending spoiled x l e h = (
    λ s. absurd (omega (arith, s.0, h.0)),
    left-stream w (k - 1) (u - 1) false owes pending false [] (omega (arith, h.0)) (λ _. refl) h.1,
  )
  left-stream (suc b ∷ w) k u inside owes pending spoiled x l e h =
      let i = left-some w k owes pending h in
      left-stream w k u true owes pending spoiled (x ++ (suc b ∷ [])) l (λ s. absurd (omega (arith, s.0, i))) h

-- and where one more is, nothing of whether a 00 is owed
pub left-edge : (behind : List ℕ) (k u : ℕ) (inside owes : Bool) (pending : List ℕ) (spoiled : Bool) (x : List ℕ) → k + 1 ≤ u
    → Left k inside behind owes pending → Edge u spoiled x behind owes
left-edge [] k u inside owes pending spoiled x l h = λ s. absurd (omega (arith, s.0))
left-edge (zero ∷ w) k u inside owes pending spoiled x l h =
    left-edge w (k - 1) (u - 1) false owes pending false [] (omega (arith, h.0)) h.1
left-edge (suc b ∷ w) k u inside owes pending spoiled x l h = left-edge w k u true owes pending spoiled (x ++ (suc b ∷ [])) l h
