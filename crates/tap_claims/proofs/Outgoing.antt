-- The bytes that are still to be seen from a supervisor: frames, each a front of a reply's form or, the last one, the newest reply's whole.
-- What becomes of them as a byte is put out and as a frame is carried out. Assumes nothing.
use mathlib.Core.Path.{◌≡◌, refl, sym, ap, ◌∙◌}
use mathlib.Core.Bool.{Bool, true, false, false≢true, not}
use mathlib.Core.List.{List, [], ◌∷◌, ◌++◌, append_assoc, append-nil}
use mathlib.Core.Logic.{◌⊎◌, inl, inr}
use mathlib.Core.Option.{Option, none, some}
use Prim.Native.Nat.{ℕ, zero, suc, ◌-◌, ◌≤◌}
use native.Mathlib.Omega.{arith}
use lib.Dec.{eqb, eqb-suc-zero}
use Rattle.octets.specs.Bytes.{Each}
use Rattle.line.specs.Message.{Message, InRange, message}
use Rattle.line.specs.Frame.{form, frame}
use Rattle.line_claims.proofs.CobsClaims.{above_zero}
use Rattle.responder.specs.Requests.{Reply, owed, reply_frame}
use Rattle.tap_claims.proofs.CutForm.{Front}
use Rattle.tap_claims.proofs.Fits.{message_of}

-- ---- The bytes

-- no 00 is discounted, and the frame is not spoiled by a mark
abbrev pub Sure : ℕ → Bool → Type 0
Sure u spoiled = (u ≡ 0) × (spoiled ≡ false)

-- a frame with bytes
abbrev pub is_begun : List ℕ → Bool
is_begun [] = false
is_begun (b ∷ bs) = true

module _ (Older : ℕ → Type 0) (Newest : Message → Type 0) where
  -- a front of a reply's form, by the reply's number
  abbrev pub Cut : List ℕ → Type 0
  Cut x = (m : Message) × InRange m × Older m.sequence × Front x (form m)

  -- the newest reply's form, with nothing behind it
  abbrev pub Whole : List ℕ → List ℕ → Type 0
  Whole x behind = (m : Message) × InRange m × Newest m × (x ≡ form m) × (behind ≡ [])

  abbrev pub Piece : List ℕ → List ℕ → Type 0
  Piece x behind = Cut x ⊎ Whole x behind

  -- bytes to be seen where u 00s are discounted and x has come of the first frame
  abbrev pub Stream : ℕ → Bool → List ℕ → List ℕ → Type 0
  Stream u spoiled x [] = Sure u spoiled → x ≡ []
  Stream u spoiled x (zero ∷ w) = (Sure u spoiled → Piece x w) × Stream (u - 1) false [] w
  Stream u spoiled x (suc b ∷ w) = Stream u spoiled (x ++ (suc b ∷ [])) w

-- whether a 00 is owed, behind what was put out of these bytes: where the last frame has begun
abbrev pub Edge : ℕ → Bool → List ℕ → List ℕ → Bool → Type 0
Edge u spoiled x [] owes = Sure u spoiled → owes ≡ is_begun x
Edge u spoiled x (zero ∷ w) owes = Edge (u - 1) false [] w owes
Edge u spoiled x (suc b ∷ w) owes = Edge u spoiled (x ++ (suc b ∷ [])) w owes

-- ---- a byte is put out

pub edge-put : (behind : List ℕ) (b u : ℕ) (spoiled : Bool) (x : List ℕ) → Edge u spoiled x (behind ++ (b ∷ [])) (not (eqb b 0))
edge-put [] zero u spoiled x = λ _. refl
edge-put [] (suc b) u spoiled x = λ _. rw eqb-suc-zero (begun x)
  where
    begun : (y : List ℕ) → true ≡ is_begun (y ++ (suc b ∷ []))
    begun [] = refl
    begun (c ∷ cs) = refl
edge-put (zero ∷ behind) b u spoiled x = edge-put behind b (u - 1) false []
edge-put (suc c ∷ behind) b u spoiled x = edge-put behind b u spoiled (x ++ (suc c ∷ []))

-- ---- other predicates

module _ (Older : ℕ → Type 0) (Newest : Message → Type 0) (Older' : ℕ → Type 0) (Newest' : Message → Type 0)
    (older : (n : ℕ) → Older n → Older' n) where
  -- that hold of the same
  module _ (newest : (m : Message) → Newest m → Newest' m) where
    piece-also : (x w : List ℕ) → Piece Older Newest x w → Piece Older' Newest' x w
    piece-also x w (inl (m, r, o, f)) = inl (m, r, older m.sequence o, f)
    piece-also x w (inr (m, r, n, e, f)) = inr (m, r, newest m n, e, f)

    pub stream-also : (w : List ℕ) (u : ℕ) (spoiled : Bool) (x : List ℕ) → Stream Older Newest u spoiled x w
        → Stream Older' Newest' u spoiled x w
    stream-also [] u spoiled x h = h
    stream-also (zero ∷ w) u spoiled x h = (λ s. piece-also x w (h.0 s), stream-also w (u - 1) false [] h.1)
    stream-also (suc b ∷ w) u spoiled x h = stream-also w u spoiled (x ++ (suc b ∷ [])) h

  -- a frame is carried out: the newest reply is one of the older ones
  module _ (aged : (m : Message) → Newest m → Older' m.sequence) where
    piece-aged : (x w : List ℕ) → Piece Older Newest x w → Cut Older' Newest' x
    piece-aged x w (inl (m, r, o, f)) = (m, r, older m.sequence o, f)
    piece-aged x w (inr (m, r, n, e, f)) = (m, r, aged m n, ([], sym e ∙ sym (append-nil x)))

    front_cut : (x ys : List ℕ) → Cut Older' Newest' (x ++ ys) → Cut Older' Newest' x
    front_cut x ys (m, r, o, (zs, e)) = (m, r, o, (ys ++ zs, e ∙ append_assoc x ys zs))

    -- what has come of a frame that was to go on
    begun-cut : (w : List ℕ) (u : ℕ) (spoiled : Bool) (x : List ℕ) → Stream Older Newest u spoiled x w → Sure u spoiled
        → is_begun x ≡ true → Cut Older' Newest' x
    begun-cut [] u spoiled x h s b = absurd (false≢true (ap is_begun (sym (h s)) ∙ b))
    begun-cut (zero ∷ w) u spoiled x h s b = piece-aged x w (h.0 s)
    begun-cut (suc c ∷ w) u spoiled x h s b = front_cut x (suc c ∷ []) (begun-cut w u spoiled (x ++ (suc c ∷ [])) h s (more x))
      where
        more : (y : List ℕ) → is_begun (y ++ (suc c ∷ [])) ≡ true
        more [] = refl
        more (d ∷ ds) = refl

    -- the form of a reply goes out
    walk : (xs w : List ℕ) (u : ℕ) (spoiled : Bool) (x : List ℕ) → Each (λ b. 1 ≤ b) xs → Stream Older' Newest' u spoiled (x ++ xs) w
        → Stream Older' Newest' u spoiled x (xs ++ w)
    walk [] w u spoiled x h s = rw (append-nil x) at s
    walk (zero ∷ xs) w u spoiled x h s = absurd (omega (arith, h.0))
    walk (suc b ∷ xs) w u spoiled x h s = walk xs w u spoiled (x ++ (suc b ∷ [])) h.1 (rw (append_assoc x (suc b ∷ []) xs) s)

    module _ (reply : Option Reply) (made : (r : Reply) → reply ≡ some r → InRange (message_of r) × Newest' (message_of r)) where
      stream-reply : (u : ℕ) (spoiled : Bool) (x : List ℕ) → (Sure u spoiled → x ≡ [])
          → Stream Older' Newest' u spoiled x (reply_frame reply)
      unfolding reply_frame frame
      stream-reply u spoiled x h = by reply refl
        where
          by : (o : Option Reply) → reply ≡ o → Stream Older' Newest' u spoiled x (reply_frame o)
          by none e = h
          by (some r) e =
              let k = made r e in
              walk (form (message_of r)) (0 ∷ []) u spoiled x (above_zero (message (message_of r)))
              (λ s. inr (message_of r, k.0, k.1, ap (λ (y : List ℕ). y ++ form (message_of r)) (h s), refl), λ _. refl)

      pub stream-carry : (behind pending : List ℕ) (owes : Bool) (u : ℕ) (spoiled : Bool) (x : List ℕ)
          → Stream Older Newest u spoiled x (behind ++ pending) → Edge u spoiled x behind owes
          → Stream Older' Newest' u spoiled x (behind ++ (owed owes ++ reply_frame reply))
      stream-carry [] pending true u spoiled x h e =
          (λ s. inl (begun-cut pending u spoiled x h s (sym (e s))), stream-reply (u - 1) false [] (λ _. refl))
      stream-carry [] pending false u spoiled x h e = stream-reply u spoiled x (λ s. none-begun x (e s))
        where
          none-begun : (y : List ℕ) → false ≡ is_begun y → y ≡ []
          none-begun [] f = refl
          none-begun (b ∷ bs) f = absurd (false≢true f)
      stream-carry (zero ∷ w) pending owes u spoiled x h e =
          (λ s. inl (piece-aged x _ (h.0 s)), stream-carry w pending owes (u - 1) false [] h.1 e)
      stream-carry (suc b ∷ w) pending owes u spoiled x h e = stream-carry w pending owes u spoiled (x ++ (suc b ∷ [])) h e
