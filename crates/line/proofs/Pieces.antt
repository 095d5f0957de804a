-- A list split at its zeros, with the laws of one byte or piece more, and the list put together again.
-- Assumes nothing.
use mathlib.Core.Path.{◌≡◌, refl, ◌∙◌}
use mathlib.Core.List.{List, [], ◌∷◌, ◌++◌}
use Prim.Native.Nat.{ℕ, zero, suc, ◌≤◌}
use native.Mathlib.Omega.{arith}
use lib.Seq.{drop-append_seam}
use Rattle.octets.specs.Bytes.{Each}
use Rattle.line.specs.Frame.{ahead_of_pieces, split, non_empty, closed_behind, with_zeros}

-- up to the first zero
pub split_at : (p w : List ℕ) → Each (λ b. 1 ≤ b) p → split (p ++ 0 ∷ w) ≡ record { closed = p ∷ (split w).closed; rest = (split w).rest }
unfolding split
split_at [] w h = refl
split_at (zero ∷ p) w h = absurd (omega arith)
split_at (suc b ∷ p) w h = rw (split_at p w h.1)

-- a list with no zero
pub split-none : (p : List ℕ) → Each (λ b. 1 ≤ b) p → split p ≡ record { closed = []; rest = p }
unfolding split
split-none [] h = refl
split-none (zero ∷ p) h = absurd (omega arith)
split-none (suc b ∷ p) h = rw (split-none p h.1)

ahead-closed : (b : ℕ) (ps : List (List ℕ)) (rest : List ℕ)
    → ahead_of_pieces b (ps ++ rest ∷ []) []
    ≡ record { closed = (ahead_of_pieces b ps rest).closed ++ (ahead_of_pieces b ps rest).rest ∷ []; rest = [] }
ahead-closed b [] rest = refl
ahead-closed b (p ∷ ps) rest = refl

-- a zero closes a piece
pub split-close : (w : List ℕ) → split (w ++ 0 ∷ []) ≡ record { closed = (split w).closed ++ (split w).rest ∷ []; rest = [] }
unfolding split
split-close [] = refl
split-close (zero ∷ w) = rw (split-close w)
split-close (suc b ∷ w) = rw (split-close w) (ahead-closed (suc b) (split w).closed (split w).rest)

ahead_more : (b : ℕ) (ps : List (List ℕ)) (rest more : List ℕ)
    → ahead_of_pieces b ps (rest ++ more)
    ≡ record { closed = (ahead_of_pieces b ps rest).closed; rest = (ahead_of_pieces b ps rest).rest ++ more }
ahead_more b [] rest more = refl
ahead_more b (p ∷ ps) rest more = refl

-- any other byte stands after the last zero
pub split-more : (w : List ℕ) (b : ℕ) → split (w ++ suc b ∷ []) ≡ record { closed = (split w).closed; rest = (split w).rest ++ suc b ∷ [] }
unfolding split
split-more [] b = refl
split-more (zero ∷ w) b = rw (split-more w b)
split-more (suc c ∷ w) b = rw (split-more w b) (ahead_more (suc c) (split w).closed (split w).rest (suc b ∷ []))

pub non_empty-append : (ps qs : List (List ℕ)) → non_empty (ps ++ qs) ≡ non_empty ps ++ non_empty qs
unfolding non_empty
non_empty-append [] qs = refl
non_empty-append ([] ∷ ps) qs = non_empty-append ps qs
non_empty-append ((b ∷ bs) ∷ ps) qs = rw (non_empty-append ps qs)

-- ---- joined pieces

ahead-join : (b : ℕ) (ps : List (List ℕ)) (rest more : List ℕ) → let z = ahead_of_pieces (suc b) ps rest in let x = split (rest ++ more) in
    ahead_of_pieces (suc b) (ps ++ x.closed) x.rest
    ≡ record { closed = z.closed ++ (split (z.rest ++ more)).closed; rest = (split (z.rest ++ more)).rest }
unfolding split
ahead-join b [] rest more = refl
ahead-join b (p ∷ ps) rest more = refl

-- more bytes: the pieces before stay, and what stood after the last zero goes on
pub split-join : (w more : List ℕ) → let x = split ((split w).rest ++ more) in
    split (w ++ more) ≡ record { closed = (split w).closed ++ x.closed; rest = x.rest }
unfolding split
split-join [] more = refl
split-join (zero ∷ w) more = rw (split-join w more)
split-join (suc b ∷ w) more = rw (split-join w more) (ahead-join b (split w).closed (split w).rest more)

-- the first of them began with what stood after the last zero
pub closed-rest : (w more : List ℕ) → closed_behind w more ≡ (split ((split w).rest ++ more)).closed
unfolding closed_behind
closed-rest w more = rw (split-join w more) (drop-append_seam (split w).closed (split ((split w).rest ++ more)).closed)

-- each piece of the joined bytes is closed once, in order
pub closed-join : (w more : List ℕ) → (split (w ++ more)).closed ≡ (split w).closed ++ closed_behind w more
closed-join w more = rw (closed-rest w more, split-join w more)

-- ---- the list again

ahead-whole : (b : ℕ) (ps : List (List ℕ)) (rest : List ℕ)
    → let z = ahead_of_pieces b ps rest in with_zeros z.closed ++ z.rest ≡ b ∷ (with_zeros ps ++ rest)
unfolding with_zeros
ahead-whole b [] rest = refl
ahead-whole b (p ∷ ps) rest = refl

pub split-whole : (w : List ℕ) → with_zeros (split w).closed ++ (split w).rest ≡ w
unfolding split with_zeros
split-whole [] = refl
split-whole (zero ∷ w) = rw (split-whole w)
split-whole (suc b ∷ w) = ahead-whole (suc b) (split w).closed (split w).rest ∙ rw (split-whole w)

-- Q holds of each element of a piece if it holds of each element above 0 that has P
module _ (P Q : ℕ → Type 0) (kept : (b : ℕ) → P (suc b) → Q (suc b)) where
  ahead-each : (b : ℕ) (ps : List (List ℕ)) (rest : List ℕ) → Q b → Each (Each Q) ps → Each Q rest
      → Each (Each Q) (ahead_of_pieces b ps rest).closed × Each Q (ahead_of_pieces b ps rest).rest
  ahead-each b [] rest q h k = (tt, (q, k))
  ahead-each b (p ∷ ps) rest q h k = (((q, h.0), h.1), k)

  pub split-each : (w : List ℕ) → Each P w → Each (Each Q) (split w).closed × Each Q (split w).rest
  unfolding split
  split-each [] h = (tt, tt)
  split-each (zero ∷ w) h = let r = split-each w h.1 in ((tt, r.0), r.1)
  split-each (suc b ∷ w) h =
      let r = split-each w h.1 in ahead-each (suc b) (split w).closed (split w).rest (kept b h.0) r.0 r.1
