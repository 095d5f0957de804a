-- Laws of the listing from an offset on: what begins there says what is listed first, and where it goes on.
-- Assumes nothing.
use mathlib.Core.Path.{◌≡◌, refl, sym, ap, ◌∙◌}
use mathlib.Core.List.{List, [], ◌∷◌, ◌++◌, append_assoc}
use Prim.Native.Nat.{ℕ, ◌+◌, ◌≤◌, ◌<◌}
use native.Mathlib.Omega.{arith}
use lib.ListN.{length, take, drop, length-append, length-drop}
use lib.Seq.{take_at, drop_at, drop-drop}
use Rattle.octets.specs.Bytes.{Each, run}
use Rattle.line.specs.Frame.{split, with_zeros}
use Rattle.line.proofs.Pieces.{split_at, split-each, split-whole}
use Rattle.plain.specs.Listing.{ListedFrame, Listing, listed_frame, listed_frames, listing_from}
use Rattle.plain.specs.Answers.{NextReport, first_of, piece_at}

-- what is listed from an offset on
abbrev pub listed_from : List ℕ → ℕ → Listing
listed_from w at = listing_from at (split (drop at w))

-- entries ahead of a listing
abbrev pub added : List ListedFrame → Listing → Listing
added es l = record { entries = es ++ l.entries; tail = l.tail }

-- ---- the first piece of a list

each-any : (w : List ℕ) → Each (λ b. Unit {0}) w
each-any [] = tt
each-any (b ∷ w) = (tt, each-any w)

-- the list is the piece, its zero, and the rest, which splits into the other pieces
record First (v p : List ℕ) (ps : List (List ℕ)) : Type 0 where
  after : List ℕ
  whole : v ≡ p ++ 0 ∷ after
  closed : (split after).closed ≡ ps
  rest : (split after).rest ≡ (split v).rest

first : (v p : List ℕ) (ps : List (List ℕ)) → (split v).closed ≡ p ∷ ps → First v p ps
unfolding with_zeros
first v p ps e =
    let after = with_zeros ps ++ (split v).rest in
    let n = rw e at (split-each (λ b. Unit {0}) (λ b. 1 ≤ b) (λ b h. omega arith) v (each-any v)).0 in
    let whole : v ≡ p ++ 0 ∷ after = sym (split-whole v) ∙ rw e (append_assoc p (0 ∷ with_zeros ps) (split v).rest) in
    let s = ap split whole ∙ split_at p after n.0 in
    record { after = after; whole = whole; closed = cc (s, e); rest = ap (λ x. x.rest) (sym s) }

-- ---- one piece from an offset on

pub record AtFrame (w : List ℕ) (at n : ℕ) : Type 0 where
  pub within : at + n < length w
  pub step : listed_from w at ≡ added (listed_frame at (run at n w)) (listed_from w (at + n + 1))

pub record AtTail (w : List ℕ) (at n : ℕ) : Type 0 where
  pub within : n ≤ length w
  pub step : listed_from w at ≡ record { entries = []; tail = n }

module _ (w : List ℕ) (at : ℕ) where
  at_first : (p : List ℕ) (ps : List (List ℕ)) → (split (drop at w)).closed ≡ p ∷ ps → AtFrame w at (length p)
  unfolding listed_frames
  at_first p ps e =
      let f = first (drop at w) p ps e in
      let a = f.after in
      let t : run at (length p) w ≡ p = ap (take (length p)) f.whole ∙ take_at p (0 ∷ a) (length p) refl in
      let d : drop (at + length p) w ≡ 0 ∷ a =
      sym (drop-drop (length p) at w) ∙ ap (drop (length p)) f.whole ∙ drop_at p (0 ∷ a) (length p) refl in
      let g : drop (at + length p + 1) w ≡ a = sym (drop-drop 1 (at + length p) w) ∙ ap (drop 1) d in
      let l = ap length f.whole ∙ length-append p (0 ∷ a) in
      record { within = omega (arith, length-drop at w); step = rw (t, g, f.closed, f.rest, e) }

  frame-by : (ps : List (List ℕ)) {n : ℕ} → (split (drop at w)).closed ≡ ps → NextReport.frame n ≡ first_of ps (split (drop at w)).rest
      → AtFrame w at n
  unfolding first_of
  frame-by [] e h = cc
  frame-by (p ∷ ps) {n} e h = let l : length p ≡ n = cc in rw l at (at_first p ps e)

  -- a frame begins there
  pub at-frame : {n : ℕ} → NextReport.frame n ≡ piece_at w at → AtFrame w at n
  unfolding piece_at
  at-frame h = frame-by (split (drop at w)).closed refl h

  tail-by : (ps : List (List ℕ)) {n : ℕ} → (split (drop at w)).closed ≡ ps → NextReport.tail n ≡ first_of ps (split (drop at w)).rest
      → AtTail w at n
  unfolding first_of listed_frames
  tail-by [] {n} e h =
      let l : n ≡ length (split (drop at w)).rest = cc in
      let s = ap length (split-whole (drop at w)) in
      record { within = omega (arith, length-drop at w, rw length-append at s); step = rw (e, l) }
  tail-by (p ∷ ps) e h = cc

  -- the tail begins there
  pub at_tail : {n : ℕ} → NextReport.tail n ≡ piece_at w at → AtTail w at n
  unfolding piece_at
  at_tail h = tail-by (split (drop at w)).closed refl h
