-- Laws of a call of `read`, on a piece without a 00 and on one up to its first 00. Other laws are of a call of `collect`.
-- Assumes nothing.
use mathlib.Core.Path.{◌≡◌, refl, sym, ap, ◌∙◌}
use mathlib.Core.Bool.{true, false}
use mathlib.Core.List.{List, [], ◌∷◌}
use Prim.Native.Nat.{ℕ, zero, suc, ◌+◌, ◌≤◌, ◌<◌}
use native.Mathlib.Numerals.{add-one}
use native.Mathlib.Omega.{arith}
use lib.ListN.{length, take}
use lib.Seq.{take-length}
use borrow.Author.Tests.{ne_eqb}
use Rattle.line.specs.Runs.{nonzero}
use Rattle.line.specs.Reader.{ReadReport, refused, more, valid_reader, pushed, pushed_all, FrameOutcome, frame_outcome, finish}
use Rattle.line.specs.Reader.{ReadOutcome, one_byte_later, read_piece, read_promise, ahead_of00, collect_promise}
use Rattle.line.proofs.Runs.{nonzero-prefix, nonzero-length}
use Rattle.line.proofs.State.{Ready, valid-ready, ready-pushes}

abbrev pub outcome_of : ℕ → ReadReport → List ℕ → ReadOutcome
outcome_of n a s = record { used = n; answer = a; state = s }

-- the bytes ahead of a piece's first 00
abbrev pub ahead : List ℕ → List ℕ
ahead p = nonzero (length p) p

pub ahead-most : (p : List ℕ) → length (ahead p) ≤ length p
ahead-most p = nonzero-length (length p) p

-- they are what `collect` takes
pub ahead-is : (p : List ℕ) → ahead_of00 p ≡ ahead p
unfolding ahead_of00 nonzero
ahead-is [] = refl
ahead-is (zero ∷ p) = refl
ahead-is (suc b ∷ p) = rw (ne_eqb (suc b) 0 (λ e. omega arith)) (ap (λ (l : List ℕ). suc b ∷ l) (ahead-is p))

ahead-again : (p : List ℕ) → length (ahead (ahead p)) ≡ length (ahead p)
unfolding nonzero
ahead-again [] = refl
ahead-again (zero ∷ p) = refl
ahead-again (suc b ∷ p) = ap suc (ahead-again p)

read_next : (s : List ℕ) (b : ℕ) (p : List ℕ) → read_piece s (suc b ∷ p) ≡ one_byte_later (read_piece (pushed s (suc b)) p)
unfolding read_piece
read_next s b p = rw (ne_eqb (suc b) 0 (λ e. omega arith))

pub read_more : (s p : List ℕ) → length (ahead p) ≡ length p → outcome_of (length p) more (pushed_all s p) ≡ read_piece s p
unfolding read_piece one_byte_later pushed_all nonzero
read_more s [] e = refl
read_more s (zero ∷ p) e = absurd (omega arith)
read_more s (suc b ∷ p) e = ap one_byte_later (read_more (pushed s (suc b)) p (omega arith)) ∙ sym (read_next s b p)

-- what the 00 behind the first n bytes of a piece gives
abbrev pub stopped : List ℕ → ℕ → List ℕ → ReadOutcome
stopped s n p = outcome_of (suc n) (finish (pushed_all s (take n p))).answer (finish (pushed_all s (take n p))).state

pub read-stop : (s p : List ℕ) → length (ahead p) < length p → stopped s (length (ahead p)) p ≡ read_piece s p
unfolding read_piece one_byte_later pushed_all nonzero
read-stop s [] h = absurd (omega arith)
read-stop s (zero ∷ p) h = refl
read-stop s (suc b ∷ p) h = ap one_byte_later (read-stop (pushed s (suc b)) p (omega arith)) ∙ sym (read_next s b p)

-- ---- a call

pub reading-refused : (s p : List ℕ) → valid_reader s ≡ false → outcome_of 0 (refused 12) s ≡ read_promise s p
unfolding read_promise
reading-refused s p e = rw e

-- n bytes of a piece, as far as its first 00, are kept in the state t
module _ (s p : List ℕ) (v : valid_reader s ≡ true) {n : ℕ} (e : n ≡ length (ahead p)) {t : List ℕ} (kept : t ≡ pushed_all s (take n p))
  where
    accepted : read_promise s p ≡ read_piece s p
    unfolding read_promise
    accepted = rw v

    pub reading-ready : Ready t
    reading-ready =
        let r = valid-ready s v in
        let q = ready-pushes (take n p) s r in
        rw kept (omega arith, q.1)

    pub reading-more : n ≡ length p → outcome_of n more t ≡ read_promise s p
    reading-more f =
        let m = read_more s p (sym e ∙ f) in
        cc (accepted, take-length p)

    pub reading-stop : (n ≡ length p → ⊥) → {a : ReadReport} {u : List ℕ} → frame_outcome a u ≡ finish t
        → outcome_of (n + 1) a u ≡ read_promise s p
    reading-stop f w =
        let l = ahead-most p in
        let m = read-stop s p (omega arith) in
        cc (accepted, add-one n, ap (λ (o : FrameOutcome). o.answer) w, ap (λ (o : FrameOutcome). o.state) w)

-- ---- a call of `collect`

pub collecting-refused : (s p : List ℕ) → valid_reader s ≡ false → outcome_of 0 (refused 12) s ≡ collect_promise s p
unfolding collect_promise
collecting-refused s p e = reading-refused s (ahead_of00 p) e

-- on a state that is read the bytes ahead of the first 00 are kept, and more are wanted
pub collect-keeps : (s p : List ℕ) → valid_reader s ≡ true → collect_promise s p
    ≡ outcome_of (length (ahead p)) more (pushed_all s (ahead p))
unfolding collect_promise read_promise
collect-keeps s p v = rw (v, ahead-is p) (sym (read_more s (ahead p) (ahead-again p)))

module _ (s p : List ℕ) (v : valid_reader s ≡ true) {n : ℕ} (e : n ≡ length (ahead p)) where
  pub collecting-kept : {t : List ℕ} → t ≡ pushed_all s (take n p) → outcome_of n more t ≡ collect_promise s p
  collecting-kept kept = cc (collect-keeps s p v, nonzero-prefix (length p) p)
