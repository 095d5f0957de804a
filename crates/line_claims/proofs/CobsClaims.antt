-- What COBS keeps of a list: reading its form gives it back, the form has no zero byte, and its length is bounded.
-- Assumes nothing.
use mathlib.Core.Path.{◌≡◌, refl, sym, ap, ◌∙◌}
use mathlib.Core.Bool.{Bool, true, false, ◌&&◌}
use mathlib.Core.Option.{some}
use mathlib.Core.List.{List, [], ◌∷◌}
use Prim.Native.Nat.{ℕ, zero, suc, ◌+◌, ◌≤◌}
use native.Mathlib.Omega.{arith}
use native.Mathlib.Nat.{add-zero}
use native.Mathlib.Numerals.{sub-one}
use borrow.Author.Tests.{lt-ltb, le-ltb, eqb-true}
use lib.ListN.{drop}
use lib.Dec.{eqb, ltb, eqb-suc-suc, eqb-suc-zero}
use Rattle.octets.specs.Bytes.{Byte, Each, equal}
use Rattle.line.specs.Limits.{longest_group}
use Rattle.line.specs.Cobs.{full_code, places_left, coded, groups, cobs, last_one_after_full, group_bytes, uncobs}
use Rattle.line.proofs.FrameLength
use Rattle.line.specs.Message.{Message, message}
use Rattle.line.specs.Frame.{NonZero, frame, Pieces, split}
use Rattle.line.proofs.Pieces.{split_at}
use Rattle.line_claims.specs.Demand3.{LineRoundTrip, NoZero, FormFits, FrameFits}

-- ---- no last 01 is written after a full group

-- a message that has a byte is not written as 01
more-than-01 : (x : ℕ) (xs : List ℕ) → equal (coded (groups places_left (x ∷ xs))) (1 ∷ []) ≡ false
unfolding groups equal
more-than-01 zero xs = refl
more-than-01 (suc b) xs = rw (eqb-suc-suc, eqb-suc-zero)

-- what follows a full group
after-full : (xs : List ℕ) (room : ℕ) → (groups room xs).count ≡ suc room → equal (drop (suc room) (groups room xs).after) (1 ∷ []) ≡ false
unfolding groups equal
after-full [] room e = absurd (omega arith)
after-full (zero ∷ xs) room e = absurd (omega arith)
after-full (suc b ∷ []) zero e = refl
after-full (suc b ∷ x ∷ xs) zero e = more-than-01 x xs
after-full (suc b ∷ xs) (suc room) e = after-full xs room (omega arith)

no-last-one : (xs : List ℕ) → last_one_after_full (suc (groups places_left xs).count) (groups places_left xs).after ≡ false
no-last-one xs = go (eqb (suc (groups places_left xs).count) full_code) refl
  where
    go : (t : Bool) → eqb (suc (groups places_left xs).count) full_code ≡ t
        → (t && equal (drop longest_group (groups places_left xs).after) (1 ∷ [])) ≡ false
    go true e = let f = eqb-true (suc (groups places_left xs).count) full_code e in after-full xs places_left (omega arith)
    go false e = refl

-- ---- reading gives the list back

-- `done` bytes of the first group stand ahead of the list, and it gets n in all
groups-read : (xs : List ℕ) (room done n : ℕ) → room + done ≡ places_left → (groups room xs).count + done ≡ n
    → group_bytes (groups room xs).count (ltb (suc n) full_code) (groups room xs).after ≡ some xs
unfolding groups group_bytes
groups-read [] room done n h e = refl
groups-read (zero ∷ xs) room done n h e =
    rw (eqb-suc-zero, no-last-one xs, sub-one, groups-read xs places_left 0 _ refl (add-zero _), lt-ltb (suc n) full_code (omega arith))
groups-read (suc b ∷ []) zero done n h e = refl
groups-read (suc b ∷ x ∷ xs) zero done n h e =
    rw (
      eqb-suc-zero,
      no-last-one (x ∷ xs),
      sub-one,
      groups-read (x ∷ xs) places_left 0 _ refl (add-zero _),
      le-ltb (suc n) full_code (omega arith),
    )
groups-read (suc b ∷ xs) (suc room) done n h e = rw (groups-read xs room (suc done) n (omega arith) (omega arith))

pub round_trip : LineRoundTrip
unfolding uncobs cobs group_bytes
round_trip xs = rw (eqb-suc-zero, no-last-one xs, sub-one, groups-read xs places_left 0 _ refl (add-zero _))

-- ---- no zero

-- P holds of each element written if it holds of each code byte and of each element above 0 that has Q
module _ (P Q : ℕ → Type 0) (code : (n : ℕ) → n ≤ 254 → P (suc n)) (kept : (b : ℕ) → Q (suc b) → P (suc b)) where
  groups-each : (xs : List ℕ) (room : ℕ) → room ≤ 253 → Each Q xs → ((groups room xs).count ≤ suc room) × Each P (groups room xs).after
  unfolding groups
  groups-each [] room h q = (omega arith, tt)
  groups-each (zero ∷ xs) room h q = let r = groups-each xs 253 (omega arith) q.1 in (omega arith, (code _ (omega arith), r.1))
  groups-each (suc b ∷ []) zero h q = (omega arith, (kept b q.0, tt))
  groups-each (suc b ∷ x ∷ xs) zero h q =
      let r = groups-each (x ∷ xs) 253 (omega arith) q.1 in
      (omega arith, (kept b q.0, (code _ (omega arith), r.1)))
  groups-each (suc b ∷ xs) (suc room) h q = let r = groups-each xs room (omega arith) q.1 in (omega arith, (kept b q.0, r.1))

  pub cobs-each : (xs : List ℕ) → Each Q xs → Each P (cobs xs)
  unfolding cobs
  cobs-each xs q = let r = groups-each xs 253 (omega arith) q in (code _ (omega arith), r.1)

pub no_zero : NoZero
no_zero = cobs-each NonZero Byte (λ n h. omega arith) (λ b h. omega arith)

-- of any list, bytes or not
pub above_zero : (xs : List ℕ) → Each (λ b. 1 ≤ b) (cobs xs)
above_zero xs = cobs-each (λ b. 1 ≤ b) (λ b. Unit {0}) (λ n h. omega arith) (λ b h. omega arith) xs (any xs)
  where
    any : (ys : List ℕ) → Each (λ b. Unit {0}) ys
    any [] = tt
    any (y ∷ ys) = (tt, any ys)

-- two messages with one frame have the same bytes, whatever their fields are
pub message-same : (m n : Message) → frame m ≡ frame n → message m ≡ message n
unfolding frame
message-same m n e =
    let a = split_at (cobs (message m)) [] (above_zero (message m)) in
    let b = split_at (cobs (message n)) [] (above_zero (message n)) in
    let c = ap (λ (x : Pieces). x.closed) (sym a ∙ ap split e ∙ b) in
    let f : cobs (message m) ≡ cobs (message n) = cc in
    let g = round_trip (message m) in
    let h = round_trip (message n) in
    cc

-- ---- length

pub form_fits : FormFits
form_fits m r = FrameLength.form_fits m r.fits

pub frame_fits : FrameFits
frame_fits m r = FrameLength.frame_fits m r.fits
