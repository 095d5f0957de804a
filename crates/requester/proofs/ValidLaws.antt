-- What the test of specs/Valid.antt says of the numbers that it reads, as a record, and back; valid parts and parts that are long enough.
-- Assumes nothing.
use mathlib.Core.Path.{◌≡◌, refl, sym, ap}
use mathlib.Core.Bool.{Bool, true, false, cond, and-eq-true_iff}
use mathlib.Core.List.{List, ◌++◌}
use mathlib.Core.Option.{Option, none, some}
use Prim.Native.Nat.{ℕ, ◌≤◌, ◌<◌, min}
use native.Mathlib.Nat.{zero-add}
use native.Mathlib.Omega.{arith}
use lib.Dec.{leb}
use lib.ListN.{length, take, drop, replicate, length-take}
use Rattle.std.proofs.lemmas.List.{length-replicate}
use borrow.Author.Tests.{leb-true, le-leb}
use Rattle.octets.specs.Bytes.{overlay}
use Rattle.line.specs.Limits.{longest_data}
use Rattle.line.specs.Reader as LineReader
use Rattle.requester.specs.Limits.{last_number}
use Rattle.requester.specs.Requester.{stays_out}
use Rattle.requester.specs.Layout
use Rattle.requester.specs.Valid.{is_numbered, valid_requester}
use Rattle.requester.specs.Calls.{MainParts, main_parts, main_long_enough, main_fresh_parts, main_valid_parts, main_start_promise}
use Rattle.requester.specs.Calls.{MainPartsValid, MainLongEnough}
use Rattle.requester.proofs.Cases.{untrue, implied, implies, le-and, and-le}

pub record RequesterValid (r : List ℕ) : Type 0 where
  pub long : Layout.requester_length ≤ length r
  pub number : Layout.newest_number r ≤ last_number
  pub recovery : Layout.recovery_of r ≤ 3
  pub unsent : Layout.unsent_of r ≤ 1
  pub kept : Layout.kept_flag r ≤ 1
  pub size : Layout.kept_length r ≤ longest_data
  pub command : stays_out (Layout.kept_command r) ≡ true
  pub numbered : Layout.is_outstanding r ≡ true → 1 ≤ Layout.newest_number r

numbered-then : (r : List ℕ) → is_numbered r ≡ true → Layout.is_outstanding r ≡ true → 1 ≤ Layout.newest_number r
unfolding is_numbered
numbered-then r e o = leb-true _ _ (implied _ _ e o)

then-numbered : (r : List ℕ) → (Layout.is_outstanding r ≡ true → 1 ≤ Layout.newest_number r) → is_numbered r ≡ true
unfolding is_numbered
then-numbered r h = implies _ _ (λ o. le-leb _ _ (h o))

pub requester-valid : (r : List ℕ) → valid_requester r ≡ true → RequesterValid r
unfolding valid_requester
requester-valid r e =
    let a = le-and _ _ _ e in
    let b = le-and _ _ _ a.1 in
    let c = le-and _ _ _ b.1 in
    let d = le-and _ _ _ c.1 in
    let f = le-and _ _ _ d.1 in
    let g = le-and _ _ _ f.1 in
    let h = (and-eq-true_iff _ _).0 g.1 in
    record {
      long = a.0;
      number = b.0;
      recovery = c.0;
      unsent = d.0;
      kept = f.0;
      size = g.0;
      command = h.0;
      numbered = numbered-then r h.1;
    }

pub valid-requester : (r : List ℕ) → RequesterValid r → valid_requester r ≡ true
unfolding valid_requester
valid-requester r v =
    and-le _ _ _ v.long
    (and-le _ _ _ v.number
    (and-le _ _ _ v.recovery
    (and-le _ _ _ v.unsent
    (and-le _ _ _ v.kept
    (and-le _ _ _ v.size ((and-eq-true_iff _ _).1 (v.command, then-numbered r v.numbered)))))))

-- ---- all parts

pub parts-valid : (p : MainParts) → main_valid_parts p ≡ true → MainPartsValid p
unfolding main_valid_parts
parts-valid p e = let t = (and-eq-true_iff (LineReader.valid_reader p.reader) _).0 e in record { reader = t.0; requester = t.1 }

pub valid-parts : (p : MainParts) → MainPartsValid p → main_valid_parts p ≡ true
unfolding main_valid_parts
valid-parts p v = rw v.reader v.requester

-- ---- room for a start

pub is-long-enough : (p : MainParts) → main_long_enough p ≡ true → MainLongEnough p
unfolding main_long_enough
is-long-enough p e = let t = le-and _ _ _ e in record { reader = t.0; requester = leb-true _ _ t.1 }

pub long-enough-is : (p : MainParts) → MainLongEnough p → main_long_enough p ≡ true
unfolding main_long_enough
long-enough-is p r = and-le _ _ _ r.reader (le-leb _ _ r.requester)

pub cramped : (p : MainParts) → length p.requester < Layout.requester_length
    → record { refusal = some 12; parts = p } ≡ main_start_promise p
unfolding main_start_promise
cramped p l = rw (sym (untrue (main_long_enough p) (λ e. omega (arith, (is-long-enough p e).requester))))

-- the first bytes of a part, all 0
pub cleared : (n : ℕ) (r : List ℕ) {t : List ℕ} → n ≤ length r → t ≡ replicate (length (take n r)) 0
    → t ++ drop n r ≡ overlay 0 (replicate n 0) r
unfolding overlay
cleared n r l e = let m : min n (length r) ≡ n = omega arith in rw (e, length-take n r, m, length-replicate, zero-add)

abbrev started : Option ℕ → List ℕ → LineReader.ReaderStartOutcome
started refusal s = record { refusal = refusal; state = s }

-- the line reader's start, by the room for it
cramped_by : (b : Bool) (n : ℕ) (s t u : List ℕ)
    → started (some n) s ≡ cond b (started none t) (started (some 12) u) → (b ≡ false) × (n ≡ 12) × (s ≡ u)
cramped_by true n s t u e = let f = ap (λ (x : LineReader.ReaderStartOutcome). x.refusal) e in cc
cramped_by false n s t u e =
    let f = ap (λ (x : LineReader.ReaderStartOutcome). x.refusal) e in
    (refl, cc, ap (λ (x : LineReader.ReaderStartOutcome). x.state) e)

begun-by : (b : Bool) (s t u : List ℕ)
    → started none s ≡ cond b (started none t) (started (some 12) u) → (b ≡ true) × (s ≡ t)
begun-by true s t u e = (refl, ap (λ (x : LineReader.ReaderStartOutcome). x.state) e)
begun-by false s t u e = let f = ap (λ (x : LineReader.ReaderStartOutcome). x.refusal) e in cc

module _ (p : MainParts) {s : List ℕ} where
  pub cramped-reader : {n : ℕ} → started (some n) s ≡ LineReader.reader_start_promise p.reader
      → record { refusal = some n; parts = main_parts s p.requester } ≡ main_start_promise p
  unfolding main_start_promise main_long_enough LineReader.reader_start_promise
  cramped-reader e = let f = cramped_by (leb LineReader.reader_length (length p.reader)) _ _ _ _ e in rw (f.1, f.2, f.0)

  pub begun : Layout.requester_length ≤ length p.requester → {r : List ℕ}
      → started none s ≡ LineReader.reader_start_promise p.reader
      → r ≡ overlay 0 (replicate Layout.requester_length 0) p.requester
      → record { refusal = none; parts = main_parts s r } ≡ main_start_promise p
  unfolding main_start_promise main_long_enough main_fresh_parts LineReader.reader_start_promise
  begun l e w =
      let f = begun-by (leb LineReader.reader_length (length p.reader)) _ _ _ e in
      rw (f.0, f.1, w, le-leb Layout.requester_length (length p.requester) l)
