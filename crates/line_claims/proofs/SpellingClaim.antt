-- Claims: a form of bytes 1 to 255 that is read is the one that is written (document 02's item 6).
-- A frame that is read as a message is that message's frame. Assumes nothing.
use mathlib.Core.Path.{◌≡◌, refl, sym, ap, ◌∙◌}
use mathlib.Core.Bool.{Bool, true, false, cond}
use mathlib.Core.List.{List, [], ◌∷◌, ◌++◌}
use mathlib.Core.Option.{none, some, map, map-eq-some_iff}
use Prim.Native.Nat.{ℕ, zero, suc, ◌≤◌}
use native.Mathlib.Omega.{arith}
use native.Mathlib.Numerals.{sub-one}
use lib.Dec.{ltb, eqb-suc-zero}
use lib.ListN.{drop}
use borrow.Author.Tests.{ltb-true, ltb-false, eq-eqb}
use Rattle.octets.specs.Bytes.{Byte, Each, equal}
use Rattle.line.specs.Limits.{longest_group}
use Rattle.line.specs.Message.{Message, InRange, message}
use Rattle.line.specs.Cobs.{full_code, places_left, Group, coded, unless_end, groups, cobs, implied_zero, last_one_after_full, group_bytes}
use Rattle.line.specs.Cobs.{uncobs}
use Rattle.line.specs.Frame.{frame, NonZero}
use Rattle.line.specs.Judge.{good, judge_form, judge}
use Rattle.line.proofs.Judged.{fit_length, uncobs-each, judge-good}
use Rattle.line_claims.proofs.MessageLaws.{fields-range, message-written}
use Rattle.line_claims.specs.Item6.{OneSpelling, ReadWritten, GoodFrame}

-- ---- what a part of a form was read as

never : {A : Type 0} {xs : List ℕ} → none ≡ some xs → A
never e = let z : ◌≡◌ {A = ℕ} 0 1 = cc in absurd (omega arith)

-- a byte of a group
byte-read : (b left : ℕ) (holds : Bool) (bs xs : List ℕ) → group_bytes (suc left) holds (b ∷ bs) ≡ some xs
    → (ys : List ℕ) × (group_bytes left holds bs ≡ some ys) × (b ∷ ys ≡ xs)
unfolding group_bytes
byte-read b left holds bs xs e = (map-eq-some_iff (λ ys. b ∷ ys) (group_bytes left holds bs)).0 e

-- a code byte
record Coded (k : ℕ) (holds : Bool) (cs xs : List ℕ) : Type 0 where
  rest : List ℕ
  read : group_bytes k (ltb (suc k) full_code) cs ≡ some rest
  whole : implied_zero holds ++ rest ≡ xs
  spelled : last_one_after_full (suc k) cs ≡ false

code_read : (k : ℕ) (holds : Bool) (cs xs : List ℕ) → group_bytes 0 holds (suc k ∷ cs) ≡ some xs → Coded k holds cs xs
unfolding group_bytes
code_read k holds cs xs e = go (last_one_after_full (suc k) cs) refl (rw (eqb-suc-zero, sub-one) at e)
  where
    go : (t : Bool) → last_one_after_full (suc k) cs ≡ t
        → cond t none (map (λ ys. implied_zero holds ++ ys) (group_bytes k (ltb (suc k) full_code) cs)) ≡ some xs → Coded k holds cs xs
    go true f g = never g
    go false f g =
        let m = (map-eq-some_iff (λ ys. implied_zero holds ++ ys) (group_bytes k (ltb (suc k) full_code) cs)).0 g in
        record { rest = m.0; read = m.1; whole = m.2; spelled = f }

-- ---- what is read was written

-- A group with `left` bytes to come is the next of a message.
-- One that a zero follows has at most `room` more and a place. A full one has all its places, and no last 01 stands after it.
abbrev Next : Bool → ℕ → ℕ → List ℕ → Type 0
Next true left room bs = left ≤ room
Next false left room bs = (left ≡ suc room) × (equal (drop left bs) (1 ∷ []) ≡ false)

fresh-next : (k : ℕ) (cs : List ℕ) → suc k ≤ 255 → last_one_after_full (suc k) cs ≡ false → Next (ltb (suc k) full_code) k places_left cs
fresh-next k cs h s = go (ltb (suc k) full_code) refl
  where
    go : (t : Bool) → ltb (suc k) full_code ≡ t → Next t k places_left cs
    go true e = let l = ltb-true (suc k) full_code e in omega arith
    go false e =
        let l = ltb-false (suc k) full_code e in
        let f : k ≡ longest_group = omega arith in
        (f, rw f (rw (eq-eqb (suc k) full_code (ap suc f)) at s))

byte_next : (holds : Bool) (left room b : ℕ) (bs : List ℕ) → Next holds (suc left) (suc room) (b ∷ bs) → Next holds left room bs
byte_next true left room b bs h = omega arith
byte_next false left room b bs h = (omega arith, h.1)

-- a group that is not a lone 01 is read as something
some_read : (k : ℕ) (cs xs : List ℕ) → Each NonZero cs → equal (suc k ∷ cs) (1 ∷ []) ≡ false
    → group_bytes k (ltb (suc k) full_code) cs ≡ some xs → xs ≡ [] → ⊥
unfolding group_bytes equal
some_read zero [] xs n h e z = let f : ◌≡◌ {A = ℕ} 0 1 = cc in omega arith
some_read (suc k) [] xs n h e z = never e
some_read (suc k) (b ∷ bs) xs n h e z =
    let m = byte-read b k (ltb (suc (suc k)) full_code) bs xs e in let f : ◌≡◌ {A = ℕ} 0 1 = cc in omega arith
some_read zero (zero ∷ cs) xs n h e z = absurd (omega (arith, n.0))
some_read zero (suc c ∷ cs) xs n h e z = let m = code_read c true cs xs e in let w = m.whole in let f : ◌≡◌ {A = ℕ} 0 1 = cc in omega arith

unless-end : (xs ys : List ℕ) → (xs ≡ [] → ⊥) → unless_end xs ys ≡ ys
unless-end [] ys h = absurd (h refl)
unless-end (x ∷ xs) ys h = refl

abbrev group : ℕ → List ℕ → Group
group n bs = record { count = n; after = bs }

read_back : (cs : List ℕ) (left room : ℕ) (holds : Bool) (xs : List ℕ) → Next holds left room cs → Each NonZero cs
    → group_bytes left holds cs ≡ some xs → groups room xs ≡ group left cs
unfolding group_bytes groups
read_back [] zero room holds xs f n e = let z : xs ≡ [] = cc in rw z
read_back [] (suc left) room holds xs f n e = never e
read_back (zero ∷ bs) left room holds xs f n e = absurd (omega (arith, n.0))
read_back (suc b ∷ bs) (suc left) zero true xs f n e = absurd (omega (arith, f))
read_back (suc b ∷ bs) (suc (suc left)) zero false xs f n e = absurd (omega (arith, f.0))
read_back (suc b ∷ []) (suc zero) zero false xs f n e =
    let m = byte-read (suc b) 0 false [] xs e in
    let z : m.0 ≡ [] = cc in
    rw (← m.2, z)
read_back (suc b ∷ zero ∷ cs) (suc zero) zero false xs f n e = absurd (omega (arith, n.1.0))
read_back (suc b ∷ suc c ∷ cs) (suc zero) zero false xs f n e =
    let m = byte-read (suc b) 0 false (suc c ∷ cs) xs e in
    let k = code_read c false cs m.0 m.1 in
    let r = read_back cs c places_left (ltb (suc c) full_code) k.rest (fresh-next c cs n.1.0.1 k.spelled) n.1.1 k.read in
    let s =
    unless-end k.rest (coded (groups places_left k.rest)) (some_read c cs k.rest n.1.1 f.1 k.read) ∙ ap coded r in
    rw (← m.2, ← k.whole, s)
read_back (suc b ∷ bs) (suc left) (suc room) holds xs f n e =
    let m = byte-read (suc b) left holds bs xs e in
    rw (← m.2, read_back bs left room holds m.0 (byte_next holds left room (suc b) bs f) n.1 m.1)
read_back (suc c ∷ cs) zero room true xs f n e =
    let k = code_read c true cs xs e in
    rw (← k.whole, read_back cs c places_left (ltb (suc c) full_code) k.rest (fresh-next c cs n.0.1 k.spelled) n.1 k.read)
read_back (suc c ∷ cs) zero room false xs f n e = absurd (omega (arith, f.0))

cons-some : {x : ℕ} {xs : List ℕ} → x ∷ xs ≡ [] → ⊥
cons-some e = let f : ◌≡◌ {A = ℕ} 0 1 = cc in omega arith

nonzero-byte : (xs : List ℕ) → Each NonZero xs → Each Byte xs
nonzero-byte [] n = tt
nonzero-byte (x ∷ xs) n = (omega (arith, n.0), nonzero-byte xs n.1)

-- ---- the claims

pub read_written : ReadWritten
unfolding uncobs cobs
read_written [] xs h e = absurd (h.some_byte refl)
read_written (zero ∷ cs) xs h e = absurd (omega (arith, h.bytes.0))
read_written (suc c ∷ cs) xs h e =
    let n = h.bytes in
    let k = code_read c false cs xs e in
    let r = read_back cs c places_left (ltb (suc c) full_code) k.rest (fresh-next c cs n.0.1 k.spelled) n.1 k.read in
    rw (← k.whole, r)

pub one_spelling : OneSpelling
one_spelling f g xs h i e d = read_written f xs h e ∙ sym (read_written g xs i d)

-- a form that the tests find good is that of the message, which is in range
pub good-form : (form : List ℕ) (m : Message) → Each NonZero form → judge form ≡ good m → (form ≡ cobs (message m)) × InRange m
unfolding judge judge_form uncobs group_bytes
good-form [] m n e = let f : ◌≡◌ {A = ℕ} 0 1 = cc in absurd (omega arith)
good-form (b ∷ bs) m n e =
    let g = judge-good (b ∷ bs) m e in
    let l = fit_length g.xs g.fits in
    let each = uncobs-each (b ∷ bs) g.xs (nonzero-byte (b ∷ bs) n) g.decoded in
    let w = message-written g.xs each l.0 g.first g.sums in (
      rw (g.is, w) (read_written (b ∷ bs) g.xs (record { some_byte = cons-some; bytes = n }) g.decoded),
      rw g.is (fields-range g.xs each l.1),
    )

pub good_frame : GoodFrame
unfolding frame
good_frame form m n e = rw (← (good-form form m n e).0)
