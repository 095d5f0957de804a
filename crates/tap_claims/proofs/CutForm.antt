-- A front of a message's form that the line layer finds good has the message's sequence: what a front decodes to is a front of the message.
-- Assumes nothing.
use mathlib.Core.Path.{◌≡◌, refl, sym, ap, ◌∙◌}
use mathlib.Core.Bool.{Bool, true, false, cond, ◌||◌}
use mathlib.Core.List.{List, [], ◌∷◌, ◌++◌}
use mathlib.Core.Option.{Option, none, some, map}
use Prim.Native.Nat.{ℕ, zero, suc, ◌-◌, ◌≤◌}
use native.Mathlib.Omega.{arith}
use lib.Dec.{eqb, ltb}
use lib.ListN.{length, take, drop, length-drop}
use lib.Seq.{take-append-le, drop-append-le}
use Rattle.octets.specs.Bytes.{number}
use Rattle.octets.proofs.Conditions.{cond-by}
use Rattle.line.specs.Message.{Message, InRange, message}
use Rattle.line.specs.Cobs.{full_code, implied_zero, last_one_after_full, group_bytes, uncobs}
use Rattle.line.specs.Frame.{form}
use Rattle.line.specs.Judge.{good, judge, sequence_of, fields}
use Rattle.line.proofs.Judged.{judge-good, fit_length}
use Rattle.line_claims.proofs.CobsClaims.{round_trip}
use Rattle.line_claims.proofs.MessageLaws.{fields_read}

-- ---- a front

pub none-some : {A B : Type 0} {x : A} → none ≡ some x → B
none-some e = let z : ◌≡◌ {A = ℕ} 0 1 = cc in absurd (omega arith)

-- ys is a front of xs
abbrev pub Front : List ℕ → List ℕ → Type 0
Front ys xs = (zs : List ℕ) × (xs ≡ ys ++ zs)

-- where both are read, the one is a front of the other
abbrev FrontRead : Option (List ℕ) → Option (List ℕ) → Type 0
FrontRead o w = (ys xs : List ℕ) → o ≡ some ys → w ≡ some xs → Front ys xs

map-front : (f : List ℕ → List ℕ) → ((ys xs : List ℕ) → Front ys xs → Front (f ys) (f xs)) → (o w : Option (List ℕ)) → FrontRead o w
    → FrontRead (map f o) (map f w)
map-front f k none w h ys xs e g = none-some e
map-front f k (some y) none h ys xs e g = none-some g
map-front f k (some y) (some x) h ys xs e g =
    let a : f y ≡ ys = cc in
    let b : f x ≡ xs = cc in
    rw (← a, ← b) (k y x (h y x refl refl))

zeros-front : (holds : Bool) (ys xs : List ℕ) → Front ys xs → Front (implied_zero holds ++ ys) (implied_zero holds ++ xs)
zeros-front true ys xs f = (f.0, ap (λ (z : List ℕ). 0 ∷ z) f.1)
zeros-front false ys xs f = f

group-front : (bs cs : List ℕ) (left : ℕ) (holds : Bool) → FrontRead (group_bytes left holds bs) (group_bytes left holds (bs ++ cs))
unfolding group_bytes
group-front [] cs zero holds = λ ys xs e g. let z : [] ≡ ys = cc in rw (← z) (xs, refl)
group-front [] cs (suc left) holds = λ ys xs e g. none-some e
group-front (b ∷ bs) cs (suc left) holds =
    map-front (λ xs. b ∷ xs) (λ ys xs f. (f.0, ap (λ (z : List ℕ). b ∷ z) f.1)) (group_bytes left holds bs) _
    (group-front bs cs left holds)
group-front (c ∷ bs) cs zero holds =
    let inner = map-front (λ xs. implied_zero holds ++ xs) (zeros-front holds) (group_bytes (c - 1) (ltb c full_code) bs) _
    (group-front bs cs (c - 1) (ltb c full_code)) in
    cond-by (λ o. FrontRead o (cond (eqb c 0 || last_one_after_full c (bs ++ cs)) none
    (map (λ xs. implied_zero holds ++ xs) (group_bytes (c - 1) (ltb c full_code) (bs ++ cs)))))
    (eqb c 0 || last_one_after_full c bs) _ _ (λ _ ys xs e g. none-some e)
    (λ _. cond-by (λ w. FrontRead (map (λ xs. implied_zero holds ++ xs) (group_bytes (c - 1) (ltb c full_code) bs)) w)
    (eqb c 0 || last_one_after_full c (bs ++ cs)) _ _ (λ _ ys xs e g. none-some g) (λ _. inner))

-- ---- the sequence

front-sequence : (ys zs : List ℕ) → 16 ≤ length ys → sequence_of (ys ++ zs) ≡ sequence_of ys
front-sequence ys zs h =
    let k : 8 ≤ length (drop 8 ys) = omega (arith, length-drop 8 ys) in
    ap number (ap (take 8) (drop-append-le 8 ys zs (omega arith)) ∙ take-append-le 8 (drop 8 ys) zs k)

pub cut-form : (m r : Message) (bs cs : List ℕ) → InRange m → form m ≡ bs ++ cs → judge bs ≡ good r → r.sequence ≡ m.sequence
unfolding fields uncobs
cut-form m r bs cs i e j =
    let g = judge-good bs r j in
    let l = (fit_length g.xs g.fits).0 in
    let whole : group_bytes 0 false (bs ++ cs) ≡ some (message m) = ap (group_bytes 0 false) (sym e) ∙ round_trip (message m) in
    let f = group-front bs cs 0 false g.xs (message m) g.decoded whole in
    ap (λ (x : Message). x.sequence) g.is
    ∙ sym (front-sequence g.xs f.0 (omega (arith, l)))
    ∙ ap sequence_of (sym f.1)
    ∙ ap (λ (x : Message). x.sequence) (fields_read m i)
