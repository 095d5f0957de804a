-- Laws of the tests on a frame's bytes: what they find good, that bytes are decoded from bytes, and what has come of a frame.
-- Assumes nothing.
use mathlib.Core.Path.{◌≡◌, refl}
use mathlib.Core.Bool.{Bool, true, false, ◌||◌}
use mathlib.Core.List.{List, [], ◌∷◌, ◌++◌}
use mathlib.Core.Option.{Option, none, some, map}
use Prim.Native.Nat.{ℕ, zero, suc, ◌+◌, ◌-◌, ◌≤◌, ◌<◌}
use native.Mathlib.Omega.{arith}
use lib.Dec.{ltb, eqb}
use lib.ListN.{length, length-append, length-drop, length-take}
use borrow.Author.Tests.{lt-ltb, le-ltb, ltb-true, ltb-false, not-false, eqb-true}
use Rattle.octets.specs.Bytes.{Byte, Each}
use Rattle.octets.proofs.Conditions.{cond-by}
use Rattle.octets.proofs.Each.{each_append}
use Rattle.line.specs.Limits.{shortest_message, longest_message, longest_data, longest_form}
use Rattle.line.specs.Numbers.{reason_form}
use Rattle.line.specs.Checksum.{checksum}
use Rattle.line.specs.Message.{magic, Message}
use Rattle.line.specs.Cobs.{full_code, implied_zero, last_one_after_full, group_bytes, uncobs}
use Rattle.line.specs.Judge.{LineVerdict, failure, good, body_of, checksum_of, magic_of, fields, wrong_length, wrong_checksum}
use Rattle.line.specs.Judge.{wrong_magic, judge_form, judge, progress_of, more_received, judge_received}

-- bytes with a message's length
pub fit_length : (xs : List ℕ) → wrong_length xs ≡ false → (shortest_message ≤ length xs) × (length xs ≤ longest_message)
fit_length xs e =
    let f = neither (ltb (length xs) shortest_message) _ e in
    (ltb-false (length xs) shortest_message f.0, ltb-false longest_message (length xs) f.1)
  where
    neither : (a b : Bool) → (a || b) ≡ false → (a ≡ false) × (b ≡ false)
    neither true b p = (p, cc)
    neither false b p = (refl, p)

-- ---- what the tests find good

pub never : {A : Type 0} {reason : ℕ} {sequence : Option ℕ} {m : Message} → failure reason sequence ≡ good m → A
never p = let z : ◌≡◌ {A = ℕ} 0 1 = cc in absurd (omega arith)

pub record Good (form : List ℕ) (m : Message) : Type 0 where
  pub xs : List ℕ
  pub short : length form ≤ longest_form
  pub decoded : uncobs form ≡ some xs
  pub fits : wrong_length xs ≡ false
  pub sums : checksum_of xs ≡ checksum (body_of xs)
  pub first : magic_of xs ≡ magic
  pub is : m ≡ fields xs

pub judge-good : (form : List ℕ) (m : Message) → judge form ≡ good m → Good form m
unfolding judge judge_form
judge-good form m =
    cond-by (λ o. judge_form o ≡ good m → Good form m) (ltb longest_form (length form)) _ _
    (λ e p. never p) (λ e. by (ltb-false _ _ e) (uncobs form) refl)
  where
    Gives : LineVerdict → Type 0
    Gives v = v ≡ good m → Good form m

    by : length form ≤ longest_form → (o : Option (List ℕ)) → uncobs form ≡ o → Gives (judge_form o)
    by l none d = λ p. never p
    by l (some xs) d =
        cond-by Gives (wrong_length xs) _ _ (λ e p. never p) (λ e.
        cond-by Gives (wrong_checksum xs) _ _ (λ f p. never p) (λ f.
        cond-by Gives (wrong_magic xs) _ _ (λ g p. never p) (λ g p.
        record {
          xs = xs;
          short = l;
          decoded = d;
          fits = e;
          sums = eqb-true _ _ (not-false _ f);
          first = eqb-true _ _ (not-false _ g);
          is = cc;
        })))

-- its data fit a message
pub good-fits : (form : List ℕ) (m : Message) → judge form ≡ good m → length m.payload ≤ longest_data
unfolding fields
good-fits form m e =
    let g = judge-good form m e in
    let l = fit_length g.xs g.fits in
    rw g.is (simp (length-drop, length-take) (omega arith))

-- ---- decoding keeps a property

-- P holds of each element read if it holds of a zero and of each element of the form
module _ (P : ℕ → Type 0) (of_zero : P 0) where
  abbrev EachRead : Option (List ℕ) → Type 0
  EachRead none = Unit {0}
  EachRead (some xs) = Each P xs

  then-each : (f : List ℕ → List ℕ) → ((xs : List ℕ) → Each P xs → Each P (f xs)) → (o : Option (List ℕ)) → EachRead o
      → EachRead (map f o)
  then-each f h none r = tt
  then-each f h (some xs) r = h xs r

  zeros-each : (holds : Bool) → Each P (implied_zero holds)
  zeros-each true = (of_zero, tt)
  zeros-each false = tt

  group-each : (bs : List ℕ) (left : ℕ) (holds : Bool) → Each P bs → EachRead (group_bytes left holds bs)
  unfolding group_bytes
  group-each [] zero holds h = tt
  group-each [] (suc left) holds h = tt
  group-each (b ∷ bs) (suc left) holds h =
      then-each (λ xs. b ∷ xs) (λ xs k. (h.0, k)) (group_bytes left holds bs) (group-each bs left holds h.1)
  group-each (c ∷ cs) zero holds h =
      cond-by EachRead (eqb c 0 || last_one_after_full c cs) _ _ (λ e. tt) (λ e.
      then-each (λ xs. implied_zero holds ++ xs) (λ xs k. each_append P (implied_zero holds) xs (zeros-each holds) k)
      (group_bytes (c - 1) (ltb c full_code) cs) (group-each cs (c - 1) (ltb c full_code) h.1))

-- bytes are read from bytes
pub uncobs-each : (form xs : List ℕ) → Each Byte form → uncobs form ≡ some xs → Each Byte xs
unfolding uncobs
uncobs-each form xs h e = rw e at (group-each Byte (omega arith) form 0 false h)

-- ---- what has come of a frame

module _ (bs : List ℕ) where
  pub tail-over : longest_form < length bs → progress_of bs ≡ none
  unfolding progress_of
  tail-over h = rw (lt-ltb longest_form (length bs) h)

  pub tail_within : length bs ≤ longest_form → progress_of bs ≡ some bs
  unfolding progress_of
  tail_within h = rw (le-ltb longest_form (length bs) h)

  module _ (b : ℕ) where
    pub more_room : length bs < longest_form → more_received (some bs) b ≡ some (bs ++ (b ∷ []))
    unfolding more_received
    more_room h = rw (lt-ltb (length bs) longest_form h)

    pub more-over : longest_form ≤ length bs → more_received (some bs) b ≡ none
    unfolding more_received
    more-over h = rw (le-ltb (length bs) longest_form h)

-- where a byte more leaves bytes, they are those before and it
pub more-some : (bs cs : List ℕ) (b : ℕ) → more_received (some bs) b ≡ some cs → cs ≡ bs ++ (b ∷ [])
unfolding more_received
more-some bs cs b =
    cond-by (λ o. o ≡ some cs → cs ≡ bs ++ (b ∷ [])) (ltb (length bs) longest_form) _ _ (λ _ e. cc)
    (λ _ e. absurd (let z : ◌≡◌ {A = ℕ} 0 1 = cc in omega arith))

pub more-tail : (bs : List ℕ) (b : ℕ) → more_received (progress_of bs) b ≡ progress_of (bs ++ (b ∷ []))
unfolding more_received
more-tail bs b = by (ltb longest_form (length bs)) (ltb (length bs) longest_form) refl refl
  where
    long : length (bs ++ (b ∷ [])) ≡ length bs + 1
    long = simp length-append

    by : (over room : Bool) → ltb longest_form (length bs) ≡ over → ltb (length bs) longest_form ≡ room
        → more_received (progress_of bs) b ≡ progress_of (bs ++ (b ∷ []))
    by true room e f =
        let h = ltb-true longest_form (length bs) e in
        rw (tail-over bs h, tail-over (bs ++ (b ∷ [])) (omega (arith, long)))
    by false true e f =
        rw (tail_within bs (ltb-false _ _ e), f, tail_within (bs ++ (b ∷ [])) (omega (arith, long, ltb-true (length bs) longest_form f)))
    by false false e f =
        rw (tail_within bs (ltb-false _ _ e), f, tail-over (bs ++ (b ∷ [])) (omega (arith, long, ltb-false (length bs) longest_form f)))

-- the 00 behind bytes
pub judge-over : (bs : List ℕ) → longest_form < length bs → judge bs ≡ failure reason_form none
unfolding judge judge_form
judge-over bs h = rw (lt-ltb longest_form (length bs) h)

pub judged-progress : (b : ℕ) (bs : List ℕ) → judge_received (progress_of (b ∷ bs)) ≡ some (judge (b ∷ bs))
judged-progress b bs = by (ltb longest_form (length (b ∷ bs))) refl
  where
    by : (over : Bool) → ltb longest_form (length (b ∷ bs)) ≡ over → judge_received (progress_of (b ∷ bs)) ≡ some (judge (b ∷ bs))
    by true e = let h = ltb-true longest_form (length (b ∷ bs)) e in rw (tail-over (b ∷ bs) h, judge-over (b ∷ bs) h)
    by false e = rw (tail_within (b ∷ bs) (ltb-false _ _ e))

-- a good message is of bytes that have come
pub received-good : (received : Option (List ℕ)) (m : Message) → judge_received received ≡ some (good m)
    → (form : List ℕ) × (received ≡ some form) × (judge form ≡ good m)
received-good none m e = absurd (never-some e)
  where
    never-some : ◌≡◌ {A = Option LineVerdict} (some (failure reason_form none)) (some (good m)) → ⊥
    never-some p = let z : ◌≡◌ {A = ℕ} 0 1 = cc in omega arith
received-good (some []) m e = absurd (let z : ◌≡◌ {A = ℕ} 0 1 = cc in omega arith)
received-good (some (b ∷ bs)) m e = (b ∷ bs, refl, cc)
