-- A reply to a lookup of a settings key: accused of nothing it is exactly what the sets leave, and the value of an older one of the last
-- four is told as stale. Assumes that what is known counts the sets (`Knows`).
use mathlib.Core.Path.{◌≡◌, refl, sym, ap, ◌∙◌}
use mathlib.Core.Bool.{Bool, true, false, cond, not, ◌&&◌, and-eq-true_iff, and-false}
use mathlib.Core.List.{List, [], ◌∷◌, ◌++◌}
use mathlib.Core.Logic.{inl, inr}
use mathlib.Core.Option.{Option, none, some}
use Prim.Native.Nat.{ℕ, ◌≤◌}
use native.Mathlib.Nat.{add-zero}
use native.Mathlib.Omega.{arith}
use lib.Dec.{leb, ltb, eqb}
use lib.ListN.{length, take, drop, take-append-drop}
use lib.Seq.{take-take, drop-drop}
use borrow.Author.Tests.{eqb-true, eq-eqb, ne_eqb, le-ltb, leb-true}
use Rattle.octets.specs.Bytes.{Byte, Each, number, bytes, number_at, equal}
use Rattle.octets.proofs.Conditions.{cond-by}
use Rattle.octets.proofs.Equal.{equal-true}
use Rattle.octets.proofs.Overlay.{number-run}
use Rattle.line.specs.Numbers.{second_version, command_key_lookup, reply_key_lookup, reply_decode_failure}
use Rattle.line.specs.Message.{Message}
use Rattle.supervisor.specs.Limits.{highest_key, passphrase_key, last_edition}
use Rattle.supervisor.specs.Number.{top_set}
use Rattle.supervisor.specs.State.{Setting}
use Rattle.supervisor.specs.Local.{Found, without, fitted}
use Rattle.responder.specs.Commands.{command_number, with_number, command_of_number}
use Rattle.responder.specs.Requests.{good, edition_bytes}
use Rattle.supervisor_claims.specs.LastSet.{fitted_of, ReadBack}
use Rattle.tap.specs.Known.{SetSeen, KeyKnown, Known, key_known, most_sets, newest_value, is_found, may_find}
use Rattle.tap.specs.Accused.{Accusation, other_reason, other_version, other_command, other_length, other_edition, too_long}
use Rattle.tap.specs.Accused.{stale, accused_if, key_asked, most_asked, result_told, head_length, value_told, is_lookup_form}
use Rattle.tap.specs.Accused.{set_with, newest_set_number, is_newest, wrong_value, edition_accused_at, setting_accused, key_accused}
use Rattle.tap.specs.Accused.{lookup_accused, reply_earned, length_earned, data_accused, request_accused, reply_accused}
use Rattle.tap_claims.specs.Claims.{AccusedOf}
use Rattle.tap_claims.proofs.SetsCounted.{Knows}

-- ---- What a reply to a lookup of a settings key is accused of, test by test

layers : Bool → Bool → Bool → Bool → List Accusation → Bool → Accusation → List Accusation → List Accusation
layers failed version command form long value wrong edition =
    cond failed (other_reason ∷ [])
    (accused_if (not version) other_version
    ++ cond (not command) (other_command ∷ []) (cond (not form) (other_length ∷ []) (long ++ (accused_if (not value) wrong ++ edition))))

record Passed (version command form value : Bool) (edition : List Accusation) : Type 0 where
  version_right : version ≡ true
  command_right : command ≡ true
  form_right : form ≡ true
  value_right : value ≡ true
  edition_right : edition ≡ []

module _ {A : Type 0} where
  never : {B : Type 0} {x : A} {xs : List A} → x ∷ xs ≡ [] → B
  never e = absurd (let z : ◌≡◌ {A = ℕ} 0 1 = cc in omega arith)

  none-behind : (xs ys : List A) → xs ++ ys ≡ [] → ys ≡ []
  none-behind [] ys e = e
  none-behind (x ∷ xs) ys e = never e

layers-none : (failed version command form : Bool) (long : List Accusation) (value : Bool) (wrong : Accusation) (edition : List Accusation)
    → layers failed version command form long value wrong edition ≡ [] → Passed version command form value edition
unfolding layers accused_if
layers-none true version command form long value wrong edition e = never e
layers-none false false command form long value wrong edition e = never e
layers-none false true false form long value wrong edition e = never e
layers-none false true true false long value wrong edition e = never e
layers-none false true true true long false wrong edition e = never (none-behind long (wrong ∷ edition) e)
layers-none false true true true long true wrong edition e = record {
  version_right = refl;
  command_right = refl;
  form_right = refl;
  value_right = refl;
  edition_right = none-behind long edition e;
}

among-behind : (a : Accusation) (xs ys : List Accusation) → AccusedOf a (xs ++ (a ∷ ys))
among-behind a [] ys = inl refl
among-behind a (x ∷ xs) ys = inr (among-behind a xs ys)

layers-wrong : (version : Bool) (long : List Accusation) (wrong : Accusation) (edition : List Accusation)
    → AccusedOf wrong (layers false version true true long false wrong edition)
unfolding layers accused_if
layers-wrong true long wrong edition = among-behind wrong long edition
layers-wrong false long wrong edition = inr (among-behind wrong long edition)

-- ---- The parts of a reply

first_byte : (b : ℕ) (bs : List ℕ) → number_at 1 (b ∷ bs) 0 ≡ b
unfolding number
first_byte b bs = add-zero b

-- its result, and what stands behind
head_apart : (p : List ℕ) → 1 ≤ length p → p ≡ number_at 1 p 0 ∷ drop 1 p
head_apart [] h = absurd (omega arith)
head_apart (b ∷ bs) h = rw (first_byte b bs)

-- four bytes behind the first, as a number
edition-apart : (p : List ℕ) → Each Byte p → 5 ≤ length p → drop 1 p ≡ bytes 4 (number_at 4 p 1) ++ drop 5 p
edition-apart p b h =
    sym (take-append-drop 4 (drop 1 p)) ∙ rw (number-run 4 1 p h b, ← (drop-drop 4 1 p))

alone : (p : List ℕ) → length p ≡ 1 → drop 1 p ≡ []
alone [] h = refl
alone (b ∷ []) h = refl
alone (b ∷ (c ∷ bs)) h = absurd (omega arith)

-- ---- Its data

-- a reply's data p in a version have the form of a lookup's, with this result and value and, behind result 0, this edition
record Finds (version : ℕ) (p : List ℕ) (f : Found) : Type 0 where
  bytes : Each Byte p
  form : cond (eqb (number_at 1 p 0) 0) (leb (head_length version 0) (length p)) (eqb (length p) 1) ≡ true
  result : number_at 1 p 0 ≡ f.result
  value : drop (head_length version (number_at 1 p 0)) p ≡ f.value
  edition : eqb version second_version ≡ true → number_at 1 p 0 ≡ 0 → number_at 4 p 1 ≡ f.edition

abbrev lookup_data : ℕ → Found → List ℕ
lookup_data version f = f.result ∷ (edition_bytes version f ++ f.value)

-- without a value
finds-none : (version n : ℕ) (p : List ℕ) → eqb n 0 ≡ false → Finds version p (without n) → p ≡ lookup_data version (without n)
finds-none version n p e g =
    let z : eqb (number_at 1 p 0) 0 ≡ false = ap (λ (i : ℕ). eqb i 0) g.result ∙ e in
    let l : length p ≡ 1 = eqb-true (length p) 1 (rw z at g.form) in
    head_apart p (omega arith) ∙ rw (g.result, alone p l, e, and-false (eqb version second_version))

-- with one
abbrev with_value : ℕ → List ℕ → Found
with_value edition v = record { result = 0; edition = edition; value = v }

finds-some : (version edition : ℕ) (p v : List ℕ) → Finds version p (with_value edition v) → p ≡ lookup_data version (with_value edition v)
finds-some version edition p v g = by (eqb version second_version) refl
  where
    z : eqb (number_at 1 p 0) 0 ≡ true
    z = eq-eqb (number_at 1 p 0) 0 g.result

    by : (t : Bool) → eqb version second_version ≡ t → p ≡ lookup_data version (with_value edition v)
    by true e =
        let l : 5 ≤ length p = leb-true 5 (length p) (rw (z, e) at g.form) in
        let d : drop 5 p ≡ v = rw (z, e) at g.value in
        head_apart p (omega arith) ∙ rw (g.result, edition-apart p g.bytes l, g.edition e g.result, d, e)
    by false e =
        let l : 1 ≤ length p = leb-true 1 (length p) (rw (z, e) at g.form) in
        let d : drop 1 p ≡ v = rw (z, e) at g.value in
        head_apart p l ∙ rw (g.result, d, e)

found-data : (version most edition : ℕ) (o : Option (List ℕ)) (p : List ℕ) → Finds version p (fitted most edition o)
    → p ≡ lookup_data version (fitted most edition o)
unfolding fitted
found-data version most edition none p = finds-none version 2 p refl
found-data version most edition (some v) p =
    cond-by (λ f. Finds version p f → p ≡ lookup_data version f) (ltb most (length v)) _ _ (λ e. finds-none version 3 p refl)
    (λ e. finds-some version edition p v)

-- the edition counts only where there is a value
record SameFound (e : ℕ) (f g : Found) : Type 0 where
  result : f.result ≡ g.result
  value : f.value ≡ g.value
  edition : g.result ≡ 0 → g.edition ≡ e

edition-alone : (most e : ℕ) (o : Option (List ℕ)) → SameFound e (fitted most 0 o) (fitted most e o)
unfolding fitted
edition-alone most e none =
    record { result = refl; value = refl; edition = λ p. absurd (omega arith) }
edition-alone most e (some v) = by (ltb most (length v))
  where
    by : (t : Bool) → SameFound e (cond t (without 3) (with_value 0 v)) (cond t (without 3) (with_value e v))
    by true = record { result = refl; value = refl; edition = λ p. absurd (omega arith) }
    by false = record { result = refl; value = refl; edition = λ p. refl }

-- ---- The value of an older set

module _ (result : ℕ) (zeroth : result ≡ 0) (value : List ℕ) where
  stale-value : (x : KeyKnown) (ss : List SetSeen) (older : ℕ) → x.sets ≡ take most_sets ss → is_newest value (take 4 ss) ≡ false
      → set_with value (drop 1 (take 4 ss)) ≡ some older → wrong_value x result value ≡ stale older (newest_set_number (take 4 ss))
  unfolding wrong_value set_with
  stale-value x [] older e differs one = absurd (let z : ◌≡◌ {A = ℕ} 0 1 = cc in omega arith)
  stale-value x (s ∷ ss) older e differs one = rw (zeroth, e, differs, take-take 3 4 ss (omega arith), one)

  -- it is not what the newest set leaves
  not-newest : (most : ℕ) (ss : List SetSeen) → is_newest value (take 4 ss) ≡ false
      → is_found result value (fitted most 0 (newest_value (take most_sets ss))) ≡ false
  unfolding fitted
  not-newest most [] differs = rw zeroth
  not-newest most (s ∷ ss) differs =
      rw zeroth (cond-by (λ f. is_found 0 value f ≡ false) (ltb most (length s.value)) _ _ (λ e. refl) (λ e. differs))

-- ---- A lookup of a settings key that is read back

module _ (k : Known) (m r : Message) (due : Option ℕ) {z : Setting} {ss : List SetSeen} (h : ReadBack (key_asked m))
    (c : m.command ≡ command_key_lookup) (g : Knows (key_asked m) k.keys z ss) where
  abbrev known : KeyKnown
  known = key_known k (key_asked m)

  as-layers : reply_accused k (good m) due r
      ≡ layers (eqb r.command reply_decode_failure) (eqb r.version m.version) (eqb r.command reply_key_lookup) (is_lookup_form r)
      (accused_if (eqb (result_told r) 0 && ltb (most_asked m) (length (value_told r))) too_long)
      (is_found (result_told r) (value_told r) (fitted (most_asked m) 0 z.value)) (wrong_value known (result_told r) (value_told r))
      (edition_accused_at (some z.edition) r)
  unfolding reply_accused command_of_number with_number command_number request_accused reply_earned length_earned data_accused
      lookup_accused
      key_accused setting_accused may_find layers
  as-layers =
      let key = key_asked m in
      rw (
        c,
        le-ltb highest_key key h.key.upper,
        ne_eqb key passphrase_key h.other,
        ne_eqb key 0 (λ e. omega (arith, h.key, e)),
        le-ltb key 3 h.key.lower,
        g.counts.edition,
        g.counts.newest,
      )

  -- the edition that is told, in version 2 behind result 0
  edition-told : edition_accused_at (some z.edition) r ≡ [] → eqb r.version second_version ≡ true → result_told r ≡ 0
      → number_at 4 r.payload 1 ≡ z.edition
  unfolding accused_if
  edition-told a v e =
      let told = number_at 4 r.payload 1 in
      let b : accused_if (not (eqb told z.edition)) other_edition ≡ [] = rw (eq-eqb (result_told r) 0 e, v) at a in
      eqb-true told z.edition (by (eqb told z.edition) b)
    where
      by : (t : Bool) → accused_if (not t) other_edition ≡ [] → t ≡ true
      by true f = refl
      by false f = never f

  -- then it is exactly what the sets leave
  pub right-lookup : Each Byte r.payload → r.sequence ≡ top_set m.sequence → reply_accused k (good m) due r ≡ []
      → let f = fitted_of (most_asked m) z in
      r ≡ record {
        version = m.version;
        sequence = top_set m.sequence;
        command = reply_key_lookup;
        payload = f.result ∷ (edition_bytes m.version f ++ f.value);
      }
  right-lookup b number e =
      let p = layers-none _ _ _ _ _ _ _ _ (sym as-layers ∙ e) in
      let version = eqb-true r.version m.version p.version_right in
      let s = edition-alone (most_asked m) z.edition z.value in
      let o = fitted (most_asked m) 0 z.value in
      let f = (and-eq-true_iff (eqb (result_told r) o.result) (equal (value_told r) o.value)).0 p.value_right in
      let result = eqb-true (result_told r) o.result f.0 ∙ s.result in
      let found : Finds r.version r.payload (fitted_of (most_asked m) z) = record {
        bytes = b;
        form = p.form_right;
        result = result;
        value = equal-true (value_told r) o.value f.1 ∙ s.value;
        edition = λ v i. edition-told p.edition_right v i ∙ sym (s.edition (sym result ∙ i));
      } in
      let payload = rw version at (found-data r.version (most_asked m) z.edition z.value r.payload found) in
      λ i. record {
        version = version i;
        sequence = number i;
        command = eqb-true r.command reply_key_lookup p.command_right i;
        payload = payload i;
      }

  -- ---- A stale value

  module _ (few : length ss ≤ last_edition) (is-reply : r.command ≡ reply_key_lookup) (form : is_lookup_form r ≡ true)
      (result : result_told r ≡ 0) (differs : is_newest (value_told r) (take 4 ss) ≡ false) (older : ℕ)
      (one : set_with (value_told r) (drop 1 (take 4 ss)) ≡ some older) where
    pub stale-lookup : AccusedOf (stale older (newest_set_number (take 4 ss))) (reply_accused k (good m) due r)
    stale-lookup =
        let value = value_told r in
        let sets = g.counts.sets few in
        let newest : z.value ≡ newest_value (take most_sets ss) = sym g.counts.newest ∙ ap newest_value sets in
        rw (
          as-layers,
          is-reply,
          form,
          newest,
          not-newest (result_told r) result value (most_asked m) ss differs,
          stale-value (result_told r) result value known ss older sets differs one,
        )
        (layers-wrong _ _ _ _)
