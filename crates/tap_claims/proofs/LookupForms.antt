-- The reply to a lookup: its result, value and edition are read back from its data, and its length is one that a lookup earns.
-- Assumes nothing.
use mathlib.Core.Path.{◌≡◌, refl}
use mathlib.Core.Bool.{Bool, true, false, cond, ◌&&◌, and-false}
use mathlib.Core.List.{List, [], ◌∷◌, ◌++◌}
use mathlib.Core.Option.{Option, none, some}
use Prim.Native.Nat.{ℕ, suc, ◌^◌, ◌≤◌, ◌<◌}
use native.Mathlib.Nat.{add-zero}
use native.Mathlib.Omega.{arith}
use lib.Dec.{leb, ltb, eqb}
use lib.ListN.{length, drop, length-append}
use lib.Seq.{take_at, drop_at}
use borrow.Author.Tests.{ltb-false, le-ltb, le-leb, eqb-true, eq-eqb}
use Rattle.octets.specs.Bytes.{number, bytes, number_at}
use Rattle.octets.proofs.Conditions.{cond-by, cond_both, zero_one}
use Rattle.octets.proofs.Numbers.{length-bytes, number-bytes}
use Rattle.line.specs.Numbers.{second_version}
use Rattle.line.specs.Message.{Message}
use Rattle.supervisor.specs.Local.{Found, without, fitted}
use Rattle.responder.specs.Requests.{edition_bytes}
use Rattle.tap.specs.Accused.{result_told, head_length, value_told, is_lookup_form, accused_if, edition_accused, edition_accused_at}

-- the byte that data begin with
pub first_byte : (b : ℕ) (bs : List ℕ) → number_at 1 (b ∷ bs) 0 ≡ b
unfolding number
first_byte b bs = add-zero b

-- ---- what a lookup finds

pub record FoundSized (most : ℕ) (f : Found) : Type 0 where
  pub none_told : eqb f.result 0 ≡ false → f.value ≡ []
  pub short : eqb f.result 0 ≡ true → length f.value ≤ most
  pub edition : f.edition < 256 ^ 4

pub without-sized : (most n : ℕ) → eqb n 0 ≡ false → FoundSized most (without n)
without-sized most n e = record { none_told = λ _. refl; short = λ f. absurd (zero_one cc); edition = omega arith }

pub fitted-sized : (most edition : ℕ) (o : Option (List ℕ)) → edition < 256 ^ 4 → FoundSized most (fitted most edition o)
unfolding fitted
fitted-sized most edition none l = without-sized most 2 refl
fitted-sized most edition (some v) l =
    cond-by (FoundSized most) (ltb most (length v)) _ _ (λ _. without-sized most 3 refl) (λ e.
    record { none_told = λ f. absurd (zero_one cc); short = λ _. ltb-false most (length v) e; edition = l })

-- result 0 with the value and its edition, or 3
pub record FittedAs (edition : ℕ) (v : List ℕ) (f : Found) : Type 0 where
  pub told : f.result ≡ 0 → (f.value ≡ v) × (f.edition ≡ edition)
  pub else_3 : eqb f.result 0 ≡ false → f.result ≡ 3

pub fitted-as : (most edition : ℕ) (v : List ℕ) → FittedAs edition v (fitted most edition (some v))
unfolding fitted
fitted-as most edition v =
    cond-by (FittedAs edition v) (ltb most (length v)) _ _
    (λ _. record { told = λ e. absurd (omega (arith, e)); else_3 = λ _. refl })
    (λ _. record { told = λ _. (refl, refl); else_3 = λ e. absurd (zero_one cc) })

pub fitted-edition : (most edition : ℕ) (o : Option (List ℕ)) → let f = fitted most edition o in f.result ≡ 0 → f.edition ≡ edition
unfolding fitted
fitted-edition most edition none e = absurd (omega (arith, e))
fitted-edition most edition (some v) e = ((fitted-as most edition v).told e).1

-- ---- its reply

abbrev pub lookup_reply : ℕ → ℕ → ℕ → Found → Message
lookup_reply version sequence command f =
    record { version = version; sequence = sequence; command = command; payload = f.result ∷ (edition_bytes version f ++ f.value) }

module _ (version sequence command most : ℕ) (f : Found) (sized : FoundSized most f) where
  abbrev r : Message
  r = lookup_reply version sequence command f

  pub result-told : result_told r ≡ f.result
  result-told = first_byte f.result (edition_bytes version f ++ f.value)

  pub value-told : value_told r ≡ f.value
  value-told =
      rw result-told
      (cond_both (λ (n : ℕ) (bs : List ℕ). drop n (f.result ∷ (bs ++ f.value)) ≡ f.value)
      (eqb version second_version && eqb f.result 0)
      (λ _. drop_at (bytes 4 f.edition) f.value 4 (length-bytes 4 f.edition)) (λ _. refl))

  pub form_right : is_lookup_form r ≡ true
  form_right = rw result-told (by (eqb f.result 0) refl)
    where
      by : (t : Bool) → eqb f.result 0 ≡ t
          → cond t (leb (head_length version 0) (length r.payload)) (eqb (length r.payload) 1) ≡ true
      by true e =
          rw e
          (cond_both (λ (n : ℕ) (bs : List ℕ). leb n (suc (length (bs ++ f.value))) ≡ true) (eqb version second_version && true)
          (λ _. le-leb 5 (suc (length (bytes 4 f.edition ++ f.value))) (simp (length-append, length-bytes) (omega arith)))
          (λ _. le-leb 1 (suc (length f.value)) (omega arith)))
      by false e = rw (e, and-false (eqb version second_version), sized.none_told e)

  pub edition_right : (e : ℕ) → eqb f.result 0 ≡ true → f.edition ≡ e → edition_accused (some e) r ≡ []
  unfolding accused_if
  edition_right e t h = by (eqb version second_version) refl
    where
      by : (u : Bool) → eqb version second_version ≡ u → edition_accused (some e) r ≡ []
      by true i =
          let n = f.edition in
          rw (i, t, take_at (bytes 4 n) f.value 4 (length-bytes 4 n), number-bytes 4 n sized.edition, eq-eqb _ _ h)
      by false i = rw i

  pub edition-at-right : (o : Option ℕ) → ((e : ℕ) → o ≡ some e → f.result ≡ 0 → f.edition ≡ e) → edition_accused_at o r ≡ []
  edition-at-right o h =
      rw result-told (cond-by (λ xs. xs ≡ []) (eqb f.result 0) _ _ (λ t. by o h t) (λ _. refl))
    where
      by : (o : Option ℕ) → ((e : ℕ) → o ≡ some e → f.result ≡ 0 → f.edition ≡ e) → eqb f.result 0 ≡ true
          → edition_accused o r ≡ []
      by none h t = refl
      by (some e) h t = edition_right e t (h e refl (eqb-true _ _ t))

  pub not-too-long : (eqb (result_told r) 0 && ltb most (length (value_told r))) ≡ false
  not-too-long = rw (value-told, result-told) (by (eqb f.result 0) refl)
    where
      by : (t : Bool) → eqb f.result 0 ≡ t → (t && ltb most (length f.value)) ≡ false
      by true e = le-ltb most (length f.value) (sized.short e)
      by false e = refl
