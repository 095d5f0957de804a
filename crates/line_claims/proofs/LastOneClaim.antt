-- A last 01 after a full group is reason 1, whatever stands ahead of that group (document 02's item 6).
-- Assumes nothing.
use mathlib.Core.Path.{◌≡◌, refl}
use mathlib.Core.Bool.{Bool, true, false, cond, ◌||◌}
use mathlib.Core.List.{List, [], ◌∷◌, ◌++◌}
use mathlib.Core.Option.{Option, none, some, map, map-eq-some_iff}
use Prim.Native.Nat.{ℕ, zero, suc, ◌-◌}
use native.Mathlib.Omega.{arith}
use lib.Dec.{eqb, ltb}
use lib.ListN.{length}
use lib.Seq.{drop_at}
use Rattle.octets.specs.Bytes.{equal}
use Rattle.octets.proofs.Conditions.{cond-by}
use Rattle.line.specs.Limits.{longest_form, longest_group}
use Rattle.line.specs.Cobs.{full_code, implied_zero, last_one_after_full, group_bytes, uncobs}
use Rattle.line.specs.Judge.{failure, judge_form, judge}
use Rattle.line_claims.specs.Item6.{LastOneReason1}

none-some : {A : Type 0} {x : A} → ◌≡◌ {A = Option A} none (some x) → ⊥
none-some e = let z : ◌≡◌ {A = ℕ} 0 1 = cc in omega arith

-- what is none stays none
map-none : (f : List ℕ → List ℕ) (o : Option (List ℕ)) → o ≡ none → map f o ≡ none
map-none f o e = rw e

module _ (g : List ℕ) (h : length g ≡ longest_group) where
  abbrev last : List ℕ
  last = full_code ∷ (g ++ 0x01 ∷ [])

  refused-here : (holds : Bool) → group_bytes 0 holds last ≡ none
  unfolding group_bytes equal
  refused-here holds = rw (drop_at g (0x01 ∷ []) longest_group h)

  behind : (f : List ℕ) (left : ℕ) (holds : Bool) (ys : List ℕ) → group_bytes left holds f ≡ some ys
      → group_bytes left holds (f ++ last) ≡ none
  unfolding group_bytes
  behind [] zero holds ys e = refused-here holds
  behind [] (suc left) holds ys e = absurd (none-some e)
  behind (b ∷ bs) (suc left) holds ys e =
      let m = (map-eq-some_iff (λ xs. b ∷ xs) (group_bytes left holds bs)).0 e in
      map-none (λ xs. b ∷ xs) (group_bytes left holds (bs ++ last)) (behind bs left holds m.0 m.1)
  behind (c ∷ cs) zero holds ys e =
      let o = group_bytes (c - 1) (ltb c full_code) cs in
      let m = (map-eq-some_iff (λ xs. implied_zero holds ++ xs) o).0 (by (eqb c 0 || last_one_after_full c cs) _ e) in
      cond-by (λ (o : Option (List ℕ)). o ≡ none) (eqb c 0 || last_one_after_full c (cs ++ last)) _ _ (λ _. refl)
      (λ _. map-none (λ xs. implied_zero holds ++ xs) (group_bytes (c - 1) (ltb c full_code) (cs ++ last))
      (behind cs (c - 1) (ltb c full_code) m.0 m.1))
    where
      by : (t : Bool) (o : Option (List ℕ)) → cond t none o ≡ some ys → o ≡ some ys
      by true o e = absurd (none-some e)
      by false o e = e

pub last_one_reason_1 : LastOneReason1
unfolding judge uncobs judge_form
last_one_reason_1 f g ys e h =
    rw (behind g h f 0 false ys e)
    (cond-by (λ (o : Option (List ℕ)). judge_form o ≡ failure 1 none) (ltb longest_form (length (f ++ last g h))) none none
    (λ _. refl) (λ _. refl))
