-- The laws of the test of all changes: it is a test of pairs, and asks for as many results as indices.
-- Assumes nothing.
use Rattle.std.proofs.Common.{◌≡◌, refl, ap, List, [], ◌∷◌, ℕ, Bool, false, ◌&&◌, length, ne_eqb, eq-eqb}
use Rattle.std.specs.List.{list_all, zip}
use Rattle.probes.specs.Probes.{probe_change, probe_changes, good_change, all_good, good}

-- ---- As many results as indices

pub other-lengths : (n : ℕ) (is rs : List ℕ) → (length is ≡ length rs → ⊥) → good n is rs ≡ false
unfolding good
other-lengths n is rs f = rw (ne_eqb (length is) (length rs) f)

pub equal-lengths : (n : ℕ) (is rs : List ℕ) → length is ≡ length rs → good n is rs ≡ all_good n (probe_changes is rs)
unfolding good
equal-lengths n is rs e = rw (eq-eqb (length is) (length rs) e)

-- ---- Pair by pair

abbrev pub good_pair : ℕ → ℕ × ℕ → Bool
good_pair n p = good_change n (probe_change p.0 p.1)

pub good-pairs : (n : ℕ) (is rs : List ℕ) → list_all (good_pair n) (zip is rs) ≡ all_good n (probe_changes is rs)
unfolding all_good probe_changes
good-pairs n [] rs = refl
good-pairs n (i ∷ is) [] = refl
good-pairs n (i ∷ is) (r ∷ rs) = ap (λ (b : Bool). good_pair n (i, r) && b) (good-pairs n is rs)
