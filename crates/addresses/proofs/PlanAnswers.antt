-- What the two calls answer for a plan: when it passes, its eight rows, count 0 and stride 0.
-- Assumes nothing.
use Prim.Native.Nat.{ℕ, zero, suc, ◌+◌, ◌*◌, ◌-◌, ◌≤◌, ◌<◌}
use mathlib.Core.Path.{◌≡◌, refl, ◌∙◌}
use mathlib.Core.Bool.{Bool, true, false, cond}
use mathlib.Core.List.{List, [], ◌∷◌, map}
use mathlib.Core.Logic.{◌↔◌}
use mathlib.Core.Option.{none, some}
use native.Mathlib.Omega.{arith}
use lib.Dec.{eqb}
use lib.ListN.{get_or}
use borrow.Author.Tests.{ltb-true, lt-ltb, le-ltb, eqb-false, ne_eqb}
use Rattle.octets.specs.Bytes.{Byte, Each}
use Rattle.octets.proofs.Conditions.{cond-by}
use Rattle.addresses.specs.Addresses.{address_number, highest_address, address, passes, row, row_numbers, addresses_promise}
use Rattle.addresses.specs.Addresses.{plan_promise}
use Rattle.addresses.specs.Item9.{LastPasses, PassesExactly, PlanRefusedExactly, PassingZero, CountZero}
use Rattle.addresses.specs.Item9.{RowsCounted, RowsPastZero, StrideZero}
use Rattle.addresses.proofs.Number.{bytes-address, number_below}

pub passes_exactly : PassesExactly
unfolding passes address
passes_exactly base count stride = (
  cond-by P (eqb count 0) _ _ (λ _ f. absurd (clash f)) (λ e f.
      (omega (arith, eqb-false count 0 e), ltb-true highest_address (address_number base + (count - 1) * stride) f)),
  λ p. rw (ne_eqb count 0 (λ z. omega (arith, p.0)), lt-ltb highest_address (address_number base + (count - 1) * stride) p.1),
)
  where
    P : Bool → Type 0
    P b = b ≡ true → LastPasses base count stride

    clash : false ≡ true → ⊥
    clash e = let z : ◌≡◌ {A = ℕ} 0 1 = cc in omega arith

pub passing_zero : PassingZero
unfolding addresses_promise
passing_zero base count stride p = rw ((passes_exactly base count stride).1 p)

pub plan_refused_exactly : PlanRefusedExactly
unfolding plan_promise
plan_refused_exactly base count stride n = by (passes base count stride) refl
  where
    by : (b : Bool) → passes base count stride ≡ b → (cond b (some 16) none ≡ some n) ↔ ((n ≡ 16) × LastPasses base count stride)
    by true e = (λ f. (cc, (passes_exactly base count stride).0 e), λ p. rw p.0)
    by false e = (
      λ f. absurd (let z : ◌≡◌ {A = ℕ} 0 1 = cc in omega arith),
      λ p. absurd (let f = (passes_exactly base count stride).1 p.1 in let z : ◌≡◌ {A = ℕ} 0 1 = cc in omega arith),
    )

pub count_zero : CountZero
unfolding addresses_promise plan_promise passes row
count_zero base stride = (refl, refl)

row_of : (f : ℕ → List ℕ) (i : ℕ) → i < 8 → get_or (map f row_numbers) i [] ≡ f i
row_of f zero h = refl
row_of f (suc zero) h = refl
row_of f (suc (suc zero)) h = refl
row_of f (suc (suc (suc zero))) h = refl
row_of f (suc (suc (suc (suc zero)))) h = refl
row_of f (suc (suc (suc (suc (suc zero))))) h = refl
row_of f (suc (suc (suc (suc (suc (suc zero)))))) h = refl
row_of f (suc (suc (suc (suc (suc (suc (suc zero))))))) h = refl
row_of f (suc (suc (suc (suc (suc (suc (suc (suc i)))))))) h = absurd (omega arith)

pub rows_counted : RowsCounted
unfolding addresses_promise row address
rows_counted base count stride i e h l = rw e (row_of (row base count stride) i h ∙ rw (lt-ltb i count l))

pub rows_past_zero : RowsPastZero
unfolding addresses_promise row
rows_past_zero base count stride i e h l = rw e (row_of (row base count stride) i h ∙ rw (le-ltb i count l))

byte_at : (s : List ℕ) → Each Byte s → (i : ℕ) → get_or s i 0 < 256
byte_at [] h i = omega arith
byte_at (b ∷ bs) h zero = h.0
byte_at (b ∷ bs) h (suc i) = byte_at bs h.1 i

pub stride_zero : StrideZero
stride_zero base e b count i h l =
    let z : (j : ℕ) → address_number base + j * 0 ≡ address_number base = λ j. omega arith in
    let low = number_below base e b in
    let f : passes base count 0 ≡ false = not-passing (passes base count 0) refl low in
    (f, rows_counted base count 0 i f h l ∙ rw (z i) (bytes-address base e (byte_at base b)))
  where
    not-passing : (t : Bool) → passes base count 0 ≡ t → address_number base ≤ highest_address → t ≡ false
    not-passing true f g = absurd (omega (arith, ((passes_exactly base count 0).0 f).1))
    not-passing false f g = refl
