-- Laws of a choice by a test.
-- Assumes nothing.
use mathlib.Core.Path.{◌≡◌, refl}
use mathlib.Core.Bool.{Bool, true, false, cond, not}
use Prim.Native.Nat.{ℕ}
use native.Mathlib.Omega.{arith}

-- a choice by what its test says
pub cond-by : {A : Type 0} (P : A → Type 0) (t : Bool) (x y : A) → (t ≡ true → P x) → (t ≡ false → P y) → P (cond t x y)
cond-by P true x y f g = f refl
cond-by P false x y f g = g refl

-- two choices by one test
pub cond_map : {A B : Type 0} (f : A → B) (t : Bool) {x y : B} {v w : A}
    → (t ≡ true → x ≡ f v) → (t ≡ false → y ≡ f w) → cond t x y ≡ f (cond t v w)
cond_map f true p q = p refl
cond_map f false p q = q refl

-- a property of two choices by one test
pub cond_both : {A B : Type 0} (P : A → B → Type 0) (t : Bool) {x y : A} {v w : B}
    → (t ≡ true → P x v) → (t ≡ false → P y w) → P (cond t x y) (cond t v w)
cond_both P true f g = f refl
cond_both P false f g = g refl

-- of a choice by a test and one by its opposite
pub cond-not : {A B : Type 0} (P : A → B → Type 0) (t : Bool) {x y : A} {v w : B} → P x w → P y v → P (cond t x y) (cond (not t) v w)
cond-not P true f g = f
cond-not P false f g = g

pub not-cond : {A B : Type 0} (P : A → B → Type 0) (t : Bool) {x y : A} {v w : B} → P y v → P x w → P (cond (not t) x y) (cond t v w)
not-cond P true f g = f
not-cond P false f g = g

-- what is 0 of one answer and 1 of another tells them apart
pub zero_one : ◌≡◌ {A = ℕ} 0 1 → ⊥
zero_one e = omega arith
