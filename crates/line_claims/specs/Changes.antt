-- Two bodies of one length, by the changes from the one to the other: when their checksums agree.
-- Assumes nothing.
use Rattle.std.specs.Prelude.{◌≡◌, List, [], ◌∷◌, ℕ, suc, ◌+◌, ◌-◌, ◌*◌, ◌%◌, ◌≤◌, length, get_or, ◌⊎◌}

-- a multiple of 255
abbrev pub Multiple : ℕ → Type 0
Multiple n = n % 255 ≡ 0

-- The change from byte x to byte y is y - x, which may be negative. With 255 more it is never below 0, since a byte is at most 255.
-- The 255 adds only multiples of 255 to a sum of changes and to a change times a number.
abbrev pub byte_change : ℕ → ℕ → ℕ
byte_change x y = y + 255 - x

-- the changes place by place, of lists of one length
unfoldable pub byte_changes : List ℕ → List ℕ → List ℕ
byte_changes [] ys = []
byte_changes (x ∷ xs) [] = []
byte_changes (x ∷ xs) (y ∷ ys) = byte_change x y ∷ byte_changes xs ys

-- the sum of all changes, each times the weight of its place; places count from 0
unfoldable pub weighed : (ℕ → ℕ) → List ℕ → ℕ
weighed weight [] = 0
weighed weight (c ∷ cs) = weight 0 * c + weighed (λ i. weight (suc i)) cs

-- the sum of the changes, and the sum of the changes each times its place
abbrev pub summed : List ℕ → ℕ
summed = weighed (λ i. 1)

abbrev pub placed : List ℕ → ℕ
placed = weighed (λ i. i)

-- the same byte at every place but p and q; past its end a list reads 0
abbrev pub SameButAt : ℕ → ℕ → List ℕ → List ℕ → Type 0
SameButAt p q xs ys = (i : ℕ) → (i ≡ p → ⊥) → (i ≡ q → ⊥) → get_or xs i 0 ≡ get_or ys i 0

-- the change at a place
abbrev pub change_at : ℕ → List ℕ → List ℕ → ℕ
change_at i xs ys = byte_change (get_or xs i 0) (get_or ys i 0)

-- of one length, and different at exactly two places: p, and p + k
pub record DifferApart (k p : ℕ) (xs ys : List ℕ) : Type 0 where
  pub apart : 1 ≤ k
  pub lengths : length xs ≡ length ys
  pub first : get_or xs p 0 ≡ get_or ys p 0 → ⊥
  pub second : get_or xs (p + k) 0 ≡ get_or ys (p + k) 0 → ⊥
  pub elsewhere : SameButAt p (p + k) xs ys

-- the two changes sum to a multiple of 255, and k times the first change is one too
abbrev pub Missed : ℕ → ℕ → ℕ → Type 0
Missed k first second = Multiple (first + second) × Multiple (k * first)

-- of one length, and the same except in one byte or in two neighbouring bytes; the same throughout, or empty, too
pub record Near (xs ys : List ℕ) : Type 0 where
  pub place : ℕ
  pub lengths : length xs ≡ length ys
  pub elsewhere : SameButAt place (place + 1) xs ys

-- equal, or one is 00 and the other ff
abbrev pub SameOr00Ff : ℕ → ℕ → Type 0
SameOr00Ff x y = (x ≡ y) ⊎ (((x ≡ 0) × (y ≡ 255)) ⊎ ((x ≡ 255) × (y ≡ 0)))

-- so at every place, for lists of one length
abbrev pub AllSameOr00Ff : List ℕ → List ℕ → Type 0
AllSameOr00Ff xs ys = (i : ℕ) → SameOr00Ff (get_or xs i 0) (get_or ys i 0)

-- n divides one of two numbers
abbrev pub DividesOne : ℕ → ℕ → ℕ → Type 0
DividesOne n k c = (k % n ≡ 0) ⊎ (c % n ≡ 0)

-- each of 3, 5 and 17 divides the distance or the change
abbrev pub Factors : ℕ → ℕ → Type 0
Factors k c = DividesOne 3 k c × (DividesOne 5 k c × DividesOne 17 k c)
