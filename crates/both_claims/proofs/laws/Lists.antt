-- The laws of a property that an element of a list has.
-- Assumes nothing.
use mathlib.Core.Path.{◌≡◌, refl, sym, ap, ◌∙◌, subst}
use Prim.Native.Nat.{ℕ}
use native.Mathlib.Omega.{arith}
use mathlib.Core.List.{List, [], ◌∷◌, ◌++◌, map, append_assoc, map-append}
use mathlib.Core.Option.{none, some}
use mathlib.Core.Logic.{◌⊎◌, inl, inr}
use Rattle.octets.specs.Bytes.{Each}
use Rattle.both_claims.specs.Ends.{Any, InTurn, empty, past, read, Among, over, lost, came}

pub none-some : {A : Type 0} {x : A} → none ≡ some x → ⊥
none-some e = let z : ◌≡◌ {A = ℕ} 0 1 = cc in omega arith

-- a list that another begins with
pub record Front {A : Type 0} (xs ys : List A) : Type 0 where
  pub more : List A
  pub whole : xs ++ more ≡ ys

pub front-more : {A : Type 0} {xs ys : List A} (zs : List A) → Front xs ys → Front xs (ys ++ zs)
front-more {xs = xs} zs f = record { more = f.more ++ zs; whole = sym (append_assoc xs f.more zs) ∙ ap (λ ws. ws ++ zs) f.whole }

-- two lists with one more element
pub snoc-same : (xs ys : List ℕ) → xs ++ (0 ∷ []) ≡ ys ++ (0 ∷ []) → xs ≡ ys
snoc-same [] [] e = refl
snoc-same [] (y ∷ []) e = let z : ◌≡◌ {A = ℕ} 0 1 = cc in absurd (omega arith)
snoc-same [] (y ∷ (w ∷ ys)) e = let z : ◌≡◌ {A = ℕ} 0 1 = cc in absurd (omega arith)
snoc-same (x ∷ []) [] e = let z : ◌≡◌ {A = ℕ} 0 1 = cc in absurd (omega arith)
snoc-same (x ∷ (w ∷ xs)) [] e = let z : ◌≡◌ {A = ℕ} 0 1 = cc in absurd (omega arith)
snoc-same (x ∷ xs) (y ∷ ys) e = let i : xs ++ (0 ∷ []) ≡ ys ++ (0 ∷ []) = cc in let j : x ≡ y = cc in rw (j, snoc-same xs ys i)

module _ {A : Type 0} (P : A → Type 0) where
  pub any_left : (xs ys : List A) → Any P xs → Any P (xs ++ ys)
  any_left [] ys h = absurd h
  any_left (x ∷ xs) ys (inl h) = inl h
  any_left (x ∷ xs) ys (inr h) = inr (any_left xs ys h)

  pub any-right : (xs ys : List A) → Any P ys → Any P (xs ++ ys)
  any-right [] ys h = h
  any-right (x ∷ xs) ys h = inr (any-right xs ys h)

  -- what follows from any element that has it
  pub any-so : {B : Type 0} → ((x : A) → P x → B) → (xs : List A) → Any P xs → B
  any-so f [] h = absurd h
  any-so f (x ∷ xs) (inl h) = f x h
  any-so f (x ∷ xs) (inr h) = any-so f xs h

  pub any-or : {B : Type 0} (xs : List A) → Any (λ (x : A). P x ⊎ B) xs → Any P xs ⊎ B
  any-or [] h = absurd h
  any-or (x ∷ xs) (inl (inl h)) = inl (inl h)
  any-or (x ∷ xs) (inl (inr b)) = inr b
  any-or (x ∷ xs) (inr h) = later (any-or xs h)
    where
      later : {B : Type 0} → Any P xs ⊎ B → Any P (x ∷ xs) ⊎ B
      later (inl k) = inl (inr k)
      later (inr b) = inr b

  -- an element that is in the list
  pub each-is : (xs : List A) (x : A) → Each P xs → Any (λ (y : A). y ≡ x) xs → P x
  each-is [] x h k = absurd k
  each-is (y ∷ xs) x h (inl e) = subst P e h.0
  each-is (y ∷ xs) x h (inr k) = each-is xs x h.1 k

  pub each_right : (xs ys : List A) → Each P (xs ++ ys) → Each P ys
  each_right [] ys h = h
  each_right (x ∷ xs) ys h = each_right xs ys h.1

  pub each_left : (xs ys : List A) → Each P (xs ++ ys) → Each P xs
  each_left [] ys h = tt
  each_left (x ∷ xs) ys h = (h.0, each_left xs ys h.1)

  pub each-front : {xs ys : List A} → Front xs ys → Each P ys → Each P xs
  each-front {xs} f h = each_left xs f.more (rw (← f.whole) at h)

module _ {A : Type 0} (P Q : A → Type 0) where
  pub any-then : ((x : A) → P x → Q x) → (xs : List A) → Any P xs → Any Q xs
  any-then f [] h = absurd h
  any-then f (x ∷ xs) (inl h) = inl (f x h)
  any-then f (x ∷ xs) (inr h) = inr (any-then f xs h)

  pub each-then : ((x : A) → P x → Q x) → (xs : List A) → Each P xs → Each Q xs
  each-then f [] h = tt
  each-then f (x ∷ xs) h = (f x h.0, each-then f xs h.1)

-- each element is in the list
pub each_in : {A : Type 0} (xs : List A) → Each (λ (x : A). Any (λ (y : A). y ≡ x) xs) xs
each_in [] = tt
each_in {A} (x ∷ xs) = (inl refl, each-then (λ (z : A). Any (λ (y : A). y ≡ z) xs) _ (λ z h. inr h) xs (each_in xs))

-- a property of all, and one more
module _ {A : Type 0} (P Q R : A → Type 0) where
  pub each_and : ((x : A) → P x → Q x → R x) → (xs : List A) → Each P xs → Each Q xs → Each R xs
  each_and f [] h k = tt
  each_and f (x ∷ xs) h k = (f x h.0 k.0, each_and f xs h.1 k.1)

  pub each-any : ((x : A) → P x → Q x → R x) → (xs : List A) → Each P xs → Any Q xs → Any R xs
  each-any f [] h k = absurd k
  each-any f (x ∷ xs) h (inl k) = inl (f x h.0 k)
  each-any f (x ∷ xs) h (inr k) = inr (each-any f xs h.1 k)

-- what follows from a property of all and one that an element has
pub each-so : {A B : Type 0} (P Q : A → Type 0) → ((x : A) → P x → Q x → B) → (xs : List A) → Each P xs → Any Q xs → B
each-so P Q f [] h k = absurd k
each-so P Q f (x ∷ xs) h (inl k) = f x h.0 k
each-so P Q f (x ∷ xs) h (inr k) = each-so P Q f xs h.1 k

-- of the elements' images
any-map : {A B : Type 0} (f : A → B) (b : B) (xs : List A) → Any (λ (y : B). y ≡ b) (map f xs) → Any (λ (x : A). f x ≡ b) xs
any-map f b [] h = h
any-map f b (x ∷ xs) (inl h) = inl h
any-map f b (x ∷ xs) (inr h) = inr (any-map f b xs h)

each_map : {A B : Type 0} (f : A → B) (P : B → Type 0) (xs : List A) → Each P (map f xs) → Each (λ (x : A). P (f x)) xs
each_map f P [] h = tt
each_map f P (x ∷ xs) h = (h.0, each_map f P xs h.1)

-- a list whose elements stand in another, in order
module _ {A : Type 0} where
  pub among-turn : {xs ys : List A} → Among A xs ys → InTurn A xs ys
  among-turn over = empty
  among-turn (lost a) = past (among-turn a)
  among-turn (came a) = read (past (among-turn a))

  pub turn-each : (P : A → Type 0) {xs ys : List A} → InTurn A xs ys → Each P ys → Each P xs
  turn-each P empty h = tt
  turn-each P (past a) h = turn-each P a h.1
  turn-each P (read a) h = (h.0, turn-each P a h)

-- each is the image of an element of the other
pub turn-images : {A B C : Type 0} (f : A → C) (g : B → C) (xs : List A) (ys : List B) → InTurn C (map f xs) (map g ys)
    → Each (λ (x : A). Any (λ (y : B). g y ≡ f x) ys) xs
turn-images {A} {B} {C} f g xs ys a =
    let In : C → Type 0 = λ c. Any (λ (z : C). z ≡ c) (map g ys) in
    each-then (λ (x : A). In (f x)) _ (λ x h. any-map g (f x) ys h) xs (each_map f In xs (turn-each In a (each_in (map g ys))))

-- in order, some lost
module _ {A : Type 0} where
  pub among_none : (ys : List A) → Among A [] ys
  among_none [] = over
  among_none (y ∷ ys) = lost (among_none ys)

  pub among_same : (xs : List A) → Among A xs xs
  among_same [] = over
  among_same (x ∷ xs) = came (among_same xs)

  -- the other grows, or both do
  pub among-behind : {xs ys : List A} (zs : List A) → Among A xs ys → Among A xs (ys ++ zs)
  among-behind zs over = among_none zs
  among-behind zs (lost a) = lost (among-behind zs a)
  among-behind zs (came a) = came (among-behind zs a)

  pub among-among : {xs ys zs : List A} → Among A xs ys → Among A ys zs → Among A xs zs
  among-among a over = a
  among-among a (lost b) = lost (among-among a b)
  among-among (lost a) (came b) = lost (among-among a b)
  among-among (came {x = x} {xs = xs} a) (came {xs = ys} {ys = zs} b) = came (among-among {xs = xs} a b)

  pub among-append : {xs ys vs ws : List A} → Among A xs ys → Among A vs ws → Among A (xs ++ vs) (ys ++ ws)
  among-append over b = b
  among-append (lost a) b = lost (among-append a b)
  among-append (came a) b = came (among-append a b)

-- of the elements' images
module _ {A B C : Type 0} (f : A → C) (g : B → C) (xs : List A) (ys : List B) (a : Among C (map f xs) (map g ys)) where
  pub more-among : (y : B) → Among C (map f xs) (map g (ys ++ (y ∷ [])))
  more-among y = rw (map-append g ys) (among-behind (g y ∷ []) a)

  pub both-among : (x : A) (y : B) → g y ≡ f x → Among C (map f (xs ++ (x ∷ []))) (map g (ys ++ (y ∷ [])))
  both-among x y e = rw (map-append f xs, map-append g ys, e) (among-append a (among_same (f x ∷ [])))
