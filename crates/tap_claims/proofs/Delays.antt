-- A run where each byte is seen at once is a run with stretches left out, and one where bytes are seen late.
-- Assumes nothing.
use mathlib.Core.Path.{◌≡◌, refl, ap}
use mathlib.Core.List.{List, [], ◌∷◌, ◌++◌}
use Prim.Native.Nat.{ℕ}
use native.Mathlib.Omega.{arith}
use Rattle.supervisor.specs.State.{State}
use Rattle.tap.specs.Capture.{Tick, towards, from, marked}
use Rattle.tap_claims.specs.Captures.{LeftOut, nothing, kept, missing, Delayed, at_once, later}
use Rattle.tap_claims.proofs.System.{Reached, Plain, Run}
use Rattle.tap_claims.proofs.Reached.{reached-local, reached-read, reached-put, reached-fresh, reached-restored}

-- two ticks at the front of two lists that are one
tick-same : {x y : Tick} {xs ys : List Tick} → x ∷ xs ≡ y ∷ ys → (x ≡ y) × (xs ≡ ys)
tick-same e = (cc, cc)

-- ---- left out

-- the state behind some ticks
behind-ticks : (zs : List Tick) {s : State} {ts xs : List Tick} → Plain s ts → ts ≡ zs ++ xs → Reached s
    → (t : State) × Reached t × Plain t xs
behind-ticks [] {s} k e h = (s, h, rw e at k)
behind-ticks (z ∷ zs) (Plain.over s) e h = let z : ◌≡◌ {A = ℕ} 0 1 = cc in absurd (omega arith)
behind-ticks (z ∷ zs) (Plain.read image b {s} i y k) e h = behind-ticks zs k (tick-same e).1 (reached-read image s b i y h)
behind-ticks (z ∷ zs) (Plain.put b bs {s} p k) e h = behind-ticks zs k (tick-same e).1 (reached-put s b bs p h)
behind-ticks (z ∷ zs) (Plain.local {s} {t} c held k) e h = behind-ticks (z ∷ zs) k e (reached-local s t c held h)
behind-ticks (z ∷ zs) (Plain.starts f s held k) e h = behind-ticks zs k (tick-same e).1 (reached-fresh f held)
behind-ticks (z ∷ zs) (Plain.restores image {s} {t} p held k) e h = behind-ticks zs k (tick-same e).1 (reached-restored s t image p held h)
behind-ticks (z ∷ zs) (Plain.misses s r k) e h = behind-ticks zs k (tick-same e).1 r

-- one tick, and a run behind it
module _ (t : Tick) (xs ys : List Tick) (then : (s : State) → Reached s → Plain s xs → Plain s ys) where
  behind-tick : {s : State} {ts : List Tick} → Plain s ts → ts ≡ t ∷ xs → Reached s → Plain s (t ∷ ys)
  behind-tick (Plain.over s) e h = let z : ◌≡◌ {A = ℕ} 0 1 = cc in absurd (omega arith)
  behind-tick (Plain.read image b {s} i y k) e h =
      rw (← (tick-same e).0) (Plain.read image b i y (then (_) (reached-read image s b i y h) (rw (tick-same e).1 at k)))
  behind-tick (Plain.put b bs {s} p k) e h =
      rw (← (tick-same e).0) (Plain.put b bs p (then (_) (reached-put s b bs p h) (rw (tick-same e).1 at k)))
  behind-tick (Plain.local {s} {t = u} c held k) e h = Plain.local c held (behind-tick k e (reached-local s u c held h))
  behind-tick (Plain.starts f s held k) e h =
      rw (← (tick-same e).0) (Plain.starts f s held (then (_) (reached-fresh f held) (rw (tick-same e).1 at k)))
  behind-tick (Plain.restores image {s} {t = u} p held k) e h =
      rw (← (tick-same e).0) (Plain.restores image p held (then (_) (reached-restored s u image p held h) (rw (tick-same e).1 at k)))
  behind-tick (Plain.misses s r k) e h = rw (← (tick-same e).0) (Plain.misses s r (then (_) r (rw (tick-same e).1 at k)))

pub left_out : {xs ys : List Tick} → LeftOut xs ys → (s : State) → Reached s → Plain s xs → Plain s ys
left_out nothing s h k = k
left_out (kept t {xs} {ys} l) s h k = behind-tick t xs ys (λ u r p. left_out l u r p) k refl h
left_out (missing zs {xs} {ys} l) s h k =
    let b = behind-ticks zs k refl h in Plain.misses s b.1 (left_out l b.0 b.1 b.2)

-- ---- seen late

pub at-once : {s : State} {ts : List Tick} → Plain s ts → Run s [] [] ts
at-once (Plain.over s) = Run.over s [] []
at-once (Plain.read image b i y k) = Run.seen b (Run.read image b i y (at-once k))
at-once (Plain.put b bs p k) = Run.put b bs p (Run.heard b (at-once k))
at-once (Plain.local c held k) = Run.local c held (at-once k)
at-once (Plain.starts f s held k) = Run.starts f s held (at-once k)
at-once (Plain.restores image p held k) = Run.restores image p held (at-once k)
at-once (Plain.misses s r k) = Run.misses s r (at-once k)

-- two ticks of different kinds
abbrev kind : Tick → ℕ
kind (towards b) = 0
kind (from b) = 1
kind (marked m) = 2

differ : {x y : Tick} {xs ys : List Tick} {A : Type 0} → x ∷ xs ≡ y ∷ ys → (kind x ≡ kind y → ⊥) → A
differ e h = absurd (h (ap kind (tick-same e).0))

-- a byte towards that is seen next may have been seen already
module _ (c : ℕ) (ts : List Tick) where
  seen-already : {s : State} {ahead behind : List ℕ} {us : List Tick} → Run s ahead behind us → us ≡ towards c ∷ ts
      → Run s (ahead ++ (c ∷ [])) behind ts
  seen-already (Run.over s ahead behind) e = let z : ◌≡◌ {A = ℕ} 0 1 = cc in absurd (omega arith)
  seen-already (Run.seen b k) e =
      let f = tick-same e in
      let g : b ≡ c = cc in
      rw (← g, ← f.1) k
  seen-already (Run.read image b i y k) e = Run.read image b i y (seen-already k e)
  seen-already (Run.put b bs p k) e = Run.put b bs p (seen-already k e)
  seen-already (Run.heard b k) e = differ e (λ z. omega arith)
  seen-already (Run.local d held k) e = Run.local d held (seen-already k e)
  seen-already (Run.starts f s held k) e = differ e (λ z. omega arith)
  seen-already (Run.restores image p held k) e = differ e (λ z. omega arith)
  seen-already (Run.misses s r k) e = differ e (λ z. omega arith)

-- one swap
module _ (b c : ℕ) (rest : List Tick) where
  abbrev first : List Tick
  first = from b ∷ towards c ∷ rest

  abbrev second : List Tick
  second = towards c ∷ from b ∷ rest

  swap : (before : List Tick) {s : State} {ahead behind : List ℕ} {ts : List Tick} → Run s ahead behind ts → ts ≡ before ++ first
      → Run s ahead behind (before ++ second)
  swap [] (Run.over s ahead behind) e = let z : ◌≡◌ {A = ℕ} 0 1 = cc in absurd (omega arith)
  swap (x ∷ before) (Run.over s ahead behind) e = let z : ◌≡◌ {A = ℕ} 0 1 = cc in absurd (omega arith)
  swap [] (Run.seen d k) e = differ e (λ z. omega arith)
  swap (x ∷ before) (Run.seen d k) e = rw (← (tick-same e).0) (Run.seen d (swap before k (tick-same e).1))
  swap [] (Run.read image d i y k) e = Run.read image d i y (swap [] k e)
  swap (x ∷ before) (Run.read image d i y k) e = Run.read image d i y (swap (x ∷ before) k e)
  swap [] (Run.put d bs p k) e = Run.put d bs p (swap [] k e)
  swap (x ∷ before) (Run.put d bs p k) e = Run.put d bs p (swap (x ∷ before) k e)
  swap [] (Run.heard d k) e =
      let g : d ≡ b = cc in
      rw g (Run.seen c (Run.heard b (seen-already c rest k (tick-same e).1)))
  swap (x ∷ before) (Run.heard d k) e = rw (← (tick-same e).0) (Run.heard d (swap before k (tick-same e).1))
  swap [] (Run.local d held k) e = Run.local d held (swap [] k e)
  swap (x ∷ before) (Run.local d held k) e = Run.local d held (swap (x ∷ before) k e)
  swap [] (Run.starts f s held k) e = differ e (λ z. omega arith)
  swap (x ∷ before) (Run.starts f s held k) e = rw (← (tick-same e).0) (Run.starts f s held (swap before k (tick-same e).1))
  swap [] (Run.restores image p held k) e = differ e (λ z. omega arith)
  swap (x ∷ before) (Run.restores image p held k) e =
      rw (← (tick-same e).0) (Run.restores image p held (swap before k (tick-same e).1))
  swap [] (Run.misses s r k) e = differ e (λ z. omega arith)
  swap (x ∷ before) (Run.misses s r k) e = rw (← (tick-same e).0) (Run.misses s r (swap before k (tick-same e).1))

pub delayed : {xs ys : List Tick} → Delayed xs ys → {s : State} {ahead behind : List ℕ} → Run s ahead behind xs → Run s ahead behind ys
delayed (at_once ts) k = k
delayed (later before b c behind d) k = delayed d (swap b c behind before k refl)
