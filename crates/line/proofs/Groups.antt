-- COBS a group at a time: what a form begins with, and what follows its first group.
-- Assumes nothing.
use Prim.Native.Nat.{ℕ, zero, suc, ◌+◌, ◌-◌, ◌≤◌, ◌<◌, min}
use mathlib.Core.Path.{◌≡◌, refl, sym, ap, ◌∙◌}
use mathlib.Core.List.{List, [], ◌∷◌, ◌++◌}
use native.Mathlib.Nat.{zero-add}
use native.Mathlib.Numerals.{add-one}
use native.Mathlib.Omega.{arith}
use lib.ListN.{length, take, drop, set, replicate, length-set, length-append, length-drop, length-replicate}
use lib.Seq.{drop-drop, take-take, take-add, take_at, drop_at, take-length, length-take-le, append_snoc}
use Rattle.octets.specs.Bytes.{run, overlay}
use Rattle.octets.proofs.Overlay.{run_take, length_run, length-overlay, overlay-more, overlay-next, overlay-none, overlay-one, overlay-swap}
use Rattle.line.specs.Runs.{nonzero}
use Rattle.line.specs.Cobs.{groups, unless_end, cobs}
use Rattle.line.proofs.Runs.{nonzero-most, nonzero-take}
use Rattle.line.proofs.Alike.{alike_next}

-- ---- the first group of a message

-- what follows the first group, which takes `room` bytes and one more
unfoldable pub after : ℕ → List ℕ → List ℕ
after room [] = []
after room (zero ∷ ys) = cobs ys
after zero (suc b ∷ ys) = unless_end ys (cobs ys)
after (suc room) (suc b ∷ ys) = after room ys

groups-first : (r : ℕ) (ys : List ℕ)
    → groups r ys ≡ record { count = length (nonzero (suc r) ys); after = take (length (nonzero (suc r) ys)) ys ++ after r ys }
unfolding groups nonzero after cobs
groups-first r [] = refl
groups-first r (zero ∷ ys) = refl
groups-first zero (suc b ∷ ys) = refl
groups-first (suc r) (suc b ∷ ys) = rw (groups-first r ys)

cobs-first : (ys : List ℕ) (k : ℕ) → length (nonzero 254 ys) ≡ k → cobs ys ≡ ((k + 1) ∷ take k ys) ++ after 253 ys
unfolding cobs
cobs-first ys k e = rw (groups-first 253 ys, add-one, e)

-- no byte is left
after_last : (r : ℕ) (ys : List ℕ) → length (nonzero (suc r) ys) ≡ length ys → after r ys ≡ []
unfolding after nonzero
after_last r [] h = refl
after_last r (zero ∷ ys) h = absurd (omega arith)
after_last zero (suc b ∷ []) h = refl
after_last zero (suc b ∷ y ∷ ys) h = absurd (omega arith)
after_last (suc r) (suc b ∷ ys) h = after_last r ys (omega arith)

-- a zero is next
after-zero : (r k : ℕ) (ys : List ℕ) → length (nonzero (suc r) ys) ≡ k → k < length ys → k ≤ r → after r ys ≡ cobs (drop (suc k) ys)
unfolding after nonzero
after-zero r k [] e h l = absurd (omega arith)
after-zero r zero (zero ∷ ys) e h l = refl
after-zero r (suc k) (zero ∷ ys) e h l = absurd (omega arith)
after-zero zero k (suc b ∷ ys) e h l = absurd (omega arith)
after-zero (suc r) zero (suc b ∷ ys) e h l = absurd (omega arith)
after-zero (suc r) (suc k) (suc b ∷ ys) e h l = after-zero r k ys (omega arith) (omega arith) (omega arith)

-- the group is full
after-full : (r : ℕ) (ys : List ℕ) → length (nonzero (suc r) ys) ≡ suc r → suc r < length ys → after r ys ≡ cobs (drop (suc r) ys)
unfolding after nonzero
after-full r [] e h = absurd (omega arith)
after-full r (zero ∷ ys) e h = absurd (omega arith)
after-full zero (suc b ∷ []) e h = absurd (omega arith)
after-full zero (suc b ∷ y ∷ ys) e h = refl
after-full (suc r) (suc b ∷ ys) e h = after-full r ys (omega arith) (omega arith)

-- ---- one iteration of a loop over the groups of the first n bytes of s

-- i bytes of the message are read, and o bytes of its form are made
abbrev pub Met : List ℕ → ℕ → ℕ → ℕ → Type 0
Met s n i o = drop o (cobs (take n s)) ≡ cobs (drop i (take n s))

-- the first o bytes of a form are put at the start of a list
pub record Put (form : List ℕ) (o : ℕ) (out₀ out : List ℕ) : Type 0 where
  pub size : length out ≡ length out₀
  pub bytes : out ≡ overlay 0 (take o form) out₀

pub put-none : (form out : List ℕ) → Put form 0 out out
put-none form out = record { size = refl; bytes = sym (overlay-none 0 out) }

pub put_all : {form : List ℕ} {o : ℕ} {out₀ out : List ℕ} → o ≡ length form → Put form o out₀ out → out ≡ overlay 0 form out₀
put_all {form} e p = p.bytes ∙ rw (e, take-length form)

-- the next group has k bytes
pub record NextGroup (s : List ℕ) (n i o k : ℕ) : Type 0 where
  pub inside : i + k ≤ n
  pub small : k ≤ 254
  pub room : o + (k + 1) ≤ length (cobs (take n s))
  pub source : n ≤ length s
  pub count : length (nonzero 254 (drop i (take n s))) ≡ k
  pub taken : take (o + (k + 1)) (cobs (take n s)) ≡ take o (cobs (take n s)) ++ ((k + 1) ∷ run i k s)
  pub left : drop (o + (k + 1)) (cobs (take n s)) ≡ after 253 (drop i (take n s))

-- the bytes that are left
left-run : (s : List ℕ) (n i : ℕ) → i ≤ n → run i (n - i) s ≡ drop i (take n s)
left-run s n i h =
    let e : i + (n - i) ≡ n = omega arith in
    rw e at (run_take i (n - i) s)

length-left : (s : List ℕ) (n i : ℕ) → n ≤ length s → length (drop i (take n s)) ≡ n - i
length-left s n i h = simp (length-drop, length-take-le n s h)

-- a list whose rest begins with xs
module _ (l xs ys : List ℕ) (o m : ℕ) (e : drop o l ≡ xs ++ ys) (h : length xs ≡ m) where
  split-take : take (o + m) l ≡ take o l ++ xs
  split-take = rw (take-add, e, take_at xs ys m h)

  split-drop : drop (o + m) l ≡ ys
  split-drop = rw (← drop-drop m o l, e, drop_at xs ys m h)

-- a byte put ahead of a run
set-ahead : (at v : ℕ) (xs t : List ℕ) → at + 1 + length xs ≤ length t
    → set (overlay (at + 1) xs t) at v ≡ overlay (at + 1) xs (set t at v)
set-ahead at v xs t h =
    let n = length-overlay (at + 1) xs t h in
    overlay-one at v (overlay (at + 1) xs t) (omega arith) ∙ overlay-swap at (at + 1) (v ∷ []) xs t (omega arith) (omega arith)
    ∙ ap (overlay (at + 1) xs) (sym (overlay-one at v t (omega arith)))

-- a byte and a run behind bytes that are put
put-group : (d out s : List ℕ) (i k v : ℕ) → i + k ≤ length s → length d + (k + 1) ≤ length out
    → set (overlay (length d + 1) (run i k s) (overlay 0 d out)) (length d) v ≡ overlay 0 (d ++ (v ∷ run i k s)) out
put-group d out s i k v h l =
    let c = d ++ (v ∷ []) in
    let m : length c ≡ length d + 1 = rw length-append in
    let p = rw zero-add at (overlay-more 0 v d out (omega arith)) in
    let q = length-overlay 0 d out (omega arith) in
    let r = length_run i k s h in
    let g = rw (zero-add, m, append_snoc) at (overlay-next 0 c (run i k s) out (omega arith)) in
    set-ahead (length d) v (run i k s) (overlay 0 d out) (omega arith) ∙ rw p g

-- from what the code's calls ensure
pub next-group : (s : List ℕ) (n i o k most : ℕ) → n ≤ length s → i ≤ n → Met s n i o
    → most ≡ min 254 (n - i) → k ≡ length (nonzero most (drop i s)) → NextGroup s n i o k
next-group s n i o k most h l met e u =
    let m = nonzero-most most (drop i s) in
    let c : length (nonzero 254 (drop i (take n s))) ≡ k = rw (← left-run s n i l, nonzero-take 254 (n - i) (drop i s), ← e, u) in
    let t : take k (drop i (take n s)) ≡ run i k s = rw (← left-run s n i l) (take-take k (n - i) (drop i s) (omega arith)) in
    let f = rw t at (met ∙ cobs-first (drop i (take n s)) k c) in
    let j = length_run i k s (omega arith) in
    let g : length ((k + 1) ∷ run i k s) ≡ k + 1 = omega arith in
    record {
      inside = omega arith;
      small = omega arith;
      room = omega (arith, ap length f, length-drop o (cobs (take n s)), length-append (run i k s) (after 253 (drop i (take n s))));
      source = h;
      count = c;
      taken = split-take (cobs (take n s)) ((k + 1) ∷ run i k s) _ o (k + 1) f g;
      left = split-drop (cobs (take n s)) ((k + 1) ∷ run i k s) _ o (k + 1) f g;
    }

module _ {s : List ℕ} {n i o k : ℕ} (t : NextGroup s n i o k) where
  -- the message ends with the group
  pub group-last : i + k ≡ n → o + (k + 1) ≡ length (cobs (take n s))
  group-last h =
      let l = length-left s n i t.source in
      let e = ap length (t.left ∙ after_last 253 (drop i (take n s)) (omega arith)) in
      omega (arith, length-drop (o + (k + 1)) (cobs (take n s)))

  -- a zero ends the group
  pub group-zero : i + k < n → k < 254 → Met s n (i + k + 1) (o + (k + 1))
  group-zero h z =
      let l = length-left s n i t.source in
      let e : i + suc k ≡ i + k + 1 = omega arith in
      t.left ∙ after-zero 253 k (drop i (take n s)) t.count (omega arith) (omega arith) ∙ rw (drop-drop, e)

  -- the group is full
  pub group-full : i + k < n → 254 ≤ k → Met s n (i + k) (o + (k + 1))
  group-full h z =
      let l = length-left s n i t.source in
      let e : i + 254 ≡ i + k = omega arith in
      t.left ∙ after-full 253 (drop i (take n s)) (omega arith) (omega arith) ∙ rw (drop-drop, e)

  -- the group is put behind those that are made
  group-put : {out₀ out : List ℕ} → length (cobs (take n s)) ≤ length out₀ → Put (cobs (take n s)) o out₀ out
      → Put (cobs (take n s)) (o + (k + 1)) out₀ (set (overlay (o + 1) (run i k s) out) o (k + 1))
  group-put {out₀} {out} h p =
      let r = t.room in
      let q = p.size in
      let m = length_run i k s (omega (arith, t)) in
      let l : length (take o (cobs (take n s))) ≡ o = length-take-le o (cobs (take n s)) (omega arith) in
      record {
        size = simp length-set (length-overlay (o + 1) (run i k s) out (omega arith) ∙ q);
        bytes =
            rw (p.bytes, t.taken) (rw l at (put-group (take o (cobs (take n s))) out₀ s i k (k + 1) (omega (arith, t)) (omega arith)));
      }

  -- from what the code's calls ensure
  pub next-group-put : {out₀ out u v : List ℕ} → length (cobs (take n s)) ≤ length out₀ → Put (cobs (take n s)) o out₀ out
      → u ≡ out → v ≡ overlay (o + 1) (run i k s) u → Put (cobs (take n s)) (o + (k + 1)) out₀ (set v o (k + 1))
  next-group-put h p e f = rw (f, e) (group-put h p)

-- ---- a form has at least a byte more than its message

groups-longer : (r : ℕ) (ys : List ℕ) → length ys ≤ length (groups r ys).after
unfolding groups
groups-longer r [] = omega arith
groups-longer r (zero ∷ ys) = omega (arith, groups-longer 253 ys)
groups-longer zero (suc b ∷ []) = omega arith
groups-longer zero (suc b ∷ y ∷ ys) = omega (arith, groups-longer 253 (y ∷ ys))
groups-longer (suc r) (suc b ∷ ys) = omega (arith, groups-longer r ys)

cobs-longer : (ys : List ℕ) → length ys < length (cobs ys)
unfolding cobs
cobs-longer ys = omega (arith, groups-longer 253 ys)

-- there is room for the bytes that are left, and for one more
pub room-left : (s : List ℕ) (n i o : ℕ) → n ≤ length s → Met s n i o → o + (n - i) < length (cobs (take n s))
room-left s n i o h met =
    omega (arith, ap length met, length-drop o (cobs (take n s)), length-left s n i h, cobs-longer (drop i (take n s)))

-- ---- zeros where a group begins: each is a group of no bytes

cobs-zeros : (j : ℕ) (ys : List ℕ) → cobs (replicate j 0 ++ ys) ≡ replicate j 1 ++ cobs ys
unfolding cobs groups
cobs-zeros zero ys = refl
cobs-zeros (suc j) ys = ap (λ (l : List ℕ). 1 ∷ l) (cobs-zeros j ys)

-- the next j bytes are zeros
pub record Zeros (s : List ℕ) (n i o j : ℕ) : Type 0 where
  pub inside : i + j ≤ n
  pub room : o + j ≤ length (cobs (take n s))
  pub taken : take (o + j) (cobs (take n s)) ≡ take o (cobs (take n s)) ++ replicate j 1
  pub met : Met s n (i + j) (o + j)

pub zeros-next : (s : List ℕ) (n i o j : ℕ) → i + j ≤ n → run i j s ≡ replicate j 0 → Met s n i o → Zeros s n i o j
zeros-next s n i o j h e met =
    let rest = drop (i + j) (take n s) in
    let f : drop o (cobs (take n s)) ≡ replicate j 1 ++ cobs rest = met ∙ rw (alike_next s n i j 0 h e) (cobs-zeros j rest) in
    let l = length-replicate {A = ℕ} j 1 in
    record {
      inside = h;
      room = omega (arith, ap length f, length-drop o (cobs (take n s)), length-append (replicate j 1) (cobs rest), cobs-longer rest);
      taken = split-take (cobs (take n s)) (replicate j 1) _ o j f l;
      met = split-drop (cobs (take n s)) (replicate j 1) _ o j f l;
    }

-- their code bytes are put behind those that are made
pub zeros-put : {s : List ℕ} {n i o j : ℕ} → Zeros s n i o j → {out₀ out : List ℕ} → length (cobs (take n s)) ≤ length out₀
    → Put (cobs (take n s)) o out₀ out → Put (cobs (take n s)) (o + j) out₀ (overlay o (replicate j 1) out)
zeros-put {s} {n} {i} {o} {j} z {out₀} {out} h p =
    let r = z.room in
    let k = length-replicate {A = ℕ} j 1 in
    let l : length (take o (cobs (take n s))) ≡ o = length-take-le o (cobs (take n s)) (omega arith) in
    let q = p.size in
    record {
      size = length-overlay o (replicate j 1) out (omega arith) ∙ q;
      bytes = rw (p.bytes, z.taken) (rw (zero-add, l) at (overlay-next 0 (take o (cobs (take n s))) (replicate j 1) out₀ (omega arith)));
    }
