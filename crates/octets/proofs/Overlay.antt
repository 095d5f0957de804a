-- The laws of runs and overlays: what stands where after bytes were put into a list.
-- Assumes nothing.
use Prim.Native.Nat.{ℕ, zero, suc, ◌+◌, ◌-◌, ◌^◌, ◌≤◌, ◌<◌}
use mathlib.Core.Path.{◌≡◌, refl, ap, ◌∙◌}
use mathlib.Core.Bool.{Bool, true, false, cond, and-false}
use mathlib.Core.List.{List, [], ◌∷◌, ◌++◌, append_assoc, append-nil}
use native.Mathlib.Nat.{add-zero, zero-add, suc-add, add_assoc, add-sub_cancel_left}
use native.Mathlib.Numerals.{add-one}
use native.Mathlib.Omega.{arith}
use lib.ListN.{length, take, drop, set, get_or, length-append, length-drop, take-append-drop, get_or-append}
use lib.Seq.{take-suc, take-add, get_or-drop, take-nil, drop-nil, drop-drop, take-take, take_at, drop_at, take-append-le, drop-append-le}
use lib.Seq.{take-append-add, drop-append-add, length-take-le, append_snoc, set_split}
use borrow.Author.Tests.{leb-true, le-leb, lt-leb}
use Rattle.std.specs.List.{copy_within}
use Rattle.octets.specs.Bytes.{Byte, Each, number, bytes, run, number_at, fits, overlay, put, copied, moved_down}
use Rattle.octets.proofs.Each.{each_append, each_take, each-drop, each-run}
use Rattle.octets.proofs.Numbers.{length-bytes, one_byte, number-bytes, bytes-number}
use Rattle.octets.proofs.Conditions.{cond-by}

-- ---- runs

-- a run is the end of a beginning
pub run_take : (j n : ℕ) (s : List ℕ) → run j n s ≡ drop j (take (j + n) s)
run_take zero n s = rw zero-add
run_take (suc j) n [] = simp (suc-add, take-nil, drop-nil)
run_take (suc j) n (x ∷ s) = rw suc-add (run_take j n s)

-- one byte more
pub run_more : (at n : ℕ) (s : List ℕ) → at + n < length s → run at (n + 1) s ≡ run at n s ++ get_or s (at + n) 0 ∷ []
run_more at n s h =
    let l : n < length (drop at s) = simp length-drop (omega arith) in
    rw (add-one, take-suc (drop at s) n 0 l, get_or-drop)

pub length_run : (at n : ℕ) (s : List ℕ) → at + n ≤ length s → length (run at n s) ≡ n
length_run at n s h = length-take-le n (drop at s) (simp length-drop (omega arith))

-- a run and the run behind it
pub run-add : (at j k : ℕ) (s : List ℕ) → run at (j + k) s ≡ run at j s ++ run (at + j) k s
run-add at j k s = take-add j k (drop at s) ∙ rw drop-drop

-- a run of a run
pub run-run : (at size j n : ℕ) (s : List ℕ) → j + n ≤ size → run j n (run at size s) ≡ run (at + j) n s
run-run at size j n s h = rw (run_take j n (run at size s), take-take (j + n) size (drop at s) h, ← run_take j n (drop at s), drop-drop)

-- the bytes of a number that was read
pub number-run : (k at : ℕ) (s : List ℕ) → at + k ≤ length s → Each Byte s → bytes k (number_at k s at) ≡ run at k s
number-run k at s h b = rw (length_run at k s h) at (bytes-number (run at k s) (each-run at k s b))

-- ---- overlays

pub length-overlay : (at : ℕ) (xs s : List ℕ) → at + length xs ≤ length s → length (overlay at xs s) ≡ length s
unfolding overlay
length-overlay at xs s h = simp (length-append, length-take-le at s (omega arith), length-drop) (omega arith)

-- what stands before the end of the bytes put
overlay-front : (at : ℕ) (xs s : List ℕ) → at ≤ length s → length (take at s ++ xs) ≡ at + length xs
overlay-front at xs s h = simp (length-append, length-take-le at s h)

-- what stands from their offset on
overlay-from : (at : ℕ) (xs s : List ℕ) → at ≤ length s → drop at (overlay at xs s) ≡ xs ++ drop (at + length xs) s
unfolding overlay
overlay-from at xs s h = rw append_assoc (drop_at (take at s) _ at (length-take-le at s h))

-- bytes at the start
pub overlay-start : (xs s : List ℕ) → overlay 0 xs s ≡ xs ++ drop (length xs) s
unfolding overlay
overlay-start xs s = rw zero-add

pub overlay-take : (at n : ℕ) (xs s : List ℕ) → n ≤ at → at ≤ length s → take n (overlay at xs s) ≡ take n s
unfolding overlay
overlay-take at n xs s l h =
    let m : n ≤ length (take at s) = rw (length-take-le at s h) l in
    rw (append_assoc, take-append-le n (take at s) _ m, take-take n at s l)

pub overlay-drop : (at j : ℕ) (xs s : List ℕ) → at ≤ length s → at + length xs ≤ j → drop j (overlay at xs s) ≡ drop j s
unfolding overlay
overlay-drop at j xs s h l =
    let e : at + length xs + (j - (at + length xs)) ≡ j = omega arith in
    let d = drop-append-add (take at s ++ xs) (drop (at + length xs) s) (j - (at + length xs)) in
    rw (overlay-front at xs s h, drop-drop, e) at d

pub overlay-part : (at j n : ℕ) (xs s : List ℕ) → at ≤ length s → j + n ≤ length xs
    → run (at + j) n (overlay at xs s) ≡ run j n xs
overlay-part at j n xs s h l =
    let m : n ≤ length (drop j xs) = simp length-drop (omega arith) in
    rw (
      ← drop-drop j at (overlay at xs s),
      overlay-from at xs s h,
      drop-append-le j xs (drop (at + length xs) s) (omega arith),
      take-append-le n (drop j xs) _ m,
    )

pub overlay-inside : (at : ℕ) (xs s : List ℕ) → at ≤ length s → run at (length xs) (overlay at xs s) ≡ xs
overlay-inside at xs s h = rw (overlay-from at xs s h) (take_at xs _ (length xs) refl)

pub overlay-before : (at j n : ℕ) (xs s : List ℕ) → at ≤ length s → j + n ≤ at → run j n (overlay at xs s) ≡ run j n s
overlay-before at j n xs s h l = rw (run_take j n (overlay at xs s), run_take j n s) (ap (drop j) (overlay-take at (j + n) xs s l h))

pub overlay-after : (at j n : ℕ) (xs s : List ℕ) → at ≤ length s → at + length xs ≤ j → run j n (overlay at xs s) ≡ run j n s
overlay-after at j n xs s h l = ap (take n) (overlay-drop at j xs s h l)

pub overlay-none : (at : ℕ) (s : List ℕ) → overlay at [] s ≡ s
unfolding overlay
overlay-none at s = rw (add-zero, append-nil, take-append-drop)

pub overlay-one : (at v : ℕ) (s : List ℕ) → at < length s → set s at v ≡ overlay at (v ∷ []) s
unfolding overlay
overlay-one at v s h = set_split s at v h ∙ rw (append_snoc, add-one)

-- bytes put over bytes as long
pub overlay-again : (at : ℕ) (xs ys s : List ℕ) → at ≤ length s → length xs ≡ length ys
    → overlay at ys (overlay at xs s) ≡ overlay at ys s
unfolding overlay
overlay-again at xs ys s h e =
    rw (overlay-take at at xs s (omega arith) h, overlay-drop at (at + length ys) xs s h (omega arith))

-- bytes put right after bytes
pub overlay-next : (at : ℕ) (xs ys s : List ℕ) → at ≤ length s
    → overlay (at + length xs) ys (overlay at xs s) ≡ overlay at (xs ++ ys) s
unfolding overlay
overlay-next at xs ys s h =
    rw (
      overlay-drop at (at + length xs + length ys) xs s h (omega arith),
      take_at (take at s ++ xs) (drop (at + length xs) s) (at + length xs) (overlay-front at xs s h),
    )
    (simp (length-append, append_assoc, add_assoc))

-- ---- one byte of an overlay

-- a byte is the first of what stands from its offset on
first : (j d : ℕ) (s : List ℕ) → get_or s j d ≡ get_or (drop j s) 0 d
first j d s = rw (get_or-drop, add-zero)

pub overlay-get_d-after : (at j d : ℕ) (xs s : List ℕ) → at ≤ length s → at + length xs ≤ j
    → get_or (overlay at xs s) j d ≡ get_or s j d
overlay-get_d-after at j d xs s h l = first j d (overlay at xs s) ∙ rw (overlay-drop at j xs s h l, ← first)

pub overlay-get_d-inside : (at j d : ℕ) (xs s : List ℕ) → at ≤ length s → j < length xs
    → get_or (overlay at xs s) (at + j) d ≡ get_or xs j d
overlay-get_d-inside at j d xs s h l =
    rw (← get_or-drop at (overlay at xs s) j d, overlay-from at xs s h) (get_or-append xs _ d j l)

-- ---- overlays one after the other

-- one byte more
pub overlay-more : (at v : ℕ) (xs s : List ℕ) → at + length xs < length s
    → set (overlay at xs s) (at + length xs) v ≡ overlay at (xs ++ v ∷ []) s
overlay-more at v xs s h =
    let l : length (overlay at xs s) ≡ length s = length-overlay at xs s (omega arith) in
    overlay-one (at + length xs) v (overlay at xs s) (omega arith) ∙ overlay-next at xs (v ∷ []) s (omega arith)

-- a run put, one byte more
pub overlay-run-more : (at from i : ℕ) (src s : List ℕ) → from + i < length src → at + i < length s
    → set (overlay at (run from i src) s) (at + i) (get_or src (from + i) 0) ≡ overlay at (run from (i + 1) src) s
overlay-run-more at from i src s h l =
    let e : length (run from i src) ≡ i = length_run from i src (omega arith) in
    let m = overlay-more at (get_or src (from + i) 0) (run from i src) s (omega arith) in
    rw (e, ← run_more from i src h) at m

-- a run moved within its list
pub part-moved : (from to n : ℕ) (s : List ℕ) → from + n ≤ length s → copy_within s from (from + n) to ≡ overlay to (run from n s) s
unfolding overlay
part-moved from to n s h = rw (add-sub_cancel_left, length_run from n s h)

-- the bytes up to an offset past those put
pub overlay-take-past : (at n : ℕ) (xs s : List ℕ) → at ≤ length s → at + length xs ≤ n
    → take n (overlay at xs s) ≡ take at s ++ xs ++ drop (at + length xs) (take n s)
unfolding overlay
overlay-take-past at n xs s h l =
    let k = n - (at + length xs) in
    let e : at + length xs + k ≡ n = omega arith in
    let t = take-append-add (take at s ++ xs) (drop (at + length xs) s) k in
    rw (overlay-front at xs s h, run_take (at + length xs) k s, e) at t

-- the bytes from an offset before those put
pub overlay-drop-before : (at j : ℕ) (xs s : List ℕ) → at ≤ length s → j ≤ at
    → drop j (overlay at xs s) ≡ drop j (take at s) ++ xs ++ drop (at + length xs) s
unfolding overlay
overlay-drop-before at j xs s h l =
    let m : j ≤ length (take at s) = rw (length-take-le at s h) l in
    simp append_assoc (drop-append-le j (take at s) _ m)

-- bytes put at two offsets apart, in either order
pub overlay-swap : (at bt : ℕ) (xs ys s : List ℕ) → at + length xs ≤ bt → bt ≤ length s
    → overlay at xs (overlay bt ys s) ≡ overlay bt ys (overlay at xs s)
unfolding overlay
overlay-swap at bt xs ys s h k =
    rw (
      overlay-take bt at ys s (omega arith) k,
      overlay-drop-before bt (at + length xs) ys s k h,
      overlay-take-past at bt xs s (omega arith) h,
      overlay-drop at (bt + length ys) xs s (omega arith) (omega arith),
    )
    (simp append_assoc)

pub overlay-each : (P : ℕ → Type 0) (at : ℕ) (xs s : List ℕ) → Each P xs → Each P s → Each P (overlay at xs s)
unfolding overlay
overlay-each P at xs s h k =
    each_append P (take at s ++ xs) (drop (at + length xs) s)
    (each_append P (take at s) xs (each_take P at s k) h) (each-drop P (at + length xs) s k)

-- ---- where it fits, and where not

pub put-fits : (at : ℕ) (xs s : List ℕ) → at + length xs ≤ length s → put at xs s ≡ overlay at xs s
unfolding put
put-fits at xs s h = rw (le-leb (at + length xs) (length s) h)

pub put-not : (at : ℕ) (xs s : List ℕ) → length s < at + length xs → put at xs s ≡ s
unfolding put
put-not at xs s h = rw (lt-leb (at + length xs) (length s) h)

pub fits-true : (at n : ℕ) (s : List ℕ) → fits at n s ≡ true → at + n ≤ length s
fits-true at n s f = leb-true (at + n) (length s) f

pub length-between : (at n : ℕ) (s : List ℕ) → fits at n s ≡ true → length (take (at + n - at) (drop at s)) ≡ n
length-between at n s f = rw add-sub_cancel_left (length_run at n s (fits-true at n s f))

-- bytes in the place of as many that are there
pub put-between : (at n : ℕ) (xs s : List ℕ) → length xs ≡ n → fits at n s ≡ true
    → take at s ++ (xs ++ drop (at + n - at) (drop at s)) ≡ put at xs s
unfolding put overlay
put-between at n xs s e f = rw (e, f, add-sub_cancel_left, drop-drop, append_assoc)

pub put-none : (at n : ℕ) (xs s : List ℕ) → length xs ≡ n → fits at n s ≡ false → s ≡ put at xs s
unfolding put
put-none at n xs s e f = rw (e, f)

length-cond : (b : Bool) (x s : List ℕ) → (b ≡ true → length x ≡ length s) → length (cond b x s) ≡ length s
length-cond b x s f = cond-by (λ t. length t ≡ length s) b x s f (λ _. refl)

pub length-put : (at : ℕ) (xs s : List ℕ) → length (put at xs s) ≡ length s
unfolding put
length-put at xs s = length-cond _ _ s (λ e. length-overlay at xs s (leb-true (at + length xs) (length s) e))

-- two bytes, one after the other
pub pair_put : (at a b : ℕ) (s : List ℕ) → at + 2 ≤ length s → set (set s at a) (at + 1) b ≡ put at (a ∷ b ∷ []) s
pair_put at a b s h = rw (overlay-one at a s (omega arith), put-fits at (a ∷ b ∷ []) s h) (overlay-more at b (a ∷ []) s (omega arith))

-- what was written is read
pub number_put : (k at v : ℕ) (s : List ℕ) → at + k ≤ length s → v < 256 ^ k → number_at k (put at (bytes k v) s) at ≡ v
number_put k at v s h l =
    let n = length-bytes k v in
    rw (put-fits at (bytes k v) s (omega arith))
    (ap number (rw n at (overlay-inside at (bytes k v) s (omega arith))) ∙ number-bytes k v l)

pub copied-fits : (src : List ℕ) (from n : ℕ) (dst : List ℕ) (at : ℕ) → from + n ≤ length src → at + n ≤ length dst
    → copied src from n dst at ≡ overlay at (run from n src) dst
unfolding copied
copied-fits src from n dst at h l =
    let e = length_run from n src h in
    rw (le-leb (from + n) (length src) h) (put-fits at (run from n src) dst (omega arith))

pub length-copied : (src : List ℕ) (from n : ℕ) (dst : List ℕ) (at : ℕ) → length (copied src from n dst at) ≡ length dst
unfolding copied
length-copied src from n dst at = length-cond (fits from n src) (put at (run from n src) dst) dst (λ e. length-put at (run from n src) dst)

pub moved_down-fits : (s : List ℕ) (from to n : ℕ) → to ≤ from → from + n ≤ length s
    → moved_down s from to n ≡ overlay to (run from n s) s
unfolding moved_down
moved_down-fits s from to n h l = rw (le-leb (from + n) (length s) l, le-leb to from h)

pub moved_down-none : (s : List ℕ) (from to n : ℕ) → fits from n s ≡ false → moved_down s from to n ≡ s
unfolding moved_down
moved_down-none s from to n f = rw f

pub moved_down-up : (s : List ℕ) (from to n : ℕ) → from < to → moved_down s from to n ≡ s
unfolding moved_down
moved_down-up s from to n h = rw (lt-leb to from h, and-false)

-- ---- a list with more behind it

module _ (t u : List ℕ) where
  pub overlay-append : (at : ℕ) (xs : List ℕ) → at + length xs ≤ length t → overlay at xs (t ++ u) ≡ overlay at xs t ++ u
  unfolding overlay
  overlay-append at xs h = rw (take-append-le at t u (omega arith), drop-append-le (at + length xs) t u h) (simp append_assoc)

  pub run-append : (at n : ℕ) → at + n ≤ length t → run at n (t ++ u) ≡ run at n t
  run-append at n h =
      let k : n ≤ length (drop at t) = simp length-drop (omega arith) in
      rw (drop-append-le at t u (omega arith), take-append-le n (drop at t) u k)

-- more put right behind what was put
module _ (at behind : ℕ) (xs s : List ℕ) (e : behind ≡ at + length xs) where
  pub next-put : (ys : List ℕ) → behind + length ys ≤ length s → put behind ys (overlay at xs s) ≡ overlay at (xs ++ ys) s
  next-put ys h =
      let l : length (overlay at xs s) ≡ length s = length-overlay at xs s (omega arith) in
      put-fits behind ys (overlay at xs s) (omega arith) ∙ rw e (overlay-next at xs ys s (omega arith))

  pub next-copied : (src : List ℕ) (from n : ℕ) → from + n ≤ length src → behind + n ≤ length s
      → copied src from n (overlay at xs s) behind ≡ overlay at (xs ++ run from n src) s
  next-copied src from n f h =
      let l : length (overlay at xs s) ≡ length s = length-overlay at xs s (omega arith) in
      copied-fits src from n (overlay at xs s) behind f (omega arith) ∙ rw e (overlay-next at xs (run from n src) s (omega arith))

  pub next-byte : (v : ℕ) → v < 256 → behind < length s → set (overlay at xs s) behind v ≡ overlay at (xs ++ bytes 1 v) s
  next-byte v small h =
      let l : length (overlay at xs s) ≡ length s = length-overlay at xs s (omega arith) in
      overlay-one behind v (overlay at xs s) (omega arith) ∙ rw (e, one_byte v small) (overlay-next at xs (v ∷ []) s (omega arith))
