-- Laws of the reader's state: its count, the states that are read, and the bytes of a frame as they come.
-- Assumes nothing.
use mathlib.Core.Path.{◌≡◌, refl, sym, ap, ◌∙◌}
use mathlib.Core.Bool.{Bool, true, false, cond, and-eq-true_iff}
use mathlib.Core.List.{List, [], ◌∷◌, ◌++◌}
use mathlib.Core.Option.{Option, none, some}
use Prim.Native.Nat.{ℕ, suc, ◌+◌, ◌-◌, ◌≤◌, ◌<◌}
use native.Mathlib.Nat.{add-zero}
use native.Mathlib.Omega.{arith}
use lib.Dec.{leb, ltb}
use lib.ListN.{length, take, drop, length-drop, take-append-drop}
use lib.Seq.{length-take-le, take-take}
use borrow.Author.Tests.{leb-true, le-leb, ltb-true, ltb-false, lt-ltb, le-ltb}
use Rattle.octets.specs.Bytes.{bytes, run, overlay, copied}
use Rattle.octets.proofs.Conditions.{cond-by}
use Rattle.octets.proofs.Numbers.{length-bytes}
use Rattle.octets.proofs.Overlay.{length-overlay, overlay-after, overlay-none, overlay-again, overlay-next, overlay-swap, put-fits}
use Rattle.octets.proofs.Overlay.{number_put, copied-fits}
use Rattle.line.specs.Limits.{longest_data, longest_form}
use Rattle.line.specs.ReaderLayout.{frame_offset, overlong, received_count, with_count}
use Rattle.line.specs.Reader.{reader_length, valid_reader, pushed, pushed_all, data_given_promise}

-- ---- the count

module _ (n : ℕ) (s : List ℕ) (h : frame_offset ≤ length s) where
  pub length-counted : length (with_count n s) ≡ length s
  unfolding with_count
  length-counted = length-overlay 0 (bytes 2 n) s (omega (arith, length-bytes 2 n))

  pub count-counted : n < 65536 → received_count (with_count n s) ≡ n
  unfolding received_count with_count
  count-counted l = rw (put-fits 0 (bytes 2 n) s (omega (arith, length-bytes 2 n))) at (number_put 2 0 n s h l)

  pub counted-again : (m : ℕ) → with_count m (with_count n s) ≡ with_count m s
  unfolding with_count
  counted-again m = overlay-again 0 (bytes 2 n) (bytes 2 m) s (omega arith) (length-bytes 2 n ∙ sym (length-bytes 2 m))

  -- the frame's bytes do not change with the count
  pub run-counted : (k : ℕ) → run frame_offset k (with_count n s) ≡ run frame_offset k s
  unfolding with_count
  run-counted k = overlay-after 0 frame_offset k (bytes 2 n) s (omega arith) (omega (arith, length-bytes 2 n))

  pub overlay-counted : (k : ℕ) (xs : List ℕ) → frame_offset + k ≤ length s
      → overlay (frame_offset + k) xs (with_count n s) ≡ with_count n (overlay (frame_offset + k) xs s)
  unfolding with_count
  overlay-counted k xs l = sym (overlay-swap 0 (frame_offset + k) (bytes 2 n) xs s (omega (arith, length-bytes 2 n)) l)

-- ---- the states that are read

abbrev pub Ready : List ℕ → Type 0
Ready s = (reader_length ≤ length s) × (received_count s ≤ overlong)

pub valid-ready : (s : List ℕ) → valid_reader s ≡ true → Ready s
unfolding valid_reader
valid-ready s e =
    let t = (and-eq-true_iff (leb reader_length (length s)) (leb (received_count s) overlong)).0 e in
    (leb-true _ _ t.0, leb-true _ _ t.1)

-- where a message's data are handed out, they lie within the state
pub data-given : (s : List ℕ) (n : ℕ) → none ≡ data_given_promise s n → (reader_length ≤ length s) × (n ≤ longest_data)
unfolding data_given_promise
data-given s n e = by (valid_reader s) (ltb longest_data n) refl refl e
  where
    by : (v t : Bool) → valid_reader s ≡ v → ltb longest_data n ≡ t → ◌≡◌ {A = Option ℕ} none (cond v (cond t (some 9) none) (some 12))
        → (reader_length ≤ length s) × (n ≤ longest_data)
    by true true f g h = (cc, cc)
    by true false f g h = ((valid-ready s f).0, ltb-false _ _ g)
    by false t f g h = (cc, cc)

pub ready-valid : (s : List ℕ) → Ready s → valid_reader s ≡ true
unfolding valid_reader
ready-valid s r = rw (le-leb _ _ r.0, le-leb _ _ r.1)

-- ---- one byte of a frame

module _ (n : ℕ) (s : List ℕ) (b : ℕ) (h : reader_length ≤ length s) where
  pushed_room : n < longest_form → pushed (with_count n s) b ≡ with_count (n + 1) (overlay (frame_offset + n) (b ∷ []) s)
  unfolding pushed
  pushed_room l =
      rw (
        count-counted n s (omega arith) (omega arith),
        lt-ltb n longest_form l,
        overlay-counted n s (omega arith) n (b ∷ []) (omega arith),
      )
      (counted-again n (overlay (frame_offset + n) (b ∷ []) s)
      (rw (length-overlay (frame_offset + n) (b ∷ []) s (omega arith)) (omega arith)) (n + 1))

  pushed-over : longest_form ≤ n → n ≤ overlong → pushed (with_count n s) b ≡ with_count overlong s
  unfolding pushed
  pushed-over l m = rw (count-counted n s (omega arith) (omega arith), le-ltb n longest_form l) (counted-again n s (omega arith) overlong)

-- the count is written anew with the byte
pushed-again : (s : List ℕ) (b : ℕ) → Ready s → pushed (with_count (received_count s) s) b ≡ pushed s b
unfolding pushed
pushed-again s b r =
    cond-by (λ t. pushed (with_count (received_count s) s) b ≡ t) (ltb (received_count s) longest_form) _ _
    (λ e. pushed_room (received_count s) s b r.0 (ltb-true _ _ e))
    (λ e. pushed-over (received_count s) s b r.0 (ltb-false _ _ e) r.1)

-- a state that is read stays so, and keeps its length
pub ready-pushed : (s : List ℕ) (b : ℕ) → Ready s → (length (pushed s b) ≡ length s) × (received_count (pushed s b) ≤ overlong)
unfolding pushed
ready-pushed s b r =
    cond-by (λ t. (length t ≡ length s) × (received_count t ≤ overlong)) (ltb (received_count s) longest_form) _ _
    (λ e.
    let l = ltb-true (received_count s) longest_form e in
    let k = length-overlay (frame_offset + received_count s) (b ∷ []) s (omega arith) in (
      length-counted _ _ (omega arith) ∙ k,
      rw (count-counted (received_count s + 1) (overlay (frame_offset + received_count s) (b ∷ []) s) (omega arith) (omega arith))
          (omega arith),
    ))
    (λ e. (length-counted overlong s (omega arith), rw (count-counted overlong s (omega arith) (omega arith)) (omega arith)))

-- ---- bytes of a frame

pub pushes-append : (xs ys s : List ℕ) → pushed_all s (xs ++ ys) ≡ pushed_all (pushed_all s xs) ys
unfolding pushed_all
pushes-append [] ys s = refl
pushes-append (x ∷ xs) ys s = pushes-append xs ys (pushed s x)

pub ready-pushes : (bs s : List ℕ) → Ready s → (length (pushed_all s bs) ≡ length s) × (received_count (pushed_all s bs) ≤ overlong)
unfolding pushed_all
ready-pushes [] s r = (refl, r.1)
ready-pushes (b ∷ bs) s r =
    let p = ready-pushed s b r in
    let q = ready-pushes bs (pushed s b) (omega arith, p.1) in
    (q.0 ∙ p.0, q.1)

-- bytes that all fit behind n others
pushes-counted : (bs : List ℕ) (n : ℕ) (s : List ℕ) → reader_length ≤ length s → n + length bs ≤ longest_form
    → pushed_all (with_count n s) bs ≡ with_count (n + length bs) (overlay (frame_offset + n) bs s)
unfolding pushed_all
pushes-counted [] n s h l = rw (overlay-none, add-zero)
pushes-counted (b ∷ bs) n s h l =
    let e = length-overlay (frame_offset + n) (b ∷ []) s (omega arith) in
    let i : frame_offset + (n + 1) ≡ frame_offset + n + 1 = omega arith in
    let j : n + 1 + length bs ≡ n + suc (length bs) = omega arith in
    rw
    (pushed_room n s b h (omega arith), pushes-counted bs (n + 1) (overlay (frame_offset + n) (b ∷ []) s) (omega arith) (omega arith), i, j)
    (ap (with_count (n + suc (length bs))) (overlay-next (frame_offset + n) (b ∷ []) bs s (omega arith)))

-- behind too many bytes nothing is kept
pushes-overlong : (bs s : List ℕ) → reader_length ≤ length s → pushed_all (with_count overlong s) bs ≡ with_count overlong s
unfolding pushed_all
pushes-overlong [] s h = refl
pushes-overlong (b ∷ bs) s h = rw (pushed-over overlong s b h (omega arith) (omega arith)) (pushes-overlong bs s h)

pushes-beyond : (bs : List ℕ) (n : ℕ) (s : List ℕ) → reader_length ≤ length s → longest_form ≤ n → n ≤ overlong → 0 < length bs
    → pushed_all (with_count n s) bs ≡ with_count overlong s
unfolding pushed_all
pushes-beyond [] n s h l m k = absurd (omega arith)
pushes-beyond (b ∷ bs) n s h l m k = rw (pushed-over n s b h l m) (pushes-overlong bs s h)

pushes-again : (bs s : List ℕ) → Ready s → 0 < length bs → pushed_all s bs ≡ pushed_all (with_count (received_count s) s) bs
unfolding pushed_all
pushes-again [] s r k = absurd (omega arith)
pushes-again (b ∷ bs) s r k = rw (pushed-again s b r)

module _ (bs s : List ℕ) (r : Ready s) (k : 0 < length bs) where
  pub pushes-fit : received_count s + length bs ≤ longest_form
      → pushed_all s bs ≡ with_count (received_count s + length bs) (overlay (frame_offset + received_count s) bs s)
  pushes-fit l = pushes-again bs s r k ∙ pushes-counted bs (received_count s) s r.0 l

  pub pushes-over : longest_form ≤ received_count s → pushed_all s bs ≡ with_count overlong s
  pushes-over l = pushes-again bs s r k ∙ pushes-beyond bs (received_count s) s r.0 l r.1 k

  -- the last of them are one too many
  pub pushes-some : received_count s ≤ longest_form → longest_form < received_count s + length bs
      → pushed_all s bs ≡ with_count overlong (overlay (frame_offset + received_count s) (take (longest_form - received_count s) bs) s)
  pushes-some l m =
      let room = longest_form - received_count s in
      let e : length (take room bs) ≡ room = length-take-le room bs (omega arith) in
      let f : received_count s + room ≡ longest_form = omega arith in
      let t = overlay (frame_offset + received_count s) (take room bs) s in
      let o : length t ≡ length s = length-overlay (frame_offset + received_count s) (take room bs) s (omega arith) in
      let d : 0 < length (drop room bs) = simp length-drop (omega arith) in
      let fit = pushes-counted (take room bs) (received_count s) s r.0 (omega arith) in
      pushes-again bs s r k
      ∙ (rw take-append-drop at (pushes-append (take room bs) (drop room bs) (with_count (received_count s) s)))
      ∙ rw (fit, e, f) (pushes-beyond (drop room bs) longest_form t (omega arith) (omega arith) (omega arith) d)

-- the first n bytes of a piece, in one copy
module _ (s p : List ℕ) (n : ℕ) (r : Ready s) (k : 0 < n) (l : n ≤ length p) where
  pub append-over : longest_form < received_count s → with_count overlong s ≡ pushed_all s (take n p)
  append-over m =
      let e = length-take-le n p l in
      sym (pushes-over (take n p) s r (omega arith) (omega arith))

  pub append-some : received_count s ≤ longest_form → longest_form - received_count s < n
      → with_count overlong (copied p 0 (longest_form - received_count s) s (frame_offset + received_count s)) ≡ pushed_all s (take n p)
  append-some m o =
      let e = length-take-le n p l in
      let room = longest_form - received_count s in
      rw (copied-fits p 0 room s (frame_offset + received_count s) (omega arith) (omega arith), ← take-take room n p (omega arith))
      (sym (pushes-some (take n p) s r (omega arith) m (omega arith)))

  pub append-put : received_count s + n ≤ longest_form
      → with_count (received_count s + n) (overlay (frame_offset + received_count s) (take n p) s) ≡ pushed_all s (take n p)
  append-put m =
      let e = length-take-le n p l in
      let f = pushes-fit (take n p) s r (omega arith) (omega arith) in
      sym (rw e at f)

  pub append-fit : n ≤ longest_form - received_count s
      → with_count (received_count s + n) (copied p 0 n s (frame_offset + received_count s)) ≡ pushed_all s (take n p)
  append-fit m = rw (copied-fits p 0 n s (frame_offset + received_count s) (omega arith) (omega arith)) (append-put (omega arith))
