-- Laws of the view: a list of the first values, the rest of a run, start data that agree, and zeros.
-- Assumes nothing.
use mathlib.Core.Path.{◌≡◌, refl, ap, ◌∙◌}
use mathlib.Core.List.{List, [], ◌∷◌, ◌++◌, append_assoc}
use Prim.Native.Nat.{ℕ, zero, suc, ◌+◌, ◌-◌, ◌≤◌, ◌<◌, min}
use native.Mathlib.Nat.{zero-add}
use native.Mathlib.Numerals.{add-one}
use native.Mathlib.Omega.{arith}
use lib.ListN.{length, take, drop, get_or, set, replicate, length-append, length-replicate}
use lib.Seq.{take-nil, take_at, drop-drop, drop_at, drop-append-add}
use Rattle.octets.specs.Bytes.{Each, number, run, number_at, overlay}
use Rattle.octets.proofs.Each.{each_take, each-drop}
use Rattle.octets.proofs.Overlay.{run_take, length-overlay, overlay-part}
use Rattle.octets.proofs.SameBytes.{same_first, number_same}
use Rattle.supervisor.specs.Limits
use Rattle.supervisor.specs.Layout
use Rattle.supervisor.proofs.ValidLaws.{StartGood, item-good, all-each}
use Rattle.supervisor_claims.specs.View.{tabulated, item_at, factory_of}

-- ---- the first values of a function

module _ {A : Type 0} (f : ℕ → A) where
  pub length-listed : (n : ℕ) → length (tabulated f n) ≡ n
  unfolding tabulated
  length-listed zero = refl
  length-listed (suc n) = simp (length-append, length-listed n) (add-one n)

  pub listed_same : (g : ℕ → A) (n : ℕ) → ((i : ℕ) → i < n → f i ≡ g i) → tabulated f n ≡ tabulated g n
  unfolding tabulated
  listed_same g zero e = refl
  listed_same g (suc n) e = rw (listed_same g n (λ i l. e i (omega arith)), e n (omega arith))

module _ {A : Type 0} where
  pub listed-first : (f : ℕ → A) (n : ℕ) → tabulated f (suc n) ≡ f 0 ∷ tabulated (λ i. f (suc i)) n
  unfolding tabulated
  listed-first f zero = refl
  listed-first f (suc n) = rw (listed-first f n)

  pub listed_at : (f : ℕ → A) (d : A) (n i : ℕ) → i < n → get_or (tabulated f n) i d ≡ f i
  listed_at f d zero i h = absurd (omega arith)
  listed_at f d (suc n) zero h = rw (listed-first f n)
  listed_at f d (suc n) (suc i) h = rw (listed-first f n) (listed_at (λ j. f (suc j)) d n i (omega arith))

  -- one value is another
  pub listed-set : (f g : ℕ → A) (x : A) (n i : ℕ) → i < n → g i ≡ x → ((j : ℕ) → j < n → (j ≡ i → ⊥) → g j ≡ f j)
      → tabulated g n ≡ set (tabulated f n) i x
  listed-set f g x zero i h e k = absurd (omega arith)
  listed-set f g x (suc n) zero h e k =
      rw (
        listed-first f n,
        listed-first g n,
        e,
        listed_same (λ j. g (suc j)) (λ j. f (suc j)) n (λ j l. k (suc j) (omega arith) (λ m. omega (arith, m))),
      )
  listed-set f g x (suc n) (suc i) h e k =
      rw (
        listed-first f n,
        listed-first g n,
        k 0 (omega arith) (λ m. omega (arith, m)),
        listed-set (λ j. f (suc j)) (λ j. g (suc j)) x n i (omega arith) e (λ j l m. k (suc j) (omega arith) (λ o. m (omega (arith, o)))),
      )

  pub listed-replicate : (x : A) (n : ℕ) → tabulated (λ i. x) n ≡ replicate n x
  unfolding tabulated
  listed-replicate x zero = refl
  listed-replicate x (suc n) = rw (listed-first (λ i. x) n, listed-replicate x n)

-- ---- the beginning and the end of a list or a run

pub take_min : (m n : ℕ) (l : List ℕ) → take m (take n l) ≡ take (min m n) l
take_min zero n l = let e : min 0 n ≡ 0 = omega arith in rw e
take_min (suc m) zero l = let e : min (suc m) 0 ≡ 0 = omega arith in rw e
take_min (suc m) (suc n) [] = rw (take-nil (min (suc m) (suc n)))
take_min (suc m) (suc n) (x ∷ l) = let e : min (suc m) (suc n) ≡ suc (min m n) = omega arith in rw (e, take_min m n l)

-- the rest of a run
pub drop-run : (m at n : ℕ) (s : List ℕ) → m ≤ n → run (at + m) (n - m) s ≡ drop m (run at n s)
drop-run m at n s h =
    let e : m + (n - m) ≡ n = omega arith in
    rw (← drop-drop, run_take m (n - m) (drop at s), e)

-- what is left of a list whose first n elements were taken, or all
pub drop-taken : (n : ℕ) (l : List ℕ) → drop (length (take n l)) l ≡ drop n l
drop-taken zero l = refl
drop-taken (suc n) [] = refl
drop-taken (suc n) (x ∷ l) = drop-taken n l

-- ---- start data that agree

module _ (s t : List ℕ) (same : take Layout.start_length s ≡ take Layout.start_length t) where
  bytes_same : (at k : ℕ) → at + k ≤ Layout.start_length → run at k s ≡ run at k t
  bytes_same at k h = (same_first Layout.start_length t s same).runs at k (omega arith)

  value_same : (k at : ℕ) → at + k ≤ Layout.start_length → number_at k s at ≡ number_at k t at
  value_same k at h = number_same (same_first Layout.start_length t s same) k at (omega arith)

  item-same : (i : ℕ) → i < Limits.most_items
      → number_at 1 t (Layout.item_offset i + Layout.item_data_length_offset) ≤ Limits.longest_item_data → item_at s i ≡ item_at t i
  unfolding item_at
  item-same i l h =
      let at = Layout.item_offset i in
      let size = number_at 1 t (at + Layout.item_data_length_offset) in
      rw (
        value_same 1 at (omega arith),
        bytes_same (at + 1) 32 (omega arith),
        value_same 1 (at + 33) (omega arith),
        value_same 1 (at + Layout.item_data_length_offset) (omega arith),
        bytes_same (at + Layout.item_data_offset) size (omega arith),
      )

  items-same : StartGood t → tabulated (item_at s) (Layout.item_count t) ≡ tabulated (item_at t) (Layout.item_count t)
  items-same g =
      listed_same (item_at s) (item_at t) (Layout.item_count t) (λ i l.
      item-same i (omega arith) (item-good t i (all-each _ _ g.items i l)).size)

  pub factory-same : StartGood t → factory_of s ≡ factory_of t
  unfolding factory_of
  factory-same g = rw (
    value_same 1 Layout.bsu_offset (omega arith),
    bytes_same Layout.identity_offset 11 (omega arith),
    value_same 4 (Layout.identity_offset + 11) (omega arith),
    bytes_same (Layout.identity_offset + 15) 11 (omega arith),
    bytes_same Layout.mac_offset 6 (omega arith),
    value_same 2 (Layout.mac_offset + 6) (omega arith),
    value_same 1 (Layout.mac_offset + 8) (omega arith),
    bytes_same Layout.hash_offset 32 (omega arith),
    value_same 1 Layout.image_id_length_offset (omega arith),
    bytes_same Layout.image_id_offset (Layout.image_id_length t) (omega arith),
    value_same 4 Layout.item_count_offset (omega arith),
    items-same g,
  )

-- ---- zeros

Zero : ℕ → Type 0
Zero n = n ≡ 0

each-zeros : (n : ℕ) → Each Zero (replicate n 0)
unfolding Zero
each-zeros zero = tt
each-zeros (suc n) = (refl, each-zeros n)

number-each : (xs : List ℕ) → Each Zero xs → number xs ≡ 0
unfolding Zero number
number-each [] h = refl
number-each (x ∷ xs) h = rw (h.0, number-each xs h.1)

-- every number between two offsets is 0
abbrev pub Clear : ℕ → ℕ → List ℕ → Type 0
Clear from to s = (k at : ℕ) → from ≤ at → at + k ≤ to → number_at k s at ≡ 0

-- m bytes and n zeros, put at the start of a list
module _ (m n : ℕ) (xs s : List ℕ) (e : length xs ≡ m) where
  size : length (xs ++ replicate n 0) ≡ m + n
  size = simp (length-append, length-replicate) (omega arith)

  pub length-clear : m + n ≤ length s → length (overlay 0 (xs ++ replicate n 0) s) ≡ length s
  length-clear h = length-overlay 0 (xs ++ replicate n 0) s (omega (arith, size))

  pub clear : Clear m (m + n) (overlay 0 (xs ++ replicate n 0) s)
  clear k at h l =
      let j : length xs + (at - m) ≡ at = omega arith in
      let part = overlay-part 0 at k (xs ++ replicate n 0) s (omega arith) (omega (arith, size)) in
      let behind = drop-append-add xs (replicate n 0) (at - m) in
      ap number (rw (zero-add, rw j at behind) at part) ∙ number-each _ (each_take Zero k _ (each-drop Zero (at - m) _ (each-zeros n)))

-- ---- bytes put at the start of a list, and others before and behind them

pub overlay-middle : (at k : ℕ) (xs ys zs s : List ℕ) → length xs ≡ at → length ys ≡ k → run at k (overlay 0 (xs ++ ys ++ zs) s) ≡ ys
unfolding overlay
overlay-middle at k xs ys zs s e f = simp append_assoc (rw (drop_at xs _ at e) (take_at ys _ k f))
