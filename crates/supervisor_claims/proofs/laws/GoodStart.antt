-- The test on start data by their numbers is the paper's test on what they hold.
-- Assumes nothing.
use mathlib.Core.Path.{◌≡◌, refl}
use mathlib.Core.Bool.{Bool, true, false, not, ◌&&◌, ◌||◌, and-false, or-false, or_assoc}
use mathlib.Core.List.{List, [], ◌∷◌, ◌++◌}
use Prim.Native.Nat.{ℕ, zero, suc, ◌+◌, ◌-◌, ◌≤◌, ◌<◌, min}
use native.Mathlib.Omega.{arith}
use lib.Dec.{leb, ltb}
use lib.ListN.{length, length-take, length-drop}
use borrow.Author.Tests.{ltb-false, le-ltb, not-true}
use Rattle.octets.specs.Bytes.{run, number_at}
use Rattle.supervisor.specs.Limits
use Rattle.supervisor.specs.Layout
use Rattle.supervisor.specs.State.{Item}
use Rattle.supervisor.specs.Local
use Rattle.supervisor.specs.Valid
use Rattle.supervisor.proofs.ValidLaws.{le-alike}
use Rattle.supervisor_claims.specs.View.{tabulated, item_at, factory_of}
use Rattle.supervisor_claims.proofs.laws.ViewLaws.{length-listed}

-- ---- tests and their negations

not_more : (n m : ℕ) → leb n m ≡ not (ltb m n)
not_more n m = le-alike n m (not (ltb m n)) (λ h. rw (le-ltb m n h)) (λ e. ltb-false m n (not-true _ e))

not-or : (a b : Bool) → (not a && not b) ≡ not (a || b)
not-or true b = refl
not-or false b = refl

-- a run that ends with its list has more than m bytes where it should
not-more-run : (m at n : ℕ) (s : List ℕ) → at + m < length s → leb n m ≡ not (ltb m (length (run at n s)))
not-more-run m at n s h =
    let k = length (run at n s) in
    let l : k ≡ min n (length s - at) = simp (length-take, length-drop) in
    le-alike n m (not (ltb m k)) (λ e. rw (le-ltb m k (omega arith))) (λ e. omega (arith, ltb-false m k (not-true _ e)))

-- ---- an item

item-test : (x s : Bool) → (s && not x) ≡ not (x || not s)
item-test true s = and-false s
item-test false true = refl
item-test false false = refl

any-more : (is : List Item) (i : Item) → Local.any_bad (is ++ i ∷ []) ≡ (Local.any_bad is || Local.bad_item i)
unfolding Local.any_bad
any-more [] i = or-false (Local.bad_item i)
any-more (j ∷ is) i = rw (any-more is i, or_assoc)

-- ---- start data

-- the items matter only where there are not too many
start_test : (x a z s g : Bool) → (x ≡ false → g ≡ not a) → (s && (not z && (not x && g))) ≡ not (x || a || z || not s)
start_test true a z s g f = simp and-false
start_test false true z s g f = simp (f refl, and-false)
start_test false false true s g f = and-false s
start_test false false false true g f = f refl
start_test false false false false g f = refl

module _ (d : List ℕ) (long : Layout.start_length ≤ length d) where
  item-bad : (i : ℕ) → i < Limits.most_items → Valid.good_item d i ≡ not (Local.bad_item (item_at d i))
  unfolding Valid.good_item Local.bad_item item_at
  item-bad i h =
      let at = Layout.item_offset i in
      let size = number_at 1 d (at + Layout.item_data_length_offset) in
      rw (not-more-run Limits.longest_item_data (at + Layout.item_data_offset) size d (omega arith))
      (item-test (ltb Limits.longest_item_data (length (run (at + Layout.item_data_offset) size d)))
      (Local.result_allowed (number_at 1 d at)))

  items-bad : (n : ℕ) → n ≤ Limits.most_items → Valid.good_items d n ≡ not (Local.any_bad (tabulated (item_at d) n))
  unfolding Valid.all Local.any_bad tabulated
  items-bad zero h = refl
  items-bad (suc n) h =
      rw (any-more, items-bad n (omega arith), item-bad n h)
      (not-or (Local.any_bad (tabulated (item_at d) n)) (Local.bad_item (item_at d n)))

  pub good-bad : Valid.good_start d ≡ not (Local.bad_start (factory_of d))
  unfolding Valid.good_start Local.bad_start factory_of
  good-bad =
      let n = Layout.item_count d in
      rw (
        not-more-run Limits.longest_image_id Layout.image_id_offset (Layout.image_id_length d) d (omega arith),
        length-listed (item_at d) n,
        not_more n Limits.most_items,
      )
      (start_test (ltb Limits.most_items n) (Local.any_bad (tabulated (item_at d) n)) _
      (Local.bsu_allowed (number_at 1 d Layout.bsu_offset))
      (Valid.good_items d n)
      (λ e. items-bad n (ltb-false Limits.most_items n e)))
