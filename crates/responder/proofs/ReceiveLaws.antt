-- Laws of what a valid request is answered: data that fit a reply, and the choices that the stores settle.
-- Assumes nothing.
use mathlib.Core.Path.{◌≡◌, refl, sym, ap, ◌∙◌}
use mathlib.Core.Bool.{Bool, true, false, cond}
use mathlib.Core.List.{List, [], ◌∷◌, ◌++◌}
use Prim.Native.Nat.{ℕ, ◌+◌, ◌-◌, ◌≤◌, ◌<◌}
use native.Mathlib.Nat.{add-sub_cancel_left}
use native.Mathlib.Omega.{arith}
use lib.Dec.{eqb}
use lib.ListN.{length, take, drop, replicate, length-take}
use borrow.Author.Tests.{leb-true, lt-ltb, le-ltb}
use Rattle.octets.specs.Bytes.{bytes, run, number_at, overlay, put, equal, same_run}
use Rattle.octets.proofs.Conditions.{cond-by, cond_both}
use Rattle.octets.proofs.Numbers.{one_byte}
use Rattle.octets.proofs.Equal.{equal-true, equal-refl, same_run-true, same_run-equal}
use Rattle.octets.proofs.Overlay.{length_run}
use Rattle.supervisor.specs.Limits
use Rattle.supervisor.specs.Layout
use Rattle.supervisor.specs.Valid.{good_item, valid_factory}
use Rattle.responder.specs.Commands.{Command, length_right}
use Rattle.responder.specs.Receive.{carries_edition, value_head, item_data_length, item_bytes, block_bytes}
use Rattle.supervisor.proofs.ValidLaws.{alike, all-each, item-good, factory-valid}

-- ---- the data of a valid request are long enough for its command

pub boot-failure-long : (n : ℕ) → length_right Command.boot-failure n ≡ true → 1 ≤ n
unfolding length_right
boot-failure-long n h = leb-true 1 n h

pub panic-long : (n : ℕ) → length_right Command.panic n ≡ true → 2 ≤ n
unfolding length_right
panic-long n h = leb-true 2 n h

pub key-set-long : (n : ℕ) → length_right Command.key_set n ≡ true → 1 ≤ n
unfolding length_right
key-set-long n h = leb-true 1 n h

-- ---- a lookup

edition-put : (result edition : ℕ) → put 1 (bytes 4 edition) (result ∷ 0 ∷ 0 ∷ 0 ∷ 0 ∷ []) ≡ result ∷ bytes 4 edition
unfolding put overlay bytes
edition-put result edition = refl

edition-all : {result : ℕ} (edition : ℕ) → take 5 (result ∷ bytes 4 edition) ≡ result ∷ bytes 4 edition
unfolding bytes
edition-all edition = refl

-- what stands ahead of the value
pub value-head : (version result edition : ℕ) {n : ℕ} {h : List ℕ} → result < 256 → n ≡ cond (carries_edition version result) 5 1
    → h ≡ put 1 (bytes 4 edition) (result ∷ 0 ∷ 0 ∷ 0 ∷ 0 ∷ []) → take n h ≡ value_head version result edition
unfolding value_head
value-head version result edition small e f =
    rw (f, e, one_byte result small, edition-put result edition)
    (cond_both (λ n bs. take n (result ∷ bytes 4 edition) ≡ result ∷ bs) (carries_edition version result) (λ _. edition-all edition)
    (λ _. refl))

-- ---- an item

-- an item that is there lies within the store
pub record ItemHeld (f : List ℕ) (index : ℕ) : Type 0 where
  pub low : index < Limits.most_items
  pub long : Layout.factory-length ≤ length f
  pub size : item_data_length f (Layout.item_offset index) ≤ Limits.longest_item_data

pub item-held : (f : List ℕ) (index : ℕ) → valid_factory f ≡ true → index < Layout.item_count f → ItemHeld f index
unfolding item_data_length
item-held f index e h =
    let v = factory-valid f e in
    let g = item-good f index (all-each (good_item f) _ v.start.items index h) in
    record {
      low = omega arith;
      long = v.long;
      size =
          cond-by (λ n. n ≤ Limits.longest_item_data) (eqb (number_at 1 f (Layout.item_offset index)) 0) _ 0 (λ _. g.size)
          (λ _. omega arith);
    }

-- by the count that was read
pub item_held-by : (f : List ℕ) (index : ℕ) {count : ℕ} → valid_factory f ≡ true → count ≡ Layout.item_count f → index < count
    → ItemHeld f index
item_held-by f index e n h = item-held f index e (rw n at h)

pub item-there : (f : List ℕ) (index n : ℕ) → index < Layout.item_count f → n ≡ item_data_length f (Layout.item_offset index)
    → let at = Layout.item_offset index in
    let from = at + Layout.item_data_offset in
    take (at + Layout.item_data_length_offset - at) (drop at f) ++ take (from + n - from) (drop from f) ≡ item_bytes f index
unfolding item_bytes
item-there f index n h e = rw (lt-ltb index (Layout.item_count f) h, e) (simp add-sub_cancel_left)

pub item-none : (f : List ℕ) (index : ℕ) → Layout.item_count f ≤ index → 1 ∷ replicate 33 0 ≡ item_bytes f index
unfolding item_bytes
item-none f index h = rw (le-ltb index (Layout.item_count f) h)

-- ---- a block of the image

same-hash : (f d : List ℕ) → Layout.hash_offset + 32 ≤ length f
    → same_run d 0 f Layout.hash_offset 32 ≡ equal (run 0 32 d) (run Layout.hash_offset 32 f)
same-hash f d h =
    alike _ _
    (λ e. rw (same_run-true d 0 f Layout.hash_offset 32 e).2 (equal-refl (run Layout.hash_offset 32 f)))
    (λ e.
    let q = equal-true _ _ e in
    let l = length-take 32 d in
    let m = ap length q ∙ length_run Layout.hash_offset 32 f h in
    same_run-equal d 0 f Layout.hash_offset 32 (omega arith) h q)

-- by what the code's test of the hash answered
module _ (f image d : List ℕ) (v : valid_factory f ≡ true) (r : Bool) (e : r ≡ same_run d 0 f Layout.hash_offset 32) where
  hash-compared : equal (run 0 32 d) (run Layout.hash_offset 32 f) ≡ r
  hash-compared = let l = (factory-valid f v).long in sym (e ∙ same-hash f d (omega arith))

  pub block_same : r ≡ true → run (number_at 8 d 32) Limits.longest_block image ≡ block_bytes f image d
  unfolding block_bytes
  block_same h = rw (hash-compared ∙ h)

  pub block-other : r ≡ false → [] ≡ block_bytes f image d
  unfolding block_bytes
  block-other h = rw (hash-compared ∙ h)
