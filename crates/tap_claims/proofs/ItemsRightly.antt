-- The reply to an inventory request: its length is one that the request earns, and it is the slot's of the factory data.
-- Assumes nothing.
use mathlib.Core.Path.{◌≡◌, refl}
use mathlib.Core.Bool.{true, false, ◌&&◌}
use mathlib.Core.List.{List, [], ◌++◌}
use mathlib.Core.Option.{Option, none, some}
use Prim.Native.Nat.{ℕ, suc, ◌+◌, ◌-◌, ◌≤◌, ◌<◌}
use native.Mathlib.Omega.{arith}
use lib.Dec.{leb, ltb, eqb}
use lib.ListN.{length, length-append}
use borrow.Author.Tests.{ltb-true, ltb-false, le-leb, ne_eqb}
use Rattle.octets.specs.Bytes.{number, bytes}
use Rattle.octets.proofs.Conditions.{cond-by, cond_both}
use Rattle.octets.proofs.Equal.{equal-refl}
use Rattle.octets.proofs.Numbers.{length-bytes, one_byte}
use Rattle.line.specs.Message.{Message}
use Rattle.supervisor.specs.Limits.{most_items, longest_item_data}
use Rattle.supervisor.specs.State.{Item, Factory, Settings, Retained}
use Rattle.responder.specs.Commands.{Command, command_of_number}
use Rattle.responder.specs.Requests.{item_of, inventoried}
use Rattle.tap.specs.Known.{Known, slot_of}
use Rattle.tap.specs.Accused.{accused_if, index_asked, item_head, is_item_form, item_accused, first_held, Accusation}
use Rattle.tap.specs.Tap.{first_told}
use Rattle.tap_claims.proofs.Fits.{factory_told, Fits}
use Rattle.tap_claims.proofs.KnownLaws.{SlotTold, first-right}
use Rattle.tap_claims.proofs.HeldRanges.{ItemSized, FactorySized}
use Rattle.tap_claims.proofs.LookupForms.{first_byte}

-- ---- its length

item-long : (name bs : List ℕ) (type n : ℕ) → length name ≡ 32 → length bs ≤ n
    → let l = suc (length (name ++ (bytes 1 type ++ bs))) in (leb item_head l && leb l (item_head + n)) ≡ true
item-long name bs type n e h =
    let l : suc (length (name ++ (bytes 1 type ++ bs))) ≡ item_head + length bs = simp (length-append, length-bytes) (omega arith) in
    rw (l, le-leb item_head (item_head + length bs) (omega arith), le-leb (item_head + length bs) (item_head + n) (omega arith))

pub item-form : (version sequence command : ℕ) (o : Option Item) → ItemSized o → is_item_form (record {
  version = version;
  sequence = sequence;
  command = command;
  payload = inventoried o;
}) ≡ true
unfolding inventoried number
item-form version sequence command none h = refl
item-form version sequence command (some i) h =
    rw (one_byte i.result h.0, first_byte i.result _)
    (cond_both
    (λ (bs : List ℕ) (n : ℕ). let l = suc (length (i.name ++ (bytes 1 i.type ++ bs))) in (leb item_head l && leb l n) ≡ true)
    (eqb i.result 0) (λ _. item-long i.name i.payload i.type longest_item_data h.1 h.2)
    (λ _. item-long i.name [] i.type 0 h.1 (omega arith)))

-- ---- its slot

item-slot : (f : Factory) (i : ℕ) → inventoried (item_of f.items i) ≡ factory_told f (5 + i)
item-slot f i =
    let other : (n : ℕ) → n < 5 → eqb (5 + i) n ≡ false = λ n l. ne_eqb (5 + i) n (λ e. omega (arith, e, l)) in
    let place : 5 + i - 5 ≡ i = omega arith in
    rw (other 0 (omega arith), other 1 (omega arith), other 2 (omega arith), other 3 (omega arith), other 4 (omega arith), place)

module _ {k : Known} {f : Factory} {z : Settings} {r : Option Retained} (fits : Fits k f z r) (sized : FactorySized f) (m : Message)
    (asked : command_of_number m.command ≡ some Command.inventory) where
  abbrev told : List ℕ
  told = inventoried (item_of f.items (index_asked m))

  slot-told : SlotTold f (slot_of m) told
  unfolding slot_of
  slot-told =
      rw asked
      (cond-by (λ o. SlotTold f o told) (ltb (index_asked m) most_items) _ _
      (λ t. (omega (arith, ltb-true (index_asked m) most_items t), item-slot f (index_asked m))) (λ _. tt))

  pub item-right : (version sequence command : ℕ)
      → item_accused k m (record { version = version; sequence = sequence; command = command; payload = told }) ≡ []
  unfolding item_accused accused_if
  item-right version sequence command =
      cond-by (λ (xs : List Accusation). xs ≡ []) (ltb (index_asked m) most_items) _ _ (λ _. (first-right fits m told slot-told).0)
      (λ t. rw (sized.no_item (index_asked m) (ltb-false (index_asked m) most_items t), equal-refl (inventoried none)))

  pub item-told : Fits (first_told (first_held k (slot_of m)) (slot_of m) told k) f z r
  item-told = (first-right fits m told slot-told).1
