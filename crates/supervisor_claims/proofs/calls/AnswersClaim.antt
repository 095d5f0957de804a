-- The data of replies to requests that change nothing else, on valid parts that hold bytes.
-- They are those that document 01 has, and can be sent. Assumes nothing.
use mathlib.Core.Path.{◌≡◌, refl, sym, ◌∙◌}
use mathlib.Core.Bool.{Bool, true, false, cond, ◌&&◌, and-eq-true_iff}
use mathlib.Core.List.{List, [], ◌∷◌, ◌++◌, append_assoc}
use mathlib.Core.Option.{Option, none, some}
use Prim.Native.Nat.{ℕ, zero, suc, ◌+◌, ◌≤◌, ◌<◌}
use native.Mathlib.Numerals.{add-one}
use native.Mathlib.Omega.{arith}
use lib.Dec.{ltb, eqb}
use lib.ListN.{length, replicate}
use borrow.Author.Count.{below_none, below_more}
use borrow.Author.Tests.{ltb-true, ltb-false, eqb-true}
use Rattle.octets.specs.Bytes.{Byte, Each, bytes, run, number_at, equal}
use Rattle.octets.proofs.Conditions.{cond-by, cond_both}
use Rattle.octets.proofs.Each.{each_append, each-run}
use Rattle.octets.proofs.Numbers.{one_byte, bytes-each}
use Rattle.octets.proofs.Overlay.{number-run, run-add}
use Rattle.line.specs.Numbers.{second_version}
use Rattle.supervisor.specs.Limits
use Rattle.supervisor.specs.Layout
use Rattle.supervisor.specs.State.{Item, State}
use Rattle.supervisor.specs.Local
use Rattle.supervisor.specs.Valid.{valid_factory, valid_settings, valid_registers}
use Rattle.supervisor.specs.Calls
use Rattle.supervisor.proofs.ValidLaws.{factory-valid, registers-valid}
use Rattle.responder.specs.Requests
use Rattle.responder.specs.Receive.{carries_edition, value_head, item_data_length, item_bytes, block_bytes, value_bytes}
use Rattle.responder.proofs.ReceiveLaws.{ItemHeld, item-held}
use Rattle.responder.proofs.KeptLaws.{value-data-short, item-short}
use Rattle.supervisor_claims.specs.View.{tabulated, item_at, factory_of, view}
use Rattle.supervisor_claims.specs.Sound.{Valid}
use Rattle.supervisor_claims.proofs.laws.ViewLaws.{length-listed}
use Rattle.supervisor_claims.proofs.laws.PartLaws.{each_number}
use Rattle.supervisor_claims.proofs.calls.LookupClaim.{lookup-meant, edition_meant, lookup-edition}
use Rattle.supervisor_claims.proofs.calls.SendingClaim.{Sendable, run-sendable}

-- ---- a list of items by the index

first-items : (is js : List Item) (i : ℕ) → i < length is → Requests.item_of (is ++ js) i ≡ Requests.item_of is i
unfolding Requests.item_of
first-items [] js i h = absurd (omega arith)
first-items (x ∷ is) js zero h = refl
first-items (x ∷ is) js (suc i) h = first-items is js i (omega arith)

next-item : (is : List Item) (x : Item) → Requests.item_of (is ++ x ∷ []) (length is) ≡ some x
unfolding Requests.item_of
next-item [] x = refl
next-item (y ∷ is) x = next-item is x

no_item : (is : List Item) (i : ℕ) → length is ≤ i → Requests.item_of is i ≡ none
unfolding Requests.item_of
no_item [] i h = refl
no_item (x ∷ is) zero h = absurd (omega arith)
no_item (x ∷ is) (suc i) h = no_item is i (omega arith)

module _ (g : ℕ → Item) where
  pub listed-item : (n i : ℕ) → i < n → Requests.item_of (tabulated g n) i ≡ some (g i)
  unfolding tabulated
  listed-item zero = below_none (λ i. Requests.item_of [] i ≡ some (g i))
  listed-item (suc n) =
      let next = next-item (tabulated g n) (g n) in
      rw add-one at
      (below_more (λ i. Requests.item_of (tabulated g n ++ g n ∷ []) i ≡ some (g i)) n
      (λ i h. first-items (tabulated g n) (g n ∷ []) i (rw length-listed h) ∙ listed-item n i h)
      (rw length-listed at next))

  pub listed-none : (n i : ℕ) → n ≤ i → Requests.item_of (tabulated g n) i ≡ none
  listed-none n i h = no_item (tabulated g n) i (rw length-listed h)

-- ---- runs of a store

-- three runs, one behind the other
run-three : (at i j k : ℕ) (s : List ℕ) → run at (i + (j + k)) s ≡ run at i s ++ (run (at + i) j s ++ run (at + i + j) k s)
run-three at i j k s = run-add at i (j + k) s ∙ rw (run-add (at + i) j k s)

-- a run whose length is chosen
run-chosen : (at n : ℕ) (t : Bool) (s : List ℕ) → run at (cond t n 0) s ≡ cond t (run at n s) []
run-chosen at n true s = refl
run-chosen at n false s = refl

zeros-each : (n : ℕ) → Each Byte (replicate n 0)
zeros-each zero = tt
zeros-each (suc n) = (omega arith, zeros-each n)

-- ---- a block of the image

pub block-meant : (f image d : List ℕ) → block_bytes f image d ≡ Requests.block (factory_of f) image d
unfolding block_bytes Requests.block factory_of
block-meant f image d = refl

pub block-sendable : (f image d : List ℕ) → Each Byte image → Sendable (block_bytes f image d)
unfolding block_bytes
block-sendable f image d h =
    cond-by Sendable (equal (run 0 32 d) (run Layout.hash_offset 32 f)) _ []
    (λ e. run-sendable (number_at 8 d 32) Limits.longest_block image (omega arith) h) (λ e. (omega arith, tt))

-- ---- the factory store

module _ (f : List ℕ) (valid : valid_factory f ≡ true) (b : Each Byte f) where
  pub bsu-meant : run Layout.bsu_offset 1 f ≡ bytes 1 (factory_of f).bsu
  unfolding factory_of
  bsu-meant = let v = factory-valid f valid in sym (number-run 1 Layout.bsu_offset f (omega arith) b)

  pub identity-meant : run Layout.identity_offset 26 f ≡ (factory_of f).model ++ (bytes 4 (factory_of f).revision ++ (factory_of f).serial)
  unfolding factory_of
  identity-meant =
      let v = factory-valid f valid in
      rw (number-run 4 (Layout.identity_offset + 11) f (omega arith) b) (run-three Layout.identity_offset 11 4 11 f)

  pub mac-meant : run Layout.mac_offset 9 f ≡ (factory_of f).base ++ (bytes 2 (factory_of f).count ++ bytes 1 (factory_of f).stride)
  unfolding factory_of
  mac-meant =
      let v = factory-valid f valid in
      rw (number-run 2 (Layout.mac_offset + 6) f (omega arith) b, number-run 1 (Layout.mac_offset + 8) f (omega arith) b)
      (run-three Layout.mac_offset 6 2 1 f)

  -- an item that is there
  item-run : (index : ℕ) → ItemHeld f index → let at = Layout.item_offset index in
      run at Layout.item_data_length_offset f ≡ bytes 1 (number_at 1 f at) ++ (run (at + 1) 32 f ++ bytes 1 (number_at 1 f (at + 33)))
  item-run index held =
      let at = Layout.item_offset index in
      let e : at + 1 + 32 ≡ at + 33 = omega arith in
      rw (number-run 1 at f (omega arith) b, number-run 1 (at + 33) f (omega arith) b, ← e) (run-three at 1 32 1 f)

  pub item-meant : (index : ℕ) → item_bytes f index ≡ Requests.inventoried (Requests.item_of (factory_of f).items index)
  unfolding item_bytes item_data_length Requests.inventoried factory_of item_at
  item-meant index =
      let n = Layout.item_count f in
      let at = Layout.item_offset index in
      cond-by (λ bs. bs ≡ Requests.inventoried (Requests.item_of (tabulated (item_at f) n) index)) (ltb index n) _ _
      (λ e.
      let l = ltb-true index n e in
      rw (listed-item (item_at f) n index l, item-run index (item-held f index valid l), run-chosen (at + Layout.item_data_offset))
      (simp append_assoc))
      (λ e. rw (listed-none (item_at f) n index (ltb-false index n e)))

  pub item-sendable : (index : ℕ) → Sendable (item_bytes f index)
  unfolding item_bytes
  item-sendable index =
      let at = Layout.item_offset index in
      let n = Layout.item_data_length_offset in
      let bt = at + Layout.item_data_offset in
      let k = item_data_length f at in
      let short = item-short f index valid in (
        omega arith,
        cond-by (Each Byte) (ltb index (Layout.item_count f)) _ _
            (λ e. each_append Byte (run at n f) (run bt k f) (each-run at n f b) (each-run bt k f b)) (λ e. (omega arith, zeros-each 33)),
      )

-- ---- the registers

pub status-meant : (r : List ℕ) → valid_registers r ≡ true → Each Byte r
    → run Layout.status_offset 16 r ≡ bytes 8 (Layout.status_of r) ++ bytes 8 (Layout.options_of r)
status-meant r valid b =
    let v = registers-valid r valid in
    rw (number-run 8 Layout.status_offset r (omega arith) b, number-run 8 Layout.options_offset r (omega arith) b)
    (run-add Layout.status_offset 8 8 r)

-- ---- a key's value

fitted-small : (most edition : ℕ) (v : Option (List ℕ)) → (Local.fitted most edition v).result ≤ 3
unfolding Local.fitted
fitted-small most edition none = omega arith
fitted-small most edition (some v) =
    cond-by (λ (x : Local.Found). x.result ≤ 3) (ltb most (length v)) _ _ (λ e. omega arith) (λ e. omega arith)

found-small : (s : State) (key most : ℕ) → (Local.lookup s key most).result ≤ 4
unfolding Local.lookup
found-small s key most =
    let P : Local.Found → Type 0 = λ x. x.result ≤ 4 in
    cond-by P (ltb Limits.highest_key key) _ _ (λ e. omega arith) (λ e.
    cond-by P (eqb key Limits.passphrase_key) _ _ (λ e. omega arith) (λ e.
    let x = Local.entry_of s key in omega (arith, fitted-small most x.edition x.value)))

-- the bytes at a location q
abbrev BytesAt : {Q : Type 0} → (Q → List ℕ) → Q → Type 0
BytesAt value q = Each Byte (value q)

module _ (f s : List ℕ) (fb : Each Byte f) (sb : Each Byte s) (most : ℕ) where
  part-each : (at n : ℕ) (l : List ℕ) → Each Byte l → Each Byte (Calls.within most n (run at n l))
  part-each at n l h =
      cond-by (Each Byte) (ltb most n) [] (run at n l) (λ e. tt) (λ e. each-run at n l h)

  setting-each : (at : ℕ) → BytesAt (Calls.value_in f s most) (Calls.setting_at s at)
  unfolding Calls.setting_at Calls.value_in
  setting-each at =
      cond-by (BytesAt (Calls.value_in f s most)) (eqb (Layout.setting_held s at) 1) _ _
      (λ e. part-each (at + Layout.setting_value_offset) (Layout.setting_length s at) s sb) (λ e. tt)

  location-each : (key : ℕ) → BytesAt (Calls.value_in f s most) (Calls.location_of f s key)
  unfolding Calls.location_of Calls.value_in
  location-each key =
      let P = BytesAt (Calls.value_in f s most) in
      cond-by P (eqb key 0) _ _ (λ e. part-each Layout.pong_offset 4 f fb) (λ e.
      cond-by P (eqb key 1) _ _ (λ e. part-each Layout.image_id_offset (Layout.image_id_length f) f fb) (λ e.
      cond-by P (eqb key 2) _ _ (λ e. part-each Layout.item_count_offset 8 f fb) (λ e.
      cond-by P (eqb key Limits.passphrase_key) _ _ (λ e. tt) (λ e.
      setting-each (Layout.setting_offset key)))))

  value-each : (key : ℕ) → Each Byte (Calls.lookup_promise f s key most)
  unfolding Calls.lookup_promise
  value-each key =
      cond-by (Each Byte) (valid_factory f && valid_settings s) _ []
      (λ e. cond-by (Each Byte) (ltb Limits.highest_key key) [] _ (λ k. tt) (λ k. location-each key)) (λ e. tt)

-- ---- a lookup

module _ (p : Calls.Parts) (v : Valid p) (fb : Each Byte p.factory) (sb : Each Byte p.settings) where
  -- what stands ahead of the value
  head-meant : (version : ℕ) (f : Local.Found) (edition : ℕ) → f.result ≤ 4 → (f.result ≡ 0 → edition ≡ f.edition)
      → value_head version f.result edition ++ f.value ≡ f.result ∷ (Requests.edition_bytes version f ++ f.value)
  unfolding value_head
  head-meant version f edition small e =
      rw (one_byte f.result (omega arith))
      (cond_both (λ (xs ys : List ℕ). (f.result ∷ (xs ++ f.value)) ≡ (f.result ∷ (ys ++ f.value))) (carries_edition version f.result)
      (λ t. rw (e (eqb-true f.result 0 ((and-eq-true_iff (eqb version second_version) _).0 t).1))) (λ t. refl))

  pub value-meant : (version : ℕ) (d : List ℕ) → let found = Local.lookup (view p) (number_at 1 d 0) (number_at 2 d 1) in
      value_bytes version p.factory p.settings d ≡ found.result ∷ (Requests.edition_bytes version found ++ found.value)
  unfolding value_bytes
  value-meant version d =
      let key = number_at 1 d 0 in
      let most = number_at 2 d 1 in
      let looked = lookup-meant p v fb key most in
      rw (looked.0, looked.1, edition_meant p v key)
      (head-meant version (Local.lookup (view p) key most) _ (found-small (view p) key most) (lookup-edition (view p) key most))

  head-each : (version result edition : ℕ) → Each Byte (value_head version result edition)
  unfolding value_head
  head-each version result edition =
      each_number 1 result _ (cond-by (Each Byte) (carries_edition version result) _ [] (λ _. bytes-each 4 edition) (λ _. tt))

  pub value-sendable : (version : ℕ) (d : List ℕ) → Sendable (value_bytes version p.factory p.settings d)
  unfolding value_bytes
  value-sendable version d =
      let short = value-data-short version p.factory p.settings d v.factory v.settings in (
        omega arith,
        each_append Byte (value_head version _ _) _ (head-each version _ _)
            (value-each p.factory p.settings fb sb (number_at 2 d 1) (number_at 1 d 0)),
      )
