-- The reply to a lookup is accused of nothing, and what it tells fits.
-- Assumes nothing.
use mathlib.Core.Path.{◌≡◌, refl, ◌∙◌}
use mathlib.Core.Bool.{Bool, true, false}
use mathlib.Core.List.{List, [], ◌++◌}
use mathlib.Core.Option.{some}
use Prim.Native.Nat.{ℕ, ◌^◌, ◌≤◌, ◌<◌}
use native.Mathlib.Omega.{arith}
use lib.Dec.{ltb, eqb}
use lib.ListN.{length, length-append}
use borrow.Author.Tests.{ltb-true, ltb-false, le-leb, eqb-true, eqb-false, eq-eqb}
use Rattle.octets.specs.Bytes.{bytes}
use Rattle.octets.proofs.Conditions.{cond-by}
use Rattle.octets.proofs.Equal.{equal-refl}
use Rattle.octets.proofs.Numbers.{length-bytes}
use Rattle.line.specs.Message.{Message}
use Rattle.supervisor.specs.Limits.{SettingsKey, highest_key, first_setting, passphrase_key}
use Rattle.supervisor.specs.State.{Setting, setting, State}
use Rattle.supervisor.specs.Local.{Found, pong, factory_value, entry_of, without, fitted, lookup}
use Rattle.supervisor.proofs.OffsetLaws.{settings-key}
use Rattle.responder.specs.Commands.{Command, command_of_number}
use Rattle.supervisor_claims.proofs.claims.LastSetLaws.{entry-held}
use Rattle.tap.specs.Known.{Known, key_known, key_slot, slot_of}
use Rattle.tap.specs.Accused.{accused_if, key_asked, most_asked, factory_length, factory_accused, pong_accused, setting_accused}
use Rattle.tap.specs.Accused.{result_told, value_told, key_accused, lookup_accused, Accusation}
use Rattle.tap.specs.Tap.{told_by}
use Rattle.tap_claims.proofs.Fits.{FitsState}
use Rattle.tap_claims.proofs.KeyLaws.{find-right}
use Rattle.tap_claims.proofs.KnownLaws.{SlotTold, first-right}
use Rattle.tap_claims.proofs.HeldRanges.{Sized}
use Rattle.tap_claims.proofs.LookupForms

module _ (s : State) (key most : ℕ) where
  abbrev f : Found
  f = lookup s key most

  -- the passphrase and a key too high have no value
  bad-key : ltb highest_key key ≡ true → f ≡ without 1
  unfolding lookup
  bad-key a = rw a

  untold : ltb highest_key key ≡ false → eqb key passphrase_key ≡ true → f ≡ without 4
  unfolding lookup
  untold a b = rw (a, b)

  -- a key of the factory store, and one of the settings store
  factory-key : (n : ℕ) (v : List ℕ) → ltb highest_key n ≡ false → eqb n passphrase_key ≡ false → entry_of s n ≡ factory_value v → key ≡ n
      → f ≡ fitted most 0 (some v)
  unfolding lookup
  factory-key n v a b e i = rw (i, a, b, e)

  set_key : ltb highest_key key ≡ false → eqb key passphrase_key ≡ false → SettingsKey key → let z = setting s.settings key in
      f ≡ fitted most z.edition z.value
  unfolding lookup
  set_key a b h = rw (a, b, entry-held s h)

  entry-low : Sized s → key ≤ highest_key → (entry_of s key).edition < 256 ^ 4
  unfolding entry_of
  entry-low sized h =
      cond-by Low (eqb key 0) _ _ (λ _. omega arith) (λ a.
      cond-by Low (eqb key 1) _ _ (λ _. omega arith) (λ b.
      cond-by Low (eqb key 2) _ _ (λ _. omega arith) (λ c.
      sized.settings.edition key (settings-key key a b c h))))
    where
      Low : Setting → Type 0
      Low x = x.edition < 256 ^ 4

  pub lookup-sized : Sized s → LookupForms.FoundSized most f
  unfolding lookup
  lookup-sized sized =
      cond-by (LookupForms.FoundSized most) (ltb highest_key key) _ _ (λ _. LookupForms.without-sized most 1 refl) (λ a.
      cond-by (LookupForms.FoundSized most) (eqb key passphrase_key) _ _ (λ _. LookupForms.without-sized most 4 refl) (λ _.
      LookupForms.fitted-sized most _ _ (entry-low sized (ltb-false highest_key key a))))

-- ---- its reply

module _ {k : Known} (s : State) (fits : FitsState k s) (sized : Sized s) (m : Message) (version sequence command : ℕ) where
  abbrev key : ℕ
  key = key_asked m

  abbrev most : ℕ
  most = most_asked m

  abbrev found : Found
  found = lookup s key most

  abbrev reply : Message
  reply = LookupForms.lookup_reply version sequence command found

  found-sized : LookupForms.FoundSized most found
  found-sized = lookup-sized s key most sized

  result-told : result_told reply ≡ found.result
  result-told = LookupForms.result-told version sequence command most found found-sized

  value-told : value_told reply ≡ found.value
  value-told = LookupForms.value-told version sequence command most found found-sized

  abbrev None : List Accusation → Type 0
  None xs = xs ≡ []

  pong-right : key ≡ 0 → pong_accused m reply ≡ []
  unfolding accused_if entry_of
  pong-right i =
      let e = factory-key s key most 0 pong refl refl refl i in
      let found_as : LookupForms.FittedAs 0 pong found = rw e (LookupForms.fitted-as most 0 pong) in
      rw (
        LookupForms.edition-at-right version sequence command most found found-sized (some 0) (λ n g h. (found_as.told h).1 ∙ cc),
        value-told,
        result-told,
        e,
        eq-eqb (fitted most 0 (some pong)).result _ refl,
        equal-refl (fitted most 0 (some pong)).value,
      )

  -- a factory key, its value v, and the slot that it has
  record FactoryHas (v : List ℕ) : Type 0 where
    is : found ≡ fitted most 0 (some v)
    long : factory_length key (length v) ≡ true
    slot : SlotTold s.factory (key_slot key) v

  image-has : eqb key 1 ≡ true → FactoryHas s.factory.image_id
  unfolding entry_of
  image-has t = record {
    is = factory-key s key most 1 s.factory.image_id refl refl refl (eqb-true key 1 t);
    long = rw t (le-leb _ _ sized.factory.image_id);
    slot = rw t (omega arith, refl);
  }

  items-has : eqb key 1 ≡ false → eqb key 2 ≡ true → FactoryHas (bytes 4 (length s.factory.items) ++ bytes 4 0)
  unfolding entry_of
  items-has t u = record {
    is = factory-key s key most 2 _ refl refl refl (eqb-true key 2 u);
    long = rw t (eq-eqb (length (bytes 4 (length s.factory.items) ++ bytes 4 0)) 8 (simp (length-append, length-bytes)));
    slot = rw (t, u) (omega arith, refl);
  }

  value-is : {v : List ℕ} → FactoryHas v → LookupForms.FittedAs 0 v found
  value-is {v} h = rw h.is (LookupForms.fitted-as most 0 v)

  slot-told : found.result ≡ 0 → SlotTold s.factory (key_slot key) found.value
  slot-told e = by (eqb key 1) (eqb key 2) refl refl
    where
      by : (t u : Bool) → eqb key 1 ≡ t → eqb key 2 ≡ u → SlotTold s.factory (key_slot key) found.value
      by true u i j = let h = image-has i in rw ((value-is h).told e).0 h.slot
      by false true i j = let h = items-has i j in rw ((value-is h).told e).0 h.slot
      by false false i j = rw (i, j) tt

  -- a settings key
  edition-told : ltb highest_key key ≡ false → eqb key passphrase_key ≡ false → SettingsKey key → found.result ≡ 0
      → found.edition ≡ (setting s.settings key).edition
  edition-told a b h i =
      let z = setting s.settings key in
      let e = set_key s key most a b h in
      rw e (LookupForms.fitted-edition most z.edition z.value (rw e at i))

  setting-right : ltb highest_key key ≡ false → eqb key passphrase_key ≡ false → SettingsKey key
      → setting_accused (key_known k key) m reply ≡ []
  unfolding setting_accused accused_if
  setting-right a b h =
      let z = setting s.settings key in
      let x = key_known k key in
      let e = set_key s key most a b h in
      rw (
        LookupForms.edition-at-right version sequence command most found found-sized x.edition (λ n g i.
            edition-told a b h i ∙ (rw g at (fits.keys key h)).0),
        value-told,
        result-told,
        e,
        find-right key most x z b (fits.keys key h),
      )

  module _ (asked : command_of_number m.command ≡ some Command.key_lookup) where
    slot_is : slot_of m ≡ key_slot key
    unfolding slot_of
    slot_is = rw asked

    factory-right : {v : List ℕ} → FactoryHas v → factory_accused k m reply ≡ []
    unfolding factory_accused accused_if
    factory-right {v} h =
        let found_as = value-is h in
        rw (value-told, result-told)
        (cond-by None (eqb found.result 0) _ _
        (λ t.
        let a = found_as.told (eqb-true _ _ t) in
        rw (
          LookupForms.edition_right version sequence command most found found-sized 0 t a.1,
          a.0,
          h.long,
          (first-right fits m v (rw slot_is h.slot)).0,
        ))
        (λ t. rw (found_as.else_3 t)))

    factory-keys-right : eqb key 0 ≡ false → ltb key first_setting ≡ true → factory_accused k m reply ≡ []
    factory-keys-right d e = by (eqb key 1) refl
      where
        by : (t : Bool) → eqb key 1 ≡ t → factory_accused k m reply ≡ []
        by true i = factory-right (image-has i)
        by false i =
            factory-right
            (items-has i (eq-eqb key 2 (omega (arith, eqb-false key 0 d, eqb-false key 1 i, ltb-true key first_setting e))))

    key_right : key_accused k m reply ≡ []
    unfolding key_accused accused_if
    key_right =
        cond-by None (ltb highest_key key) _ _ (λ a. rw (result-told, bad-key s key most a)) (λ a.
        cond-by None (eqb key passphrase_key) _ _ (λ b. rw (result-told, untold s key most a b)) (λ b.
        cond-by None (eqb key 0) _ _ (λ d. pong-right (eqb-true key 0 d)) (λ d.
        cond-by None (ltb key first_setting) _ _ (λ e. factory-keys-right d e) (λ e.
        setting-right a b (record { lower = ltb-false key first_setting e; upper = ltb-false highest_key key a })))))

    pub lookup-right : lookup_accused k m reply ≡ []
    unfolding lookup_accused accused_if
    lookup-right = rw (LookupForms.not-too-long version sequence command most found found-sized, key_right)

    pub lookup-told : FitsState (told_by (some Command.key_lookup) m reply k) s
    unfolding told_by
    lookup-told =
        rw (value-told, result-told)
        (cond-by (λ j. FitsState j s) (eqb found.result 0) _ _
        (λ t. (first-right fits m found.value (rw slot_is (slot-told (eqb-true _ _ t)))).1) (λ _. fits))
