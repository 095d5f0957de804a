-- A lookup on valid parts: the result, how many bytes, and the bytes.
-- Assumes nothing.
use mathlib.Core.Path.{◌≡◌, refl, sym, ap, ◌∙◌}
use mathlib.Core.Bool.{Bool, true, false, cond}
use mathlib.Core.List.{List, [], ◌++◌}
use mathlib.Core.Option.{Option, none, some}
use Prim.Native.Nat.{ℕ, ◌+◌, ◌≤◌}
use native.Mathlib.Omega.{arith}
use lib.Dec.{ltb, eqb}
use lib.ListN.{length}
use borrow.Author.Tests.{ltb-false, eqb-true}
use Rattle.octets.specs.Bytes.{Byte, Each, bytes, run}
use Rattle.octets.specs.TableTests.{first_failing}
use Rattle.octets.proofs.Conditions.{cond-by, cond_both}
use Rattle.octets.proofs.Overlay.{length_run, number-run, run-add}
use Rattle.supervisor.specs.Limits
use Rattle.supervisor.specs.Layout
use Rattle.supervisor.specs.State.{Setting, State}
use Rattle.supervisor.specs.Local
use Rattle.supervisor.specs.Calls
use Rattle.supervisor.proofs.OffsetLaws.{offset-within, settings-key}
use Rattle.supervisor.proofs.ValidLaws.{FactoryValid, factory-valid, settings-valid}
use Rattle.supervisor.specs.Valid.{valid_factory, valid_settings, SettingValid}
use Rattle.supervisor_claims.specs.View.{item_at, tabulated, setting_of, factory_of, view}
use Rattle.supervisor_claims.specs.Sound.{Valid}
use Rattle.supervisor_claims.specs.LocalCalls
use Rattle.supervisor_claims.specs.Histories
use Rattle.supervisor_claims.specs.Histories.{did_by, did, meant}
use Rattle.supervisor_claims.specs.Demand1.{parts_fit_call}
use Rattle.supervisor_claims.specs.Item5.{EditionMeant}
use Rattle.supervisor_claims.proofs.laws.ViewLaws.{length-listed}
use Rattle.supervisor_claims.proofs.laws.SettingLaws.{setting-is}
use Rattle.supervisor_claims.proofs.laws.AlikeLaws.{lookup-same, edition-same}
use Rattle.supervisor_claims.proofs.calls.RowLaws.{WhereRefused, RowLaws, Tested, unrefused, same_meets, both-test}

-- ---- bytes of a store, and the value that they hold

-- what is said and handed out is what was found
abbrev Answers : Calls.LookupReport → List ℕ → Local.Found → Type 0
Answers report bs x = (report ≡ Calls.LookupReport.result x.result (length x.value)) × (bs ≡ x.value)

part-answers : (most edition n : ℕ) (bs v : List ℕ) → bs ≡ v → length bs ≡ n
    → Answers (Calls.sized most n) (Calls.within most n bs) (Local.fitted most edition (some v))
unfolding Local.fitted
part-answers most edition n bs v e l = rw (e, ← (sym (ap length e) ∙ l)) (go (ltb most (length v)))
  where
    go : (t : Bool)
        → Answers (cond t (Calls.LookupReport.result 3 0) (Calls.LookupReport.result 0 (length v))) (cond t [] v)
        (cond t (Local.without 3) (record { result = 0; edition = edition; value = v }))
    go true = (refl, refl)
    go false = (refl, refl)

-- an invalid key
choose : (t : Bool) {report : Calls.LookupReport} {bs : List ℕ} (x : Local.Found) → (t ≡ false → Answers report bs x)
    → Answers (cond t (Calls.LookupReport.result 1 0) report) (cond t [] bs) (cond t (Local.without 1) x)
choose true x a = (refl, refl)
choose false x a = a refl

-- ---- key 2: the count of the items, then the version 0

inventory-run : (f : List ℕ) → FactoryValid f → Each Byte f
    → run Layout.item_count_offset 8 f ≡ bytes 4 (length (tabulated (item_at f) (Layout.item_count f))) ++ bytes 4 0
inventory-run f v b =
    let version = rw v.version at (number-run 4 Layout.inventory_version_offset f (omega arith) b) in
    rw (length-listed, number-run 4 Layout.item_count_offset f (omega arith) b, version) (run-add Layout.item_count_offset 4 4 f)

-- ---- the value at a key's location

-- of a location q and of what it holds
abbrev Looked : {Q : Type 0} → (Q → Calls.LookupReport) → (Q → List ℕ) → ℕ → Q → Setting → Type 0
Looked report bs most q x = Answers (report q) (bs q) (Local.fitted most x.edition x.value)

module _ (p : Calls.Parts) (v : Valid p) where
  setting-answers : (most at longest : ℕ) {shortest : ℕ} → at + Layout.setting_value_offset + longest ≤ Layout.settings_length
      → SettingValid p.settings at shortest longest
      → Looked (Calls.result_at most) (Calls.value_in p.factory p.settings most) most (Calls.setting_at p.settings at)
      (setting_of p.settings at)
  unfolding Calls.result_at Calls.value_in Calls.setting_at setting_of Local.fitted
  setting-answers most at longest h k =
      let s = p.settings in
      let w = settings-valid s v.settings in
      let n = Layout.setting_length s at in
      let size = length_run (at + Layout.setting_value_offset) n s (omega arith) in
      let edition = Layout.setting_edition s at in
      cond_both (λ q o. Looked (Calls.result_at most) (Calls.value_in p.factory s most) most q (record { edition = edition; value = o }))
      (eqb (Layout.setting_held s at) 1)
      (λ e. part-answers most edition n (run (at + Layout.setting_value_offset) n s) _ refl size) (λ e. (refl, refl))

  -- of a key from 0 to 5
  key-answers : Each Byte p.factory → (key most : ℕ) → key ≤ Limits.highest_key → eqb key Limits.passphrase_key ≡ false
      → let q = Calls.location_of p.factory p.settings key in
      Looked (Calls.result_at most) (Calls.value_in p.factory p.settings most) most q (Local.entry_of (view p) key)
  unfolding Calls.location_of Calls.result_at Calls.value_in Local.entry_of view factory_of
  key-answers b key most h o =
      let f = p.factory in
      let u = factory-valid f v.factory in
      let w = settings-valid p.settings v.settings in
      let P = Looked (Calls.result_at most) (Calls.value_in f p.settings most) most in
      let image = length_run Layout.image_id_offset (Layout.image_id_length f) f (omega arith) in
      cond_both P (eqb key 0) (λ e. part-answers most 0 4 _ _ u.text (length_run Layout.pong_offset 4 f (omega arith))) (λ i.
      cond_both P (eqb key 1) (λ e. part-answers most 0 _ (run Layout.image_id_offset (Layout.image_id_length f) f) _ refl image) (λ j.
      cond_both P (eqb key 2) (λ e. part-answers most 0 8 _ _ (inventory-run f u b) (length_run Layout.item_count_offset 8 f (omega arith)))
      (λ k.
      let s = settings-key key i j k h in
      rw (o, setting-is p.settings key s)
      (setting-answers most (Layout.setting_offset key) (Limits.longest_setting key) (omega (arith, offset-within key s))
      (w.each key s)))))

  -- the passphrase is not handed out
  location-answers : Each Byte p.factory → (key most : ℕ) → key ≤ Limits.highest_key
      → let q = Calls.location_of p.factory p.settings key in
      let x = Local.entry_of (view p) key in
      Answers (Calls.result_at most q) (Calls.value_in p.factory p.settings most q)
      (cond (eqb key Limits.passphrase_key) (Local.without 4) (Local.fitted most x.edition x.value))
  unfolding Calls.location_of Calls.result_at Calls.value_in
  location-answers b key most h =
      cond-by (Answers _ _) (eqb key Limits.passphrase_key) _ _ (λ e. rw (eqb-true key Limits.passphrase_key e) (refl, refl))
      (λ e. key-answers b key most h e)

  -- the factory store holds bytes
  pub lookup-meant : Each Byte p.factory → (key most : ℕ) → let f = Local.lookup (view p) key most in
      (Calls.lookup_result_promise p.factory p.settings key most ≡ Calls.LookupReport.result f.result (length f.value))
      × (Calls.lookup_promise p.factory p.settings key most ≡ f.value)
  unfolding Calls.lookup_result_promise Calls.lookup_promise Local.lookup
  lookup-meant b key most =
      rw (v.factory, v.settings)
      (choose (ltb Limits.highest_key key) _ (λ e. location-answers b key most (ltb-false Limits.highest_key key e)))

  -- ---- the edition of a key

  abbrev EditionsAs : Calls.EditionReport → Local.Edition → Type 0
  EditionsAs r e = r ≡ Calls.EditionReport.result e.result e.edition

  abbrev Editions : {Q : Type 0} → (Q → Calls.EditionReport) → Q → Setting → Type 0
  Editions report q x = EditionsAs (report q) (Local.edition_of x)

  setting-edition : (key : ℕ) → let at = Layout.setting_offset key in
      Editions (Calls.edition_report_at p.settings key) (Calls.setting_at p.settings at) (setting_of p.settings at)
  unfolding Calls.setting_at Calls.edition_report_at setting_of
  setting-edition key =
      let s = p.settings in
      let at = Layout.setting_offset key in
      cond_both (λ q o. Editions (Calls.edition_report_at s key) q (record { edition = Layout.setting_edition s at; value = o }))
      (eqb (Layout.setting_held s at) 1) (λ e. refl) (λ e. refl)

  key-edition : (key : ℕ) → key ≤ Limits.highest_key → eqb key Limits.passphrase_key ≡ false
      → Editions (Calls.edition_report_at p.settings key) (Calls.location_of p.factory p.settings key) (Local.entry_of (view p) key)
  unfolding Calls.location_of Calls.edition_report_at Local.entry_of view
  key-edition key h o =
      let P = Editions (Calls.edition_report_at p.settings key) in
      cond_both P (eqb key 0) (λ e. refl) (λ i.
      cond_both P (eqb key 1) (λ e. refl) (λ j.
      cond_both P (eqb key 2) (λ e. refl) (λ k.
      rw (o, setting-is p.settings key (settings-key key i j k h)) (setting-edition key))))

  location-edition : (key : ℕ) → key ≤ Limits.highest_key
      → EditionsAs (Calls.edition_report_at p.settings key (Calls.location_of p.factory p.settings key))
      (cond (eqb key Limits.passphrase_key) (record { result = 4; edition = 0 }) (Local.edition_of (Local.entry_of (view p) key)))
  unfolding Calls.location_of Calls.edition_report_at
  location-edition key h =
      cond-by (EditionsAs _) (eqb key Limits.passphrase_key) _ _ (λ e. rw (eqb-true key Limits.passphrase_key e)) (λ e. key-edition key h e)

pub edition_meant : EditionMeant
unfolding Calls.edition_promise Local.edition
edition_meant p v key =
    rw (v.factory, v.settings)
    (cond_both (EditionsAs p v) (ltb Limits.highest_key key)
    (λ e. refl) (λ e. location-edition p v key (ltb-false Limits.highest_key key e)))

-- a lookup that succeeds hands out that edition
fitted-edition : (most : ℕ) (x : Setting)
    → let f = Local.fitted most x.edition x.value in f.result ≡ 0 → (Local.edition_of x).edition ≡ f.edition
unfolding Local.fitted
fitted-edition most x = by x.value
  where
    by : (o : Option (List ℕ))
        → let f = Local.fitted most x.edition o in f.result ≡ 0 → (Local.edition_of (record {
          edition = x.edition;
          value = o;
        })).edition ≡ f.edition
    by none e = absurd (omega arith)
    by (some v) e =
        cond-by (λ (f : Local.Found). f.result ≡ 0 → x.edition ≡ f.edition) (ltb most (length v)) _ _ (λ h i. absurd (omega arith))
        (λ h i. refl) e

pub lookup-edition : (s : State) (key most : ℕ) → (Local.lookup s key most).result ≡ 0
    → (Local.edition s key).edition ≡ (Local.lookup s key most).edition
unfolding Local.lookup Local.edition
lookup-edition s key most =
    let P : Local.Found → Local.Edition → Type 0 = λ f e. f.result ≡ 0 → e.edition ≡ f.edition in
    cond_both P (ltb Limits.highest_key key) (λ h e. refl) (λ h.
    cond_both P (eqb key Limits.passphrase_key) (λ i e. refl) (λ i. fitted-edition most (Local.entry_of s key)))

-- ---- their rows

-- a key's location is no refusal
module _ (X : ℕ → Type 0) (most : ℕ) where
  abbrev FoundHeld : {Q : Type 0} → (Q → Calls.LookupReport) → Q → Type 0
  FoundHeld report q = WhereRefused (LocalCalls.lookup_answer (report q)) X

  sized-held : (n : ℕ) → WhereRefused (LocalCalls.lookup_answer (Calls.sized most n)) X
  sized-held n = cond-by (λ a. WhereRefused (LocalCalls.lookup_answer a) X) (ltb most n) _ _ (λ e. tt) (λ e. tt)

  setting-held : (s : List ℕ) (at : ℕ) → FoundHeld (Calls.result_at most) (Calls.setting_at s at)
  unfolding Calls.result_at Calls.setting_at
  setting-held s at =
      cond-by (FoundHeld (Calls.result_at most)) (eqb (Layout.setting_held s at) 1) _ _ (λ e. sized-held (Layout.setting_length s at))
      (λ e. tt)

  pub found-held : (f s : List ℕ) (key : ℕ) → FoundHeld (Calls.result_at most) (Calls.location_of f s key)
  unfolding Calls.result_at Calls.location_of
  found-held f s key =
      let P = FoundHeld (Calls.result_at most) in
      cond-by P (eqb key 0) _ _ (λ e. sized-held 4) (λ e.
      cond-by P (eqb key 1) _ _ (λ e. sized-held (Layout.image_id_length f)) (λ e.
      cond-by P (eqb key 2) _ _ (λ e. sized-held 8) (λ e.
      cond-by P (eqb key Limits.passphrase_key) _ _ (λ e. tt) (λ e.
      setting-held s (Layout.setting_offset key)))))

-- nor is its edition
module _ (X : ℕ → Type 0) where
  abbrev EditionHeld : {Q : Type 0} → (Q → Calls.EditionReport) → Q → Type 0
  EditionHeld report q = WhereRefused (LocalCalls.edition_answer (report q)) X

  edition-held : (f s : List ℕ) (key : ℕ) → EditionHeld (Calls.edition_report_at s key) (Calls.location_of f s key)
  unfolding Calls.edition_report_at Calls.location_of Calls.setting_at
  edition-held f s key =
      let P = EditionHeld (Calls.edition_report_at s key) in
      cond-by P (eqb key 0) _ _ (λ e. tt) (λ e.
      cond-by P (eqb key 1) _ _ (λ e. tt) (λ e.
      cond-by P (eqb key 2) _ _ (λ e. tt) (λ e.
      cond-by P (eqb key Limits.passphrase_key) _ _ (λ e. tt) (λ e.
      cond-by P (eqb (Layout.setting_held s (Layout.setting_offset key)) 1) _ _ (λ e. tt) (λ e. tt)))))

abbrev LookupTested : Calls.Parts → ℕ → ℕ → Calls.LookupReport → List ℕ → Type 0
LookupTested p key most a bs = Tested p (Histories.local (Histories.lookup key most)) (did_by (LocalCalls.lookup_answer a) bs p) none

abbrev EditionTested : Calls.Parts → ℕ → Calls.EditionReport → Type 0
EditionTested p key a = Tested p (Histories.local (Histories.edition key)) (did_by (LocalCalls.edition_answer a) [] p) none

pub lookup-laws : (key most : ℕ) → RowLaws (Histories.lookup key most)
unfolding did meant parts_fit_call first_failing Calls.lookup_result_promise Calls.lookup_promise
lookup-laws key most = record {
  by_taken = λ p. refl;
  of_change = tt;
  meets = λ p s t.
      let l = lookup-meant p s.valid s.bytes.factory key most in
      same_meets p s (ap LocalCalls.lookup_answer l.0) l.1;
  refuses = λ p e. rw (both-test (valid_factory p.factory) (valid_settings p.settings) e);
  tested = λ p e.
      rw (both-test (valid_factory p.factory) (valid_settings p.settings) e)
      (cond_both (LookupTested p key most) (ltb Limits.highest_key key) (λ _. (unrefused _ tt, tt)) (λ _.
      (unrefused _ (found-held (λ _. ⊥) most p.factory p.settings key), found-held _ most p.factory p.settings key)));
  keeps_rest = λ s. refl;
  alike = λ t z e. rw (lookup-same t z e key most);
}

pub edition-laws : (key : ℕ) → RowLaws (Histories.edition key)
unfolding did meant parts_fit_call first_failing Calls.edition_promise
edition-laws key = record {
  by_taken = λ p. refl;
  of_change = tt;
  meets = λ p s t. same_meets p s (ap LocalCalls.edition_answer (edition_meant p s.valid key)) refl;
  refuses = λ p e. rw (both-test (valid_factory p.factory) (valid_settings p.settings) e);
  tested = λ p e.
      rw (both-test (valid_factory p.factory) (valid_settings p.settings) e)
      (cond-by (EditionTested p key) (ltb Limits.highest_key key) _ _ (λ _. (unrefused _ tt, tt)) (λ _.
      (unrefused _ (edition-held (λ _. ⊥) p.factory p.settings key), edition-held _ p.factory p.settings key)));
  keeps_rest = λ s. refl;
  alike = λ t z e. rw (edition-same t z e key);
}
