-- Saving and restoring on the settings store, as the meaning has them.
-- The laws are of the numbers of faults, the image, and the settings that a good image leaves. Assumes nothing.
use mathlib.Core.Path.{◌≡◌, refl, sym, ap, ◌∙◌}
use mathlib.Core.Logic.{inl, inr}
use mathlib.Core.Bool.{Bool, true, false, cond}
use mathlib.Core.List.{List, [], ◌∷◌, ◌++◌}
use mathlib.Core.Option.{some}
use Prim.Native.Nat.{ℕ, zero, suc, ◌+◌, ◌-◌, ◌^◌, ◌≤◌, ◌<◌}
use native.Mathlib.Nat.{add-zero}
use native.Mathlib.Omega.{arith}
use lib.Dec.{ltb, eqb}
use lib.ListN.{length, take, replicate}
use lib.Seq.{take-length}
use borrow.Author.Tests.{lt-ltb, le-ltb, ltb-true, ltb-false, ne_eqb, eqb-true, eqb-false}
use Rattle.octets.specs.Bytes.{Byte, Each, bytes, number, overlay}
use Rattle.octets.proofs.Conditions.{cond-by, cond_both}
use Rattle.octets.proofs.Each.{each_append, each-run}
use Rattle.octets.proofs.Numbers.{number-bytes, number_small, bytes-each}
use Rattle.octets.proofs.Overlay.{overlay-part}
use Rattle.octets.proofs.SameBytes.{Same, same-before, same_after}
use Rattle.line.specs.Checksum.{checksum}
use Rattle.supervisor.specs.Limits
use Rattle.supervisor.specs.Limits.{SettingsKey}
use Rattle.supervisor.specs.Layout
use Rattle.supervisor.specs.State.{Setting, unset}
use Rattle.supervisor.proofs.OffsetLaws.{offset-within, longest-short, Lies, setting-lies}
use Rattle.supervisor.specs.Valid.{SettingsValid}
use Rattle.saving.specs.Saving
use Rattle.saving.specs.Saving.{SavedEntry, ImageRead, fault, good, ImageStep, bad, ended, to, image_step, record_step, complete}
use Rattle.saving.specs.Saving.{read_image}
use Rattle.saving.specs.Calls as SavingCalls
use Rattle.saving.proofs.ReadLaws.{reading-by, entries-each}
use Rattle.saving.proofs.StoreLaws.{length-setting}
use Rattle.saving.proofs.RestoreLaws.{saved-key}
use Rattle.saving.proofs.KeptLaws.{Allowed, entries-allowed, cleared-valid, all_valid}
use Rattle.saving_claims.proofs.EntryLaws.{Rising}
use Rattle.saving_claims.proofs.Item11.{read-exact}
use Rattle.supervisor_claims.specs.View.{tabulated, setting_of, settings_of}
use Rattle.supervisor_claims.specs.Item11.{ImageMeant, GoodMeant}
use Rattle.supervisor_claims.proofs.laws.ViewLaws.{listed-first, listed_same, listed-set}
use Rattle.supervisor_claims.proofs.laws.PartLaws.{each_number}
use Rattle.supervisor_claims.proofs.laws.SettingLaws.{setting_same}

-- ---- the numbers of an image's faults

abbrev pub Faults : ImageRead → Type 0
Faults (fault n at) = (30 ≤ n) × (n ≤ 35)
Faults (good es) = Unit {0}

abbrev FaultsAt : ImageStep → Type 0
FaultsAt (bad n at) = (30 ≤ n) × (n ≤ 35)
FaultsAt ended = Unit {0}
FaultsAt (to key at) = Unit {0}

module _ (image : List ℕ) where
  complete-faults : (past : ℕ) (s : ImageStep) → FaultsAt s → FaultsAt (complete image past s)
  complete-faults past s h = cond-by FaultsAt (ltb (length image) past) _ _ (λ _. omega arith) (λ _. h)

  record-faults : (at : ℕ) → FaultsAt (record_step image at)
  unfolding record_step
  record-faults at =
      complete-faults _ _ (complete-faults _ _
      (cond-by FaultsAt (ltb (Limits.longest_setting (Saving.saved_key_at image at)) (Saving.saved_length_at image at)) _ _
      (λ _. omega arith)
      (λ _.
      complete-faults _ _ (complete-faults _ _
      (cond-by FaultsAt (eqb (Saving.saved_checksum_at image at) (checksum (Saving.saved_body_at image at))) _ _ (λ _. tt)
      (λ _. omega arith))))))

  step-faults : (before at : ℕ) → FaultsAt (image_step image before at)
  unfolding image_step
  step-faults before at =
      complete-faults _ _
      (cond-by FaultsAt (Saving.marked Saving.end_mark image at) _ _
      (λ _. cond-by FaultsAt (ltb (at + 2) (length image)) _ _ (λ _. omega arith) (λ _. tt))
      (λ _.
      cond-by FaultsAt (Saving.marked Saving.record_mark image at) _ _
      (λ _.
      complete-faults _ _
      (cond-by FaultsAt (Saving.follows before (Saving.saved_key_at image at)) _ _ (λ _. record-faults at) (λ _. omega arith)))
      (λ _. omega arith)))

  ahead-faults : (e : SavedEntry) (r : ImageRead) → Faults r → Faults (Saving.ahead_of_read e r)
  ahead-faults e (fault n at) h = h
  ahead-faults e (good es) h = tt

  pub read-faults : Faults (read_image image)
  unfolding read_image
  read-faults =
      reading-by image (λ before at r. Faults r) (λ before at n there e. rw e at (step-faults before at)) (λ before at e. tt)
      (λ before at key there r e h. ahead-faults (Saving.saved_entry_at image at) r h) 0 0

-- ---- the image

-- the first of some values
listed-none : {A : Type 0} (f : ℕ → A) → tabulated f 0 ≡ []
unfolding tabulated
listed-none f = refl

take-listed : {A : Type 0} (n k : ℕ) (f : ℕ → A) → take n (tabulated f (n + k)) ≡ tabulated f n
take-listed zero k f = sym (listed-none f)
take-listed (suc n) k f =
    let e : suc n + k ≡ suc (n + k) = omega arith in
    rw (e, listed-first f (n + k), listed-first f n, take-listed n k (λ i. f (suc i)))

module _ (s : List ℕ) where
  record-meant : (key : ℕ) → SavingCalls.saved_record_bytes s key ≡ Saving.record_for key (setting_of s (Layout.setting_offset key))
  unfolding SavingCalls.saved_record_bytes setting_of
  record-meant key =
      let at = Layout.setting_offset key in
      cond_both (λ bs o. bs ≡ Saving.record_for key (record { edition = Layout.setting_edition s at; value = o }))
      (eqb (Layout.setting_held s at) 1) (λ _. refl) (λ _. refl)

  records-meant : (n key : ℕ)
      → SavingCalls.saved_records_from s n key ≡ Saving.image_from key (tabulated (λ i. setting_of s (Layout.setting_offset (key + i))) n)
  unfolding SavingCalls.saved_records_from Saving.image_from tabulated
  records-meant zero key = refl
  records-meant (suc n) key =
      let next : (i : ℕ) → setting_of s (Layout.setting_offset (suc key + i)) ≡ setting_of s (Layout.setting_offset (key + suc i))
      = λ i. let e : suc key + i ≡ key + suc i = omega arith in rw e in
      rw (
        listed-first (λ i. setting_of s (Layout.setting_offset (key + i))) n,
        record-meant key,
        add-zero,
        records-meant n (suc key),
        listed_same _ _ n (λ i _. next i),
      )

pub image_meant : ImageMeant
unfolding SavingCalls.image_bytes Saving.saved settings_of
image_meant s =
    records-meant s Saving.saved_count Limits.first_setting
    ∙ ap (Saving.image_from Limits.first_setting)
    (sym (take-listed Saving.saved_count (Limits.setting_count - Saving.saved_count)
    (λ i. setting_of s (Layout.setting_offset (Limits.first_setting + i)))))

-- it holds bytes
module _ (s : List ℕ) (b : Each Byte s) where
  record-bytes : (key edition : ℕ) (v : List ℕ) → Each Byte v → Each Byte (Saving.saved_record key edition v)
  unfolding Saving.saved_record
  record-bytes key edition v h =
      let size = bytes 2 (length v) ++ v in
      let body : Each Byte (Saving.record_body key edition v)
      = (
        omega arith,
        (omega arith, each_number 1 key (bytes 4 edition ++ size) (each_number 4 edition size (each_number 2 (length v) v h))),
      ) in
      each_append Byte (Saving.record_body key edition v) _ body (bytes-each 2 (checksum (Saving.record_body key edition v)))

  records-bytes : (n key : ℕ) → Each Byte (SavingCalls.saved_records_from s n key)
  unfolding SavingCalls.saved_records_from SavingCalls.saved_record_bytes
  records-bytes zero key = (omega arith, (omega arith, tt))
  records-bytes (suc n) key =
      let at = Layout.setting_offset key in
      each_append Byte (SavingCalls.saved_record_bytes s key) _
      (cond-by (Each Byte) (eqb (Layout.setting_held s at) 1) _ []
      (λ _. record-bytes key _ _ (each-run (at + Layout.setting_value_offset) (Layout.setting_length s at) s b)) (λ _. tt))
      (records-bytes n (suc key))

  pub image-bytes : Each Byte (Saving.saved (settings_of s))
  unfolding SavingCalls.image_bytes
  image-bytes = rw (← image_meant s) (records-bytes Saving.saved_count Limits.first_setting)

-- ---- bytes put over a setting

-- the setting of a record
abbrev entered : SavedEntry → Setting
entered e = record { edition = e.edition; value = some e.value }

module _ (s xs : List ℕ) (key : ℕ) (w : SettingsValid s) (k : SettingsKey key)
    (most : length xs ≤ Layout.setting_value_offset + Limits.longest_setting key) where
  abbrev here : ℕ
  here = Layout.setting_offset key

  other-setting : (j : ℕ) → SettingsKey j → (j ≡ key → ⊥)
      → setting_of (overlay here xs s) (Layout.setting_offset j) ≡ setting_of s (Layout.setting_offset j)
  other-setting j i n = by (setting-lies j key i k)
    where
      room : here + length xs ≤ length s
      room = omega (arith, offset-within key k, w.long)

      by : Lies j key → setting_of (overlay here xs s) (Layout.setting_offset j) ≡ setting_of s (Layout.setting_offset j)
      by (inl l) =
          let same : Same 0 here s (overlay here xs s) = same-before here xs s (omega (arith, room)) (omega arith) in
          setting_same same (Layout.setting_offset j) (Limits.longest_setting j) (w.each j i) (omega arith)
      by (inr (inl e)) = absurd (n e)
      by (inr (inr l)) =
          let same : Same (here + length xs) (Layout.setting_offset j + Layout.setting_value_offset + Limits.longest_setting j) s
          (overlay here xs s)
          = same_after here xs s (omega (arith, room)) (omega arith) in
          setting_same same (Layout.setting_offset j) (Limits.longest_setting j) (w.each j i) (omega arith)

-- a setting without a value
module _ (s : List ℕ) (key : ℕ) (w : SettingsValid s) (k : SettingsKey key) where
  abbrev zeros : List ℕ
  zeros = replicate Layout.setting_value_offset 0

  unset-here : setting_of (overlay (Layout.setting_offset key) zeros s) (Layout.setting_offset key) ≡ unset
  unfolding setting_of number
  unset-here =
      let at = Layout.setting_offset key in
      let room : at ≤ length s = omega (arith, offset-within key k, w.long) in
      let held = ap number (rw add-zero at (overlay-part at 0 1 zeros s room (omega arith))) in
      let edition = ap number (overlay-part at Layout.setting_edition_offset 4 zeros s room (omega arith)) in
      rw (held, edition)

below_next : (j m : ℕ) → (j ≡ m → ⊥) → ltb j m ≡ ltb j (suc m)
below_next j m f = by (ltb j m) refl
  where
    by : (t : Bool) → ltb j m ≡ t → t ≡ ltb j (suc m)
    by true e = sym (lt-ltb j (suc m) (omega (arith, ltb-true j m e)))
    by false e = sym (le-ltb j (suc m) (omega (arith, ltb-false j m e, f)))

-- one key more is cleared
module _ (s t : List ℕ) (n : ℕ) (v : SettingsValid t) (h : n < Saving.saved_count) where
  abbrev last : ℕ
  last = Limits.first_setting + n

  cleared-one : (j : ℕ) → SettingsKey j
      → setting_of t (Layout.setting_offset j) ≡ cond (ltb j last) unset (setting_of s (Layout.setting_offset j))
      → setting_of (overlay (Layout.setting_offset last) (replicate Layout.setting_value_offset 0) t) (Layout.setting_offset j)
      ≡ cond (ltb j (suc last)) unset (setting_of s (Layout.setting_offset j))
  cleared-one j i before = by (eqb j last) refl
    where
      by : (b : Bool) → eqb j last ≡ b
          → setting_of (overlay (Layout.setting_offset last) (replicate Layout.setting_value_offset 0) t) (Layout.setting_offset j)
          ≡ cond (ltb j (suc last)) unset (setting_of s (Layout.setting_offset j))
      by true e =
          let f = eqb-true j last e in
          rw (f, lt-ltb last (suc last) (omega arith)) (unset-here t last v (saved-key n h))
      by false e =
          let f = eqb-false j last e in
          other-setting t (replicate Layout.setting_value_offset 0) last v (saved-key n h) (omega arith) j i f
          ∙ before ∙ ap (λ b. cond b unset (setting_of s (Layout.setting_offset j))) (below_next j last f)

-- of n saved keys
cleared-setting : (s : List ℕ) → SettingsValid s → (n : ℕ) → n ≤ Saving.saved_count → (j : ℕ) → SettingsKey j
    → setting_of (SavingCalls.cleared n s) (Layout.setting_offset j)
    ≡ cond (ltb j (Limits.first_setting + n)) unset (setting_of s (Layout.setting_offset j))
unfolding SavingCalls.cleared
cleared-setting s w zero h j i = rw (le-ltb j (Limits.first_setting + 0) (omega (arith, i.lower)))
cleared-setting s w (suc n) h j i =
    let e : Limits.first_setting + suc n ≡ suc (Limits.first_setting + n) = omega arith in
    rw e
    (cleared-one s (SavingCalls.cleared n s) n (cleared-valid s w n (omega arith)).0 (omega arith) j i
    (cleared-setting s w n (omega arith) j i))

-- ---- a record in its key's setting

module _ (e : SavedEntry) (a : Allowed e) (low : e.edition < 256 ^ 4) (s : List ℕ) (w : SettingsValid s) where
  entered_here : setting_of (SavingCalls.put_entry e s) (Layout.setting_offset e.key) ≡ entered e
  unfolding setting_of bytes
  entered_here =
      let at = Layout.setting_offset e.key in
      let v = e.value in
      let xs = Layout.setting_bytes e.edition v in
      let size = length-setting e.edition v in
      let room : at ≤ length s = omega (arith, offset-within e.key a.its_key, w.long) in
      let short = longest-short e.key in
      let held = ap number (rw add-zero at (overlay-part at 0 1 xs s room (omega (arith, size)))) ∙ number-bytes 1 1 (omega arith) in
      let edition =
      ap number (overlay-part at Layout.setting_edition_offset 4 xs s room (omega (arith, size))) ∙ number-bytes 4 e.edition low in
      let n =
      ap number (overlay-part at Layout.setting_length_offset 2 xs s room (omega (arith, size)))
      ∙ number-bytes 2 (length v) (omega (arith, a.short)) in
      let value = overlay-part at Layout.setting_value_offset (length v) xs s room (omega (arith, size)) ∙ take-length v in
      rw (held, edition, n, value)

  put-setting : (j : ℕ) → SettingsKey j
      → setting_of (SavingCalls.put_entry e s) (Layout.setting_offset j)
      ≡ cond (eqb e.key j) (entered e) (setting_of s (Layout.setting_offset j))
  put-setting j i = by (eqb e.key j) refl
    where
      by : (t : Bool) → eqb e.key j ≡ t
          → setting_of (SavingCalls.put_entry e s) (Layout.setting_offset j) ≡ cond t (entered e) (setting_of s (Layout.setting_offset j))
      by true f = rw (← eqb-true e.key j f) entered_here
      by false f =
          let size = length-setting e.edition e.value in
          other-setting s (Layout.setting_bytes e.edition e.value) e.key w a.its_key (omega (arith, a.short)) j i
          (λ g. eqb-false e.key j f (sym g))

-- an edition of 32 bits
abbrev Low : SavedEntry → Type 0
Low e = e.edition < 256 ^ 4

-- a key's setting by records, whose keys rise, or what it was
abbrev chosen : ℕ → List SavedEntry → Setting → Setting
chosen key [] x = x
chosen key (e ∷ es) x = cond (eqb e.key key) (entered e) (chosen key es x)

chosen_none : (key : ℕ) (es : List SavedEntry) (x : Setting) → Rising (suc key) es → chosen key es x ≡ x
chosen_none key [] x r = refl
chosen_none key (e ∷ es) x r =
    rw (ne_eqb e.key key (λ f. omega (arith, r.0, f)))
    (chosen_none key es x (rising-from (suc e.key) (suc key) es (omega (arith, r.0)) r.3))
  where
    rising-from : (a b : ℕ) (es : List SavedEntry) → b ≤ a → Rising a es → Rising b es
    rising-from a b [] h r = tt
    rising-from a b (e ∷ es) h r = (omega (arith, r.0), r.1, r.2, r.3)

-- no record has a key that is not saved
chosen-above : (key from : ℕ) (es : List SavedEntry) (x : Setting) → Saving.highest_saved < key → Rising from es → chosen key es x ≡ x
chosen-above key from [] x h r = refl
chosen-above key from (e ∷ es) x h r =
    rw (ne_eqb e.key key (λ f. omega (arith, r.2, f))) (chosen-above key (suc e.key) es x h r.3)

chosen-in : (key : ℕ) (es : List SavedEntry) → chosen key es unset ≡ Saving.setting_in key es
unfolding Saving.setting_in
chosen-in key [] = refl
chosen-in key (e ∷ es) = rw (chosen-in key es)

put-all-setting : (from : ℕ) (es : List SavedEntry) → Rising from es → Each Allowed es → Each Low es → (s : List ℕ) → SettingsValid s
    → (j : ℕ) → SettingsKey j
    → setting_of (SavingCalls.put_entries es s) (Layout.setting_offset j) ≡ chosen j es (setting_of s (Layout.setting_offset j))
unfolding SavingCalls.put_entries
put-all-setting from [] r a l s w j i = refl
put-all-setting from (e ∷ es) r a l s w j i =
    let v = (all_valid (e ∷ []) (a.0, tt) s w).0 in
    put-all-setting (suc e.key) es r.3 a.1 l.1 (SavingCalls.put_entry e s) v j i
    ∙ rw (put-setting e a.0 l.0 s w j i) (by (eqb e.key j) refl)
  where
    by : (t : Bool) → eqb e.key j ≡ t
        → let x = setting_of s (Layout.setting_offset j) in chosen j es (cond t (entered e) x) ≡ cond t (entered e) (chosen j es x)
    by true g = chosen_none j es (entered e) (rw (eqb-true e.key j g) at r.3)
    by false g = refl

-- ---- the settings that a good image leaves

-- the first n are the records', the others as they were
abbrev mixed : ℕ → List SavedEntry → (ℕ → Setting) → ℕ → Setting
mixed n es f i = cond (ltb i n) (Saving.setting_in (Limits.first_setting + i) es) (f i)

replaced-listed : (n : ℕ) (es : List SavedEntry) (f : ℕ → Setting) → n ≤ Limits.setting_count
    → Saving.replaced n es (tabulated f Limits.setting_count) ≡ tabulated (mixed n es f) Limits.setting_count
unfolding Saving.replaced
replaced-listed zero es f h = listed_same _ _ Limits.setting_count (λ i l. rw (le-ltb i 0 (omega arith)))
replaced-listed (suc n) es f h =
    let k : Limits.first_setting + n - Limits.first_setting ≡ n = omega arith in
    rw (replaced-listed n es f (omega arith), k)
    (sym
    (listed-set (mixed n es f) (mixed (suc n) es f) (Saving.setting_in (Limits.first_setting + n) es) Limits.setting_count n (omega arith)
    (rw (lt-ltb n (suc n) (omega arith)))
    (λ j l m. rw (← below_next j n m))))

module _ (s : List ℕ) (w : SettingsValid s) (es : List SavedEntry) (from : ℕ) (r : Rising from es) (a : Each Allowed es)
    (low : Each Low es) where
  left-setting : (i : ℕ) → i < Limits.setting_count → let at = Layout.setting_offset (Limits.first_setting + i) in
      setting_of (SavingCalls.put_entries es (SavingCalls.cleared Saving.saved_count s)) at
      ≡ mixed Saving.saved_count es (λ i. setting_of s (Layout.setting_offset (Limits.first_setting + i))) i
  left-setting i l =
      let j = Limits.first_setting + i in
      let k : SettingsKey j = record { lower = omega arith; upper = omega arith } in
      put-all-setting from es r a low (SavingCalls.cleared Saving.saved_count s) (cleared-valid s w Saving.saved_count (omega arith)).0 j k
      ∙ rw (cleared-setting s w Saving.saved_count (omega arith) j k) (by (ltb i Saving.saved_count) refl)
    where
      by : (t : Bool) → ltb i Saving.saved_count ≡ t → let j = Limits.first_setting + i in let x = setting_of s (Layout.setting_offset j) in
          chosen j es (cond (ltb j (Limits.first_setting + Saving.saved_count)) unset x) ≡ cond t (Saving.setting_in j es) x
      by true e =
          rw
          (lt-ltb (Limits.first_setting + i) (Limits.first_setting + Saving.saved_count) (omega (arith, ltb-true i Saving.saved_count e)))
          (chosen-in (Limits.first_setting + i) es)
      by false e =
          let high = ltb-false i Saving.saved_count e in
          rw (le-ltb (Limits.first_setting + i) (Limits.first_setting + Saving.saved_count) (omega arith))
          (chosen-above (Limits.first_setting + i) from es _ (omega arith) r)

  pub restored-meant : settings_of (SavingCalls.put_entries es (SavingCalls.cleared Saving.saved_count s))
      ≡ Saving.restored_settings es (settings_of s)
  unfolding settings_of
  restored-meant =
      listed_same _ _ Limits.setting_count left-setting
      ∙ sym (replaced-listed Saving.saved_count es (λ i. setting_of s (Layout.setting_offset (Limits.first_setting + i))) (omega arith))

-- ---- a call of restore

pub good_meant : GoodMeant
good_meant s w image b es e =
    let x = rw e at (read-exact image b) in
    restored-meant s w es 1 x.1 (rw e at (entries-allowed image))
    (rw e at (entries-each image Low (λ before at key there p. number_small 4 (at + 3) image b)))
