-- The settings store after a key set: what is stored, what stays, and the result, as the meaning has them.
-- Assumes nothing.
use mathlib.Core.Path.{◌≡◌, refl, ◌∙◌}
use mathlib.Core.Logic.{inl, inr}
use mathlib.Core.Bool.{cond, ◌||◌}
use mathlib.Core.List.{List}
use mathlib.Core.Option.{some}
use Prim.Native.Nat.{ℕ, suc, ◌+◌, ◌-◌, ◌≤◌, ◌<◌}
use native.Mathlib.Omega.{arith}
use lib.Dec.{ltb, eqb}
use lib.ListN.{length}
use borrow.Author.Tests.{ltb-false, eqb-false}
use Rattle.octets.specs.Bytes.{Byte, Each, overlay}
use Rattle.octets.proofs.Conditions.{cond_both}
use Rattle.octets.proofs.Numbers.{number_small}
use Rattle.octets.proofs.Zeros.{zeros, length-zeros, zeros-each}
use Rattle.octets.proofs.SameBytes.{Same, number_same}
use Rattle.supervisor.specs.Limits
use Rattle.supervisor.specs.Layout
use Rattle.supervisor.specs.State.{Setting, unset, Settings, setting, with_setting}
use Rattle.supervisor.proofs.OffsetLaws.{offset-within, Lies, setting-lies}
use Rattle.supervisor.specs.Valid.{SettingValid, SettingsValid}
use Rattle.responder.specs.Requests
use Rattle.responder.specs.Receive
use Rattle.responder.proofs.RecordLaws.{length-right}
use Rattle.responder.proofs.KeptLaws.{length-setting, setting-before, setting-after, setting-held, setting-edition, setting-size}
use Rattle.responder.proofs.KeptLaws.{setting-value, cleared-most, value_room, value-small}
use Rattle.supervisor_claims.specs.View.{setting_of, settings_of}
use Rattle.supervisor_claims.proofs.laws.ViewLaws.{listed-set, listed_at}
use Rattle.supervisor_claims.proofs.laws.PartLaws.{Like, like-itself, like-then, like-put, each_number}

-- ---- the view of a value that was put

-- the value, one edition on
abbrev next : ℕ → List ℕ → Setting
next edition v = record { edition = suc edition; value = some v }

module _ (s v : List ℕ) (at longest cleared : ℕ) (room : at + (Layout.setting_value_offset + longest) ≤ length s)
    (short : length v ≤ longest) (most : cleared ≤ longest) where
  put-setting : length v < 65536 → Layout.setting_edition s at < Limits.last_edition
      → setting_of (Receive.with_value s at cleared v) at ≡ next (Layout.setting_edition s at) v
  unfolding setting_of
  put-setting small low =
      rw (
        setting-held s v at longest cleared room short most,
        setting-edition s v at longest cleared room short most low,
        setting-size s v at longest cleared room short most small,
        setting-value s v at longest cleared room short most,
      )

-- a settings key has what its setting holds
pub setting-is : (s : List ℕ) (key : ℕ) → Limits.SettingsKey key → setting (settings_of s) key ≡ setting_of s (Layout.setting_offset key)
unfolding settings_of
setting-is s key h =
    let e : Limits.first_setting + (key - Limits.first_setting) ≡ key = omega (arith, h) in
    listed_at _ unset Limits.setting_count (key - Limits.first_setting) (omega (arith, h)) ∙ rw e

-- ---- the other settings

pub setting_same : {from to shortest : ℕ} {s t : List ℕ} → Same from to s t → (at longest : ℕ) → SettingValid s at shortest longest
    → (from ≤ at) × (at + Layout.setting_value_offset + longest ≤ to) → setting_of t at ≡ setting_of s at
unfolding setting_of
setting_same {s} same at longest v h =
    rw (
      number_same same 1 at (omega arith),
      number_same same 4 (at + Layout.setting_edition_offset) (omega arith),
      number_same same 2 (at + Layout.setting_length_offset) (omega arith),
      same.runs (at + Layout.setting_value_offset) (Layout.setting_length s at) (omega arith),
    )

module _ (s v : List ℕ) (at most cleared : ℕ) (room : at + (Layout.setting_value_offset + most) ≤ length s) (short : length v ≤ most)
    (low : cleared ≤ most) {bt shortest longest : ℕ} (valid : SettingValid s bt shortest longest) where
  before-value : bt + Layout.setting_value_offset + longest ≤ at → setting_of (Receive.with_value s at cleared v) bt ≡ setting_of s bt
  before-value h = setting_same (setting-before s v at most cleared room short low {from = bt} h) bt longest valid (omega arith)

  after-value : at + (Layout.setting_value_offset + most) ≤ bt → setting_of (Receive.with_value s at cleared v) bt ≡ setting_of s bt
  after-value h =
      setting_same (setting-after s v at most cleared room short low {to = bt + Layout.setting_value_offset + longest} h) bt longest valid
      (omega arith)

-- ---- what a store does and answers is what the meaning has

pub record Stores (s : List ℕ) (k : Receive.KeyStored) (t : Requests.Stored) : Type 0 where
  pub settings : settings_of k.settings ≡ t.settings
  pub small : k.result < 256
  pub like : Like s k.settings

module _ (s v : List ℕ) (w : SettingsValid s) (held : Each Byte s) (each : Each Byte v) where
  abbrev stored_with : ℕ → Settings → Requests.Stored
  stored_with n x = record { result = n; settings = x }

  -- nothing is stored
  unstored : (n : ℕ) → n < 256 → Stores s (Receive.key_stored n s) (stored_with n (settings_of s))
  unstored n h = record { settings = refl; small = h; like = like-itself s }

  -- at the offset of a key
  stored_at : (at shortest longest cleared : ℕ) (x : Settings) → at + (Layout.setting_value_offset + longest) ≤ Layout.settings_length
      → cleared ≤ longest
      → (length v ≤ longest → Layout.setting_edition s at < Limits.last_edition → settings_of (Receive.with_value s at cleared v) ≡ x)
      → Stores s (Receive.store_bytes_at s at shortest longest cleared v)
      (cond (ltb (length v) shortest || ltb longest (length v)) (stored_with 3 (settings_of s))
      (cond (eqb (Layout.setting_edition s at) Limits.last_edition) (stored_with 4 (settings_of s)) (stored_with 0 x)))
  unfolding Receive.store_bytes_at Receive.with_value
  stored_at at shortest longest cleared x h most e =
      cond_both (Stores s) (ltb (length v) shortest || ltb longest (length v)) (λ f. unstored 3 (omega arith)) (λ f.
      cond_both (Stores s) (eqb (Layout.setting_edition s at) Limits.last_edition) (λ g. unstored 4 (omega arith)) (λ g.
      let l = (length-right shortest longest (length v) f).1 in
      let low = number_small 4 (at + Layout.setting_edition_offset) s held in
      let n = suc (Layout.setting_edition s at) in
      let wiped : Like s (overlay (at + Layout.setting_value_offset) (zeros cleared) s) =
      like-put (at + Layout.setting_value_offset) (zeros cleared) s (omega (arith, w.long, length-zeros cleared))
      (λ _. zeros-each Byte cleared (omega arith)) in
      record {
        settings = e l (omega (arith, low, eqb-false (Layout.setting_edition s at) Limits.last_edition g));
        small = omega arith;
        like = like-then wiped
            (like-put at (Layout.setting_bytes n v) _ (omega (arith, length-setting n v, wiped.long))
            (λ _. each_number 1 1 _ (each_number 4 n _ (each_number 2 (length v) v each))));
      }))

  -- of a key
  module _ (key : ℕ) (h : Limits.SettingsKey key) (short : length v ≤ Limits.longest_setting key)
      (low : Layout.setting_edition s (Layout.setting_offset key) < Limits.last_edition) where
    abbrev after : List ℕ
    after = Receive.with_value s (Layout.setting_offset key) (Receive.cleared_for key) v

    other-value : (j : ℕ) → Limits.SettingsKey j → Lies j key → (j ≡ key → ⊥)
        → setting_of after (Layout.setting_offset j) ≡ setting_of s (Layout.setting_offset j)
    other-value j i (inl l) n =
        before-value s v (Layout.setting_offset key) _ _ (value_room s v w key h short) short (cleared-most key) (w.each j i) (omega arith)
    other-value j i (inr (inl e)) n = absurd (n e)
    other-value j i (inr (inr l)) n =
        after-value s v (Layout.setting_offset key) _ _ (value_room s v w key h short) short (cleared-most key) (w.each j i) (omega arith)

    pub settings-put : settings_of after ≡ with_setting (settings_of s) key (next (Layout.setting_edition s (Layout.setting_offset key)) v)
    unfolding settings_of
    settings-put =
        let e : Limits.first_setting + (key - Limits.first_setting) ≡ key = omega (arith, h) in
        listed-set _ _ (next (Layout.setting_edition s (Layout.setting_offset key)) v) Limits.setting_count (key - Limits.first_setting)
        (omega (arith, h))
        (rw e (put-setting s v (Layout.setting_offset key) _ _ (value_room s v w key h short) short (cleared-most key)
        (value-small s v w key h short) low))
        (λ j l n.
        let i : Limits.SettingsKey (Limits.first_setting + j) = record { lower = omega arith; upper = omega arith } in
        other-value (Limits.first_setting + j) i (setting-lies (Limits.first_setting + j) key i h) (λ o. n (omega (arith, o))))

  pub storing-stored : (key : ℕ) → Stores s (Receive.store_bytes s key v) (Requests.store_value (settings_of s) key v)
  unfolding Receive.store_bytes Requests.store_value setting_of
  storing-stored key =
      cond_both (Stores s) (ltb Limits.highest_key key) (λ e. unstored 1 (omega arith)) (λ e.
      cond_both (Stores s) (ltb key Limits.first_setting) (λ f. unstored 2 (omega arith)) (λ f.
      let h : Limits.SettingsKey key =
      record { lower = ltb-false key Limits.first_setting f; upper = ltb-false Limits.highest_key key e } in
      rw (setting-is s key h) (stored_at _ _ _ _ _ (offset-within key h) (cleared-most key) (settings-put key h))))

-- the result of a set, whatever the bytes of the store and of the value
pub stored-result : (s v : List ℕ) (key : ℕ) → (Receive.store_bytes s key v).result ≡ (Requests.store_value (settings_of s) key v).result
unfolding Receive.store_bytes Receive.store_bytes_at Requests.store_value setting_of
stored-result s v key =
    cond_both SameResult (ltb Limits.highest_key key) (λ e. refl) (λ e.
    cond_both SameResult (ltb key Limits.first_setting) (λ f. refl) (λ f.
    let h : Limits.SettingsKey key = record { lower = ltb-false key Limits.first_setting f; upper = ltb-false Limits.highest_key key e } in
    rw (setting-is s key h) (cond_both SameResult (Requests.wrong_value_length key (length v)) (λ g. refl) (λ g.
    cond_both SameResult (eqb (Layout.setting_edition s (Layout.setting_offset key)) Limits.last_edition) (λ i. refl) (λ i. refl)))))
  where
    SameResult : Receive.KeyStored → Requests.Stored → Type 0
    SameResult a b = a.result ≡ b.result
