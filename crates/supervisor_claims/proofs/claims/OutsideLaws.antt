-- Settings stores that are the same outside the passphrase's record. They stay so where the same bytes are put outside it, where a value is
-- stored, where an image is restored, and through a loan. Assumes nothing.
use mathlib.Core.Path.{◌≡◌, refl, sym, ap, ◌∙◌}
use mathlib.Core.Logic.{inl, inr}
use mathlib.Core.Bool.{Bool, true, false, false≢true, cond}
use mathlib.Core.List.{List, [], ◌∷◌, ◌++◌}
use Prim.Native.Nat.{ℕ, zero, suc, ◌+◌, ◌-◌, ◌≤◌, ◌<◌}
use native.Mathlib.Omega.{arith}
use lib.Dec.{ltb, eqb}
use lib.ListN.{length, take, drop, replicate}
use lib.Seq.{drop-drop, take-take, take-add, take-length, take-append-le, drop-append-le, drop_at, length-take-le}
use borrow.Author.Tests.{leb-true, ltb-false, ne_eqb}
use Rattle.octets.specs.Bytes.{Each, bytes, number, run, overlay}
use Rattle.octets.proofs.Conditions.{cond_both}
use Rattle.octets.proofs.Overlay.{run-add, length-overlay, overlay-take, overlay-drop, overlay-part, overlay-after, overlay-take-past}
use Rattle.octets.proofs.SameBytes.{same_first, number_same}
use Rattle.octets.proofs.Zeros.{zeros, zeros-add, length-zeros}
use Rattle.line_claims.specs.Loans.{Loan, first, within, lent_part, back_part, enough_part}
use Rattle.supervisor.specs.Limits
use Rattle.supervisor.specs.Limits.{SettingsKey}
use Rattle.supervisor.specs.Layout
use Rattle.supervisor.specs.Valid.{valid_settings, SettingsValid}
use Rattle.supervisor.proofs.OffsetLaws.{offset-within, Lies, setting-lies}
use Rattle.supervisor.proofs.ValidLaws.{settings-valid}
use Rattle.saving.specs.Saving
use Rattle.saving.specs.Calls as SavingCalls
use Rattle.saving.proofs.KeptLaws.{Allowed, entries-allowed, entry-valid, cleared-valid}
use Rattle.responder.specs.Requests
use Rattle.responder.specs.Receive
use Rattle.responder.proofs.KeptLaws.{length-setting, setting-value, cleared-most}
use Rattle.responder.proofs.RecordLaws.{length-right}
use Rattle.supervisor_claims.specs.TwoRuns.{record_begin, record_end}

pub record Outside (s t : List ℕ) : Type 0 where
  pub ahead : take record_begin s ≡ take record_begin t
  pub behind : drop record_end s ≡ drop record_end t

-- the record ends where the store's published bytes do
pub record-last : record_end ≡ Layout.settings_length
unfolding Layout.setting_offset Limits.longest_setting
record-last = refl

-- bytes put ahead of it
pub outside-put : (at : ℕ) (xs s t : List ℕ) → Outside s t → at ≤ length s → at ≤ length t → at + length xs ≤ record_begin
    → Outside (overlay at xs s) (overlay at xs t)
outside-put at xs s t o hs ht l = record {
  ahead =
      overlay-take-past at record_begin xs s hs l
      ∙ rw (← take-take at record_begin s (omega arith), o.ahead, take-take at record_begin t (omega arith)) refl
      ∙ sym (overlay-take-past at record_begin xs t ht l);
  behind = overlay-drop at record_end xs s hs (omega arith) ∙ o.behind ∙ sym (overlay-drop at record_end xs t ht (omega arith));
}

-- ---- a loan of enough

drop-take : (j n : ℕ) (s : List ℕ) → j ≤ n → j ≤ length s → drop j (take n s) ≡ take (n - j) (drop j s)
drop-take j n s h k =
    let e : j + (n - j) ≡ n = omega arith in
    ap (λ m. drop j (take m s)) (sym e) ∙ ap (drop j) (take-add j (n - j) s) ∙ drop_at (take j s) _ j (length-take-le j s k)

module _ (s t : List ℕ) (o : Outside s t) (hs : Layout.settings_length ≤ length s) (ht : Layout.settings_length ≤ length t) where
  pub outside-lent : (l : Loan) → enough_part Layout.settings_length l ≡ true
      → Outside (lent_part Layout.settings_length l s) (lent_part Layout.settings_length l t)
  unfolding lent_part enough_part
  outside-lent (first n) e =
      let h = leb-true Layout.settings_length n e in
      let k = record-last in
      record {
        ahead = take-take record_begin n s (omega arith) ∙ o.ahead ∙ sym (take-take record_begin n t (omega arith));
        behind =
            drop-take record_end n s (omega arith) (omega arith) ∙ ap (take (n - record_end)) o.behind
            ∙ sym (drop-take record_end n t (omega arith) (omega arith));
      }
  outside-lent (within at n) e = absurd (false≢true e)

  -- it came back as x and as y
  pub outside-back : (x y : List ℕ) → Outside x y → Layout.settings_length ≤ length x → Layout.settings_length ≤ length y → (l : Loan)
      → enough_part Layout.settings_length l ≡ true
      → Outside (back_part Layout.settings_length l s x) (back_part Layout.settings_length l t y)
  unfolding back_part enough_part
  outside-back x y u hx hy (first n) e =
      let h = leb-true Layout.settings_length n e in
      let k = record-last in
      let m : record_end + (n - record_end) ≡ n = omega arith in
      let rest : drop n s ≡ drop n t =
      ap (λ i. drop i s) (sym m) ∙ sym (drop-drop (n - record_end) record_end s) ∙ ap (drop (n - record_end)) o.behind
      ∙ drop-drop (n - record_end) record_end t ∙ ap (λ i. drop i t) m in
      record {
        ahead =
            take-append-le record_begin x _ (omega arith) ∙ u.ahead ∙ sym (take-append-le record_begin y _ (omega arith));
        behind =
            drop-append-le record_end x _ (omega arith) ∙ rw (u.behind, rest) refl ∙ sym (drop-append-le record_end y _ (omega arith));
      }
  outside-back x y u hx hy (within at n) e = absurd (false≢true e)

-- ---- a value that is stored

-- stores that are the same outside the record, and results
pub record SameStored (j k : Receive.KeyStored) : Type 0 where
  pub result : j.result ≡ k.result
  pub outside : Outside j.settings k.settings

same_kept : (n : ℕ) {s t : List ℕ} → Outside s t → SameStored (Receive.key_stored n s) (Receive.key_stored n t)
same_kept n o = record { result = refl; outside = o }

module _ (s t v : List ℕ) (o : Outside s t) (hs : Layout.settings_length ≤ length s) (ht : Layout.settings_length ≤ length t) where
  value_same : (at longest cleared : ℕ) → at + (Layout.setting_value_offset + longest) ≤ record_begin → cleared ≤ longest
      → length v ≤ longest → Layout.setting_edition s at ≡ Layout.setting_edition t at
      → Outside (Receive.with_value s at cleared v) (Receive.with_value t at cleared v)
  unfolding Receive.with_value
  value_same at longest cleared room most short e =
      let n = suc (Layout.setting_edition t at) in
      let k = record-last in
      let z = length-zeros cleared in
      let here = at + Layout.setting_value_offset in
      let a = length-overlay here (zeros cleared) s (omega arith) in
      let b = length-overlay here (zeros cleared) t (omega arith) in
      let w = outside-put here (zeros cleared) s t o (omega arith) (omega arith) (omega arith) in
      rw e (outside-put at (Layout.setting_bytes n v) _ _ w (omega arith) (omega arith) (omega (arith, length-setting n v)))

  -- a key's setting that lies ahead of the record
  ahead-stored : (key : ℕ) → SettingsKey key
      → Layout.setting_offset key + (Layout.setting_value_offset + Limits.longest_setting key) ≤ record_begin
      → let at = Layout.setting_offset key in
      let shortest = Limits.shortest_setting key in
      let longest = Limits.longest_setting key in
      SameStored (Receive.store_bytes_at s at shortest longest (Receive.cleared_for key) v)
      (Receive.store_bytes_at t at shortest longest (Receive.cleared_for key) v)
  unfolding Receive.store_bytes_at
  ahead-stored key h room =
      let at = Layout.setting_offset key in
      let e = number_same (same_first record_begin t s o.ahead) 4 (at + Layout.setting_edition_offset) (omega arith, omega arith) in
      rw e
      (cond_both SameStored (Requests.wrong_value_length key (length v)) (λ _. same_kept 3 o) (λ f.
      cond_both SameStored (eqb (Layout.setting_edition t at) Limits.last_edition) (λ _. same_kept 4 o) (λ g.
      let short = (length-right (Limits.shortest_setting key) (Limits.longest_setting key) (length v) f).1 in
      same_kept 0 (value_same at (Limits.longest_setting key) (Receive.cleared_for key) room (cleared-most key) short e))))

  pub other-stored : (key : ℕ) → (key ≡ Limits.passphrase_key → ⊥)
      → SameStored (Receive.store_bytes s key v) (Receive.store_bytes t key v)
  unfolding Receive.store_bytes
  other-stored key n =
      cond_both SameStored (ltb Limits.highest_key key) (λ _. same_kept 1 o) (λ f.
      cond_both SameStored (ltb key Limits.first_setting) (λ _. same_kept 2 o) (λ g.
      let h : SettingsKey key = record { lower = ltb-false key Limits.first_setting g; upper = ltb-false Limits.highest_key key f } in
      by h (setting-lies key Limits.passphrase_key h (record { lower = omega arith; upper = omega arith }))))
    where
      by : (h : SettingsKey key) → Lies key Limits.passphrase_key
          → let at = Layout.setting_offset key in
          let shortest = Limits.shortest_setting key in
          let longest = Limits.longest_setting key in
          SameStored (Receive.store_bytes_at s at shortest longest (Receive.cleared_for key) v)
          (Receive.store_bytes_at t at shortest longest (Receive.cleared_for key) v)
      by h (inl l) = ahead-stored key h l
      by h (inr (inl e)) = absurd (n e)
      by h (inr (inr l)) = let k = record-last in absurd (omega (arith, offset-within key h))

-- ---- the passphrase

zeros-run : (n k : ℕ) → run n k (zeros (n + k)) ≡ zeros k
zeros-run n k =
    rw (← zeros-add n k, drop_at (zeros n) (zeros k) n (length-zeros n))
    (ap (λ i. take i (zeros k)) (sym (length-zeros k)) ∙ take-length (zeros k))

module _ (s v : List ℕ) (at longest cleared : ℕ) (room : at + (Layout.setting_value_offset + longest) ≤ length s)
    (short : length v ≤ longest) (most : cleared ≤ longest) where
  abbrev wiped : List ℕ
  wiped = overlay (at + Layout.setting_value_offset) (zeros cleared) s

  wiped-long : length wiped ≡ length s
  wiped-long = length-overlay (at + Layout.setting_value_offset) (zeros cleared) s (omega (arith, length-zeros cleared))

  value-ahead : take at (Receive.with_value s at cleared v) ≡ take at s
  unfolding Receive.with_value
  value-ahead =
      overlay-take at at (Layout.setting_bytes _ v) wiped (omega arith) (omega (arith, wiped-long))
      ∙ overlay-take (at + Layout.setting_value_offset) at (zeros cleared) s (omega arith) (omega arith)

  abbrev end : ℕ
  end = at + (Layout.setting_value_offset + longest)

  value-beyond : drop end (Receive.with_value s at cleared v) ≡ drop end s
  unfolding Receive.with_value
  value-beyond =
      let n = suc (Layout.setting_edition s at) in
      overlay-drop at end (Layout.setting_bytes n v) wiped (omega (arith, wiped-long)) (omega (arith, length-setting n v))
      ∙ overlay-drop (at + Layout.setting_value_offset) end (zeros cleared) s (omega arith) (omega (arith, length-zeros cleared))

  -- one edition on
  value-edition : Layout.setting_edition (Receive.with_value s at cleared v) at ≡ number (bytes 4 (suc (Layout.setting_edition s at)))
  unfolding Receive.with_value bytes
  value-edition =
      let n = suc (Layout.setting_edition s at) in
      ap number (overlay-part at Layout.setting_edition_offset 4 (Layout.setting_bytes n v) wiped (omega (arith, wiped-long))
      (omega (arith, length-setting n v)))

  -- where all of its place is wiped first, the value stands in it with zeros behind
  module _ (e : cleared ≡ longest) where
    abbrev here : ℕ
    here = at + Layout.setting_value_offset

    abbrev rest : ℕ
    rest = longest - length v

    zeros-behind : run (here + length v) rest (Receive.with_value s at cleared v) ≡ zeros rest
    unfolding Receive.with_value
    zeros-behind =
        let n = suc (Layout.setting_edition s at) in
        let all : cleared ≡ length v + rest = omega arith in
        let l = length-zeros cleared in
        overlay-after at (here + length v) rest (Layout.setting_bytes n v) wiped (omega (arith, wiped-long))
        (omega (arith, length-setting n v))
        ∙ overlay-part here (length v) rest (zeros cleared) s (omega arith) (omega arith)
        ∙ ap (λ i. run (length v) rest (zeros i)) all ∙ zeros-run (length v) rest

    value-placed : run here longest (Receive.with_value s at cleared v) ≡ v ++ zeros rest
    value-placed =
        let stored = Receive.with_value s at cleared v in
        let whole : longest ≡ length v + rest = omega arith in
        ap (λ i. run here i stored) whole ∙ run-add here (length v) rest stored
        ∙ rw (setting-value s v at longest cleared room short most, zeros-behind)

abbrev pub wrong_length : List ℕ → Bool
wrong_length v = Requests.wrong_value_length Limits.passphrase_key (length v)

abbrev pub at_last : List ℕ → Bool
at_last s = eqb (Layout.setting_edition s record_begin) Limits.last_edition

-- values of their own, both of allowed length or neither; where they are, both editions are the last or neither
pub passphrase-stored : (s t v w : List ℕ) → Layout.settings_length ≤ length s → Layout.settings_length ≤ length t → Outside s t
    → wrong_length v ≡ wrong_length w
    → (wrong_length w ≡ false → at_last s ≡ at_last t)
    → SameStored (Receive.store_bytes s Limits.passphrase_key v) (Receive.store_bytes t Limits.passphrase_key w)
unfolding Receive.store_bytes Receive.store_bytes_at
passphrase-stored s t v w hs ht o e low =
    rw e
    (cond_both SameStored (wrong_length w) (λ _. same_kept 3 o) (λ f.
    let k = record-last in
    let c = cleared-most Limits.passphrase_key in
    let n = Receive.cleared_for Limits.passphrase_key in
    let most = Limits.longest_setting Limits.passphrase_key in
    let nv = (length-right (Limits.shortest_setting Limits.passphrase_key) most (length v) (e ∙ f)).1 in
    let nw = (length-right (Limits.shortest_setting Limits.passphrase_key) most (length w) f).1 in
    rw (low f)
    (cond_both SameStored (at_last t) (λ _. same_kept 4 o) (λ _. same_kept 0
    (record {
      ahead =
          value-ahead s v record_begin most n (omega arith) nv c ∙ o.ahead
          ∙ sym (value-ahead t w record_begin most n (omega arith) nw c);
      behind =
          value-beyond s v record_begin most n (omega arith) nv c ∙ o.behind
          ∙ sym (value-beyond t w record_begin most n (omega arith) nw c);
    })))))

-- the edition behind it, by the one before
abbrev once_more : ℕ → ℕ
once_more n = cond (eqb n Limits.last_edition) n (number (bytes 4 (suc n)))

stored-edition : (s v : List ℕ) → Layout.settings_length ≤ length s → let n = Layout.setting_edition s record_begin in
    Layout.setting_edition (Receive.store_bytes s Limits.passphrase_key v).settings record_begin ≡ cond (wrong_length v) n (once_more n)
unfolding Receive.store_bytes Receive.store_bytes_at
stored-edition s v h =
    let P : Receive.KeyStored → ℕ → Type 0 = λ j n. Layout.setting_edition j.settings record_begin ≡ n in
    cond_both P (wrong_length v) (λ _. refl) (λ f.
    cond_both P (at_last s) (λ _. refl) (λ _.
    let k = record-last in
    let most = Limits.longest_setting Limits.passphrase_key in
    value-edition s v record_begin most (Receive.cleared_for Limits.passphrase_key) (omega arith)
    (length-right (Limits.shortest_setting Limits.passphrase_key) most (length v) f).1 (cleared-most Limits.passphrase_key)))

-- equal editions stay equal
pub passphrase-editions : (s t v w : List ℕ) → Layout.settings_length ≤ length s → Layout.settings_length ≤ length t
    → wrong_length v ≡ wrong_length w → Layout.setting_edition s record_begin ≡ Layout.setting_edition t record_begin
    → Layout.setting_edition (Receive.store_bytes s Limits.passphrase_key v).settings record_begin
    ≡ Layout.setting_edition (Receive.store_bytes t Limits.passphrase_key w).settings record_begin
passphrase-editions s t v w hs ht e d =
    let n = Layout.setting_edition s record_begin in
    stored-edition s v hs ∙ ap (λ (b : Bool). cond b n (once_more n)) e
    ∙ ap (λ (k : ℕ). cond (wrong_length w) k (once_more k)) d ∙ sym (stored-edition t w ht)

-- what a stored passphrase leaves in its place, all of which is wiped
all-cleared : Receive.cleared_for Limits.passphrase_key ≡ Limits.longest_setting Limits.passphrase_key
unfolding Receive.cleared_for
all-cleared = refl

pub passphrase-placed : (s v : List ℕ) → Layout.settings_length ≤ length s → wrong_length v ≡ false
    → Layout.setting_edition s record_begin < Limits.last_edition
    → let n = Limits.longest_setting Limits.passphrase_key in
    run (record_begin + Layout.setting_value_offset) n (Receive.store_bytes s Limits.passphrase_key v).settings ≡ v ++ zeros (n - length v)
unfolding Receive.store_bytes Receive.store_bytes_at
passphrase-placed s v h e low =
    let k = record-last in
    let n = Limits.longest_setting Limits.passphrase_key in
    rw (e, ne_eqb (Layout.setting_edition s record_begin) Limits.last_edition (λ f. omega (arith, f)))
    (value-placed s v record_begin n (Receive.cleared_for Limits.passphrase_key) (omega arith)
    (length-right (Limits.shortest_setting Limits.passphrase_key) n (length v) e).1 (cleared-most Limits.passphrase_key) all-cleared)

-- ---- an image that is restored

-- a saved setting lies ahead of the record
saved-ahead : (key : ℕ) → SettingsKey key → key ≤ Saving.highest_saved
    → Layout.setting_offset key + (Layout.setting_value_offset + Limits.longest_setting key) ≤ record_begin
saved-ahead key h l = by (setting-lies key Limits.passphrase_key h (record { lower = omega arith; upper = omega arith }))
  where
    by : Lies key Limits.passphrase_key
        → Layout.setting_offset key + (Layout.setting_value_offset + Limits.longest_setting key) ≤ record_begin
    by (inl a) = a
    by (inr (inl e)) = absurd (omega (arith, e))
    by (inr (inr b)) = let k = record-last in absurd (omega (arith, offset-within key h))

cleared-outside : (n : ℕ) (s t : List ℕ) → SettingsValid s → SettingsValid t → Outside s t → n ≤ Saving.saved_count
    → Outside (SavingCalls.cleared n s) (SavingCalls.cleared n t)
unfolding SavingCalls.cleared
cleared-outside zero s t v w o h = o
cleared-outside (suc n) s t v w o h =
    let key = Limits.first_setting + n in
    let k = record-last in
    let a = saved-ahead key (record { lower = omega arith; upper = omega arith }) (omega arith) in
    let cs = (cleared-valid s v n (omega arith)).0.long in
    let ct = (cleared-valid t w n (omega arith)).0.long in
    outside-put (Layout.setting_offset key) (replicate Layout.setting_value_offset 0) _ _ (cleared-outside n s t v w o (omega arith))
    (omega (arith, offset-within key (record { lower = omega arith; upper = omega arith })))
    (omega (arith, offset-within key (record { lower = omega arith; upper = omega arith })))
    (omega (arith, length-zeros Layout.setting_value_offset))

entries-outside : (es : List Saving.SavedEntry) → Each Allowed es → (s t : List ℕ) → SettingsValid s → SettingsValid t → Outside s t
    → Outside (SavingCalls.put_entries es s) (SavingCalls.put_entries es t)
unfolding SavingCalls.put_entries
entries-outside [] a s t v w o = o
entries-outside (e ∷ es) a s t v w o =
    let k = a.0 in
    let l = saved-ahead e.key k.its_key k.saved in
    let b = offset-within e.key k.its_key in
    entries-outside es a.1 _ _ (entry-valid e k s v) (entry-valid e k t w)
    (outside-put (Layout.setting_offset e.key) (Layout.setting_bytes e.edition e.value) s t o (omega (arith, v.long))
    (omega (arith, w.long)) (omega (arith, length-setting e.edition e.value, k.short)))

pub restored-outside : (image s t : List ℕ) → valid_settings s ≡ true → valid_settings t ≡ true → Outside s t
    → Outside (SavingCalls.restore_promise s image).settings (SavingCalls.restore_promise t image).settings
unfolding SavingCalls.restore_promise SavingCalls.restore_outcome_by
restored-outside image s t v w o = rw (v, w) (by (Saving.read_image image) (entries-allowed image))
  where
    by : (r : Saving.ImageRead) → Each Allowed (SavingCalls.entries_in r)
        → Outside (SavingCalls.restore_outcome_by s r).settings (SavingCalls.restore_outcome_by t r).settings
    by (Saving.fault n at) a = o
    by (Saving.good es) a =
        let sv = settings-valid s v in
        let tv = settings-valid t w in
        let n = Saving.saved_count in
        entries-outside es a _ _ (cleared-valid s sv n (omega arith)).0 (cleared-valid t tv n (omega arith)).0
        (cleared-outside n s t sv tv o (omega arith))
