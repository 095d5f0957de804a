-- Saving and restoring over any calls (document 02, item 11).
-- What was saved restores, and an accepted image is the saved form of what it leaves. Assumes nothing.
use mathlib.Core.Path.{◌≡◌, refl, sym, ap, subst, ◌∙◌}
use mathlib.Core.Bool.{Bool, true, false, cond, ◌||◌, false≢true}
use mathlib.Core.List.{List, [], ◌∷◌}
use mathlib.Core.Option.{Option, none, some}
use Prim.Native.Nat.{ℕ, suc, ◌+◌, ◌-◌, ◌^◌, ◌≤◌, ◌<◌}
use native.Mathlib.Nat.{add-zero}
use native.Mathlib.Omega.{arith}
use lib.Dec.{ltb, eqb}
use lib.ListN.{length, take, get_or, length-take}
use lib.Seq.{get_or-take}
use borrow.Author.Tests.{le-ltb, ltb-false, eqb-true, eqb-false}
use Rattle.octets.specs.Bytes.{Byte, Each}
use Rattle.octets.proofs.Conditions.{cond-by}
use Rattle.line.specs.Message.{Message}
use Rattle.supervisor.specs.Limits
use Rattle.supervisor.specs.Layout
use Rattle.supervisor.specs.State.{Setting, unset, Settings, setting, State, with_settings}
use Rattle.supervisor.specs.Calls.{Parts}
use Rattle.saving.specs.Saving
use Rattle.saving.specs.Saving.{SavedEntry, saved_count, read_image, saved}
use Rattle.saving.proofs.KeptLaws.{Allowed, entries-allowed}
use Rattle.saving_claims.specs.Item11.{Savable, entries_of}
use Rattle.saving_claims.proofs.Item11.{saved_read, saved_restores_into, image_exact}
use Rattle.responder.specs.Requests.{wrong_value_length}
use Rattle.supervisor_claims.specs.View.{setting_of, settings_of, view}
use Rattle.supervisor_claims.specs.Sound.{Bytes}
use Rattle.supervisor_claims.specs.LocalCalls
use Rattle.supervisor_claims.specs.Histories
use Rattle.supervisor_claims.specs.Histories.{Typed, Answer, Did, means, done, Lent, Made, enough, meant, meant_made, made, AllTyped}
use Rattle.supervisor_claims.specs.Histories.{reached, start_with}
use Rattle.supervisor_claims.specs.Histories.{locally}
use Rattle.supervisor_claims.specs.LastSet.{value_for, set_by, since_start, origin}
use Rattle.supervisor_claims.specs.Demand1.{Meets}
use Rattle.supervisor_claims.specs.Item11.{SavableKey, KeySavable, saved_image_of, SaveWrites, SavedRestores, AcceptedExact}
use Rattle.supervisor_claims.proofs.laws.ViewLaws.{length-listed}
use Rattle.supervisor_claims.proofs.laws.SavingLaws.{image-bytes}
use Rattle.supervisor_claims.proofs.calls.RowLaws.{WhereRefused}
use Rattle.supervisor_claims.proofs.claims.History.{history, one_call}
use Rattle.supervisor_claims.proofs.claims.LastSetLaws.{onto, onto-low, after_sets, since-keeps, read_low, since-low}
use Rattle.supervisor_claims.proofs.claims.WithdrawnKeys.{setting-then}

-- ---- a key without a value has edition 0, and any other a value that is not too long and an edition of 32 bits

-- a value that a request sets
value-short : (k : ℕ) (bs v : List ℕ) → value_for k bs ≡ some v → length v ≤ Limits.longest_setting k
unfolding value_for
value-short k [] v e = let z : ◌≡◌ {A = ℕ} 0 1 = cc in absurd (omega arith)
value-short k (key ∷ w) v e =
    cond-by P (eqb key k) _ _
    (λ _.
    cond-by P (wrong_value_length k (length w)) _ _ (λ _ g. absurd (unlike g))
    (λ f g. rw (same g) (ltb-false _ _ (second (ltb (length w) (Limits.shortest_setting k)) _ f))))
    (λ _ g. absurd (unlike g)) e
  where
    P : Option (List ℕ) → Type 0
    P o = o ≡ some v → length v ≤ Limits.longest_setting k

    unlike : none ≡ some v → ⊥
    unlike g = let z : ◌≡◌ {A = ℕ} 0 1 = cc in omega arith

    same : some w ≡ some v → v ≡ w
    same g = cc

    second : (a b : Bool) → (a || b) ≡ false → b ≡ false
    second true b g = absurd (false≢true (sym g))
    second false b g = g

set-short : (k : ℕ) (m : Message) (v : List ℕ) → set_by k m ≡ some v → length v ≤ Limits.longest_setting k
unfolding set_by
set-short k m v =
    cond-by (λ o. o ≡ some v → length v ≤ Limits.longest_setting k) (eqb m.command 0x10) _ _ (λ _ e. value-short k m.payload v e)
    (λ _ e. let z : ◌≡◌ {A = ℕ} 0 1 = cc in absurd (omega arith))

module _ (k : ℕ) where
  onto-savable : (x : Setting) → SavableKey k x → x.edition ≤ Limits.last_edition → (o : Option (List ℕ))
      → ((v : List ℕ) → o ≡ some v → length v ≤ Limits.longest_setting k) → SavableKey k (onto x o)
  onto-savable x h low none f = h
  onto-savable x h low (some v) f =
      cond-by (SavableKey k) (eqb x.edition Limits.last_edition) _ _ (λ _. h)
      (λ e. (f v refl, omega (arith, eqb-false x.edition Limits.last_edition e)))

  after-savable : (ms : List Message) (x : Setting) → SavableKey k x → x.edition ≤ Limits.last_edition → SavableKey k (after_sets k x ms)
  unfolding after_sets
  after-savable [] x h low = h
  after-savable (m ∷ ms) x h low =
      after-savable ms (onto x (set_by k m)) (onto-savable x h low (set_by k m) (set-short k m)) (onto-low x (set_by k m) low)

  in-savable : (es : List SavedEntry) → Each Allowed es → Each (λ (e : SavedEntry). e.edition < 256 ^ 4) es
      → SavableKey k (Saving.setting_in k es)
  unfolding Saving.setting_in
  in-savable [] a l = refl
  in-savable (e ∷ es) a l =
      cond-by (SavableKey k) (eqb e.key k) _ _ (λ f. (rw (← eqb-true e.key k f) a.0.short, l.0))
      (λ _. in-savable es a.1 l.1)

-- settings by their keys
savable-each : (key : ℕ) (xs : Settings) → ((i : ℕ) → i < length xs → SavableKey (key + i) (get_or xs i unset)) → Savable key xs
savable-each key [] f = tt
savable-each key (x ∷ xs) f = (
  rw add-zero at (f 0 (omega arith)),
  savable-each (suc key) xs (λ i l.
      let e : key + suc i ≡ suc key + i = omega arith in rw e at (f (suc i) (omega arith))),
)

long-enough : (q : Parts) → saved_count ≤ length (view q).settings
unfolding view settings_of
long-enough q =
    rw (length-listed (λ i. setting_of q.settings (Layout.setting_offset (Limits.first_setting + i))) Limits.setting_count) (omega arith)

-- ---- the claims: a start that is accepted, on any bytes, then any calls

module _ (p : Parts) (b : Bytes p) (l : Lent) (d : List ℕ) (typed : Typed (Histories.start d))
    (accepted : (made p (start_with l d)).answer ≡ done) (ms : List Made) (t : AllTyped ms) where
  abbrev settings_then : Settings
  settings_then = (view (reached p l d ms)).settings

  pub key_savable : KeySavable ms (reached p l d ms)
  key_savable k h =
      let x = origin k ms in
      let from =
      since-keeps k (SavableKey k) refl (λ image i es e. in-savable k es (rw e at (entries-allowed image)) (read_low image i es e)) ms t []
      since_start refl in
      rw (setting-then p b l d typed accepted ms t h) (after-savable k x.requests x.setting from (since-low k ms t))

  settings-long : length settings_then ≡ Limits.setting_count
  unfolding view settings_of
  settings-long = length-listed _ Limits.setting_count

  pub all-savable : Savable Limits.first_setting (take saved_count settings_then)
  all-savable =
      savable-each Limits.first_setting (take saved_count settings_then) (λ i h.
      let n = length-take saved_count settings_then in
      let low : i < saved_count = omega arith in
      let e : Limits.first_setting + i - Limits.first_setting ≡ i = omega arith in
      rw (get_or-take saved_count settings_then i unset low)
      (rw e at (key_savable (Limits.first_setting + i) (record { lower = omega arith; upper = omega arith }))))

  -- the image that is saved then, and its records
  abbrev image_then : List ℕ
  image_then = saved_image_of (reached p l d ms)

  abbrev records_then : List SavedEntry
  records_then = entries_of Limits.first_setting (take saved_count settings_then)

  pub image-read : read_image image_then ≡ Saving.good records_then
  image-read = saved_read settings_then (omega (arith, settings-long)) all-savable

  image_holds : Each Byte image_then
  unfolding view
  image_holds = image-bytes (reached p l d ms).settings (history p b l d typed accepted ms t).2.bytes.settings

  pub save_writes : SaveWrites ms (reached p l d ms)
  unfolding meant_made meant
  save_writes j room i e h =
      let hist = history p b l d typed accepted ms t in
      let meets = rw e at (one_call (reached p l d ms) (locally j (Histories.save room)) hist.2 i) in
      rw (meets.answer, meets.out, le-ltb (length room) (length image_then) h) (refl, refl)

  pub saved_restores : SavedRestores ms (reached p l d ms)
  unfolding meant_made meant Saving.restore
  saved_restores q sound j e =
      let meets = rw e at (one_call q (locally j (Histories.restore image_then)) sound image_holds) in
      let m = rw image-read at meets in (
        m.answer,
        m.leaves.0 ∙ ap (with_settings (view q))
            (saved_restores_into settings_then (omega (arith, settings-long)) all-savable (view q).settings (long-enough q)),
      )

pub accepted_exact : AcceptedExact
unfolding meant_made meant Saving.restore
accepted_exact q sound j image i h =
    by (enough (Histories.local (Histories.restore image)) j) (read_image image) refl
    (one_call q (locally j (Histories.restore image)) sound i)
  where
    after : Did
    after = made q (locally j (Histories.restore image))

    -- neither a refusal nor a fault is done
    undone : (a : Answer) → after.answer ≡ a → WhereRefused a (λ _. ⊥)
    undone a e = subst (λ x. WhereRefused x (λ _. ⊥)) (sym h ∙ e) tt

    by : (t : Bool) (r : Saving.ImageRead) → read_image image ≡ r
        → Meets q after
        (cond t (LocalCalls.restore_means (view q) (Saving.restore_read (view q) r)) (means (Histories.refused 12) [] (view q)))
        → image ≡ saved_image_of after.parts
    by false r e m = absurd (undone (Histories.refused 12) m.answer)
    by true (Saving.fault n at) e m = absurd (undone (Histories.faulty n at) m.answer)
    by true (Saving.good es) e m =
        image_exact image i es e (view q).settings (long-enough q) ∙ ap saved (sym (ap (λ (x : State). x.settings) m.leaves.0))
