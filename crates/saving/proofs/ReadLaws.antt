-- Reading an image goes on from offset to offset: the iterations are always enough.
-- Assumes nothing.
use mathlib.Core.Path.{◌≡◌, refl, sym, ap, ◌∙◌}
use mathlib.Core.Bool.{true, false, false≢true}
use mathlib.Core.List.{List, [], ◌∷◌}
use mathlib.Core.Option.{none}
use Prim.Native.Nat.{ℕ, zero, suc, ◌+◌, ◌-◌, ◌≤◌, ◌<◌}
use native.Mathlib.Omega.{arith}
use lib.ListN.{length}
use Rattle.octets.specs.Bytes.{Each, same_run}
use Rattle.octets.proofs.Equal.{same_run-true, same_run-equal}
use Rattle.supervisor.specs.Limits.{first_setting}
use Rattle.saving.specs.Saving.{highest_saved, saved_count, record_mark, end_mark, SavedEntry, ImageRead, fault, good, ahead_of_read}
use Rattle.saving.specs.Saving.{ImageStep, bad, ended, to}
use Rattle.saving.specs.Saving.{saved_entry_at, image_step, read_image_by, read_image_in, read_image_from, read_image}
use Rattle.saving.specs.Calls.{fault_in, entries_in}
use Rattle.saving.proofs.StepLaws.{Passed, Sound, step-sound, passed}

-- n iterations are enough for the records of keys above `before`
abbrev Enough : ℕ → ℕ → Type 0
Enough n before = (key : ℕ) → first_setting ≤ key → key ≤ highest_saved → before < key → highest_saved < key + n

count-enough : (before : ℕ) → Enough saved_count before
count-enough before key lower upper above = omega arith

module _ (image : List ℕ) where
  -- one iteration fewer is enough behind a record
  fewer : (n before at : ℕ) {key there : ℕ} → Enough (suc n) before → image_step image before at ≡ to key there → Enough n key
  fewer n before at h e =
      let p = passed image before at e in
      λ j lower upper above. omega (arith, h _ p.whole.lower p.whole.upper p.above, p.its_key)

  none_left : (before at : ℕ) {key there : ℕ} → Enough 0 before → image_step image before at ≡ to key there → ⊥
  none_left before at h e =
      let p = passed image before at e in
      omega (arith, h _ p.whole.lower p.whole.upper p.above, p.whole.upper)

  -- what is read depends on the rest only behind a record
  rest-same : (next other : ℕ → ℕ → ImageRead) (before at : ℕ)
      → ((key there : ℕ) → image_step image before at ≡ to key there → next key there ≡ other key there)
      → read_image_by next image at (image_step image before at) ≡ read_image_by other image at (image_step image before at)
  rest-same next other before at f = by (image_step image before at) f
    where
      by : (s : ImageStep) → ((key there : ℕ) → s ≡ to key there → next key there ≡ other key there)
          → read_image_by next image at s ≡ read_image_by other image at s
      by (bad n there) f = refl
      by ended f = refl
      by (to key there) f = ap (ahead_of_read (saved_entry_at image at)) (f key there refl)

  -- more iterations change nothing
  pub iterations-enough : (n m before at : ℕ) → Enough n before → Enough m before
      → read_image_in (suc n) image before at ≡ read_image_in (suc m) image before at
  unfolding read_image_in
  iterations-enough zero m before at h k =
      rest-same (read_image_in zero image) (read_image_in m image) before at (λ key there e. absurd (none_left before at h e))
  iterations-enough (suc n) zero before at h k =
      rest-same (read_image_in (suc n) image) (read_image_in zero image) before at (λ key there e. absurd (none_left before at k e))
  iterations-enough (suc n) (suc m) before at h k =
      rest-same (read_image_in (suc n) image) (read_image_in (suc m) image) before at
      (λ key there e. iterations-enough n m key there (fewer n before at h e) (fewer m before at k e))

  -- reading goes on by what stands at the offset
  pub read_at : (before at : ℕ) {s : ImageStep} → image_step image before at ≡ s
      → read_image_from image before at ≡ read_image_by (read_image_from image) image at s
  unfolding read_image_from read_image_in
  read_at before at e =
      rest-same (read_image_in saved_count image) (read_image_from image) before at
      (λ key there f.
      iterations-enough (highest_saved - first_setting) saved_count key there (fewer _ before at (count-enough before) f)
      (count-enough key))
      ∙ ap (read_image_by (read_image_from image) image at) e

-- ---- what holds of all that is read, by what stands at each offset

module _ (image : List ℕ) (P : ℕ → ℕ → ImageRead → Type 0)
    (at-bad : (before at n there : ℕ) → image_step image before at ≡ bad n there → P before at (fault n there))
    (at-end : (before at : ℕ) → image_step image before at ≡ ended → P before at (good []))
    (at-record : (before at key there : ℕ) (r : ImageRead) → image_step image before at ≡ to key there → P key there r
    → P before at (ahead_of_read (saved_entry_at image at) r)) where
  by-iterations : (n before at : ℕ) → Enough n before → P before at (read_image_in (suc n) image before at)
  unfolding read_image_in
  by-iterations zero before at h = by (image_step image before at) refl
    where
      by : (s : ImageStep) → image_step image before at ≡ s → P before at (read_image_by (read_image_in zero image) image at s)
      by (bad n there) e = at-bad before at n there e
      by ended e = at-end before at e
      by (to key there) e = absurd (none_left image before at h e)
  by-iterations (suc n) before at h = by (by-iterations n) (image_step image before at) refl
    where
      by : ((before at : ℕ) → Enough n before → P before at (read_image_in (suc n) image before at)) → (s : ImageStep)
          → image_step image before at ≡ s → P before at (read_image_by (read_image_in (suc n) image) image at s)
      by rest (bad n there) e = at-bad before at n there e
      by rest ended e = at-end before at e
      by rest (to key there) e = at-record before at key there _ e (rest key there (fewer image n before at h e))

  pub reading-by : (before at : ℕ) → P before at (read_image_from image before at)
  unfolding read_image_from
  reading-by before at = by-iterations saved_count before at (count-enough before)

-- of every record
pub entries-each : (image : List ℕ) (Q : SavedEntry → Type 0)
    → ((before at key there : ℕ) → Passed image before at key there → Q (saved_entry_at image at)) → Each Q (entries_in (read_image image))
unfolding read_image
entries-each image Q f =
    reading-by image (λ before at r. Each Q (entries_in r)) (λ before at n there e. tt) (λ before at e. tt)
    (λ before at key there r e h. more (saved_entry_at image at) r (f before at key there (passed image before at e)) h) 0 0
  where
    more : (e : SavedEntry) (r : ImageRead) → Q e → Each Q (entries_in r) → Each Q (entries_in (ahead_of_read e r))
    more e (fault n at) q h = tt
    more e (good es) q h = (q, h)

-- ---- reading on without a fault

pub fault-ahead : (e : SavedEntry) (r : ImageRead) → fault_in (ahead_of_read e r) ≡ fault_in r
fault-ahead e (fault n at) = refl
fault-ahead e (good es) = refl

pub entries-ahead : (e : SavedEntry) (r : ImageRead) → fault_in r ≡ none → entries_in (ahead_of_read e r) ≡ e ∷ entries_in r
entries-ahead e (fault n at) h = cc
entries-ahead e (good es) h = refl

module _ (image : List ℕ) (before at : ℕ) where
  -- the offset behind a record is greater and lies within the image
  pub further : {key there : ℕ} → image_step image before at ≡ to key there → (at < there) × (there ≤ length image)
  further e = let p = passed image before at e in omega (arith, p.behind, p.whole.complete)

  pub fault-behind : {key there : ℕ} → image_step image before at ≡ to key there
      → fault_in (read_image_from image before at) ≡ fault_in (read_image_from image key there)
  fault-behind {key} {there} e =
      ap fault_in (read_at image before at e) ∙ fault-ahead (saved_entry_at image at) (read_image_from image key there)

  module _ (no_fault : fault_in (read_image_from image before at) ≡ none) where
    no-bad : {n there : ℕ} → image_step image before at ≡ bad n there → ⊥
    no-bad e = let f = sym (ap fault_in (read_at image before at e)) ∙ no_fault in let z : ◌≡◌ {A = ℕ} 0 1 = cc in omega arith

    -- where no end mark stands, a record does
    pub record-here : same_run image at end_mark 0 2 ≡ false → (key : ℕ) × (there : ℕ) × (image_step image before at ≡ to key there)
    record-here h = by (image_step image before at) refl (step-sound image before at)
      where
        by : (s : ImageStep) → image_step image before at ≡ s → Sound image before at s
            → (key : ℕ) × (there : ℕ) × (image_step image before at ≡ to key there)
        by (bad n there) e p = absurd (no-bad e)
        by ended e p = absurd (false≢true (sym h ∙ same_run-equal image at end_mark 0 2 (omega (arith, p.1)) (omega arith) p.0))
        by (to key there) e p = (key, there, e)

    pub end-here : same_run image at end_mark 0 2 ≡ true → read_image_from image before at ≡ good []
    end-here h = by (image_step image before at) refl (step-sound image before at)
      where
        by : (s : ImageStep) → image_step image before at ≡ s → Sound image before at s → read_image_from image before at ≡ good []
        by (bad n there) e p = absurd (no-bad e)
        by ended e p = read_at image before at e
        by (to key there) e p =
            let m : end_mark ≡ record_mark = sym (same_run-true image at end_mark 0 2 h).2 ∙ p.mark in
            let z : ◌≡◌ {A = ℕ} 0x45 0x56 = cc in
            absurd (omega arith)
