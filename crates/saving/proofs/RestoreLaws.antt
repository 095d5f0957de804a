-- Restoring the bytes of the settings: clearing, and the records at their offsets.
-- Assumes nothing.
use mathlib.Core.Path.{◌≡◌, refl, sym, ap, ◌∙◌}
use mathlib.Core.Bool.{true, false}
use mathlib.Core.List.{List}
use mathlib.Core.Option.{none, some}
use Prim.Native.Nat.{ℕ, suc, ◌+◌, ◌-◌, ◌≤◌, ◌<◌}
use native.Mathlib.Omega.{arith}
use lib.ListN.{length}
use Rattle.octets.specs.Bytes.{bytes, overlay, same_run}
use Rattle.supervisor.specs.Limits.{first_setting, SettingsKey}
use Rattle.supervisor.specs.Layout.{setting_offset, setting_value_offset, settings_length}
use Rattle.supervisor.proofs.OffsetLaws.{offset-within}
use Rattle.saving.specs.Saving.{highest_saved, saved_count, end_mark, ImageRead, fault, good, to, image_step, saved_length_at}
use Rattle.saving.specs.Saving.{saved_entry_at, read_image_from, read_image}
use Rattle.saving.specs.Calls.{setting_head, RestoreOutcome, done, faulty, cleared, put_entry, put_entries, restore_outcome_by, fault_in}
use Rattle.saving.specs.Calls.{entries_in, WholeRecord}
use Rattle.saving.proofs.StepLaws.{passed}
use Rattle.saving.proofs.ReadLaws.{read_at, entries-ahead, further, fault-behind, record-here, end-here}

-- ---- clearing

pub saved-key : (i : ℕ) → i < saved_count → SettingsKey (first_setting + i)
saved-key i h = record { lower = omega arith; upper = omega arith }

pub head-room : (key : ℕ) → first_setting ≤ key → key ≤ highest_saved → setting_offset key + setting_value_offset ≤ settings_length
head-room key l h = omega (arith, offset-within key (record { lower = l; upper = omega arith }))

pub cleared_more : (key : ℕ) (s : List ℕ) {t u : List ℕ} {at : ℕ} → first_setting ≤ key → t ≡ cleared (key - first_setting) s
    → at ≡ setting_offset key → u ≡ overlay at (setting_head 0 0 0) t → u ≡ cleared (key + 1 - first_setting) s
unfolding cleared bytes
cleared_more key s l e f g =
    let p : key + 1 - first_setting ≡ suc (key - first_setting) = omega arith in
    let q : first_setting + (key - first_setting) ≡ key = omega arith in
    rw (p, q, g, f, e)

-- ---- the records at their offsets

-- what is left to do from an offset on, so that the settings come to be `whole`
pub record Left (image s : List ℕ) (at : ℕ) (whole : List ℕ) : Type 0 where
  pub before : ℕ
  pub within : at ≤ length image
  pub no_fault : fault_in (read_image_from image before at) ≡ none
  pub rest : put_entries (entries_in (read_image_from image before at)) s ≡ whole

pub all_left : (image s : List ℕ) → fault_in (read_image image) ≡ none → Left image s 0 (put_entries (entries_in (read_image image)) s)
unfolding read_image
all_left image s h = record { before = 0; within = omega arith; no_fault = h; rest = refl }

module _ (image s : List ℕ) (at : ℕ) (whole : List ℕ) (l : Left image s at whole) where
  pub here : same_run image at end_mark 0 2 ≡ false → (key : ℕ) × (there : ℕ) × (image_step image l.before at ≡ to key there)
  here h = record-here image l.before at l.no_fault h

  pub whole_here : same_run image at end_mark 0 2 ≡ false → WholeRecord image at
  whole_here h = let p = here h in (passed image l.before at p.2).whole

  pub on-left : same_run image at end_mark 0 2 ≡ false → {t : List ℕ} {there : ℕ} → t ≡ put_entry (saved_entry_at image at) s
      → there ≡ at + (11 + saved_length_at image at) → Left image t there whole
  unfolding put_entries
  on-left h e f =
      let p = here h in
      let d = passed image l.before at p.2 in
      let i : _ ≡ p.1 = f ∙ sym d.behind in
      let g = further image l.before at p.2 in
      let n : fault_in (read_image_from image p.0 p.1) ≡ none = sym (fault-behind image l.before at p.2) ∙ l.no_fault in
      record {
        before = p.0;
        within = rw i g.1;
        no_fault = rw i n;
        rest =
            rw (i, e) (rw (read_at image l.before at p.2, entries-ahead (saved_entry_at image at) (read_image_from image p.0 p.1) n)
            at l.rest);
      }

  pub none_left : same_run image at end_mark 0 2 ≡ true → s ≡ whole
  unfolding put_entries
  none_left h = rw (end-here image l.before at l.no_fault h) at l.rest

-- ---- both, by what reading found

pub restored-good : (s : List ℕ) (r : ImageRead) {t u : List ℕ} → fault_in r ≡ none → t ≡ cleared saved_count s
    → u ≡ put_entries (entries_in r) t → record { report = done; settings = u } ≡ restore_outcome_by s r
unfolding restore_outcome_by
restored-good s (fault n at) h e f = cc
restored-good s (good es) h e f = rw (f, e)

pub restored-not : (s : List ℕ) (r : ImageRead) {n at : ℕ} → some (n, at) ≡ fault_in r
    → record { report = faulty n at; settings = s } ≡ restore_outcome_by s r
unfolding restore_outcome_by
restored-not s (fault m there) {n} {at} h =
    let e : ◌≡◌ {A = ℕ × ℕ} (n, at) (m, there) = cc in
    ap {B = RestoreOutcome} (λ (x : ℕ × ℕ). record { report = faulty x.0 x.1; settings = s }) e
restored-not s (good es) h = cc
