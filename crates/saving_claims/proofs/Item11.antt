-- Document 02's item 11: what was saved restores to the same settings, and an image is exactly what it restores.
-- Assumes nothing.
use mathlib.Core.Path.{◌≡◌, refl, sym, ap, ◌∙◌}
use mathlib.Core.List.{List, [], ◌∷◌, ◌++◌}
use mathlib.Core.Option.{Option, none, some}
use Prim.Native.Nat.{ℕ, suc, ◌+◌, ◌*◌, ◌≤◌, ◌<◌}
use native.Mathlib.Omega.{arith}
use lib.ListN.{length, take, drop, take-append-drop, length-drop}
use lib.Seq.{take_at, take_all, length-take-le}
use borrow.Author.Tests.{le-ltb, le-leb, lt-leb}
use Rattle.octets.specs.Bytes.{Byte, Each, number, equal}
use Rattle.supervisor.specs.Limits.{first_setting}
use Rattle.supervisor.specs.State.{Settings}
use Rattle.saving.specs.Saving.{highest_saved, saved_count, record_for, image_from, saved, ImageRead, fault, good, ahead_of_read}
use Rattle.saving.specs.Saving.{bad, ended, saved_entry_at, read_image_in, image_step, follows, read_image_from, read_image}
use Rattle.saving.proofs.StepLaws.{Passed, passed, Sound, step-sound}
use Rattle.saving.proofs.ReadLaws.{read_at, reading-by}
use Rattle.saving_claims.proofs.RecordLaws.{end_read, record-read, entry_read, rest-here, record-exact}
use Rattle.saving_claims.specs.Item11.{SavableBy, Savable, ahead_of, entries_of, records, SavedRead, SettingsRestored}
use Rattle.saving_claims.specs.Item11.{SavedRestoresInto, ImageExact, ImageOne, SavedOmits, OtherKey31}
use Rattle.saving_claims.proofs.EntryLaws.{settings_in, restored-split, settings_kept, Rising, written, rising-first, length-settings}
use Rattle.saving_claims.proofs.EntryLaws.{settings-written}

-- ---- what is saved, and a key that is not

pub saved_omits : SavedOmits
unfolding saved
saved_omits xs ys e = rw e

key_step : (k : ℕ) (rest : List ℕ) → 5 < k → image_step (0x4b ∷ 0x56 ∷ k ∷ rest) 0 0 ≡ bad 31 2
unfolding image_step follows equal number
key_step k rest l =
    let n = length (0x4b ∷ 0x56 ∷ k ∷ rest) in
    let e : k + 0 * 256 ≡ k = omega arith in
    rw (le-ltb n 2 (omega arith), le-ltb n 3 (omega arith), e, le-leb first_setting k (omega arith), lt-leb k highest_saved l)

pub other_key_31 : OtherKey31
unfolding read_image read_image_from read_image_in
other_key_31 k rest h l = rw (key_step k rest l)

-- ---- what was saved restores

module _ (image : List ℕ) where
  record-first : (xs : Settings) (key before at edition : ℕ) (o : Option (List ℕ)) → before < key → first_setting ≤ key
      → key ≤ highest_saved → SavableBy key edition o
      → drop at image ≡ record_for key (record { edition = edition; value = o }) ++ image_from (suc key) xs
      → ((before at : ℕ) → before < suc key → drop at image ≡ image_from (suc key) xs
      → read_image_from image before at ≡ good (entries_of (suc key) xs))
      → read_image_from image before at ≡ good (ahead_of key edition o (entries_of (suc key) xs))
  record-first xs key before at edition none h lower upper s e rest = rest before at (omega arith) e
  record-first xs key before at edition (some v) h lower upper s e rest =
      let behind = image_from (suc key) xs in
      read_at image before at (record-read image at key edition v behind e lower upper s.0 s.1 before h)
      ∙ rw (
        rest key (at + (11 + length v)) (omega arith) (rest-here image at key edition v behind e lower upper s.0 s.1),
        entry_read image at key edition v behind e lower upper s.0 s.1,
      )

  -- from a key on
  saved-read-from : (xs : Settings) (key before at : ℕ) → before < key → first_setting ≤ key → key + length xs ≤ suc highest_saved
      → Savable key xs → drop at image ≡ image_from key xs → read_image_from image before at ≡ good (entries_of key xs)
  unfolding image_from entries_of
  saved-read-from [] key before at h lower upper s e = read_at image before at (end_read image before at e)
  saved-read-from (x ∷ xs) key before at h lower upper s e =
      record-first xs key before at x.edition x.value h lower (omega arith) s.0 e
      (λ before at h e. saved-read-from xs (suc key) before at h (omega arith) (omega arith) s.1 e)

module _ (xs : Settings) (long : saved_count ≤ length xs) (savable : Savable first_setting (take saved_count xs)) where
  pub saved_read : SavedRead xs
  unfolding read_image saved
  saved_read =
      let l = length-take-le saved_count xs long in
      saved-read-from (saved xs) (take saved_count xs) first_setting 0 0 (omega arith) (omega arith) (omega arith) savable refl

  pub saved_restores_into : SavedRestoresInto xs
  saved_restores_into ys h =
      let l = length-take-le saved_count xs long in
      restored-split (records xs) ys h
      ∙ ap (λ (zs : Settings). zs ++ drop saved_count ys) (rw l at (settings_kept (take saved_count xs) first_setting savable))

  pub saved_restores : SettingsRestored xs
  saved_restores = saved_restores_into xs long ∙ take-append-drop saved_count xs

-- ---- an image is the saved form of what it restores

module _ (image : List ℕ) (byte : Each Byte image) where
  -- the bytes from an offset on are those of the records read there, whose keys rise
  abbrev Exact : ℕ → ℕ → ImageRead → Type 0
  Exact before at (fault n there) = Unit {0}
  Exact before at (good es) = (drop at image ≡ written es) × Rising (suc before) es

  exact-more : (before at key there : ℕ) (r : ImageRead) → Passed image before at key there → Exact key there r
      → Exact before at (ahead_of_read (saved_entry_at image at) r)
  unfolding written
  exact-more before at key there (fault n offset) p h = tt
  exact-more before at key there (good es) p h =
      (record-exact image byte p ∙ rw h.0, (p.above, p.whole.lower, p.whole.upper, rw p.its_key at h.1))

  exact-end : (before at : ℕ) → Sound image before at ended → Exact before at (good [])
  unfolding written
  exact-end before at s =
      let l = length-drop at image in
      (sym (take_all 2 (drop at image) (omega (arith, s.1))) ∙ s.0, tt)

  pub read-exact : Exact 0 0 (read_image image)
  unfolding read_image
  read-exact =
      reading-by image Exact (λ before at n there e. tt) (λ before at e. exact-end before at (rw e at (step-sound image before at)))
      (λ before at key there r e h. exact-more before at key there r (passed image before at e) h) 0 0

pub image_exact : ImageExact
unfolding saved
image_exact image byte es e ys long =
    let x = rw e at (read-exact image byte) in
    x.0
    ∙ sym (rw (
      restored-split es ys long,
      take_at (settings_in saved_count first_setting es) (drop saved_count ys) saved_count (length-settings saved_count first_setting es),
    )
    (settings-written saved_count first_setting es (rising-first 1 es x.1) refl))

pub image_one : ImageOne
image_one i j b d es fs e f ys h s = image_exact i b es e ys h ∙ ap saved s ∙ sym (image_exact j d fs f ys h)
