-- What stands at an offset of an image, by each test that it passes or fails.
-- Assumes nothing.
use mathlib.Core.Path.{◌≡◌, refl, sym, ◌∙◌}
use mathlib.Core.Bool.{Bool, true, false, not, ◌&&◌, and-eq-true_iff}
use mathlib.Core.List.{List, [], ◌∷◌}
use Prim.Native.Nat.{ℕ, ◌+◌, ◌≤◌, ◌<◌}
use native.Mathlib.Omega.{arith}
use lib.Dec.{leb, ltb, eqb}
use lib.ListN.{length}
use borrow.Author.Tests.{not-false, ltb-true, ltb-false, leb-true, eqb-true, le-ltb, le-leb, eq-eqb}
use Rattle.octets.specs.Bytes.{run, number_at, same_run}
use Rattle.octets.proofs.Conditions.{cond-by}
use Rattle.octets.proofs.Equal.{equal-true}
use Rattle.line.specs.Checksum.{checksum}
use Rattle.supervisor.specs.Limits.{first_setting, longest_setting}
use Rattle.saving.specs.Saving.{highest_saved, record_mark, end_mark, ImageStep, bad, ended, to, complete, marked}
use Rattle.saving.specs.Saving.{saved_key_at, saved_length_at, saved_body_at, saved_checksum_at, follows, record_step, image_step}
use Rattle.saving.specs.Calls.{WholeRecord}

-- a mark's two bytes are compared
pub mark-same : (image : List ℕ) (at a b : ℕ) → at + 2 ≤ length image → same_run image at (a ∷ b ∷ []) 0 2 ≡ marked (a ∷ b ∷ []) image at
unfolding same_run
mark-same image at a b h = rw (le-leb (at + 2) (length image) h)

pub ruleset marks = (mark-same)

-- ---- keys

pub key-follows : (before key : ℕ) → follows before key ≡ true → (first_setting ≤ key) × (key ≤ highest_saved) × (before < key)
unfolding follows
key-follows before key e =
    let a = (and-eq-true_iff (leb first_setting key && leb key highest_saved) _).0 e in
    let b = (and-eq-true_iff (leb first_setting key) _).0 a.0 in
    (leb-true _ _ b.0, leb-true _ _ b.1, ltb-true _ _ a.1)

-- ---- a record behind its key

module _ (image : List ℕ) (at n key most : ℕ) (e : n ≡ saved_length_at image at) (k : key ≡ saved_key_at image at)
    (m : most ≡ longest_setting key) (head : at + 9 ≤ length image) (short : n ≤ most) (sum given : ℕ)
    (whole : at + (11 + n) ≤ length image) (s : sum ≡ checksum (run at (9 + n) image)) (g : given ≡ number_at 2 image (at + (9 + n))) where
  pub record-good : given ≡ sum → to key (at + (11 + n)) ≡ record_step image at
  unfolding record_step
  record-good h =
      rw (
        le-ltb (length image) (at + 7) (omega arith),
        le-ltb (length image) (at + 9) head,
        ← k,
        ← e,
        ← m,
        ← s,
        ← g,
        le-ltb most n short,
        le-ltb (length image) (at + (9 + n)) (omega arith),
        le-ltb (length image) (at + (11 + n)) whole,
        eq-eqb given sum h,
      )

-- ---- the end, or a record

module _ (image : List ℕ) (before at : ℕ) {b : Bool} (two : at + 2 ≤ length image) (e : b ≡ same_run image at end_mark 0 2) where
  is-end : {t : Bool} → b ≡ t → marked end_mark image at ≡ t
  is-end h = sym (e ∙ mark-same image at 0x4b 0x45 two) ∙ h

  pub end-good : b ≡ true → length image ≤ at + 2 → ended ≡ image_step image before at
  unfolding image_step
  end-good h l = rw (le-ltb (length image) (at + 2) two, is-end h, le-ltb (at + 2) (length image) l)

  module _ {r : Bool} (more : b ≡ false) (f : r ≡ same_run image at record_mark 0 2) (mark : not r ≡ false) {t : Bool} {key : ℕ}
      (three : at + 3 ≤ length image) (k : key ≡ saved_key_at image at) (g : t ≡ follows before key) where
    is-record : marked record_mark image at ≡ r
    is-record = sym (f ∙ mark-same image at 0x4b 0x56 two)

    pub key-good : not t ≡ false → record_step image at ≡ image_step image before at
    unfolding image_step
    key-good h =
        rw (
          le-ltb (length image) (at + 2) two,
          is-end more,
          is-record,
          not-false r mark,
          le-ltb (length image) (at + 3) three,
          ← k,
          ← g,
          not-false t h,
        )

-- ---- what each answer says of the bytes

-- a record, its key and the offset behind it
pub record Passed (image : List ℕ) (before at key there : ℕ) : Type 0 where
  pub mark : run at 2 image ≡ record_mark
  pub whole : WholeRecord image at
  pub above : before < saved_key_at image at
  pub sum : saved_checksum_at image at ≡ checksum (saved_body_at image at)
  pub its_key : key ≡ saved_key_at image at
  pub behind : there ≡ at + (11 + saved_length_at image at)

abbrev pub Sound : List ℕ → ℕ → ℕ → ImageStep → Type 0
Sound image before at (bad n there) = Unit {0}
Sound image before at ended = (run at 2 image ≡ end_mark) × (length image ≡ at + 2)
Sound image before at (to key there) = Passed image before at key there

module _ (image : List ℕ) (before at : ℕ) where
  abbrev P : ImageStep → Type 0
  P = Sound image before at

  complete-sound : (past : ℕ) (s : ImageStep) → (past ≤ length image → P s) → P (complete image past s)
  complete-sound past s f = cond-by P (ltb (length image) past) _ _ (λ _. tt) (λ e. f (ltb-false (length image) past e))

  record-sound : marked record_mark image at ≡ true → follows before (saved_key_at image at) ≡ true → P (record_step image at)
  unfolding record_step
  record-sound m f =
      let k = key-follows before (saved_key_at image at) f in
      complete-sound (at + 7) _ (λ _.
      complete-sound (at + 9) _ (λ _.
      cond-by P (ltb (longest_setting (saved_key_at image at)) (saved_length_at image at)) _ _ (λ _. tt) (λ short.
      complete-sound (at + (9 + saved_length_at image at)) _ (λ _.
      complete-sound (at + (11 + saved_length_at image at)) _ (λ whole.
      cond-by P (eqb (saved_checksum_at image at) (checksum (saved_body_at image at))) _ _
      (λ sum. record {
        mark = equal-true _ _ m;
        whole = record { lower = k.0; upper = k.1; short = ltb-false _ _ short; complete = whole };
        above = k.2;
        sum = eqb-true _ _ sum;
        its_key = refl;
        behind = refl;
      })
      (λ _. tt))))))

  pub step-sound : P (image_step image before at)
  unfolding image_step
  step-sound =
      complete-sound (at + 2) _ (λ two.
      cond-by P (marked end_mark image at) _ _
      (λ m.
      cond-by P (ltb (at + 2) (length image)) _ _ (λ _. tt)
      (λ e. (equal-true _ _ m, omega (arith, ltb-false (at + 2) (length image) e))))
      (λ _.
      cond-by P (marked record_mark image at) _ _
      (λ m. complete-sound (at + 3) _ (λ _. cond-by P (follows before (saved_key_at image at)) _ _ (λ f. record-sound m f) (λ _. tt)))
      (λ _. tt)))

  pub passed : {key there : ℕ} → image_step image before at ≡ to key there → Passed image before at key there
  passed e = rw e at step-sound
