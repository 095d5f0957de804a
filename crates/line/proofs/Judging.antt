-- Laws of the tests on a frame's bytes, and of what they leave in the reader's state.
-- Assumes nothing.
use mathlib.Core.Path.{◌≡◌, sym, ap, ◌∙◌}
use mathlib.Core.Bool.{true, false, ◌||◌, or-true}
use mathlib.Core.List.{List}
use mathlib.Core.Logic.{◌⊎◌, inl, inr}
use mathlib.Core.Option.{none, some}
use Prim.Native.Nat.{ℕ, ◌+◌, ◌-◌, ◌≤◌, ◌<◌}
use native.Mathlib.Nat.{add-sub_cancel_left}
use native.Mathlib.Omega.{arith}
use lib.Dec.{ltb}
use lib.ListN.{length, take, drop, length-drop, length-take}
use lib.Seq.{take_all}
use borrow.Author.Tests.{eq-eqb, ne_eqb, lt-ltb, le-ltb}
use Rattle.octets.specs.Bytes.{number, run, number_at, overlay}
use Rattle.octets.proofs.Overlay.{length_run, overlay-inside}
use Rattle.line.specs.Limits.{checksum_length, shortest_message, longest_message, longest_form}
use Rattle.line.specs.Checksum.{checksum}
use Rattle.line.specs.Message.{magic}
use Rattle.line.specs.Judge.{body_of, checksum_of, magic_of, version_of, sequence_of, command_of, payload_of, fields, wrong_length}
use Rattle.line.specs.Judge.{judge_form}
use Rattle.line.specs.Judge.{judge}
use Rattle.line.specs.Cobs.{uncobs}
use Rattle.line.specs.Decoding.{measured, plain}
use Rattle.line.specs.ReaderLayout.{frame_offset, unpacked}
use Rattle.line.specs.Reader.{reader_length, ReadReport, failed, message, verdict_report, frame_outcome}
use Rattle.line.specs.Reader.{finish_form}
use Rattle.std.specs.Prelude.{Option as Optional, None, Some}
use Rattle.line.proofs.Decoding.{measured-bad, measured-length}

-- the part of a state that holds a decoded message of k bytes, as the code makes it
pub length_part : (s : List ℕ) (k : ℕ) → frame_offset + k ≤ length s → length (run frame_offset (frame_offset + k - frame_offset) s) ≡ k
length_part s k h = rw add-sub_cancel_left (length_run frame_offset k s h)

-- a decoded message of k bytes, and the numbers that are read of it
module _ (xs : List ℕ) (k : ℕ) (e : length xs ≡ k) (h : shortest_message ≤ k) (i : k ≤ longest_message) {a b q : ℕ}
    (at-end : a ≡ number_at 2 xs (k - checksum_length)) (of-body : b ≡ checksum (take (k - checksum_length) xs))
    (sequence : q ≡ sequence_of xs) where
  length-right : wrong_length xs ≡ false
  length-right = rw (e, le-ltb k shortest_message h, le-ltb longest_message k i)

  checksum-read : a ≡ checksum_of xs
  checksum-read = at-end ∙ rw e (ap number (take_all 2 (drop (k - 2) xs) (simp length-drop (omega arith))))

  checksum-made : b ≡ checksum (body_of xs)
  checksum-made = of-body ∙ rw e

  pub report-checksum : (a ≡ b → ⊥) → failed 2 (some q) ≡ verdict_report (judge_form (some xs))
  unfolding verdict_report judge_form
  report-checksum n = rw (length-right, ← checksum-read, ← checksum-made, ne_eqb a b n, sequence)

  module _ {m : ℕ} (same : a ≡ b) (first : m ≡ magic_of xs) where
    pub report-magic : (m ≡ magic → ⊥) → failed 4 (some q) ≡ verdict_report (judge_form (some xs))
    unfolding verdict_report judge_form
    report-magic n = rw (length-right, ← checksum-read, ← checksum-made, eq-eqb a b same, ← first, ne_eqb m magic n, sequence)

    pub report-good : {v d : ℕ} → m ≡ magic → v ≡ version_of xs → d ≡ command_of xs
        → message v q d (k - shortest_message) ≡ verdict_report (judge_form (some xs))
    unfolding verdict_report judge_form fields
    report-good g version command =
        let l : length (payload_of xs) ≡ k - shortest_message = simp (length-drop, length-take) (omega arith) in
        rw (length-right, ← checksum-read, ← checksum-made, eq-eqb a b same, ← first, eq-eqb m magic g, l, sequence, version, command)

-- ---- a frame of at most 4,140 bytes

pub form_fits : (s : List ℕ) (n : ℕ) → reader_length ≤ length s → n ≤ longest_form → length (run frame_offset n s) ≤ longest_form
form_fits s n h l = omega (arith, length_run frame_offset n s (omega arith))

wrong : (k : ℕ) → (k < shortest_message) ⊎ ((shortest_message ≤ k) × (longest_message < k))
    → ltb k shortest_message || ltb longest_message k ≡ true
wrong k (inl h) = rw (lt-ltb k shortest_message h)
wrong k (inr (h, j)) = rw (lt-ltb longest_message k j, or-true)

module _ (form s : List ℕ) (l : length form ≤ longest_form) where
  judge-form : judge form ≡ judge_form (uncobs form)
  unfolding judge
  judge-form = rw (le-ltb longest_form (length form) l)

  finish-none : uncobs form ≡ none → frame_outcome (failed 1 none) s ≡ finish_form form s
  unfolding finish_form verdict_report judge_form unpacked
  finish-none e = rw (judge-form, e)

  module _ (xs : List ℕ) (e : uncobs form ≡ some xs) where
    finish-length : wrong_length xs ≡ true → frame_outcome (failed 3 none) s ≡ finish_form form s
    unfolding finish_form verdict_report judge_form unpacked
    finish-length t = rw (judge-form, e, t)

    finish-message : wrong_length xs ≡ false
        → frame_outcome (verdict_report (judge_form (some xs))) (overlay frame_offset xs s) ≡ finish_form form s
    unfolding finish_form unpacked
    finish-message t = rw (judge-form, e, t)

  -- as the length of what the frame decodes to is found
  module _ {m : Optional ℕ} (e : m ≡ measured (uncobs form)) where
    pub finish-bad : m ≡ None → frame_outcome (failed 1 none) s ≡ finish_form form s
    finish-bad b = finish-none (measured-bad form (sym b ∙ e))

    module _ {k : ℕ} (b : m ≡ Some k) where
      pub finish-wrong : (k < shortest_message) ⊎ ((shortest_message ≤ k) × (longest_message < k))
          → frame_outcome (failed 3 none) s ≡ finish_form form s
      finish-wrong h =
          let p = measured-length form k (sym b ∙ e) in
          finish-length (plain form) p.0 (rw p.1 (wrong k h))

      pub finish-fits : shortest_message ≤ k → k ≤ longest_message → frame_offset ≤ length s → {t : List ℕ} {a : ReadReport}
          → t ≡ overlay frame_offset (plain form) s → a ≡ verdict_report (judge_form (some (run frame_offset k t)))
          → frame_outcome a t ≡ finish_form form s
      finish-fits h j i u v =
          let p = measured-length form k (sym b ∙ e) in
          let w = finish-message (plain form) p.0 (rw (p.1, le-ltb k shortest_message h, le-ltb longest_message k j)) in
          let o = rw p.1 at (overlay-inside frame_offset (plain form) s i) in
          cc
