-- Laws of the tests on the first n bytes of an array.
-- Assumes nothing.
use mathlib.Core.Path.{◌≡◌, refl, sym, ap, ◌∙◌}
use mathlib.Core.Bool.{false, or-true}
use mathlib.Core.List.{List}
use mathlib.Core.Option.{none, some}
use Prim.Native.Nat.{ℕ, ◌+◌, ◌-◌, ◌%◌, ◌≤◌, ◌<◌}
use native.Mathlib.Numerals.{add-one}
use native.Mathlib.Omega.{arith}
use borrow.Author.Tests.{eq-eqb, ne_eqb, lt-ltb, le-ltb}
use lib.ListN.{length, take, drop, get_or}
use lib.Seq.{length-take-le, take-take, drop-cons}
use Rattle.octets.specs.Bytes.{number, run, number_at, overlay}
use Rattle.octets.proofs.Overlay.{run_take, overlay-inside}
use Rattle.line.specs.Limits.{header_length, shortest_message, longest_message, longest_form}
use Rattle.line.specs.Checksum.{sums, checksum}
use Rattle.line.specs.Message.{magic}
use Rattle.line.specs.Cobs.{uncobs}
use Rattle.line.specs.Judge.{LineVerdict, failure, good, body_of, checksum_of, magic_of, sequence_of, payload_of, fields, wrong_length}
use Rattle.line.specs.Judge.{judge_form}
use Rattle.line.specs.Judge.{judge}
use Rattle.plain.specs.Answers.{decode_form, decoded_into}
use Rattle.plain.specs.Inner.{decoded_report}
use Rattle.std.specs.Prelude.{Option, Some, None}
use Rattle.plain.proofs.Groups.{decoding-length, bad-none, length_some}

-- the sums, one byte more
pub sums_next : (s : List ℕ) (i first second : ℕ) {b total : ℕ} → i < length s → b ≡ get_or s i 0 → sums first second (drop i s) ≡ total
    → sums ((first + b) % 255) ((second + (first + b) % 255) % 255) (drop (i + 1) s) ≡ total
unfolding sums
sums_next s i first second h e f = rw (drop-cons s i 0 h, ← add-one i, ← e) at f

module _ (m : List ℕ) (n : ℕ) (l : n ≤ length m) where
  long : length (take n m) ≡ n
  long = length-take-le n m l

  pub tested-short : n < shortest_message → failure 3 none ≡ judge_form (some (take n m))
  unfolding judge_form
  tested-short h = rw (long, lt-ltb n shortest_message h)

  pub tested-long : longest_message < n → failure 3 none ≡ judge_form (some (take n m))
  unfolding judge_form
  tested-long h = rw (long, lt-ltb longest_message n h, or-true)

  module _ (low : shortest_message ≤ n) (high : n ≤ longest_message) where
    length-right : wrong_length (take n m) ≡ false
    length-right = rw (long, le-ltb n shortest_message low, le-ltb longest_message n high)

    number-at : (k j : ℕ) → j + k ≤ n → number_at k (take n m) j ≡ number_at k m j
    number-at k j h = ap number (rw (run_take j k (take n m), take-take (j + k) n m h, run_take j k m))

    checksum-at : checksum_of (take n m) ≡ number_at 2 m (n - 2)
    checksum-at =
        let e : n - 2 + 2 ≡ n = omega arith in
        rw (long, run_take (n - 2) 2 m, e)

    body_at : body_of (take n m) ≡ take (n - 2) m
    body_at = rw long (take-take (n - 2) n m (omega arith))

    payload-at : payload_of (take n m) ≡ run header_length (n - shortest_message) m
    payload-at =
        let e : 17 + (n - 19) ≡ n - 2 = omega arith in
        rw (body_at, run_take 17 (n - 19) m, e)

    -- the numbers that are read
    module _ {a b q : ℕ} (at-end : a ≡ number_at 2 m (n - 2)) (of-body : b ≡ checksum (take (n - 2) m)) (sequence : q ≡ number_at 8 m 8)
      where
        sequence-at : sequence_of (take n m) ≡ q
        sequence-at = number-at 8 8 (omega arith) ∙ sym sequence

        pub tested-checksum : (a ≡ b → ⊥) → failure 2 (some q) ≡ judge_form (some (take n m))
        unfolding judge_form
        tested-checksum f = rw (length-right, checksum-at, body_at, ← at-end, ← of-body, ne_eqb a b f, sequence-at)

        module _ {g : ℕ} (same : a ≡ b) (first : g ≡ number_at 4 m 0) where
          magic-at : magic_of (take n m) ≡ g
          magic-at = number-at 4 0 (omega arith) ∙ sym first

          pub tested-magic : (g ≡ magic → ⊥) → failure 4 (some q) ≡ judge_form (some (take n m))
          unfolding judge_form
          tested-magic f =
              rw (length-right, checksum-at, body_at, ← at-end, ← of-body, eq-eqb a b same, magic-at, ne_eqb g magic f, sequence-at)

          pub tested-good : {v d : ℕ} → g ≡ magic → v ≡ number_at 4 m 4 → d ≡ number_at 1 m 16
              → good (record { version = v; sequence = q; command = d; payload = run header_length (n - shortest_message) m })
              ≡ judge_form (some (take n m))
          unfolding judge_form fields
          tested-good f version command =
              let v = number-at 4 4 (omega arith) ∙ sym version in
              let d = number-at 1 16 (omega arith) ∙ sym command in
              rw (
                length-right,
                checksum-at,
                body_at,
                ← at-end,
                ← of-body,
                eq-eqb a b same,
                magic-at,
                eq-eqb g magic f,
                sequence-at,
                v,
                d,
                ← payload-at,
                body_at,
              )

-- ---- a whole frame

module _ (form m : List ℕ) where
  -- more than 4,140 bytes
  pub over-judged : longest_form < length form → (failure 1 none ≡ judge form) × (m ≡ decoded_into form m)
  unfolding judge judge_form decoded_into
  over-judged h = rw (lt-ltb longest_form (length form) h) (refl, refl)

  -- and any other, which was decoded
  module _ (h : length form ≤ longest_form) {d : Option ℕ} (report : d ≡ decoded_report (decode_form form)) {m' : List ℕ}
      (left : m' ≡ overlay 0 (decode_form form).bytes m) where
    judge-form : judge form ≡ judge_form (uncobs form)
    unfolding judge
    judge-form = rw (le-ltb longest_form (length form) h)

    form-left : m' ≡ decoded_into form m
    unfolding decoded_into
    form-left = left ∙ rw (le-ltb longest_form (length form) h)

    pub bad-judged : d ≡ None → (failure 1 none ≡ judge form) × (m' ≡ decoded_into form m)
    unfolding judge_form
    bad-judged e = (rw (judge-form, bad-none form (sym e ∙ report)), form-left)

    module _ {k : ℕ} (e : d ≡ Some k) where
      pub decoded-fits : length form ≤ length m → length m' ≡ length m → k ≤ length m'
      decoded-fits r s = omega (arith, (length_some form (sym e ∙ report)).1, decoding-length form)

      pub tested-judged : {v : LineVerdict} → v ≡ judge_form (some (take k m')) → (v ≡ judge form) × (m' ≡ decoded_into form m)
      tested-judged t =
          let p = length_some form (sym e ∙ report) in
          let o = rw p.1 at (overlay-inside 0 (decode_form form).bytes m (omega arith)) in
          (t ∙ rw (judge-form, p.0, left, o), form-left)
