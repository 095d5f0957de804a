-- Laws of the audit program's lines: a listing's text frame by frame.
-- Assumes nothing.
use mathlib.Core.Path.{◌≡◌, refl, sym, ap, ◌∙◌}
use mathlib.Core.List.{List, [], ◌∷◌, ◌++◌, append_assoc, append-nil}
use Prim.Native.Nat.{ℕ, ◌+◌, ◌*◌, ◌≤◌, ◌<◌}
use native.Mathlib.Nat.{add_assoc}
use native.Mathlib.Omega.{arith}
use borrow.Author.Tests.{lt-ltb, le-ltb}
use lib.ListN.{length}
use Rattle.std.specs.Prelude.{Result, Ok, Err}
use Rattle.octets.specs.Bytes.{run}
use Rattle.line.specs.Judge.{judge}
use Rattle.plain.specs.Listing.{ListedFrame, Listing, listed_frame, listing}
use Rattle.plain.specs.Answers.{NextReport, piece_at, plain_verdict}
use Rattle.plain.specs.declared.Head.{Head}
use Rattle.plain.specs.declared.Failure.{Failure}
use Rattle.plain.specs.declared.Failure.TheVariants.{Form, Length, Checksum, Magic}
use Rattle.plain.proofs.Steps.{listed_from, added, at-frame, at_tail}
use Rattle.audit.specs.Text.{longest_capture, decimal, word, line, lines, tail_line, text, too_long, audit}

-- ---- one frame

word-any : (a : Result Head Failure) (m : List ℕ) → word (plain_verdict a m) ≡ word (plain_verdict a [])
unfolding word plain_verdict
word-any (Ok h) m = refl
word-any (Err Form) m = refl
word-any (Err Length) m = refl
word-any (Err (Checksum sequence)) m = refl
word-any (Err (Magic sequence)) m = refl

pub frame-line : (at : ℕ) (p : List ℕ) (a : Result Head Failure) (m : List ℕ) → 0 < length p → plain_verdict a m ≡ judge p
    → decimal at ++ 0x20 ∷ (word (plain_verdict a []) ++ 0x0a ∷ []) ≡ lines (listed_frame at p)
unfolding lines line listed_frame
frame-line at [] a m h e = absurd (omega arith)
frame-line at (b ∷ bs) a m h e = rw (append-nil, ← e, word-any a m)

-- ---- a listing

lines-append : (es fs : List ListedFrame) → lines (es ++ fs) ≡ lines es ++ lines fs
unfolding lines
lines-append [] fs = refl
lines-append (e ∷ es) fs = rw (lines-append es fs, append_assoc)

text-added : (es : List ListedFrame) (l : Listing) → text (added es l) ≡ lines es ++ text l
unfolding text
text-added es l = rw (lines-append es l.entries, append_assoc)

-- t is the text up to an offset of the capture w
pub record Middle (w t : List ℕ) (at : ℕ) : Type 0 where
  pub whole : text (listing w) ≡ t ++ text (listed_from w at)
  pub short : length t ≤ 5 * at

pub middle-start : (w t : List ℕ) → t ≡ [] → Middle w t 0
unfolding listing
middle-start w t e = rw e (record { whole = refl; short = omega arith })

module _ (w t : List ℕ) (at n : ℕ) (mid : Middle w t at) where
  pub middle-next : NextReport.frame n ≡ piece_at w at → (u : List ℕ) → u ≡ t ++ lines (listed_frame at (run at n w))
      → length u ≤ length t + 5 * (n + 1) → Middle w u (at + (n + 1))
  middle-next e u o l =
      let f = at-frame w at e in
      let es = listed_frame at (run at n w) in
      let p = mid.short in
      record {
        whole =
            mid.whole
            ∙ rw (f.step, text-added es (listed_from w (at + n + 1)), add_assoc at n 1, o) (sym (append_assoc t (lines es) _));
        short = omega arith;
      }

  text-tail : NextReport.tail n ≡ piece_at w at → text (listed_from w at) ≡ tail_line n
  unfolding text lines
  text-tail e = ap text (at_tail w at e).step

  pub middle-end : NextReport.tail n ≡ piece_at w at → (u : List ℕ) → u ≡ t ++ tail_line n → u ≡ text (listing w)
  middle-end e u o = rw (mid.whole, text-tail e) o

-- ---- a capture

module _ (w : List ℕ) where
  pub audit-over : longest_capture < length w → audit w ≡ too_long
  unfolding audit
  audit-over h = rw (lt-ltb longest_capture (length w) h)

  pub audit-text : length w ≤ longest_capture → audit w ≡ text (listing w)
  unfolding audit
  audit-text h = rw (le-ltb longest_capture (length w) h)
