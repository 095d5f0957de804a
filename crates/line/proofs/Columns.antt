-- Laws of a block's sums: taken without remainders they come to the definition's, and the columns' sums come to them.
-- Assumes nothing.
use mathlib.Core.Path.{◌≡◌, refl, ap, sym, ◌∙◌}
use mathlib.Core.List.{List, [], ◌∷◌, ◌++◌, append-nil}
use Prim.Native.Nat.{ℕ, zero, suc, ◌+◌, ◌-◌, ◌*◌, ◌%◌, ◌≤◌, ◌<◌}
use native.Mathlib.Numerals.{add-one}
use native.Mathlib.Nat.{mul-add, add-mul, suc-mul}
use native.Mathlib.Omega.{arith}
use lib.ListN.{length, length-append, take, drop, get_or, set, replicate, take-append-drop, drop_of_length-le}
use lib.Seq.{drop-cons, drop-drop, take_all, take-suc, take-suc-set, drop-set-lt, append_snoc}
use Rattle.octets.specs.Bytes.{run}
use Rattle.octets.proofs.Overlay.{run_more, run-add, length_run}
use Rattle.line.specs.Checksum.{sums}
use Rattle.line.specs.Columns.{columns, column_rows, block_length, total, weighted, added_row, AtMost, Addable}
use Rattle.line.specs.Columns.{most}
use Rattle.line.specs.Item3.{SumsAppend, AllFit}

-- ---- a block

mod-add : (m n : ℕ) → (m % 255 + n) % 255 ≡ (m + n) % 255
mod-add m n = omega arith

mod-both : (m n : ℕ) → (m % 255 + n % 255) % 255 ≡ (m + n) % 255
mod-both m n = omega arith

-- one byte, with sums whose remainders are not taken
sums-byte : (first second b : ℕ) (bs : List ℕ)
    → sums (first % 255) (second % 255) (b ∷ bs) ≡ sums ((first + b) % 255) ((second + (first + b)) % 255) bs
unfolding sums
sums-byte first second b bs = rw (mod-add first b, mod-both second (first + b))

pub sums_next : (s : List ℕ) (i first second b : ℕ) {all : ℕ} → i < length s → b ≡ get_or s i 0
    → sums (first % 255) (second % 255) (drop i s) ≡ all → sums ((first + b) % 255) ((second + (first + b)) % 255) (drop (i + 1) s) ≡ all
sums_next s i first second b h e f = rw (e, add-one, ← sums-byte first second (get_or s i 0) (drop (suc i) s), ← drop-cons s i 0 h) f

-- sums below 255 are their remainders
pub sums-start : (first second : ℕ) (bs : List ℕ) → first < 255 → second < 255 → sums (first % 255) (second % 255) bs ≡ sums first second bs
sums-start first second bs h k = let e : first % 255 ≡ first = omega arith in let f : second % 255 ≡ second = omega arith in rw (e, f)

second_more : (n first second b w : ℕ) → second + (first + b) + (n * (first + b) + w) ≡ second + (suc n * first + (suc n * b + w))
second_more n first second b w = simp (mul-add, suc-mul) (omega arith)

pub sums_append : SumsAppend
unfolding total weighted
sums_append [] rest first second =
    let e : first + 0 ≡ first = omega arith in let f : second + (0 * first + 0) ≡ second = omega arith in rw (e, f)
sums_append (b ∷ bs) rest first second =
    let e : first + b + total bs ≡ first + (b + total bs) = omega arith in
    sums-byte first second b (bs ++ rest) ∙ sums_append bs rest (first + b) (second + (first + b))
    ∙ rw (e, second_more (length bs) first second b (weighted bs))

sums-block : (s : List ℕ) (at n first second : ℕ) → at + n ≤ length s → first < 255 → second < 255
    → sums ((first + total (run at n s)) % 255) ((second + (n * first + weighted (run at n s))) % 255) (drop (at + n) s)
    ≡ sums first second (drop at s)
sums-block s at n first second h k l =
    sym
    (rw (take-append-drop n (drop at s), drop-drop n at s, length_run at n s h)
    at (sums_append (run at n s) (drop n (drop at s)) first second))
    ∙ sums-start first second (drop at s) k l

-- ---- the sums of a list

total-append : (xs ys : List ℕ) → total (xs ++ ys) ≡ total xs + total ys
unfolding total
total-append [] ys = omega arith
total-append (x ∷ xs) ys = omega (arith, total-append xs ys)

weight-more : (l m x t : ℕ) → suc (l + m) * x + m * t ≡ suc l * x + m * (x + t)
weight-more l m x t = simp (mul-add, suc-mul, add-mul) (omega arith)

weighted-append : (xs ys : List ℕ) → weighted (xs ++ ys) ≡ weighted xs + (length ys * total xs + weighted ys)
unfolding total weighted
weighted-append [] ys = omega arith
weighted-append (x ∷ xs) ys =
    omega (arith, weighted-append xs ys, ap (λ (l : ℕ). suc l * x) (length-append xs ys), weight-more (length xs) (length ys) x (total xs))

pub total-next : (xs : List ℕ) (i : ℕ) → i < length xs → total (take (i + 1) xs) ≡ total (take i xs) + get_or xs i 0
unfolding total
total-next xs i h = rw (add-one, take-suc xs i 0 h) (omega (arith, total-append (take i xs) (get_or xs i 0 ∷ [])))

pub weighted-next : (xs : List ℕ) (i : ℕ) → i < length xs
    → weighted (take (i + 1) xs) ≡ weighted (take i xs) + (total (take i xs) + get_or xs i 0)
unfolding weighted
weighted-next xs i h = rw (add-one, take-suc xs i 0 h) (omega (arith, weighted-append (take i xs) (get_or xs i 0 ∷ [])))

-- ---- a row

pub row_next : (s xs : List ℕ) (at i b : ℕ) → at + i < length s → i < length xs → b ≡ get_or s (at + i) 0 → take i xs ≡ run at i s
    → take (i + 1) (set xs i b) ≡ run at (i + 1) s
row_next s xs at i b h k e f = rw (run_more at i s h, add-one, take-suc-set xs i b k, f, e)

pub at-most-zeros : (n : ℕ) → AtMost 0 (replicate n 0)
at-most-zeros zero k = omega arith
at-most-zeros (suc n) zero = omega arith
at-most-zeros (suc n) (suc k) = at-most-zeros n k

pub at-most-set : (most : ℕ) (xs : List ℕ) (i v : ℕ) → v ≤ most → AtMost most xs → AtMost most (set xs i v)
at-most-set most [] i v h e k = e k
at-most-set most (x ∷ xs) zero v h e zero = h
at-most-set most (x ∷ xs) zero v h e (suc k) = e (suc k)
at-most-set most (x ∷ xs) (suc i) v h e zero = e zero
at-most-set most (x ∷ xs) (suc i) v h e (suc k) = at-most-set most xs i v h (λ j. e (suc j)) k

pub added_next : (xs cs : List ℕ) (i v : ℕ) {all : List ℕ} → i < length xs → i < length cs → v ≡ get_or cs i 0 + get_or xs i 0
    → all ≡ take i cs ++ added_row (drop i xs) (drop i cs)
    → all ≡ take (i + 1) (set cs i v) ++ added_row (drop (i + 1) xs) (drop (i + 1) (set cs i v))
unfolding added_row
added_next xs cs i v h k e f =
    rw (add-one, take-suc-set cs i v k, drop-set-lt (suc i) cs i v (omega arith), append_snoc, e)
    (rw (drop-cons xs i 0 h, drop-cons cs i 0 k) at f)

pub added-end : (xs cs : List ℕ) (i : ℕ) {all : List ℕ} → length xs ≤ i → length cs ≤ i
    → all ≡ take i cs ++ added_row (drop i xs) (drop i cs) → cs ≡ all
unfolding added_row
added-end xs cs i h k e = sym (rw (drop_of_length-le xs h, drop_of_length-le cs k, take_all i cs k, append-nil) at e)

length-added : (xs cs : List ℕ) → length (added_row xs cs) ≡ length cs
unfolding added_row
length-added [] cs = refl
length-added (x ∷ xs) [] = refl
length-added (x ∷ xs) (c ∷ cs) = ap suc (length-added xs cs)

total-added : (xs cs : List ℕ) → length xs ≡ length cs → total (added_row xs cs) ≡ total xs + total cs
unfolding total added_row
total-added [] cs h = omega arith
total-added (x ∷ xs) [] h = omega arith
total-added (x ∷ xs) (c ∷ cs) h = omega (arith, total-added xs cs (omega arith))

weighted-added : (xs cs : List ℕ) → length xs ≡ length cs → weighted (added_row xs cs) ≡ weighted xs + weighted cs
unfolding weighted added_row
weighted-added [] cs h = omega arith
weighted-added (x ∷ xs) [] h = omega arith
weighted-added (x ∷ xs) (c ∷ cs) h =
    let e : length xs ≡ length cs = omega arith in rw (length-added xs cs, e, mul-add) (omega (arith, weighted-added xs cs (omega arith)))

at-most-added : (a b : ℕ) (xs cs : List ℕ) → AtMost a xs → AtMost b cs → AtMost (a + b) (added_row xs cs)
unfolding added_row
at-most-added a b [] cs h e k = omega (arith, e k)
at-most-added a b (x ∷ xs) [] h e k = omega (arith, e k)
at-most-added a b (x ∷ xs) (c ∷ cs) h e zero = omega (arith, h zero, e zero)
at-most-added a b (x ∷ xs) (c ∷ cs) h e (suc k) = at-most-added a b xs cs (λ j. h (suc j)) (λ j. e (suc j)) k

-- ---- the rows of a block

most-up : (m n : ℕ) → m ≤ n → most m ≤ most n
unfolding most
most-up zero n h = omega arith
most-up (suc m) zero h = omega arith
most-up (suc m) (suc n) h = omega (arith, most-up m n (omega arith))

pub all_fit : AllFit
unfolding most
all_fit = omega arith

most-more : (n : ℕ) → most (n + 1) ≡ 255 * (n + 1) + most n
unfolding most
most-more n = rw add-one

-- the columns' sums after the first rows of a block
pub record Summed (n : ℕ) (bs firsts seconds : List ℕ) : Type 0 where
  pub first_length : length firsts ≡ columns
  pub second_length : length seconds ≡ columns
  pub first_most : AtMost (255 * n) firsts
  pub second_most : AtMost (most n) seconds
  pub first : total firsts ≡ total bs
  pub second : columns * total seconds + weighted firsts ≡ weighted bs + columns * total firsts

pub summed-none : Summed 0 [] (replicate columns 0) (replicate columns 0)
unfolding total weighted most
summed-none =
    record {
      first_length = refl;
      second_length = refl;
      first_most = at-most-zeros columns;
      second_most = at-most-zeros columns;
      first = refl;
      second = refl;
    }

module _ (n : ℕ) (bs xs firsts seconds : List ℕ) (h : n < column_rows) (k : length xs ≡ columns) (l : AtMost 255 xs)
    (e : Summed n bs firsts seconds) where
  -- both sums have room for a row more
  pub first-addable : Addable firsts xs
  first-addable = (e.first_length, k, λ j. omega (arith, e.first_most j, l j))

  first_more : AtMost (255 * (n + 1)) (added_row xs firsts)
  first_more j = omega (arith, at-most-added 255 (255 * n) xs firsts l e.first_most j)

  pub second-addable : (ones : List ℕ) → ones ≡ added_row xs firsts → Addable seconds ones
  second-addable ones f =
      rw f (
        e.second_length,
        length-added xs firsts ∙ e.first_length,
        λ j. omega (arith, e.second_most j, first_more j, most-more n, most-up (n + 1) column_rows (omega arith), all_fit),
      )

  summed-row : Summed (n + 1) (bs ++ xs) (added_row xs firsts) (added_row (added_row xs firsts) seconds)
  summed-row =
      let t : total (added_row xs firsts) ≡ total xs + total firsts = total-added xs firsts (omega arith) in
      let w : weighted (added_row xs firsts) ≡ weighted xs + weighted firsts = weighted-added xs firsts (omega arith) in
      record {
        first_length = length-added xs firsts ∙ e.first_length;
        second_length = length-added (added_row xs firsts) seconds ∙ e.second_length;
        first_most = first_more;
        second_most = rw (most-more n) (at-most-added (255 * (n + 1)) (most n) (added_row xs firsts) seconds first_more e.second_most);
        first = omega (arith, total-append bs xs);
        second =
            omega
            (arith, total-added (added_row xs firsts) seconds (omega (arith, length-added xs firsts)), rw k at (weighted-append bs xs));
      }

-- one row more of the block from an offset on
pub summed-next : (n at : ℕ) (s xs firsts seconds ones twos : List ℕ) → n < column_rows → xs ≡ run (at + n * columns) columns s
    → length xs ≡ columns
    → AtMost 255 xs → ones ≡ added_row xs firsts → twos ≡ added_row ones seconds → Summed n (run at (n * columns) s) firsts seconds
    → Summed (n + 1) (run at ((n + 1) * columns) s) ones twos
summed-next n at s xs firsts seconds ones twos h e k l f g i =
    let m : (n + 1) * columns ≡ n * columns + columns = omega arith in
    rw (g, f, m, run-add at (n * columns) columns s, ← e) (summed-row n (run at (n * columns) s) xs firsts seconds h k l i)

-- all rows of the block from an offset on: what the definition's sums are behind it
pub summed-block : (s firsts seconds : List ℕ) (at first second one two weight : ℕ) → at + block_length ≤ length s → first < 255
    → second < 255
    → Summed column_rows (run at block_length s) firsts seconds → one ≡ total firsts → weight ≡ weighted firsts → two ≡ total seconds
    → sums ((first + one) % 255) ((second + first * block_length + (two * columns + weight - one * columns)) % 255)
    (drop (at + block_length) s)
    ≡ sums first second (drop at s)
summed-block s firsts seconds at first second one two weight h k l e f g i =
    let t : one ≡ total (run at block_length s) = omega (arith, e.first) in
    let w : second + first * block_length + (two * columns + weight - one * columns)
    ≡ second + (block_length * first + weighted (run at block_length s))
    = omega (arith, e.second) in
    rw (w, t) (sums-block s at block_length first second h k l)
