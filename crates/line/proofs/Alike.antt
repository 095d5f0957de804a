-- Bytes that are all alike: found in a list, and put into one.
-- Assumes nothing.
use Prim.Native.Nat.{ℕ, zero, suc, ◌+◌, ◌≤◌, ◌<◌}
use mathlib.Core.Path.{◌≡◌, refl, sym, ◌∙◌}
use mathlib.Core.Bool.{Bool, true, false, ◌&&◌}
use mathlib.Core.List.{List, [], ◌∷◌, ◌++◌}
use native.Mathlib.Omega.{arith}
use borrow.Author.Tests.{eqb-true}
use lib.Dec.{eqb}
use lib.ListN.{length, take, drop, get_or, set, replicate, length-replicate, replicate-append-replicate, take-append-drop}
use lib.Seq.{take-take, drop-drop}
use Rattle.std.specs.List.{fold}
use Rattle.octets.specs.Bytes.{run, overlay}
use Rattle.octets.proofs.Overlay.{run_take, run_more, overlay-none, overlay-more}

-- a test that fails
pub failed : {A : Type 0} → false ≡ true → A
failed e = let x : ◌≡◌ {A = ℕ} 0 1 = cc in absurd (omega arith)

-- every byte tested
fold-other : (b : ℕ) (xs : List ℕ) → fold (λ same x. same && eqb x b) false xs ≡ false
fold-other b [] = refl
fold-other b (x ∷ xs) = fold-other b xs

pub fold-alike : (b : ℕ) (xs : List ℕ) → fold (λ same x. same && eqb x b) true xs ≡ true → xs ≡ replicate (length xs) b
fold-alike b [] e = refl
fold-alike b (x ∷ xs) e = by (eqb x b) refl e (fold-alike b xs)
  where
    by : (t : Bool) → eqb x b ≡ t → fold (λ same y. same && eqb y b) t xs ≡ true
        → (fold (λ same y. same && eqb y b) true xs ≡ true → xs ≡ replicate (length xs) b) → x ∷ xs ≡ replicate (suc (length xs)) b
    by true f g next = let h = eqb-true x b f in let i = next g in cc
    by false f g next = failed (sym (fold-other b xs) ∙ g)

-- one byte more
pub alike-more : (b k : ℕ) → replicate (k + 1) b ≡ replicate k b ++ b ∷ []
alike-more b k = sym (replicate-append-replicate k 1 b)

pub run-alike : (b at k : ℕ) (s : List ℕ) → at + k < length s → run at k s ≡ replicate k b → get_or s (at + k) 0 ≡ b
    → run at (k + 1) s ≡ replicate (k + 1) b
run-alike b at k s h e f = rw (run_more at k s h, e, f, alike-more b k)

pub put-alike : (b at k : ℕ) (s : List ℕ) → at + k < length s
    → set (overlay at (replicate k b) s) (at + k) b ≡ overlay at (replicate (k + 1) b) s
put-alike b at k s h =
    let n = length-replicate k b in
    rw alike-more (rw n at (overlay-more at b (replicate k b) s (omega arith)))

-- no byte is put
pub put-no-byte : (b at j : ℕ) (s t : List ℕ) → j ≤ 0 → t ≡ overlay at (replicate j b) s → t ≡ s
put-no-byte b at zero s t h e = e ∙ overlay-none at s
put-no-byte b at (suc j) s t h e = absurd (omega arith)

-- a run of the first n bytes
pub run-within : (j k n : ℕ) (s : List ℕ) → j + k ≤ n → run j k (take n s) ≡ run j k s
run-within j k n s h = rw (run_take j k (take n s), take-take (j + k) n s h, run_take j k s)

-- what is left of the first n bytes begins with bytes alike
pub alike_next : (s : List ℕ) (n i j b : ℕ) → i + j ≤ n → run i j s ≡ replicate j b
    → drop i (take n s) ≡ replicate j b ++ drop (i + j) (take n s)
alike_next s n i j b h e =
    let f = sym (take-append-drop j (drop i (take n s))) in
    rw (run-within i j n s h, e, drop-drop j i (take n s)) at f
