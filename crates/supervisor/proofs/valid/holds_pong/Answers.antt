-- `valid::holds_pong` meets its contract: it compares the four bytes, each with its own.
-- Assumes nothing.
use Prim.Native.Nat.{ℕ, ◌-◌, ◌≤◌}
use mathlib.Core.Path.{◌≡◌, refl, sym, ◌∙◌}
use mathlib.Core.List.{List, [], ◌∷◌}
use native.Mathlib.Omega.{arith}
use borrow.Author.Tests.{eqb-true, eq-eqb}
use lib.Dec.{eqb}
use lib.ListN.{length, drop}
use lib.Pointwise.{pointwise}
use Rattle.std.proofs.lemmas.List.{take_all, length-drop}
use Rattle.octets.specs.Bytes.{equal}
use Rattle.supervisor.specs.Layout.{pong_offset}
use Rattle.supervisor.specs.Local.{pong}
use Rattle.supervisor.proofs.ValidLaws.{alike}
use Rattle.supervisor.proofs.valid.holds_pong.Goals as goal

swapped : (m n : ℕ) → eqb m n ≡ eqb n m
swapped m n = alike (eqb m n) (eqb n m) (λ t. eq-eqb n m (sym (eqb-true m n t))) (λ t. eq-eqb m n (sym (eqb-true n m t)))

pointwise-equal : (xs ys : List ℕ) → pointwise eqb xs ys ≡ equal ys xs
unfolding equal
pointwise-equal [] [] = refl
pointwise-equal [] (y ∷ ys) = refl
pointwise-equal (x ∷ xs) [] = refl
pointwise-equal (x ∷ xs) (y ∷ ys) = rw (swapped x y, pointwise-equal xs ys)

pub returns : goal.returns
returns c =
    let f = c.args.factory.now in
    let l : length (drop pong_offset f) ≤ length f - pong_offset = omega (arith, length-drop pong_offset f) in
    (rw (take_all (length f - pong_offset) (drop pong_offset f) l) at c.starts_with.ensures.value) ∙ pointwise-equal pong _
