-- `number::with_top_bit` meets its contract: the top bit, where it is not set, is added.
-- Assumes nothing.
use Prim.Native.Nat.{ℕ, ◌+◌, ◌-◌, ◌*◌, ◌<◌}
use mathlib.Core.Path.{◌≡◌, ◌∙◌}
use native.Mathlib.Omega.{arith}
use lib.Bits.{bit_or}
use lib.Dec.{ltb}
use borrow.Author.Tests.{ltb-true, ltb-false}
use Rattle.std.specs.Int.Bits.{or_zero_r}
use Rattle.std.proofs.lemmas.Nat.{or_block, or_comm, or_shifted}
use Rattle.octets.proofs.Conditions.{cond-by}
use Rattle.line.specs.Numbers.{top_bit}
use Rattle.supervisor.specs.Number.{top_set}
use Rattle.supervisor.proofs.number.with_top_bit.Goals as goal

added : (n : ℕ) → n < top_bit → bit_or n top_bit ≡ n + top_bit
added n h = or_comm n top_bit ∙ (or_shifted 1 63 n h ∙ omega arith)

kept : (n r : ℕ) → r < top_bit → n ≡ 1 * top_bit + r → bit_or n top_bit ≡ n
kept n r h e = rw e (or_block 63 1 1 r 0 h (omega arith) ∙ rw or_zero_r)

pub returns : goal.returns
unfolding top_set
returns c =
    let n = c.args.n in
    cond-by (λ m. bit_or n top_bit ≡ m) (ltb n top_bit) _ _
    (λ e. added n (ltb-true n top_bit e))
    (λ e.
    let l = ltb-false n top_bit e in
    kept n (n - top_bit) (omega arith) (omega arith))
