-- Laws of sound parts: their lengths, another part put in, and the published lengths.
-- Assumes nothing.
use mathlib.Core.Path.{◌≡◌, refl, ◌∙◌}
use mathlib.Core.Bool.{true}
use mathlib.Core.List.{List}
use Prim.Native.Nat.{ℕ, ◌≤◌}
use lib.ListN.{length}
use borrow.Author.Tests.{le-leb}
use Rattle.octets.specs.Bytes.{Each, Byte}
use Rattle.supervisor.specs.Calls
use Rattle.supervisor.specs.Calls.{Parts}
use Rattle.supervisor_claims.specs.ByPart.{Part, published, part, valid_part, with_part, Every}
use Rattle.supervisor_claims.specs.Sound.{Valid, Sound, Lengths}
use Rattle.supervisor_claims.proofs.ByPart.{every, of, every_true, every-with, part-long}
use Rattle.supervisor_claims.proofs.Meant.{valid-with}

pub lengths-same : {p : Parts} → Lengths p p
lengths-same = every (λ i. refl)

pub lengths-then : {p q r : Parts} → Lengths p q → Lengths q r → Lengths p r
lengths-then l m = every (λ i. of m i ∙ of l i)

-- another part that is as 12 requires, holds bytes and is as long
pub sound-with : (p : Parts) (i : Part) (t : List ℕ) → Sound p → valid_part i t ≡ true → Each Byte t → length t ≡ length (part p i)
    → Sound (with_part p i t) × Lengths p (with_part p i t)
sound-with p i t s v b n = (
  record { valid = valid-with p i t s.valid v; bytes = every-with (λ j u. Each Byte u) p i t s.bytes b },
  every-with (λ j u. length u ≡ length (part p j)) p i t lengths-same n,
)

-- each part has its published length
abbrev pub Long : Parts → Type 0
Long p = Every (λ i. published i ≤ length (part p i))

-- valid parts have it, and so room for a start
pub valid-long : {p : Parts} → Valid p → Long p
valid-long {p} v = every (λ i. part-long i (part p i) (of v i))

pub valid-room : {p : Parts} → Valid p → Calls.long_enough p ≡ true
unfolding Calls.long_enough
valid-room {p} v = every_true _ (every (λ i. le-leb _ _ (of (valid-long {p = p} v) i)))
