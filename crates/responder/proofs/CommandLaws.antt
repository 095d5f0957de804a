-- Laws of the commands' numbers: the ranges that they fill, and the command of a listed number.
-- Assumes nothing.
use mathlib.Core.Path.{◌≡◌, refl, sym, ap, ◌∙◌}
use mathlib.Core.Bool.{Bool, true, false, not, ◌&&◌, ◌||◌}
use mathlib.Core.List.{List, [], ◌∷◌}
use mathlib.Core.Option.{some}
use Prim.Native.Nat.{ℕ, ◌<◌}
use native.Mathlib.Omega.{arith}
use lib.Dec.{leb, eqb}
use borrow.Author.Tests.{eqb-true, not-true}
use Rattle.octets.proofs.Conditions.{cond-by}
use Rattle.supervisor.specs.Valid.{all}
use Rattle.supervisor.proofs.ValidLaws.{all-each}
use Rattle.responder.specs.Commands.{Command, command_number, commands, with_number, command_of_number}
use Rattle.responder.specs.Requests.{known}

-- ---- the ranges

abbrev pub in_ranges : ℕ → Bool
in_ranges c = (leb 0x01 c && leb c 0x0a) || (leb 0x0d c && leb c 0x10)

abbrev same : Bool → Bool → Bool
same true b = b
same false b = not b

same_true : (a b : Bool) → same a b ≡ true → a ≡ b
same_true true b e = sym e
same_true false b e = sym (not-true b e)

-- tried for every byte
pub known-ranges : (c : ℕ) → c < 256 → known c ≡ in_ranges c
unfolding known command_of_number with_number command_number all
known-ranges c h = same_true (known c) (in_ranges c) (all-each (λ n. same (known n) (in_ranges n)) 256 refl c h)

-- ---- the command of a number has it

found_number : (c : ℕ) (l : List Command) {x : Command} → with_number c l ≡ some x → c ≡ command_number x
unfolding with_number
found_number c [] = λ e. let z : ◌≡◌ {A = ℕ} 0 1 = cc in absurd (omega arith)
found_number c (y ∷ l) {x} =
    cond-by (λ o. o ≡ some x → c ≡ command_number x) (eqb c (command_number y)) _ _
    (λ t e. let z : y ≡ x = cc in eqb-true c (command_number y) t ∙ ap command_number z) (λ t e. found_number c l e)

pub number_is : (c : ℕ) {x : Command} → command_of_number c ≡ some x → c ≡ command_number x
unfolding command_of_number
number_is c e = found_number c commands e

-- no two have the same
pub of_number : (x : Command) → command_of_number (command_number x) ≡ some x
unfolding command_number command_of_number with_number
of_number Command.reboot = refl
of_number Command.power-off = refl
of_number Command.bsu = refl
of_number Command.identity = refl
of_number Command.mac = refl
of_number Command.boot-failure = refl
of_number Command.panic = refl
of_number Command.status = refl
of_number Command.start-acknowledged = refl
of_number Command.alert = refl
of_number Command.image_block = refl
of_number Command.key_lookup = refl
of_number Command.inventory = refl
of_number Command.key_set = refl
