-- `supervisor::alerts::with_bit_1` meets its contract, case by case.
-- Assumes nothing.
use Prim.Native.Nat.{ℕ, zero, suc, ◌≤◌}
use mathlib.Core.Path.{◌≡◌, refl}
use native.Mathlib.Omega.{arith}
use lib.Bits.{bit_or}
use Rattle.supervisor.specs.Local.{set_bit}
use Rattle.supervisor.proofs.alerts.with_bit_1.Goals as goal

cases : (n : ℕ) → n ≤ 3 → bit_or n 2 ≡ set_bit n 1
unfolding set_bit
cases zero h = refl
cases (suc zero) h = refl
cases (suc (suc zero)) h = refl
cases (suc (suc (suc zero))) h = refl
cases (suc (suc (suc (suc n)))) h = absurd (omega arith)

pub returns : goal.returns
returns c = cases c.args.status c.requires
