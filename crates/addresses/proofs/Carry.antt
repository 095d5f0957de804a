-- The laws of the 48-bit carry: to add byte by byte with the carry is to add the numbers.
-- Assumes nothing.
use Prim.Native.Nat.{ℕ, zero, suc, ◌+◌, ◌/◌, ◌%◌, ◌<◌}
use mathlib.Core.Path.{◌≡◌, refl, sym, ap, ◌∙◌}
use mathlib.Core.List.{List, [], ◌∷◌, reverse-reverse}
use native.Mathlib.Omega.{arith}
use lib.ListN.{length, get_or}
use Rattle.octets.specs.Bytes.{bytes}
use Rattle.addresses.specs.Addresses.{address_number, address_bytes, with_carry, next_row}
use Rattle.addresses.proofs.Number.{bytes-address}
use Rattle.addresses.specs.Item9.{CarriedSum, NextSum}

pub carried_sum : CarriedSum
unfolding with_carry bytes
carried_sum zero v c = refl
carried_sum (suc k) v c =
    let low : (v % 256 + c) % 256 ≡ (v + c) % 256 = omega arith in
    let high : v / 256 + (v % 256 + c) / 256 ≡ (v + c) / 256 = omega arith in
    rw (carried_sum k (v / 256) ((v % 256 + c) / 256), low, high)

pub next_sum : NextSum
unfolding next_row address_bytes
next_sum v stride = rw (reverse-reverse, carried_sum)

-- ---- of a row's six bytes

pub next-six : (s : List ℕ) (stride : ℕ) → length s ≡ 6 → ((i : ℕ) → get_or s i 0 < 256)
    → (address_number s + stride) / 1099511627776 % 256 ∷ (address_number s + stride) / 4294967296 % 256
    ∷ (address_number s + stride) / 16777216 % 256 ∷ (address_number s + stride) / 65536 % 256
    ∷ (address_number s + stride) / 256 % 256 ∷ (address_number s + stride) % 256 ∷ []
    ≡ next_row s stride
unfolding bytes address_bytes
next-six s stride e h =
    let v = address_number s + stride in
    let e1 : v / 1099511627776 ≡ v / 256 / 256 / 256 / 256 / 256 = omega arith in
    let e2 : v / 4294967296 ≡ v / 256 / 256 / 256 / 256 = omega arith in
    let e3 : v / 16777216 ≡ v / 256 / 256 / 256 = omega arith in
    let e4 : v / 65536 ≡ v / 256 / 256 = omega arith in
    rw (e1, e2, e3, e4) (sym (next_sum (address_number s) stride) ∙ ap (λ (row : List ℕ). next_row row stride) (bytes-address s e h))
