-- What a call is lent of a part of the state, and the part when those bytes have come back (document 01, "Demand 3's words").
-- Assumes nothing: these are definitions.
use Rattle.std.specs.Prelude.{Bool, false, List, ◌++◌, ℕ, ◌+◌, ◌-◌, min, leb, take, drop}
use Rattle.octets.specs.Bytes.{run}

-- The first bytes of a part, so many of them or all.
-- Or too little of it: any run that is shorter than the part's published length.
pub data Loan : Type 0 where
  first : ℕ → Loan
  -- from an offset on, so many bytes
  within : ℕ → ℕ → Loan

-- at most one byte fewer than the published length
abbrev pub fewer : ℕ → ℕ → ℕ
fewer published n = min n (published - 1)

-- the bytes that are lent of a part with this published length
unfoldable pub lent_part : ℕ → Loan → List ℕ → List ℕ
lent_part published (first n) s = take n s
lent_part published (within at n) s = run at (fewer published n) s

-- the part s when the bytes lent have come back as t
unfoldable pub back_part : ℕ → Loan → List ℕ → List ℕ → List ℕ
back_part published (first n) s t = t ++ drop n s
back_part published (within at n) s t = take at s ++ (t ++ drop (at + fewer published n) s)

-- whether the published length is lent
unfoldable pub enough_part : ℕ → Loan → Bool
enough_part published (first n) = leb published n
enough_part published (within at n) = false
