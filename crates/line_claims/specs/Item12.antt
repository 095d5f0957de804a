-- Document 02's item 12: two bodies of one length that differ at exactly two places, k bytes apart.
-- Assumes nothing: these are statements.
use Rattle.std.specs.Prelude.{◌≡◌, List, [], ◌∷◌, ◌++◌, ◌↔◌, ℕ, ◌+◌, length, get_or, replicate}
use Rattle.octets.specs.Bytes.{Byte, Each}
use Rattle.line.specs.Checksum.{checksum}
use Rattle.line_claims.specs.Changes.{Multiple, byte_changes, summed, placed, change_at, DifferApart, Missed, Factors}

-- bodies that differ at places p and p + k alone, and a condition on these under which their checksums agree
abbrev pub AgreeExactly : (ℕ → ℕ → List ℕ → List ℕ → Type 0) → Type 0
AgreeExactly P = (k p : ℕ) (xs ys : List ℕ) → DifferApart k p xs ys → Each Byte xs → Each Byte ys
    → (checksum xs ≡ checksum ys) ↔ P k p xs ys

abbrev pub ChecksumApart : Type 0
ChecksumApart = AgreeExactly (λ k p xs ys. Missed k (change_at p xs ys) (change_at (p + k) xs ys))

abbrev pub ChecksumDistance : Type 0
ChecksumDistance = AgreeExactly (λ k p xs ys. Multiple (change_at p xs ys + change_at (p + k) xs ys) × Factors k (change_at p xs ys))

abbrev pub Checksum255Apart : Type 0
Checksum255Apart = (p : ℕ) (xs ys : List ℕ) → DifferApart 255 p xs ys → Each Byte xs → Each Byte ys
    → (checksum xs ≡ checksum ys) ↔ Multiple (change_at p xs ys + change_at (p + 255) xs ys)

abbrev pub Opposite255Apart : Type 0
Opposite255Apart = (p : ℕ) (xs ys : List ℕ) → DifferApart 255 p xs ys → Each Byte xs → Each Byte ys
    → get_or xs p 0 + get_or xs (p + 255) 0 ≡ get_or ys p 0 + get_or ys (p + 255) 0 → checksum xs ≡ checksum ys

abbrev pub Exchanged255Apart : Type 0
Exchanged255Apart = checksum (1 ∷ (replicate 254 0 ++ (0 ∷ []))) ≡ checksum (0 ∷ (replicate 254 0 ++ (1 ∷ [])))

abbrev pub ChecksumChanges : Type 0
ChecksumChanges = (xs ys : List ℕ) → length xs ≡ length ys → Each Byte xs
    → (checksum xs ≡ checksum ys) ↔ (Multiple (summed (byte_changes xs ys)) × Multiple (placed (byte_changes xs ys)))

pub record LineItem12 : Type 0 where
  -- The checksums agree exactly when the two changes sum to a multiple of 255 and k times the first change is one too.
  -- It is so for every length and place.
  pub checksum_apart : ChecksumApart
  -- the case k = 255: exactly when the two changes sum to a multiple of 255
  pub checksum_255_apart : Checksum255Apart
  -- so any change with its opposite 255 places on is missed
  pub opposite_255_apart : Opposite255Apart
  -- as 01 and 00 exchanged, with zeros between them
  pub exchanged_255_apart : Exchanged255Apart
  -- the same by the factors of k: each of 3, 5 and 17 divides the distance or the first change
  pub checksum_distance : ChecksumDistance
  -- the law behind: at any number of places, the changes sum to a multiple of 255, and so do the changes each times its place
  pub checksum_changes : ChecksumChanges
