-- Consistent Overhead Byte Stuffing, writing and reading (document 01, "The message on the wire", as document 02's item 6 amends it).
-- Assumes nothing: these are definitions.
use Rattle.std.specs.Prelude.{Bool, false, cond, ◌&&◌, ◌||◌, List, [], ◌∷◌, ◌++◌, ℕ, zero, suc, pred, ◌-◌, eqb, ltb, drop}
use Rattle.std.proofs.Math.Option.{Option, none, some, map}
use Rattle.octets.specs.Bytes.{equal}
use Rattle.line.specs.Limits.{longest_group}

-- the code byte of a full group, which no zero follows
abbrev pub full_code : ℕ
full_code = suc longest_group

-- the places of a group behind its first byte's
abbrev pub places_left : ℕ
places_left = pred longest_group

-- Writing. A group that is being made: how many bytes it still gets, and all that follows its code byte.
pub record Group : Type 0 where
  pub count : ℕ
  pub after : List ℕ

-- a group behind its code byte
abbrev pub coded : Group → List ℕ
coded g = suc g.count ∷ g.after

-- a byte ahead of a group's others
abbrev pub ahead_in_group : ℕ → Group → Group
ahead_in_group b g = record { count = suc g.count; after = b ∷ g.after }

-- nothing where the message ends
abbrev pub unless_end : List ℕ → List ℕ → List ℕ
unless_end [] ys = []
unless_end (x ∷ xs) ys = ys

-- The groups of a message whose first group has `room` places behind its next byte's.
-- A zero ends a group, and so does a byte in the group's last place.
-- After such a byte no code byte is written where the message ends.
unfoldable pub groups : ℕ → List ℕ → Group
groups room [] = record { count = 0; after = [] }
groups room (zero ∷ xs) = record { count = 0; after = coded (groups places_left xs) }
groups zero (suc b ∷ xs) = ahead_in_group (suc b) (record { count = 0; after = unless_end xs (coded (groups places_left xs)) })
groups (suc room) (suc b ∷ xs) = ahead_in_group (suc b) (groups room xs)

-- the COBS form of a message
unfoldable pub cobs : List ℕ → List ℕ
cobs xs = coded (groups places_left xs)

-- Reading. The zero that follows a group, where it holds one.
abbrev pub implied_zero : Bool → List ℕ
implied_zero holds = cond holds (0 ∷ []) []

-- whether these bytes, which follow a code byte c, are its full group and a last 01
abbrev pub last_one_after_full : ℕ → List ℕ → Bool
last_one_after_full c cs = eqb c full_code && equal (drop longest_group cs) (0x01 ∷ [])

-- `left` bytes of a group are to come, and `holds` says whether a zero follows the group, unless the frame ends there.
-- A code byte below ff is followed by a zero after its bytes, ff by none. A code byte that runs past the end fails, and so does
-- a last 01 after a full group.
unfoldable pub group_bytes : ℕ → Bool → List ℕ → Option (List ℕ)
group_bytes zero holds [] = some []
group_bytes (suc left) holds [] = none
group_bytes (suc left) holds (b ∷ bs) = map (λ xs. b ∷ xs) (group_bytes left holds bs)
group_bytes zero holds (c ∷ cs) =
    cond (eqb c 0 || last_one_after_full c cs) none (map (λ xs. implied_zero holds ++ xs) (group_bytes (c - 1) (ltb c full_code) cs))

-- the bytes of a COBS form, unless it is none
unfoldable pub uncobs : List ℕ → Option (List ℕ)
uncobs form = group_bytes 0 false form
