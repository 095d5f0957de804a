-- Document 02's item 4 of the supervisor: 64 items, 4,096 bytes of key 5, and the refusals and results that move with them.
-- Assumes nothing: these are definitions and statements.
use Rattle.std.specs.Prelude.{◌≡◌, false, List, [], ◌∷◌, map, ◌⊎◌, ℕ, ◌≤◌, ◌<◌, length}
use Rattle.supervisor.specs.Limits.{longest_setting, shortest_setting}
use Rattle.supervisor.specs.State.{Factory, fresh}
use Rattle.supervisor.specs.Local
use Rattle.supervisor_claims.specs.Histories.{AfterCalls}
use Rattle.supervisor_claims.specs.LastSet.{SetAnswered}
use Rattle.supervisor_claims.specs.Demand1.{PartsFit}

abbrev pub MoreItems11 : Type 0
MoreItems11 = (f : Factory) → 64 < length f.items → Local.start f ≡ Local.refused 11

abbrev pub UpTo64Items : Type 0
UpTo64Items = (f : Factory) → length f.items ≤ 64 → Local.any_bad f.items ≡ false → length f.image_id ≤ 64
    → (f.bsu ≡ 0x41) ⊎ (f.bsu ≡ 0x42) → Local.start f ≡ Local.left (fresh f)

abbrev pub settings_keys : List ℕ
settings_keys = 3 ∷ 4 ∷ 5 ∷ 6 ∷ []

abbrev pub ValueLengths : Type 0
ValueLengths = (map longest_setting settings_keys ≡ 256 ∷ 4096 ∷ 4096 ∷ 63 ∷ []) × (map shortest_setting settings_keys ≡ 0 ∷ 0 ∷ 0 ∷ 8 ∷ [])

pub record SupervisorItem4 : Type 0 where
  -- start data with more than 64 items are refused as 11
  pub more_items_11 : MoreItems11
  -- with up to 64, each good, an image ID of up to 64 bytes and BSU 0x41 or 0x42 they are accepted
  pub up_to_64_items : UpTo64Items
  -- the longest value of keys 3 to 6 has 256, 4,096, 4,096 and 63 bytes, the shortest 0, 0, 0 and 8
  pub value_lengths : ValueLengths
  -- Behind any calls a set answers 1 for a key above 6, and 2 for keys 0 to 2.
  -- Else it answers 3 for a wrong length, else 4 at the last edition, else 0.
  pub set_answered : AfterCalls SetAnswered
  -- all parts together have at most 65,536 bytes
  pub parts_fit : PartsFit
