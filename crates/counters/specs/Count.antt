-- The counter block (document 02, item 8): which counter a frame's end bumps, and the number of frames of each kind.
-- Assumes nothing: these are definitions.
use Rattle.std.specs.Prelude.{Bool, true, false, cond, List, [], ◌∷◌, ℕ, ◌+◌, min, ltb, eqb}
use Rattle.counters.specs.Ended.{Ended}
use Rattle.counters.specs.declared.Counters.{Counters}

-- the largest number of a counter
abbrev pub most_counted : ℕ
most_counted = 4294967295

-- ---- Which counter a frame bumps

abbrev pub is_good : Ended → Bool
is_good (Ended.refused n) = false
is_good Ended.more = false
is_good Ended.empty = false
is_good Ended.request = true
is_good (Ended.failed reason) = false

abbrev pub is_empty : Ended → Bool
is_empty (Ended.refused n) = false
is_empty Ended.more = false
is_empty Ended.empty = true
is_empty Ended.request = false
is_empty (Ended.failed reason) = false

abbrev pub is_reason : ℕ → Ended → Bool
is_reason k (Ended.refused n) = false
is_reason k Ended.more = false
is_reason k Ended.empty = false
is_reason k Ended.request = false
is_reason k (Ended.failed reason) = eqb reason k

-- a number for each counter, by the outcomes that it counts
abbrev pub each_by : ((Ended → Bool) → ℕ) → Counters
each_by n = record {
  good = n is_good;
  empty = n is_empty;
  reason1 = n (is_reason 1);
  reason2 = n (is_reason 2);
  reason3 = n (is_reason 3);
  reason4 = n (is_reason 4);
  reason5 = n (is_reason 5);
  reason6 = n (is_reason 6);
  reason7 = n (is_reason 7);
}

-- nothing is counted
abbrev pub cleared_counters : Counters
cleared_counters = each_by (λ counts. 0)

-- ---- One more

-- it stays at the largest number
unfoldable pub one_more : ℕ → ℕ
one_more n = cond (ltb n most_counted) (n + 1) n

abbrev pub raised : Bool → ℕ → ℕ
raised counted n = cond counted (one_more n) n

-- the block after a frame that ended so: where a call was refused or read no 00, none ended and none is counted
unfoldable pub bumped_for : Counters → Ended → Counters
bumped_for c e = record {
  good = raised (is_good e) c.good;
  empty = raised (is_empty e) c.empty;
  reason1 = raised (is_reason 1 e) c.reason1;
  reason2 = raised (is_reason 2 e) c.reason2;
  reason3 = raised (is_reason 3 e) c.reason3;
  reason4 = raised (is_reason 4 e) c.reason4;
  reason5 = raised (is_reason 5 e) c.reason5;
  reason6 = raised (is_reason 6 e) c.reason6;
  reason7 = raised (is_reason 7 e) c.reason7;
}

-- frames, one after the other
unfoldable pub bumped_for_all : Counters → List Ended → Counters
bumped_for_all c [] = c
bumped_for_all c (e ∷ es) = bumped_for_all (bumped_for c e) es

-- ---- Numbers of frames

unfoldable pub how_many : (Ended → Bool) → List Ended → ℕ
how_many counts [] = 0
how_many counts (e ∷ es) = cond (counts e) 1 0 + how_many counts es

-- each counter is the number of such frames, or the largest number where that is more
unfoldable pub tally_of : List Ended → Counters
tally_of es = each_by (λ counts. min (how_many counts es) most_counted)
