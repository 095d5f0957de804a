-- Document 02's item 14, of the main processor's end: a start leaves nothing of what the parts held, the data of a set among it.
-- Assumes nothing: these are definitions and statements.
use Rattle.std.specs.Prelude.{◌≡◌, take}
use Rattle.line.specs.Reader.{reader_length}
use Rattle.requester.specs.Layout.{requester_length}
use Rattle.requester.specs.Calls.{MainParts}
use Rattle.requester_claims.specs.Histories.{MainLent, Accepted, main_started}

abbrev pub MainStartForgets : Type 0
MainStartForgets = (p q : MainParts) (l k : MainLent) → Accepted p l → Accepted q k
    → (take reader_length (main_started p l).reader ≡ take reader_length (main_started q k).reader)
    × (take requester_length (main_started p l).requester ≡ take requester_length (main_started q k).requester)

pub record MainItem14 : Type 0 where
  -- two accepted starts leave equal parts within their published lengths, whatever the parts held
  pub main_start_forgets : MainStartForgets
