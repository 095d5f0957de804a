-- An accepted start of the main processor's end leaves nothing of what the parts held, within their published lengths.
-- Assumes nothing.
use mathlib.Core.Path.{◌≡◌, refl}
use mathlib.Core.Bool.{Bool, true, false}
use mathlib.Core.List.{List}
use Prim.Native.Nat.{ℕ}
use native.Mathlib.Omega.{arith}
use lib.ListN.{length, take}
use Rattle.octets.specs.Bytes.{overlay}
use Rattle.octets.proofs.Zeros.{zeros, length-zeros}
use Rattle.line.specs.Reader as LineReader
use Rattle.line_claims.proofs.LoanLaws.{put_first}
use Rattle.line_claims.proofs.StartForgets.{cleared, length-cleared, begun-by}
use Rattle.requester.specs.Layout
use Rattle.requester.specs.Calls
use Rattle.requester.specs.Calls.{MainParts, MainLongEnough}
use Rattle.requester.proofs.ValidLaws.{is-long-enough}
use Rattle.requester_claims.specs.Histories.{MainLent, main_lent_of, main_given_back, main_did, main_made, Accepted, main_started}
use Rattle.requester_claims.specs.Item14.{MainStartForgets}

-- the published bytes of the main processor's part behind a start
main_cleared : List ℕ
main_cleared = zeros Layout.requester_length

length-main-cleared : length main_cleared ≡ Layout.requester_length
unfolding main_cleared
length-main-cleared = length-zeros Layout.requester_length

-- a start that is accepted had room, and left its bytes in what it was lent
record Begun (p : MainParts) (l : MainLent) : Type 0 where
  room : MainLongEnough (main_lent_of l p)
  parts : main_started p l ≡ main_given_back l p (Calls.main_fresh_parts (main_lent_of l p))

begun : (p : MainParts) (l : MainLent) → Accepted p l → Begun p l
unfolding main_made main_did Calls.main_start_promise
begun p l h = by (Calls.main_long_enough (main_lent_of l p)) refl
  where
    by : (b : Bool) → Calls.main_long_enough (main_lent_of l p) ≡ b → Begun p l
    by true e = record { room = is-long-enough (main_lent_of l p) e; parts = rw e refl }
    by false e = absurd (let z : ◌≡◌ {A = ℕ} 0 1 = cc in omega arith)

fresh-requester : (p : MainParts) → (Calls.main_fresh_parts p).requester ≡ overlay 0 main_cleared p.requester
unfolding Calls.main_fresh_parts main_cleared
fresh-requester p = refl

fresh-reader : (p : MainParts) → (Calls.main_fresh_parts p).reader ≡ (LineReader.reader_start_promise p.reader).state
unfolding Calls.main_fresh_parts
fresh-reader p = refl

module _ (p : MainParts) (l : MainLent) (a : Accepted p l) where
  abbrev lent : MainParts
  lent = main_lent_of l p

  reader-bytes : take LineReader.reader_length (main_started p l).reader ≡ cleared
  reader-bytes =
      let b = begun p l a in
      rw (b.parts, fresh-reader lent, begun-by lent.reader b.room.reader)
      (put_first LineReader.reader_length p.reader cleared l.reader (omega arith) length-cleared b.room.reader)

  requester-bytes : take Layout.requester_length (main_started p l).requester ≡ main_cleared
  requester-bytes =
      let b = begun p l a in
      rw (b.parts, fresh-requester lent)
      (put_first Layout.requester_length p.requester main_cleared l.requester (omega arith) length-main-cleared b.room.requester)

pub main_start_forgets : MainStartForgets
main_start_forgets p q l k a b =
    (rw (reader-bytes p l a, reader-bytes q k b), rw (requester-bytes p l a, requester-bytes q k b))
