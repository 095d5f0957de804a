-- An accepted start leaves nothing of what the parts held, within their published lengths.
-- Assumes nothing.
use mathlib.Core.Path.{◌≡◌, refl, ◌∙◌}
use mathlib.Core.Bool.{Bool, true, false}
use mathlib.Core.List.{List, ◌++◌}
use Prim.Native.Nat.{ℕ, ◌-◌}
use native.Mathlib.Omega.{arith}
use lib.ListN.{length, take, length-append}
use Rattle.octets.specs.Bytes.{bytes, overlay}
use Rattle.octets.proofs.Numbers.{length-bytes}
use Rattle.octets.proofs.Zeros.{zeros, length-zeros}
use Rattle.line.specs.Reader as LineReader
use Rattle.line_claims.proofs.LoanLaws.{put_first}
use Rattle.supervisor.specs.Layout
use Rattle.supervisor.specs.Calls
use Rattle.supervisor.specs.Calls.{Parts}
use Rattle.supervisor.specs.Local.{pong}
use Rattle.supervisor.specs.Valid.{good_start}
use Rattle.supervisor.proofs.StartLaws.{long-enough-is}
use Rattle.supervisor_claims.specs.ByPart.{Part, published, part}
use Rattle.supervisor_claims.specs.Histories.{done, Lent, lent_of, back_by, given_back, did, made, start_with}
use Rattle.supervisor_claims.specs.Forgets.{StartForgets}
use Rattle.supervisor_claims.proofs.ByPart.{every, of, part_by, published-some}
use Rattle.supervisor_claims.proofs.Sound.{Long}
use Rattle.supervisor_claims.proofs.laws.Locality.{lent-part}

-- the published bytes of each part
fresh_bytes : List ℕ → Part → List ℕ
fresh_bytes d Part.reader = zeros LineReader.reader_length
fresh_bytes d Part.outbox = zeros Layout.outbox_length
fresh_bytes d Part.factory = d ++ bytes 4 0 ++ pong
fresh_bytes d Part.settings = zeros Layout.settings_length
fresh_bytes d Part.registers = bytes 8 1 ++ zeros (Layout.registers_length - 8)

fresh-long : (d : List ℕ) → length d ≡ Layout.start_length → (i : Part) → length (fresh_bytes d i) ≡ published i
unfolding fresh_bytes
fresh-long d e Part.reader = length-zeros LineReader.reader_length
fresh-long d e Part.outbox = length-zeros Layout.outbox_length
fresh-long d e Part.factory = simp (length-append, length-bytes) (omega arith)
fresh-long d e Part.settings = length-zeros Layout.settings_length
fresh-long d e Part.registers =
    length-append (bytes 8 1) _ ∙ omega (arith, length-bytes 8 1, length-zeros (Layout.registers_length - 8))

fresh-is : (d : List ℕ) (p : Parts) (i : Part) → part (Calls.fresh_parts d p) i ≡ overlay 0 (fresh_bytes d i) (part p i)
unfolding fresh_bytes Calls.fresh_parts LineReader.reader_fresh
fresh-is d p Part.reader = refl
fresh-is d p Part.outbox = refl
fresh-is d p Part.factory = refl
fresh-is d p Part.settings = refl
fresh-is d p Part.registers = refl

-- a start that is accepted had room, and left its bytes in what it was lent
record Accepted (p : Parts) (l : Lent) (d : List ℕ) : Type 0 where
  room : Calls.long_enough (lent_of l p) ≡ true
  parts : (made p (start_with l d)).parts ≡ given_back l p (Calls.fresh_parts d (lent_of l p))

accepted : (p : Parts) (l : Lent) (d : List ℕ) → (made p (start_with l d)).answer ≡ done → Accepted p l d
unfolding made did Calls.start_promise
accepted p l d h = by (Calls.long_enough (lent_of l p)) (good_start d) refl refl
  where
    by : (x y : Bool) → Calls.long_enough (lent_of l p) ≡ x → good_start d ≡ y → Accepted p l d
    by true true e f = record { room = e; parts = rw (e, f) refl }
    by true false e f = absurd (let z : ◌≡◌ {A = ℕ} 0 1 = cc in omega arith)
    by false y e f = absurd (let z : ◌≡◌ {A = ℕ} 0 1 = cc in omega arith)

module _ (p : Parts) (l : Lent) (d : List ℕ) (size : length d ≡ Layout.start_length) (a : Accepted p l d) where
  abbrev lent : Parts
  lent = lent_of l p

  enough : Long lent
  enough =
      let r = long-enough-is lent a.room in
      record { reader = r.reader; outbox = r.outbox; factory = r.factory; settings = r.settings; registers = r.registers }

  left-bytes : (i : Part) → take (published i) (part (made p (start_with l d)).parts i) ≡ fresh_bytes d i
  left-bytes i =
      let e = lent-part l p i in
      rw (a.parts, part_by (back_by l p (Calls.fresh_parts d lent)) i, fresh-is d lent i, e)
      (put_first (published i) (part p i) (fresh_bytes d i) (l i) (published-some i) (fresh-long d size i) (rw e at (of enough i)))

pub start_forgets : StartForgets
start_forgets p q l k d t g h = every (λ i. rw (left-bytes p l d t.0 (accepted p l d g) i, left-bytes q k d t.0 (accepted q k d h) i))
