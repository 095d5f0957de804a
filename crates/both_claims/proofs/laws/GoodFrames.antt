-- The frames of received bytes: each is of bytes 1 to 255, and the good messages among them are in range.
-- Assumes nothing.
use mathlib.Core.List.{List, [], ◌∷◌, ◌++◌}
use Prim.Native.Nat.{ℕ}
use native.Mathlib.Omega.{arith}
use mathlib.Core.Path.{◌≡◌, refl}
use Rattle.octets.specs.Bytes.{Each, Byte}
use Rattle.octets.proofs.Each.{each_append}
use Rattle.line.specs.Message.{InRange}
use Rattle.line.specs.Judge.{LineVerdict, failure, good, judge}
use Rattle.line.specs.Frame.{split, non_empty, NonZero}
use Rattle.line.proofs.Pieces.{split-each, closed-rest}
use Rattle.line_claims.specs.Calls.{gathered, good_of, good_messages}
use Rattle.line_claims.proofs.SpellingClaim.{good-form}
use Rattle.supervisor_claims.specs.FrameHistory as Received

non_empty-each : (P : List ℕ → Type 0) (ps : List (List ℕ)) → Each P ps → Each P (non_empty ps)
unfolding non_empty
non_empty-each P [] h = tt
non_empty-each P ([] ∷ ps) h = non_empty-each P ps h.1
non_empty-each P ((b ∷ bs) ∷ ps) h = (h.0, non_empty-each P ps h.1)

-- behind the bytes w, of which the last frame had begun
pub closed-nonzero : (w bs : List ℕ) → Each Byte w → Each Byte bs → Each (Each NonZero) (non_empty (split ((split w).rest ++ bs)).closed)
closed-nonzero w bs h k =
    non_empty-each (Each NonZero) (split ((split w).rest ++ bs)).closed
    (split-each Byte NonZero (λ b i. (omega arith, omega (arith, i))) ((split w).rest ++ bs)
    (each_append Byte (split w).rest bs (split-each Byte Byte (λ b i. i) w h).1 k)).0

pub frames-nonzero : (w bs : List ℕ) → Each Byte w → Each Byte bs → Each (Each NonZero) (Received.frames_closed_by w bs)
unfolding Received.frames_closed_by
frames-nonzero w bs h k = rw (closed-rest w bs) (closed-nonzero w bs h k)

-- their good messages
pub good-range : (fs : List (List ℕ)) → Each (Each NonZero) fs → Each InRange (good_messages fs)
unfolding gathered
good-range [] h = tt
good-range (f ∷ fs) h = each_append InRange (good_of (judge f)) (good_messages fs) (by (judge f) refl) (good-range fs h.1)
  where
    by : (v : LineVerdict) → judge f ≡ v → Each InRange (good_of v)
    by (failure reason sequence) e = tt
    by (good m) e = ((good-form f m h.0 e).1, tt)
