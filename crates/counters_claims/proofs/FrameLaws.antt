-- Laws of the frames that a list of calls received: call after call, those that each call closed.
-- Assumes nothing.
use mathlib.Core.Path.{◌≡◌, refl}
use mathlib.Core.Bool.{Bool, true, false, false≢true, cond, ◌&&◌}
use mathlib.Core.List.{List, [], ◌∷◌, ◌++◌, append-nil, append_assoc}
use Prim.Native.Nat.{ℕ}
use native.Mathlib.Omega.{arith}
use lib.ListN.{length, drop_of_length-le}
use lib.Seq.{drop-append_seam}
use Rattle.line.specs.Frame.{split, closed_behind}
use Rattle.line.proofs.Pieces.{closed-join}
use Rattle.supervisor_claims.specs.Histories
use Rattle.supervisor_claims.specs.Histories.{Call, Made, enough}
use Rattle.supervisor_claims.specs.FrameHistory.{piece_read, is_accepted_start, bytes_received_by, starts_anew, received_since}
use Rattle.counters_claims.specs.CountHistory.{stretches, frames_of_stretches, frames_since, ended_all}

pub ended-append : (fs gs : List (List ℕ)) → ended_all (fs ++ gs) ≡ ended_all fs ++ ended_all gs
unfolding ended_all
ended-append [] gs = refl
ended-append (f ∷ fs) gs = rw (ended-append fs gs)

-- no byte, no frame
pub closed_none : (w : List ℕ) → closed_behind w [] ≡ []
unfolding closed_behind
closed_none w = rw append-nil (drop_of_length-le (split w).closed {i = length (split w).closed} (omega arith))

-- a start reads nothing
start-reads : (m : Made) → starts_anew m ≡ true → bytes_received_by m ≡ []
unfolding starts_anew bytes_received_by is_accepted_start piece_read
start-reads m e = by (enough m.call m.lent) m.call e
  where
    by : (t : Bool) (c : Call) → (t && is_accepted_start c) ≡ true → cond t (piece_read c) [] ≡ []
    by false c e = refl
    by true (Histories.start d) e = refl
    by true (Histories.receive image piece) e = absurd (false≢true e)
    by true (Histories.step image piece) e = absurd (false≢true e)
    by true (Histories.local c) e = absurd (false≢true e)

-- call after call
unfoldable pub closed_since : List ℕ → List Made → List (List ℕ)
closed_since w [] = []
closed_since w (m ∷ ms) = closed_behind w (bytes_received_by m) ++ closed_since (received_since w m) ms

frames-so : (ms : List Made) (w : List ℕ) → frames_of_stretches (stretches w ms) ≡ (split w).closed ++ closed_since w ms
unfolding frames_of_stretches stretches closed_since received_since split
frames-so [] w = refl
frames-so (m ∷ ms) w = by (starts_anew m) refl (frames-so ms []) (frames-so ms (w ++ bytes_received_by m))
  where
    bs : List ℕ
    bs = bytes_received_by m

    by : (t : Bool) → starts_anew m ≡ t → frames_of_stretches (stretches [] ms) ≡ closed_since [] ms
        → frames_of_stretches (stretches (w ++ bs) ms) ≡ (split (w ++ bs)).closed ++ closed_since (w ++ bs) ms
        → frames_of_stretches (cond t (w ∷ stretches [] ms) (stretches (w ++ bs) ms))
        ≡ (split w).closed ++ (closed_behind w bs ++ closed_since (cond t [] (w ++ bs)) ms)
    by true e i j = rw (start-reads m e, closed_none w, i)
    by false e i j = rw (j, closed-join w bs, append_assoc (split w).closed (closed_behind w bs))

pub frames-since : (w : List ℕ) (ms : List Made) → frames_since w ms ≡ closed_since w ms
unfolding frames_since
frames-since w ms = rw (frames-so ms w) (drop-append_seam (split w).closed (closed_since w ms))
