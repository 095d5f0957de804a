-- What calls that are neither an accepted start nor an accepted restore add to where a settings key's value comes from.
-- Assumes nothing.
use mathlib.Core.Path.{◌≡◌, refl, sym, ap, ◌∙◌}
use mathlib.Core.Bool.{Bool, true, false, false≢true}
use mathlib.Core.List.{List, [], ◌∷◌, ◌++◌, append_assoc, append-nil}
use mathlib.Core.Option.{Option, none, some}
use Prim.Native.Nat.{ℕ}
use native.Mathlib.Omega.{arith}
use lib.ListN.{length, drop_of_length-le}
use Rattle.octets.specs.Bytes.{Each}
use Rattle.line.specs.Message.{Message}
use Rattle.line.specs.Frame.{split, non_empty, closed_behind}
use Rattle.saving.specs.Saving.{SavedEntry}
use Rattle.supervisor_claims.specs.Histories
use Rattle.supervisor_claims.specs.Histories.{Call, Made, enough}
use Rattle.supervisor_claims.specs.FrameHistory.{piece_read, is_accepted_start, bytes_received_by, starts_anew, received_since}
use Rattle.supervisor_claims.specs.FrameHistory.{received_since_all, frames_closed_by}
use Rattle.supervisor_claims.specs.LastSet.{requests_in, records_restored, some_records, is_restore, accepts_restore, Stays, Origin}
use Rattle.supervisor_claims.specs.LastSet.{since_restore, since_more, since_call, since_made, since_all}

-- no bytes bring no frames
pub frames-none : (w : List ℕ) → frames_closed_by w [] ≡ []
unfolding frames_closed_by closed_behind non_empty
frames-none w = rw (append-nil, drop_of_length-le (split w).closed {i = length (split w).closed} (omega arith))

-- no request more
pub more-none : (x : Origin) → since_more x [] ≡ x
more-none x = rw append-nil

-- one call: the requests that it brings, and nothing else
module _ (k : ℕ) (w : List ℕ) (x : Origin) where
  abbrev Adds : Origin → List ℕ → Type 0
  Adds o bs = o ≡ since_more x (requests_in (frames_closed_by w bs))

  adds_none : Adds x []
  unfolding requests_in
  adds_none = rw (frames-none w) (sym (more-none x))

  call_stays : (c : Call) → is_accepted_start c ≡ false → is_restore c ≡ false → Adds (since_call k w x c) (piece_read c)
  unfolding since_call piece_read
  call_stays (Histories.start d) e f = rw e adds_none
  call_stays (Histories.receive image piece) e f = refl
  call_stays (Histories.step image piece) e f = refl
  call_stays (Histories.local c) e f = by (records_restored c) f
    where
      by : (o : Option (List SavedEntry)) → some_records o ≡ false → Adds (since_restore k x o) []
      by none f = adds_none
      by (some es) f = absurd (false≢true (sym f))

  pub stays-since : (m : Made) → Stays m → Adds (since_made k w x m) (bytes_received_by m)
  unfolding since_made bytes_received_by starts_anew accepts_restore
  stays-since m n = by (enough m.call m.lent) refl
    where
      by : (t : Bool) → enough m.call m.lent ≡ t → Adds (since_made k w x m) (bytes_received_by m)
      by true f = rw f (call_stays m.call (rw f at n.no_start) (rw f at n.no_restore))
      by false f = rw f adds_none

-- requests more, and nothing else
pub record More (x y : Origin) : Type 0 where
  pub requests : List Message
  pub origin : y ≡ since_more x requests

pub more-then : {x y z : Origin} → More x y → More y z → More x z
more-then {x} a b = record {
  requests = a.requests ++ b.requests;
  origin =
      b.origin
      ∙ rw a.origin
      (ap (λ rs. record { setting = x.setting; requests = rs }) (append_assoc x.requests a.requests b.requests));
}

-- any number of calls
pub all_stay : (k : ℕ) (ns : List Made) → Each Stays ns → (w : List ℕ) (x : Origin) → More x (since_all k w x ns)
unfolding since_all
all_stay k [] h w x = record { requests = []; origin = sym (more-none x) }
all_stay k (m ∷ ns) h w x =
    more-then (record { requests = requests_in (frames_closed_by w (bytes_received_by m)); origin = stays-since k w x m h.0 })
    (all_stay k ns h.1 (received_since w m) (since_made k w x m))

-- calls behind calls
pub since-append : (k : ℕ) (ms ns : List Made) (w : List ℕ) (x : Origin)
    → since_all k w x (ms ++ ns) ≡ since_all k (received_since_all w ms) (since_all k w x ms) ns
unfolding since_all received_since_all
since-append k [] ns w x = refl
since-append k (m ∷ ms) ns w x = since-append k ms ns (received_since w m) (since_made k w x m)
