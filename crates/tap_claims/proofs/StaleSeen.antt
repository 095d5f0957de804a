-- Behind a start, a judged answer to a lookup of key 3, 4 or 5: accused of nothing it is exactly what the sets leave, and an older value is
-- told as stale. Assumes nothing.
use mathlib.Core.Path.{◌≡◌}
use mathlib.Core.List.{List, [], ◌∷◌, ◌++◌}
use native.Mathlib.Omega.{arith}
use Rattle.line.specs.Numbers.{command_key_lookup}
use Rattle.line.specs.Message.{Message}
use Rattle.supervisor.specs.Number.{top_set}
use Rattle.supervisor.specs.State.{unset}
use Rattle.responder.specs.Requests.{good}
use Rattle.supervisor_claims.specs.LastSet.{set_after, ReadBack}
use Rattle.supervisor_claims.proofs.claims.LastSetLaws.{after_sets, after-sets}
use Rattle.tap.specs.Tap.{Newest, tap_started}
use Rattle.tap.specs.Accused.{Accusation, key_asked}
use Rattle.tap.specs.Capture.{started, marked, happenings}
use Rattle.tap_claims.specs.Moments.{at_first, moment_after, listed_from, requests_listed, sets_newest_first}
use Rattle.tap_claims.specs.Claims.{LookupSeen, StaleSeen}
use Rattle.tap_claims.proofs.SetsCounted.{Knows, start-knows}
use Rattle.tap_claims.proofs.JudgedBytes.{happenings-bytes, behind-start}
use Rattle.tap_claims.proofs.JudgedKnows.{Judged, all_seen}
use Rattle.tap_claims.proofs.LookupRight.{right-lookup, stale-lookup}

-- a reply that is judged where what is known counts the sets among the requests ms
judged-lookup : (ms : List Message) (m r : Message) (w : Newest) (found : List Accusation) → w.verdict ≡ good m
    → m.command ≡ command_key_lookup → (h : ReadBack (key_asked m))
    → Judged h (after_sets (key_asked m) unset ms) (sets_newest_first (key_asked m) [] ms) r w found → LookupSeen ms m r found
judged-lookup ms m r w found v c h j =
    let key = key_asked m in
    let knows : Knows key j.known.keys (set_after key unset ms) (sets_newest_first key [] ms) =
    rw (after-sets key unset ms (omega arith)) at j.knows in
    let number : r.sequence ≡ top_set m.sequence = rw v at j.number in
    rw (j.accused, v)
    (record {
      reported = right-lookup j.known m r w.due h c knows j.bytes number;
      stale_told = λ few. stale-lookup j.known m r w.due h c knows (omega arith);
    })

pub stale_seen : StaleSeen
unfolding listed_from
stale_seen ts us bytes unmarked xs ys r w found e goes m v c h =
    let x = moment_after at_first (ts ++ (marked started ∷ [])) in
    let s = behind-start ts in
    judged-lookup (requests_listed xs) m r w found v c h
    (all_seen h (happenings x.begun us) (happenings-bytes us bytes unmarked x.begun s.quiet) tap_started unset [] (start-knows h)
    xs ys r w found (rw s.tap at e) goes)
