-- Laws of taking all that is pending: every room of sufficient length gets the same bytes.
-- Assumes nothing.
use Rattle.std.specs.Prelude.{Result, Ok, Err}
use Rattle.std.specs.Result.{result_unwrap_or}
use mathlib.Core.Path.{◌≡◌, refl, sym, ap, ◌∙◌}
use mathlib.Core.Bool.{Bool, true, false}
use mathlib.Core.List.{List}
use Prim.Native.Nat.{ℕ, ◌+◌, ◌-◌, ◌≤◌}
use native.Mathlib.Nat.{min-eq_right}
use native.Mathlib.Omega.{arith}
use lib.ListN.{length, take, length-replicate}
use Rattle.octets.specs.Bytes.{overlay}
use Rattle.octets.proofs.Overlay.{length_run, overlay-none, overlay-inside}
use Rattle.supervisor.specs.Limits.{most_pending}
use Rattle.supervisor.specs.Layout.{outbox_bytes_offset, outbox_from, outbox_to}
use Rattle.supervisor.specs.Valid.{valid_outbox}
use Rattle.supervisor.specs.Calls.{TakeReport, TakeOutcome, take_report, take_outcome, takeable, takeable_bytes, take_promise}
use Rattle.refusals.specs.declared.Refusal.{Refusal}
use Rattle.supervisor.proofs.ValidLaws.{outbox-valid}
use Rattle.responder.specs.Replay.{whole_room, take_everything, moved_to, all_pending}

whole_long : length whole_room ≡ most_pending
unfolding whole_room
whole_long = length-replicate {A = ℕ} most_pending 0

-- what a take in a room of sufficient length does
pub record TookAll (o room : List ℕ) : Type 0 where
  pub whole : take_promise o room
      ≡ record { report = (take_everything o).report; outbox = (take_everything o).outbox; room = overlay 0 (all_pending o) room }
  pub short : length (all_pending o) ≤ most_pending
  pub moves : (n : ℕ) → TakeReport.moved n ≡ (take_everything o).report → n ≡ length (all_pending o)
  pub refuses : (n : ℕ) → TakeReport.refused n ≡ (take_everything o).report → 0 ≡ length (all_pending o)

module _ (o room : List ℕ) (long : most_pending ≤ length room) where
  module _ (valid : valid_outbox o ≡ true) where
    -- how many bytes are taken
    all-of : (r : List ℕ) → most_pending ≤ length r → takeable o r ≡ outbox_to o - outbox_from o
    all-of r h = let v = outbox-valid o valid in min-eq_right (omega arith)

    bytes-long : length (takeable_bytes o whole_room) ≡ takeable o whole_room
    bytes-long =
        let v = outbox-valid o valid in
        let e = all-of whole_room (omega (arith, whole_long)) in
        length_run (outbox_bytes_offset + outbox_from o) (takeable o whole_room) o (omega arith)

    pending-is : all_pending o ≡ takeable_bytes o whole_room
    unfolding moved_to take_promise
    pending-is =
        let bs = takeable_bytes o whole_room in
        rw valid (ap (λ n. take n (overlay 0 bs whole_room)) (sym bytes-long) ∙ overlay-inside 0 bs whole_room (omega arith))

    same_count : takeable o room ≡ takeable o whole_room
    same_count = all-of room long ∙ sym (all-of whole_room (omega (arith, whole_long)))

    took-valid : TookAll o room
    unfolding take_promise moved_to
    took-valid =
        let v = outbox-valid o valid in
        let e = all-of whole_room (omega (arith, whole_long)) in
        let k = bytes-long in
        record {
          whole = rw (pending-is, valid, same_count);
          short = rw pending-is (omega arith);
          moves = λ n h. let m : TakeReport.moved n ≡ TakeReport.moved (takeable o whole_room) = rw valid at h in
              let q : n ≡ takeable o whole_room = cc in rw pending-is (omega arith);
          refuses = λ n h. let m : TakeReport.refused n ≡ TakeReport.moved (takeable o whole_room) = rw valid at h in
              let z : ◌≡◌ {A = ℕ} 0 1 = cc in absurd (omega arith);
        }

  took-not : valid_outbox o ≡ false → TookAll o room
  unfolding take_promise moved_to
  took-not e = record {
    whole = rw (e, overlay-none);
    short = rw e (omega arith);
    moves = λ n h. let m : TakeReport.moved n ≡ TakeReport.refused 12 = rw e at h in let z : ◌≡◌ {A = ℕ} 0 1 = cc in absurd (omega arith);
    refuses = λ n h. rw e;
  }

  took_by : (t : Bool) → valid_outbox o ≡ t → TookAll o room
  took_by true e = took-valid e
  took_by false e = took-not e

  pub took : TookAll o room
  took = took_by (valid_outbox o) refl

-- what may be pending, and how many bytes it has
pub pending-short : (o : List ℕ) → length (all_pending o) ≤ most_pending
pending-short o = (took o whole_room (omega (arith, whole_long))).short

-- a take in such a room: how many bytes it moved, and what it leaves
pub record TookSo (o room : List ℕ) (r : Result ℕ Refusal) (o' room' : List ℕ) : Type 0 where
  pub count : result_unwrap_or r 0 ≡ length (all_pending o)
  pub left : o' ≡ (take_everything o).outbox
  pub holds : room' ≡ overlay 0 (all_pending o) room

pub took-so : (o room : List ℕ) → most_pending ≤ length room → (r : Result ℕ Refusal) {o' room' : List ℕ}
    → take_outcome r o' room' ≡ take_promise o room → TookSo o room r o' room'
took-so o room long r done =
    let t = took o room long in
    let d = done ∙ t.whole in
    record {
      count = by r (ap (λ (x : TakeOutcome). x.report) d);
      left = ap (λ (x : TakeOutcome). x.outbox) d;
      holds = ap (λ (x : TakeOutcome). x.room) d;
    }
  where
    by : (r : Result ℕ Refusal) → take_report r ≡ (take_everything o).report → result_unwrap_or r 0 ≡ length (all_pending o)
    by (Ok n) e = (took o room long).moves n e
    by (Err why) e = (took o room long).refuses _ e
