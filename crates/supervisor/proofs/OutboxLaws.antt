-- Laws of a call of take: nothing to move, and the bytes moved.
-- Assumes nothing.
use mathlib.Core.Path.{◌≡◌, refl}
use mathlib.Core.Bool.{true, cond}
use mathlib.Core.List.{List, [], ◌∷◌}
use Prim.Native.Nat.{ℕ, ◌+◌, ◌-◌, ◌≤◌, ◌<◌, min}
use native.Mathlib.Nat.{min-le_left, min-le_right}
use native.Mathlib.Omega.{arith}
use lib.Dec.{eqb}
use lib.ListN.{length, drop, set, get_or}
use lib.Seq.{get_or-take, get_or-drop}
use Rattle.std.specs.Prelude.{Ok}
use Rattle.octets.specs.Bytes.{bytes, run, number_at, overlay, put, copied}
use Rattle.octets.proofs.Numbers.{length-bytes, number-one}
use Rattle.octets.proofs.Overlay.{length_run, length-overlay, overlay-none, overlay-one, put-fits, copied-fits}
use Rattle.supervisor.specs.Layout.{outbox_from_offset, outbox_terminator_owed_offset, outbox_bytes_offset, outbox_from, outbox_to}
use Rattle.supervisor.specs.Valid.{valid_outbox}
use Rattle.supervisor.specs.Calls.{take_outcome, last_non_zero_flag, outbox_after_take, takeable, takeable_bytes, take_promise}
use Rattle.supervisor.proofs.ValidLaws.{outbox-valid}

-- the last of n bytes
last-of-run : (at n : ℕ) (o : List ℕ) → 0 < n → at + n ≤ length o
    → get_or (run at n o) (length (run at n o) - 1) 0 ≡ number_at 1 o (at + n - 1)
last-of-run at n o p h =
    let e : at + (n - 1) ≡ at + n - 1 = omega arith in
    rw (length_run at n o h, get_or-take n (drop at o) (n - 1) 0 (omega arith), get_or-drop at o (n - 1) 0, e)
    (number-one o (at + n - 1) (omega arith))

after-some : (bs o : List ℕ) → 0 < length bs
    → overlay outbox_terminator_owed_offset (last_non_zero_flag bs ∷ [])
    (overlay outbox_from_offset (bytes 2 (outbox_from o + length bs)) o)
    ≡ outbox_after_take bs o
unfolding outbox_after_take
after-some [] o h = absurd (omega arith)
after-some (b ∷ bs) o h = refl

-- n is the smaller of the room and the bytes pending
module _ (o room : List ℕ) {from to n : ℕ} (valid : valid_outbox o ≡ true) (first : from ≡ outbox_from o) (past : to ≡ outbox_to o)
    (smaller : n ≡ min (length room) (to - from)) where
  same : n ≡ takeable o room
  same = cc

  pub take_none : n ≡ 0 → take_outcome (Ok 0) o room ≡ take_promise o room
  unfolding take_promise outbox_after_take
  take_none z = rw (valid, ← same, z, overlay-none)

  there : outbox_bytes_offset + from + n ≤ length o
  there =
      let v = outbox-valid o valid in
      omega (arith, min-le_right (length room) (to - from))

  room_after : copied o (outbox_bytes_offset + from) n room 0 ≡ overlay 0 (takeable_bytes o room) room
  room_after =
      rw (← same, ← first)
      (copied-fits o (outbox_bytes_offset + from) n room 0 there (omega (arith, min-le_left (length room) (to - from))))

  -- where the pending bytes now begin is stored, then whether a 00 is owed
  outbox-after : 0 < n
      → set (put outbox_from_offset (bytes 2 (from + n)) o) outbox_terminator_owed_offset
      (cond (eqb (number_at 1 o (outbox_bytes_offset + from + n - 1)) 0) 0 1)
      ≡ outbox_after_take (takeable_bytes o room) o
  outbox-after p =
      let at = outbox_bytes_offset + from in
      let h = there in
      let offset = bytes 2 (from + n) in
      let k : length offset ≡ 2 = length-bytes 2 (from + n) in
      let q : length (run at n o) ≡ n = length_run at n o h in
      let l : length (overlay outbox_from_offset offset o) ≡ length o = length-overlay outbox_from_offset offset o (omega arith) in
      rw (
        ← same,
        ← first,
        put-fits outbox_from_offset offset o (omega arith),
        overlay-one outbox_terminator_owed_offset _ (overlay outbox_from_offset offset o) (omega arith),
      )
      (rw (last-of-run at n o p h, q, ← first) at (after-some (run at n o) o (omega arith)))

  pub take-some : {last owed : ℕ} {s t : List ℕ} → (n ≡ 0 → ⊥) → last ≡ number_at 1 o (outbox_bytes_offset + from + n - 1)
      → s ≡ copied o (outbox_bytes_offset + from) n room 0 → t ≡ put outbox_from_offset (bytes 2 (from + n)) o
      → owed ≡ cond (eqb last 0) 0 1 → take_outcome (Ok n) (set t outbox_terminator_owed_offset owed) s ≡ take_promise o room
  unfolding take_promise
  take-some z f g h k =
      let p : 0 < n = omega arith in
      rw valid (cc (same, room_after, outbox-after p))
