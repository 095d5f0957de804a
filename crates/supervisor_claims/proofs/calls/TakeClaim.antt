-- Take on valid parts: the bytes moved, the room and the state.
-- Assumes nothing.
use mathlib.Core.Path.{◌≡◌, refl, ap, ◌∙◌}
use mathlib.Core.Bool.{Bool, true, false, cond, not}
use mathlib.Core.List.{List, [], ◌∷◌}
use Prim.Native.Nat.{ℕ, suc, ◌+◌, ◌-◌, ◌≤◌, ◌<◌}
use native.Mathlib.Nat.{add-zero}
use native.Mathlib.Omega.{arith}
use lib.Dec.{eqb}
use lib.ListN.{length, take, drop, get_or}
use Rattle.octets.specs.Bytes.{Each, Byte, number, bytes, run, overlay}
use Rattle.octets.specs.TableTests.{first_failing}
use Rattle.octets.proofs.Conditions.{cond-by}
use Rattle.octets.proofs.Numbers.{length-bytes, number-bytes, bytes-each}
use Rattle.octets.proofs.Overlay.{length_run, length-overlay, overlay-each, overlay-inside, overlay-before, overlay-after}
use Rattle.octets.proofs.SameBytes.{stored-long}
use Rattle.supervisor.specs.Layout
use Rattle.supervisor.specs.Valid.{valid_outbox}
use Rattle.supervisor.specs.Local
use Rattle.supervisor.specs.Calls
use Rattle.supervisor.proofs.ValidLaws.{OutboxValid, outbox-valid, valid-outbox}
use Rattle.supervisor_claims.specs.ByPart.{Part}
use Rattle.supervisor_claims.specs.View.{pending_of, view}
use Rattle.supervisor_claims.specs.Sound.{Valid, Sound, with_outbox}
use Rattle.supervisor_claims.specs.LocalCalls
use Rattle.supervisor_claims.specs.Histories
use Rattle.supervisor_claims.specs.Histories.{did, meant}
use Rattle.supervisor_claims.specs.Demand1.{Meets, parts_fit_call}
use Rattle.supervisor_claims.proofs.Sound.{sound-with}
use Rattle.supervisor_claims.proofs.calls.RowLaws.{RowLaws, unrefused, KeepsPart, last-test}
use Rattle.supervisor_claims.proofs.Meant.{valid-with}
use Rattle.supervisor_claims.proofs.laws.ViewLaws.{take_min, drop-run, drop-taken}

-- ---- the outbox after bytes were taken

-- where the pending bytes begin, and whether the last byte taken was not zero, written anew
moved_on : List ℕ → ℕ → List ℕ
moved_on o n = overlay Layout.outbox_from_offset (bytes 2 n) o

noted : List ℕ → ℕ → ℕ → List ℕ
noted o n x = overlay Layout.outbox_terminator_owed_offset (x ∷ []) (moved_on o n)

module _ (o : List ℕ) (n x : ℕ) (h : Layout.outbox_bytes_offset ≤ length o) where
  length-moved-on : length (moved_on o n) ≡ length o
  unfolding moved_on
  length-moved-on = length-overlay Layout.outbox_from_offset (bytes 2 n) o (omega (arith, length-bytes 2 n))

  length-noted : length (noted o n x) ≡ length o
  unfolding noted
  length-noted =
      length-overlay Layout.outbox_terminator_owed_offset (x ∷ []) (moved_on o n) (omega (arith, length-moved-on)) ∙ length-moved-on

  noted-from : n < 65536 → Layout.outbox_from (noted o n x) ≡ n
  unfolding noted moved_on
  noted-from l =
      let inside = overlay-inside Layout.outbox_from_offset (bytes 2 n) o (omega arith) in
      ap number (overlay-before Layout.outbox_terminator_owed_offset Layout.outbox_from_offset 2 (x ∷ []) (moved_on o n)
      (omega (arith, length-moved-on)) (omega arith))
      ∙ ap number (rw (length-bytes 2 n) at inside)
      ∙ number-bytes 2 n l

  noted-to : Layout.outbox_to (noted o n x) ≡ Layout.outbox_to o
  unfolding noted moved_on
  noted-to =
      ap number (overlay-before Layout.outbox_terminator_owed_offset Layout.outbox_to_offset 2 (x ∷ []) (moved_on o n)
      (omega (arith, length-moved-on)) (omega arith))
      ∙ ap number
      (overlay-after Layout.outbox_from_offset Layout.outbox_to_offset 2 (bytes 2 n) o (omega arith) (omega (arith, length-bytes 2 n)))

  noted-owed : Layout.outbox_terminator_owed (noted o n x) ≡ x
  unfolding noted number
  noted-owed =
      ap number (overlay-inside Layout.outbox_terminator_owed_offset (x ∷ []) (moved_on o n) (omega (arith, length-moved-on))) ∙ add-zero x

  noted-rest : (at k : ℕ) → Layout.outbox_bytes_offset ≤ at → run at k (noted o n x) ≡ run at k o
  unfolding noted moved_on
  noted-rest at k l =
      overlay-after Layout.outbox_terminator_owed_offset at k (x ∷ []) (moved_on o n) (omega (arith, length-moved-on)) (omega arith)
      ∙ overlay-after Layout.outbox_from_offset at k (bytes 2 n) o (omega arith) (omega (arith, length-bytes 2 n))

-- the flag's number, and what it says
flag-le : (t : Bool) → cond t 0 1 ≤ 1
flag-le true = omega arith
flag-le false = omega arith

flag-says : (t : Bool) → eqb (cond t 0 1) 1 ≡ not t
flag-says true = refl
flag-says false = refl

-- what is left in the outbox: the bytes not taken, and the flag by the last byte taken
record Left (o bs after : List ℕ) : Type 0 where
  valid : OutboxValid after
  pending : pending_of after ≡ drop (length bs) (pending_of o)
  terminator_owed : eqb (Layout.outbox_terminator_owed after) 1 ≡ Local.last_non_zero (eqb (Layout.outbox_terminator_owed o) 1) bs

leaves-some : (o : List ℕ) (b : ℕ) (bs : List ℕ) → OutboxValid o → length (b ∷ bs) ≤ Layout.outbox_to o - Layout.outbox_from o
    → Left o (b ∷ bs) (noted o (Layout.outbox_from o + length (b ∷ bs)) (Calls.last_non_zero_flag (b ∷ bs)))
unfolding pending_of Local.last_non_zero
leaves-some o b bs v h =
    let k = suc (length bs) in
    let n = Layout.outbox_from o + k in
    let offset = Layout.outbox_bytes_offset in
    let last : k - 1 ≡ length bs = omega arith in
    let x = Calls.last_non_zero_flag (b ∷ bs) in
    let l : offset ≤ length o = omega arith in
    let from = noted-from o n x l (omega arith) in
    let to = noted-to o n x l in
    let terminator_owed = noted-owed o n x l in
    let begin : offset + n ≡ offset + Layout.outbox_from o + k = omega arith in
    let size : Layout.outbox_to o - n ≡ Layout.outbox_to o - Layout.outbox_from o - k = omega arith in
    let rest = noted-rest o n x l (offset + n) (Layout.outbox_to o - n) (omega arith) in
    record {
      valid = record {
        long = rw (length-noted o n x l) v.long;
        order = rw (from, to) (omega arith);
        most = rw to v.most;
        terminator_owed = rw terminator_owed (flag-le (eqb (get_or (b ∷ bs) (k - 1) 0) 0));
      };
      pending = rw (from, to, rest, begin, size) (drop-run k (offset + Layout.outbox_from o) _ o h);
      terminator_owed = rw (terminator_owed, last) (flag-says (eqb (get_or (b ∷ bs) (length bs) 0) 0));
    }

leaves : (o bs : List ℕ) → OutboxValid o → length bs ≤ Layout.outbox_to o - Layout.outbox_from o → Left o bs (Calls.outbox_after_take bs o)
unfolding Calls.outbox_after_take Local.last_non_zero noted moved_on
leaves o [] v h = record { valid = v; pending = refl; terminator_owed = refl }
leaves o (b ∷ bs) v h = leaves-some o b bs v h

-- the bytes taken are the first of those pending
taken-first : (o room : List ℕ) → take (length room) (pending_of o) ≡ Calls.takeable_bytes o room
unfolding pending_of
taken-first o room = take_min (length room) _ _

-- ---- the claim

module _ (p : Calls.Parts) (v : Valid p) where
  pub take-meant : (room : List ℕ) → let t = Calls.take_promise p.outbox room in
      (t.report ≡ Calls.moved (length (Local.taken (view p) (length room))))
      × (t.room ≡ overlay 0 (Local.taken (view p) (length room)) room)
      × (view (with_outbox p t.outbox) ≡ Local.after_take (view p) (length room))
      × Valid (with_outbox p t.outbox)
  unfolding Calls.take_promise Local.taken Local.after_take view
  take-meant room =
      let o = p.outbox in
      let w = outbox-valid o v.outbox in
      let n = Calls.takeable o room in
      let bs = take (length room) (pending_of o) in
      let bytes = taken-first o room in
      let size : length bs ≡ n = rw bytes (length_run (Layout.outbox_bytes_offset + Layout.outbox_from o) n o (omega arith)) in
      let left = leaves o bs w (omega arith) in
      rw (v.outbox, ← bytes, ← size) (
        refl,
        refl,
        rw (left.pending, left.terminator_owed, drop-taken (length room) (pending_of o)),
        valid-with p Part.outbox _ v (valid-outbox _ left.valid),
      )

-- ---- its row

module _ (p : Calls.Parts) (s : Sound p) where
  taken-keeps : (bs o : List ℕ) → Layout.outbox_length ≤ length o → Each Byte o → KeepsPart o (Calls.outbox_after_take bs o)
  unfolding Calls.outbox_after_take
  taken-keeps [] o h b = (b, refl)
  taken-keeps (x ∷ bs) o h b =
      let n = Layout.outbox_from o + length (x ∷ bs) in
      let last = Calls.last_non_zero_flag (x ∷ bs) in
      let on = overlay Layout.outbox_from_offset (bytes 2 n) o in
      let long : length on ≡ length o = stored-long 2 Layout.outbox_from_offset n o (omega arith) in
      let flag : last < 256 = cond-by Byte (eqb (get_or (x ∷ bs) (length (x ∷ bs) - 1) 0) 0) 0 1 (λ e. omega arith) (λ e. omega arith) in (
        overlay-each Byte Layout.outbox_terminator_owed_offset (last ∷ []) on (flag, tt)
            (overlay-each Byte Layout.outbox_from_offset _ o (bytes-each 2 n) b),
        length-overlay Layout.outbox_terminator_owed_offset (last ∷ []) on (omega arith) ∙ long,
      )

  take-keeps : (room : List ℕ) → KeepsPart p.outbox (Calls.take_promise p.outbox room).outbox
  unfolding Calls.take_promise
  take-keeps room =
      rw s.valid.outbox
      (taken-keeps (Calls.takeable_bytes p.outbox room) p.outbox (outbox-valid p.outbox s.valid.outbox).long
      s.bytes.outbox)

  take_meets : (room : List ℕ)
      → Meets p (did p (Histories.local (Histories.take room))) (meant (view p) (Histories.local (Histories.take room)))
  unfolding did meant
  take_meets room =
      let t = take-meant p s.valid room in
      let k = take-keeps room in
      let w = sound-with p Part.outbox _ s t.3.outbox k.0 k.1 in
      record { answer = ap LocalCalls.take_answer t.0; out = t.1; leaves = (t.2, w.0, w.1) }

pub take-laws : (room : List ℕ) → RowLaws (Histories.take room)
unfolding did meant parts_fit_call first_failing Calls.take_promise Local.taken Local.after_take
take-laws room = record {
  by_taken = λ p. refl;
  of_change = (refl, (room, refl));
  meets = λ p s t. take_meets p s room;
  refuses = λ p e. rw (last-test (valid_outbox p.outbox) e);
  tested = λ p e. rw (last-test (valid_outbox p.outbox) e) (unrefused _ tt, tt);
  keeps_rest = λ s. refl;
  alike = λ t z e. refl;
}
