-- A frame that is delivered to the supervisor in any cuts, and what takes move of the pending bytes.
-- Assumes nothing.
use mathlib.Core.Path.{◌≡◌, refl, sym, ap, ◌∙◌}
use mathlib.Core.Bool.{Bool, true, false, cond}
use mathlib.Core.List.{List, [], ◌∷◌, ◌++◌, append_assoc}
use mathlib.Core.Option.{some}
use Prim.Native.Nat.{ℕ, zero, suc, ◌≤◌}
use native.Mathlib.Omega.{arith}
use lib.Dec.{eqb-suc-zero}
use lib.ListN as ListN
use lib.ListN.{length, take-append-drop}
use Rattle.octets.specs.Bytes.{Each, overlay}
use Rattle.octets.proofs.Overlay.{overlay-inside}
use Rattle.line.specs.Frame.{split}
use Rattle.line.proofs.Pieces.{split_at}
use Rattle.supervisor.specs.State.{State, with_received}
use Rattle.supervisor.specs.Local
use Rattle.responder.specs.Requests.{receive_byte, receive_stream}
use Rattle.supervisor_claims.specs.Histories
use Rattle.supervisor_claims.specs.Histories.{Call, Made, enough, meant, meant_made, left_meant, outputs_meant}
use Rattle.supervisor_claims.specs.FrameHistory.{piece_read, bytes_received_by, frame_carried, frames_carried}
use Rattle.supervisor_claims.proofs.claims.InOrder.{stream-append, in_order}
use Rattle.line.proofs.Judged.{tail_within}
use Rattle.supervisor_claims.specs.Replies.{moved_bytes, taken_bytes}
use Rattle.both_claims.specs.RoundTrip.{TakesPiece, ReceivesWith, all_received}
use Rattle.both_claims.specs.Pending.{Takes}

-- ---- a frame

-- the image does not matter before a 00
image-free : (i j : List ℕ) (bs : List ℕ) → Each (λ b. 1 ≤ b) bs → (x : State) → receive_stream i x bs ≡ receive_stream j x bs
unfolding receive_stream receive_byte
image-free i j [] h x = refl
image-free i j (zero ∷ bs) h x = absurd (omega (arith, h.0))
image-free i j (suc b ∷ bs) h x = rw eqb-suc-zero (image-free i j bs h.1 _)

call-receives : (image : List ℕ) (x : State) (c : Call) → ReceivesWith image c → (meant x c).state ≡ receive_stream image x (piece_read c)
unfolding meant piece_read
call-receives image x (Histories.start d) r = absurd r
call-receives image x (Histories.receive i piece) r = rw r
call-receives image x (Histories.step i piece) r = rw r
call-receives image x (Histories.local c) r = absurd r

made-receives : (image : List ℕ) (x : State) (m : Made) → ReceivesWith image m.call
    → (meant_made x m).state ≡ receive_stream image x (bytes_received_by m)
unfolding meant_made bytes_received_by receive_stream
made-receives image x m r = by (enough m.call m.lent) refl
  where
    by : (t : Bool) → enough m.call m.lent ≡ t → (meant_made x m).state ≡ receive_stream image x (bytes_received_by m)
    by true e = rw e (call-receives image x m.call r)
    by false e = rw e

-- whatever its image
some-image : (c : Call) → TakesPiece c → (i : List ℕ) × ReceivesWith i c
some-image (Histories.start d) r = absurd r
some-image (Histories.receive i piece) r = (i, refl)
some-image (Histories.step i piece) r = (i, refl)
some-image (Histories.local c) r = absurd r

module _ (image : List ℕ) where
  before-receives : (ms : List Made) (x : State) → Each (λ (m : Made). TakesPiece m.call) ms → Each (λ b. 1 ≤ b) (all_received ms)
      → left_meant x ms ≡ receive_stream image x (all_received ms)
  unfolding left_meant all_received receive_stream
  before-receives [] x r h = refl
  before-receives (m ∷ ms) x r h =
      let i = some-image m.call r.0 in
      let k = each-split (bytes_received_by m) (all_received ms) h in
      let e : (meant_made x m).state ≡ receive_stream image x (bytes_received_by m) =
      made-receives i.0 x m i.1 ∙ image-free i.0 image (bytes_received_by m) k.0 x in
      rw e (before-receives ms (receive_stream image x (bytes_received_by m)) r.1 k.1)
      ∙ sym (stream-append image x (bytes_received_by m) (all_received ms))
    where
      each-split : (xs ys : List ℕ) → Each (λ b. 1 ≤ b) (xs ++ ys) → Each (λ b. 1 ≤ b) xs × Each (λ b. 1 ≤ b) ys
      each-split [] ys h = (tt, h)
      each-split (x ∷ xs) ys h = let k = each-split xs ys h.1 in ((h.0, k.0), k.1)

  -- the pieces before, and the last one, which ends with the 00
  pub delivered : (before : List Made) (last : Made) (x : State) → Each (λ (m : Made). TakesPiece m.call) before
      → ReceivesWith image last.call → x.received ≡ some []
      → (form bs : List ℕ) → Each (λ b. 1 ≤ b) form → all_received before ++ bs ≡ form → bytes_received_by last ≡ bs ++ (0 ∷ [])
      → (meant_made (left_meant x before) last).state ≡ with_received (frame_carried image x form) (some [])
  unfolding split frames_carried
  delivered before last x r i idle form bs h e f =
      let k = before-receives before x r (each-front (all_received before) bs (rw e h)) in
      let whole : all_received before ++ (bs ++ (0 ∷ [])) ≡ form ++ (0 ∷ []) =
      sym (append_assoc (all_received before) bs (0 ∷ [])) ∙ ap (λ (z : List ℕ). z ++ (0 ∷ [])) e in
      let y = rw (split_at form [] h, tail_within [] (omega arith)) at (in_order image x (form ++ (0 ∷ [])) idle) in
      made-receives image (left_meant x before) last i
      ∙ rw (k, f) (sym (stream-append image x (all_received before) (bs ++ (0 ∷ []))) ∙ ap (receive_stream image x) whole ∙ y)
    where
      each-front : (xs ys : List ℕ) → Each (λ b. 1 ≤ b) (xs ++ ys) → Each (λ b. 1 ≤ b) xs
      each-front [] ys h = tt
      each-front (x ∷ xs) ys h = (h.0, each-front xs ys h.1)

-- ---- takes

module _ (x : State) (room : List ℕ) where
  abbrev moved : List ℕ
  moved = Local.taken x (length room)

  moved-bytes : ListN.take (length moved) (overlay 0 moved room) ≡ moved
  moved-bytes = overlay-inside 0 moved room (omega arith)

  moved-rest : moved ++ (Local.after_take x (length room)).pending ≡ x.pending
  unfolding Local.taken Local.after_take
  moved-rest = take-append-drop (length room) x.pending

take-moves : (x : State) (room : List ℕ)
    → let d = meant x (Histories.local (Histories.take room)) in moved_bytes d.answer d.out ++ d.state.pending ≡ x.pending
unfolding meant
take-moves x room = rw (moved-bytes x room) (moved-rest x room)

made-moves : (x : State) (m : Made) → Takes m.call
    → let d = meant_made x m in moved_bytes d.answer d.out ++ d.state.pending ≡ x.pending
unfolding meant_made
made-moves x m h = by (enough m.call m.lent)
  where
    by : (t : Bool) → let d = cond t (meant x m.call) (Histories.means (Histories.refused 12) (Histories.untouched m.call) x) in
        moved_bytes d.answer d.out ++ d.state.pending ≡ x.pending
    by true = rw h.1 (take-moves x h.0)
    by false = refl

-- the bytes that takes move, and then those that are left, are those that were pending
pub all_moved : (ts : List Made) (x : State) → Each (λ (m : Made). Takes m.call) ts
    → taken_bytes (outputs_meant x ts) ++ (left_meant x ts).pending ≡ x.pending
unfolding taken_bytes outputs_meant left_meant
all_moved [] x h = refl
all_moved (m ∷ ts) x h =
    let d = meant_made x m in
    append_assoc (moved_bytes d.answer d.out) (taken_bytes (outputs_meant d.state ts)) (left_meant d.state ts).pending
    ∙ rw (all_moved ts d.state h.1) (made-moves x m h.0)
