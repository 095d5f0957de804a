-- A stream received byte by byte, everything taken after each byte, in any rooms: the bytes taken are the frames of the replies, in order.
-- Assumes nothing.
use mathlib.Core.Path.{◌≡◌, refl, ap, ◌∙◌}
use mathlib.Core.Bool.{true}
use mathlib.Core.List.{List, [], ◌∷◌, append_assoc}
use Prim.Native.Nat.{ℕ, ◌+◌, ◌-◌, ◌≤◌}
use native.Mathlib.Omega.{arith}
use lib.ListN.{length, drop, length-take, length-replicate}
use Rattle.octets.specs.Bytes.{Each, Byte}
use Rattle.octets.proofs.Overlay.{overlay-inside}
use Rattle.supervisor.specs.Limits.{most_pending}
use Rattle.supervisor.specs.Layout
use Rattle.supervisor.specs.State.{fresh}
use Rattle.supervisor.specs.Local
use Rattle.supervisor.specs.Valid.{valid_outbox}
use Rattle.supervisor.specs.Calls.{Parts, TakeReport}
use Rattle.supervisor.proofs.ValidLaws.{outbox-valid}
use Rattle.responder.specs.Requests
use Rattle.responder.specs.Replay.{whole_room, take_everything, moved_to, replay_byte, replay_bytes}
use Rattle.supervisor_claims.specs.View.{pending_of, factory_of, view}
use Rattle.supervisor_claims.specs.Sound.{Sound}
use Rattle.supervisor_claims.specs.Histories
use Rattle.supervisor_claims.specs.Histories.{done, Did, did, made, meant, meant_made, outputs}
use Rattle.supervisor_claims.specs.LocalCalls.{take_answer}
use Rattle.supervisor_claims.specs.Replies.{Cycle, Ample, byte_received, taken_in, byte_by_byte, stream_of, moved_bytes, taken_bytes}
use Rattle.supervisor_claims.specs.Demand1.{Meets}
use Rattle.supervisor_claims.specs.Demand2.{RepliesInOrder, RepliesReplayed, ReplayJoined}
use Rattle.supervisor_claims.proofs.laws.TakenAll.{larger-room, all_taken, after_all, cycle, session, replies-taken}
use Rattle.supervisor_claims.proofs.claims.History.{started, one_call}
use Rattle.supervisor_claims.proofs.calls.CallClaims.{zeros-each, call-meets}

pending-short : (o : List ℕ) → valid_outbox o ≡ true → length (pending_of o) ≤ most_pending
unfolding pending_of
pending-short o v =
    let w = outbox-valid o v in
    omega (arith, length-take (Layout.outbox_to o - Layout.outbox_from o) (drop (Layout.outbox_bytes_offset + Layout.outbox_from o) o))

view-pending-short : (p : Parts) → Sound p → length (view p).pending ≤ most_pending
unfolding view
view-pending-short p s = pending-short p.outbox s.valid.outbox

-- all is taken, where a take in a room of sufficient length does what document 01 has of it
took-all : (p : Parts) → Sound p → (room : List ℕ) → most_pending ≤ length room → (d : Did)
    → Meets p d (meant (view p) (Histories.local (Histories.take room)))
    → (moved_bytes d.answer d.out ≡ all_taken (view p)) × (view d.parts ≡ after_all (view p)) × Sound d.parts
unfolding meant
took-all p s room long d c =
    let big = larger-room (view p) (length room) (omega (arith, view-pending-short p s)) in (
      rw (c.answer, c.out) (overlay-inside 0 (Local.taken (view p) (length room)) room (omega arith)) ∙ big.0,
      c.leaves.0 ∙ big.1,
      c.leaves.1,
    )

module _ (image : List ℕ) (each : Each Byte image) where
  module _ (p : Parts) (s : Sound p) (t : Cycle) (a : Ample t) where
    -- a byte is received
    received-meant : Meets p (made p (byte_received image t)) (Histories.means done [] (Requests.receive_byte image (view p) t.byte))
    unfolding meant_made meant Requests.receive_stream
    received-meant = rw (a.receiving image) at (one_call p (byte_received image t) s (each, (a.byte, tt)))

    -- and all is taken
    take-meant : let d = made p (taken_in t) in
        (moved_bytes d.answer d.out ≡ all_taken (view p)) × (view d.parts ≡ after_all (view p)) × Sound d.parts
    unfolding meant_made
    take-meant = took-all p s t.room a.long _ (rw a.taking at (one_call p (taken_in t) s a.room))

  session-taken : (p : Parts) → Sound p → (ts : List Cycle) → Each Ample ts
      → taken_bytes (outputs p (byte_by_byte image ts)) ≡ (session image (view p) (stream_of ts)).taken
  unfolding byte_by_byte stream_of outputs taken_bytes session cycle
  session-taken p s [] h = refl
  session-taken p s (t ∷ ts) h =
      let r = received-meant p s t h.0 in
      let q = (made p (byte_received image t)).parts in
      let k = take-meant q r.leaves.1 t h.0 in
      let rest = session-taken (made q (taken_in t)).parts k.2 ts h.1 in
      rw (r.answer, k.0, rest, k.1, r.leaves.0)

-- ---- the replay of a stream

moved-bytes : (t : TakeReport) (room : List ℕ) → moved_to t room ≡ moved_bytes (take_answer t) room
unfolding moved_to
moved-bytes (TakeReport.moved n) room = refl
moved-bytes (TakeReport.refused n) room = refl

whole_room_lem : (most_pending ≤ length whole_room) × Each Byte whole_room
unfolding whole_room
whole_room_lem = (omega (arith, length-replicate {A = ℕ} most_pending 0), zeros-each most_pending)

module _ (image : List ℕ) (each : Each Byte image) where
  replayed-taken : (p : Parts) → Sound p → (bs : List ℕ) → Each Byte bs → (replay_bytes image p bs).taken
      ≡ (session image (view p) bs).taken
  unfolding replay_bytes replay_byte session cycle did meant Requests.receive_stream
  replayed-taken p s [] h = refl
  replayed-taken p s (b ∷ bs) h =
      let r = call-meets p s (Histories.receive image (b ∷ [])) (each, (h.0, tt)) in
      let q = (did p (Histories.receive image (b ∷ []))).parts in
      let take = Histories.local (Histories.take whole_room) in
      let k = took-all q r.leaves.1 whole_room whole_room_lem.0 (did q take) (call-meets q r.leaves.1 take whole_room_lem.1) in
      let rest = replayed-taken (did q take).parts k.2 bs h.1 in
      rw (moved-bytes (take_everything q.outbox).report (take_everything q.outbox).room, k.0, rest, k.1, r.leaves.0)

-- ---- the claims

pub replies_in_order : RepliesInOrder
unfolding fresh
replies_in_order image each p b l d typed h ts e =
    let f = started p b l d typed h in
    session-taken image each _ f.1 ts e
    ∙ ap (λ s. (session image s (stream_of ts)).taken) f.0
    ∙ replies-taken image (fresh (factory_of d)) (stream_of ts) refl refl refl

pub replies_replayed : RepliesReplayed
unfolding fresh
replies_replayed image each p b l d typed h bs e =
    let f = started p b l d typed h in
    replayed-taken image each _ f.1 bs e
    ∙ ap (λ s. (session image s bs).taken) f.0
    ∙ replies-taken image (fresh (factory_of d)) bs refl refl refl

pub replay_joined : ReplayJoined
unfolding replay_bytes
replay_joined image p [] ys = refl
replay_joined image p (b ∷ xs) ys = rw (replay_joined image (replay_byte image p b).parts xs ys, append_assoc)
