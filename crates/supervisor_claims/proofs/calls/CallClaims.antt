-- Each call on sound parts: its answer, what it writes outside the state, and the sound parts that it leaves, as document 01 has them.
-- Assumes nothing.
use mathlib.Core.Path.{◌≡◌, refl, ap}
use mathlib.Core.Bool.{true, false}
use mathlib.Core.List.{List, [], ◌++◌}
use mathlib.Core.Option.{none}
use Prim.Native.Nat.{ℕ, zero, suc, ◌+◌, ◌-◌, ◌≤◌}
use native.Mathlib.Omega.{arith}
use lib.ListN as ListN
use lib.ListN.{length, replicate, length-append}
use Rattle.octets.specs.Bytes.{Each, Byte, bytes, overlay}
use Rattle.octets.proofs.Conditions.{cond-by}
use Rattle.octets.proofs.Each.{each_append, each_take}
use Rattle.octets.proofs.Numbers.{length-bytes, bytes-each}
use Rattle.octets.proofs.Overlay.{length-overlay, overlay-each}
use Rattle.line.proofs.Received.{fresh-stays, fresh-each}
use Rattle.supervisor.specs.Layout
use Rattle.supervisor.specs.State.{fresh}
use Rattle.supervisor.specs.Local
use Rattle.supervisor.specs.Local.{pong}
use Rattle.supervisor.specs.Valid.{good_start}
use Rattle.supervisor.specs.Calls
use Rattle.supervisor.specs.Calls.{Parts}
use Rattle.supervisor.proofs.StartLaws.{LongEnough, long-enough-is}
use Rattle.responder.specs.Receive
use Rattle.supervisor_claims.specs.View.{factory_of, view}
use Rattle.supervisor_claims.specs.Sound.{Bytes, Sound, Lengths, Leaves}
use Rattle.supervisor_claims.specs.Histories
use Rattle.supervisor_claims.specs.Histories.{Call, Typed, did_by, did, refusal, done_means, meant, up_to}
use Rattle.supervisor_claims.specs.Histories.{ended_in_piece, served_in_piece}
use Rattle.supervisor_claims.specs.Demand1.{Meets}
use Rattle.supervisor_claims.specs.Demand2.{Starts}
use Rattle.supervisor_claims.proofs.Sound.{lengths-same, valid-room}
use Rattle.supervisor_claims.proofs.laws.ViewLaws.{length-clear}
use Rattle.supervisor_claims.proofs.calls.RowLaws.{KeepsPart, same_meets}
use Rattle.supervisor_claims.proofs.calls.LocalLaws.{row_laws}
use Rattle.supervisor_claims.proofs.calls.StartClaim.{start-fresh, start_meant}
use Rattle.supervisor_claims.proofs.calls.ReceiveClaim.{fed-leaves}
use Rattle.supervisor_claims.proofs.calls.StepClaim.{step-used, step-fed, step-ends, step-serves, valid-step-stepped}
use Rattle.supervisor_claims.proofs.claims.LentCalls.{valid-parts}

-- ---- start

pub zeros-each : (n : ℕ) → Each Byte (replicate n 0)
zeros-each zero = tt
zeros-each (suc n) = (omega arith, zeros-each n)

-- bytes and zeros, put at the start of a list
cleared-keeps : (m n : ℕ) (xs s : List ℕ) → length xs ≡ m → m + n ≤ length s → Each Byte xs → Each Byte s
    → KeepsPart s (overlay 0 (xs ++ replicate n 0) s)
cleared-keeps m n xs s e h b c = (overlay-each Byte 0 _ s (each_append Byte xs _ b (zeros-each n)) c, length-clear m n xs s e h)

module _ (d : List ℕ) (typed : Typed (Histories.start d)) (p : Parts) (b : Bytes p) where
  stored-keeps : Layout.factory-length ≤ length p.factory → KeepsPart p.factory (overlay 0 (d ++ bytes 4 0 ++ pong) p.factory)
  stored-keeps h =
      let four = length-bytes 4 0 in
      let front = length-append d (bytes 4 0) in
      let whole = length-append (d ++ bytes 4 0) pong in
      let text : Each Byte pong = (omega arith, (omega arith, (omega arith, (omega arith, tt)))) in (
        overlay-each Byte 0 _ p.factory
            (each_append Byte (d ++ bytes 4 0) pong (each_append Byte d (bytes 4 0) typed.1 (bytes-each 4 0)) text) b.factory,
        length-overlay 0 (d ++ bytes 4 0 ++ pong) p.factory (omega arith),
      )

  fresh_keeps : LongEnough p → Bytes (Calls.fresh_parts d p) × Lengths p (Calls.fresh_parts d p)
  unfolding Calls.fresh_parts
  fresh_keeps r =
      let o = cleared-keeps 0 Layout.outbox_length [] p.outbox refl r.outbox tt b.outbox in
      let f = stored-keeps r.factory in
      let s = cleared-keeps 0 Layout.settings_length [] p.settings refl r.settings tt b.settings in
      let g =
      cleared-keeps 8 (Layout.registers_length - 8) (bytes 8 1) p.registers (length-bytes 8 1) r.registers (bytes-each 8 1)
      b.registers in (
        record {
          reader = fresh-each p.reader b.reader;
          outbox = o.0;
          factory = f.0;
          settings = s.0;
          registers = g.0;
        },
        record {
          reader = (fresh-stays p.reader r.reader).long;
          outbox = o.1;
          factory = f.1;
          settings = s.1;
          registers = g.1;
        },
      )

  start-keeps : Bytes (Calls.start_promise d p).parts × Lengths p (Calls.start_promise d p).parts
  unfolding Calls.start_promise
  start-keeps =
      cond-by Kept (Calls.long_enough p) _ _
      (λ e. cond-by Kept (good_start d) _ _ (λ f. fresh_keeps (long-enough-is p e)) (λ f. (b, lengths-same)))
      (λ e. (b, lengths-same))
    where
      Kept : Calls.StartOutcome → Type 0
      Kept t = Bytes t.parts × Lengths p t.parts

  -- on any parts of sufficient length
  pub start-leaves : Calls.long_enough p ≡ true → Local.bad_start (factory_of d) ≡ false
      → ((Calls.start_promise d p).refusal ≡ none) × Leaves p (Calls.start_promise d p).parts (fresh (factory_of d))
  start-leaves r e =
      let s = start-fresh d typed.0 p r e in
      let k = start-keeps in
      (s.0, (s.1, record { valid = s.2; bytes = k.0 }, k.1))

module _ (p : Parts) (s : Sound p) where
  start-meets : (d : List ℕ) → Typed (Histories.start d) → Meets p (did p (Histories.start d)) (meant (view p) (Histories.start d))
  unfolding did meant
  start-meets d typed = go (Local.start (factory_of d)) (start_meant d typed.0 p (valid-room s.valid))
    where
      go : (x : Local.Done) → Starts p (Calls.start_promise d p) x
          → Meets p (let t = Calls.start_promise d p in did_by (refusal t.refusal) [] t.parts) (done_means (view p) x)
      go (Local.refused n) e = rw e (same_meets p s refl refl)
      go (Local.left x) e =
          let k = start-keeps d typed p s.bytes in
          record { answer = ap refusal e.0; out = refl; leaves = (e.1, record { valid = e.2; bytes = k.0 }, k.1) }

-- ---- the calls that receive

module _ (p : Parts) (s : Sound p) where
  module _ (image piece : List ℕ) (typed : Each Byte image × Each Byte piece) where
    receive-meets : Meets p (did p (Histories.receive image piece)) (meant (view p) (Histories.receive image piece))
    unfolding did meant Receive.receive_promise
    receive-meets =
        rw (valid-parts p s.valid)
        (record { answer = refl; out = refl; leaves = fed-leaves image p piece typed.0 s typed.1 })

    valid-step-used : (Receive.valid_step image p piece).used ≡ up_to piece
    unfolding Receive.valid_step
    valid-step-used = step-used piece p.reader

    valid-step-ended : (Receive.valid_step image p piece).ended ≡ ended_in_piece (view p).received piece
    unfolding Receive.valid_step view
    valid-step-ended = step-ends piece p.reader s.valid.reader

    valid-step-served : (Receive.valid_step image p piece).served ≡ served_in_piece (view p).settings (view p).received piece
    unfolding Receive.valid_step view
    valid-step-served = step-serves piece p.reader p.settings s.valid.reader

    valid-step-parts : (Receive.valid_step image p piece).parts ≡ Receive.feed_bytes image p (ListN.take (up_to piece) piece)
    unfolding Receive.valid_step
    valid-step-parts = step-fed image piece p

    step-meets : Meets p (did p (Histories.step image piece)) (meant (view p) (Histories.step image piece))
    unfolding did meant Receive.step_promise
    step-meets =
        let n = up_to piece in
        rw (
          valid-parts p s.valid,
          valid-step-stepped image p piece,
          valid-step-used,
          valid-step-ended,
          valid-step-served,
          valid-step-parts,
        )
        (record {
          answer = refl;
          out = refl;
          leaves = fed-leaves image p (ListN.take n piece) typed.0 s (each_take Byte n piece typed.1);
        })

  -- ---- every call

  pub call-meets : (c : Call) → Typed c → Meets p (did p c) (meant (view p) c)
  unfolding did meant
  call-meets (Histories.start d) typed = start-meets p s d typed
  call-meets (Histories.receive image piece) typed = receive-meets image piece typed
  call-meets (Histories.step image piece) typed = step-meets image piece typed
  call-meets (Histories.local c) typed = (row_laws c).meets p s typed
