-- Each step of a run leaves a state that calls reach: what a received byte, a byte put out, a start and a restore leave.
-- Assumes nothing.
use mathlib.Core.Path.{◌≡◌, refl, sym, ap, subst, ◌∙◌}
use mathlib.Core.Bool.{not}
use mathlib.Core.List.{List, [], ◌∷◌}
use mathlib.Core.Option.{Option, none, some}
use Prim.Native.Nat.{ℕ, zero, suc, ◌≤◌}
use native.Mathlib.Omega.{arith}
use lib.Dec.{eqb, ltb, eqb-suc-zero}
use lib.ListN.{length, take}
use Rattle.octets.specs.Bytes.{Each, Byte}
use Rattle.octets.proofs.Conditions.{cond-by}
use Rattle.octets.proofs.Each.{each_append}
use Rattle.line.specs.Frame.{NonZero}
use Rattle.line.specs.Limits.{longest_form}
use Rattle.line.specs.Judge.{more_received}
use Rattle.supervisor.specs.State.{Factory, State, fresh, with_received}
use Rattle.supervisor.specs.Local.{taken, after_take, last_non_zero}
use Rattle.saving.specs.Saving
use Rattle.responder.specs.Requests.{Verdict, receive_byte, receive_stream, closed, verdict_since}
use Rattle.supervisor_claims.specs.Replies.{reply_by}
use Rattle.supervisor_claims.specs.Histories as Histories
use Rattle.supervisor_claims.specs.Histories.{Call, Typed, meant}
use Rattle.supervisor_claims.proofs.calls.CallClaims.{call-meets}
use Rattle.supervisor_claims.proofs.claims.InOrder.{judged-is, judged-receiving}
use Rattle.tap_claims.proofs.Fits.{Held}
use Rattle.tap_claims.proofs.Counted.{Owing, owing-put, owing-carry}
use Rattle.tap_claims.proofs.System.{Core, core, carried, EachReceived, Reached}

-- ---- sound parts

held-call : (s : State) (c : Call) → Typed c → Held s → Held (meant s c).state
held-call s c typed (p, sound, e) =
    let k = (call-meets p sound c typed).leaves in (_, k.1, k.0 ∙ ap (λ (x : State). (meant x c).state) e)

held-read : (image : List ℕ) (s : State) (b : ℕ) → Each Byte image → Byte b → Held s → Held (receive_byte image s b)
unfolding meant receive_stream
held-read image s b i h held = held-call s (Histories.receive image (b ∷ [])) (i, (h, tt)) held

held-put : (s : State) → Held s → Held (after_take s 1)
unfolding meant
held-put s held = held-call s (Histories.local (Histories.take (0 ∷ []))) (omega arith, tt) held

-- ---- a received byte

pub more-nonzero : (r : Option (List ℕ)) (b : ℕ) → Byte (suc b) → EachReceived r → EachReceived (more_received r (suc b))
unfolding more_received
more-nonzero none b h e = tt
more-nonzero (some bs) b h e =
    cond-by EachReceived (ltb (length bs) longest_form) _ _
    (λ _. each_append NonZero bs (suc b ∷ []) e ((omega arith, omega (arith, h)), tt)) (λ _. tt)

-- of a frame
pub read_more : (image : List ℕ) (s : State) (b : ℕ) → receive_byte image s (suc b) ≡ with_received s (more_received s.received (suc b))
unfolding receive_byte
read_more image s b = rw eqb-suc-zero

-- a 00 behind nothing, and behind a frame
pub read_none : (image : List ℕ) (s : State) → verdict_since s.received ≡ none → receive_byte image s 0 ≡ s
unfolding receive_byte closed
read_none image s e = rw e

pub read-frame : (image : List ℕ) (s : State) (v : Verdict) → verdict_since s.received ≡ some v
    → core (receive_byte image s 0) ≡ carried image s v
unfolding receive_byte closed
read-frame image s v e = rw (e, judged-receiving image s (some []) v, judged-is image s v)

-- ---- each step

-- what counts of a state tells all but the parts
reached-core : (s : State) (x : Core) → core s ≡ x → Held s → ((k : ℕ) × (k ≤ 2) × Owing k x.owes x.pending)
    → EachReceived x.received → Reached s
reached-core s x e held o n =
    let y : Core = core s in
    record {
      held = held;
      owing = subst (λ (z : Core). (k : ℕ) × (k ≤ 2) × Owing k z.owes z.pending) (sym e) o;
      nonzero = subst (λ (z : Core). EachReceived z.received) (sym e) n;
    }

pub reached-local : (s t : State) → core t ≡ core s → Held t → Reached s → Reached t
reached-local s t e held h = reached-core t (core s) e held h.owing h.nonzero

pub reached-read : (image : List ℕ) (s : State) (b : ℕ) → Each Byte image → Byte b → Reached s → Reached (receive_byte image s b)
reached-read image s (suc b) i h k =
    reached-core (receive_byte image s (suc b)) (core (with_received s (more_received s.received (suc b)))) (ap core (read_more image s b))
    (held-read image s (suc b) i h k.held) k.owing (more-nonzero s.received b h k.nonzero)
reached-read image s zero i h k = by (verdict_since s.received) refl
  where
    held : Held (receive_byte image s 0)
    held = held-read image s 0 i h k.held

    by : (o : Option Verdict) → verdict_since s.received ≡ o → Reached (receive_byte image s 0)
    by none e = reached-core (receive_byte image s 0) (core s) (ap core (read_none image s e)) held k.owing k.nonzero
    by (some v) e =
        reached-core (receive_byte image s 0) (carried image s v) (read-frame image s v e) held
        (2, omega arith, owing-carry s.terminator_owed (reply_by image s v)) tt

-- ---- a byte is put out

abbrev pub without_first : State → ℕ → List ℕ → Core
without_first s b bs = record {
  factory = s.factory;
  settings = s.settings;
  retained = s.retained;
  received = s.received;
  pending = bs;
  owes = not (eqb b 0);
}

pub put-core : (s : State) (b : ℕ) (bs : List ℕ) → s.pending ≡ b ∷ bs → core (after_take s 1) ≡ without_first s b bs
unfolding after_take taken last_non_zero
put-core s b bs e = rw e

pub reached-put : (s : State) (b : ℕ) (bs : List ℕ) → s.pending ≡ b ∷ bs → Reached s → Reached (after_take s 1)
reached-put s b bs e h =
    let o = h.owing in
    let p = owing-put o.0 s.terminator_owed b bs (rw e at o.2) in
    reached-core (after_take s 1) (without_first s b bs) (put-core s b bs e) (held-put s h.held) (p.0, omega (arith, o.1, p.1), p.2)
    h.nonzero

-- ---- a start and a restore

pub reached-fresh : (f : Factory) → Held (fresh f) → Reached (fresh f)
unfolding fresh
reached-fresh f h = record { held = h; owing = (0, omega arith, tt); nonzero = tt }

-- a restore leaves all but the settings
pub record Restored (s t : State) : Type 0 where
  pub received : t.received ≡ s.received
  pub pending : t.pending ≡ s.pending
  pub owes : t.terminator_owed ≡ s.terminator_owed

pub restored-rest : (s t : State) (image : List ℕ) → Saving.restore s image ≡ Saving.left t → Restored s t
unfolding Saving.restore
restored-rest s t image e = by (Saving.read_image image) e
  where
    by : (o : Saving.ImageRead) → Saving.restore_read s o ≡ Saving.left t → Restored s t
    by (Saving.fault n at) f = let z : ◌≡◌ {A = ℕ} 0 1 = cc in absurd (omega arith)
    by (Saving.good es) f = record { received = cc; pending = cc; owes = cc }

pub reached-restored : (s t : State) (image : List ℕ) → Saving.restore s image ≡ Saving.left t → Held t → Reached s → Reached t
reached-restored s t image e held h =
    let r = restored-rest s t image e in
    record { held = held; owing = rw (r.owes, r.pending) h.owing; nonzero = rw r.received h.nonzero }
