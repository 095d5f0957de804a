-- The invariant is kept as the supervisor reads a byte: it collects a frame, or carries one out.
-- Assumes the statements of `Fitting`, which its laws take.
use mathlib.Core.Path.{◌≡◌, refl, sym, ◌∙◌}
use mathlib.Core.Bool.{Bool, false, false≢true}
use mathlib.Core.List.{List, [], ◌∷◌}
use mathlib.Core.Option.{Option, none, some}
use Prim.Native.Nat.{ℕ, zero, suc, ◌+◌, ◌≤◌}
use native.Mathlib.Omega.{arith}
use Rattle.octets.specs.Bytes.{Each, Byte}
use Rattle.line.specs.Numbers.{reason_form, first_version}
use Rattle.line.specs.Frame.{NonZero}
use Rattle.line.specs.Message.{InRange}
use Rattle.line.specs.Judge.{judge, judge_form, more_received}
use Rattle.line.specs.Cobs.{uncobs, group_bytes}
use Rattle.supervisor.specs.State.{State, with_received}
use Rattle.responder.specs.Requests.{Verdict, failure, Reply, verdict, verdict_since, receive_byte}
use Rattle.supervisor_claims.specs.Replies.{after_table, reply_by}
use Rattle.tap.specs.Capture.{Unended}
use Rattle.tap.specs.Earned.{earned}
use Rattle.tap.specs.Known.{known_nothing}
use Rattle.tap.specs.Tap.{Tap, tap_asked, due_of}
use Rattle.tap_claims.proofs.CutForm.{none-some}
use Rattle.tap_claims.proofs.Fits.{Fits, message_of}
use Rattle.tap_claims.proofs.ReplyRanges.{reply-number, earned-high, nonzero-each, reply-range}
use Rattle.tap_claims.proofs.Remembered.{newest-held}
use Rattle.tap_claims.proofs.Outgoing.{stream-carry}
use Rattle.tap_claims.proofs.Counted.{Left, left-carry, left-stream, left-edge}
use Rattle.tap_claims.proofs.Coming.{OlderNumber, older-any, asked-long, asked-older}
use Rattle.tap_claims.proofs.Hears.{NewestReply}
use Rattle.tap_claims.proofs.System.{Core, core, carried, EachReceived, Reached}
use Rattle.tap_claims.proofs.Reached.{read_more, read_none, read-frame}
use Rattle.tap_claims.proofs.Invariant.{Fitting, Settled, Parted, Inv, settled, parted, awaiting}

-- ---- the bytes of a frame with a verdict

-- a frame that is too long has that of any form that does not decode
too_long : verdict (5 ∷ []) ≡ failure reason_form first_version none
unfolding verdict judge judge_form uncobs group_bytes
too_long = refl

pub record FormOf (v : Verdict) : Type 0 where
  pub form : List ℕ
  pub nonzero : Each NonZero form
  pub is : verdict form ≡ v

pub form_of : (r : Option (List ℕ)) → EachReceived r → (v : Verdict) → verdict_since r ≡ some v → FormOf v
form_of none h v e = record { form = 5 ∷ []; nonzero = ((omega arith, omega arith), tt); is = too_long ∙ cc }
form_of (some []) h v e = none-some e
form_of (some (b ∷ bs)) h v e = record { form = b ∷ bs; nonzero = h; is = cc }

-- an empty frame
empty-frame : (r : Option (List ℕ)) → verdict_since r ≡ none → r ≡ some []
empty-frame none e = none-some (sym e)
empty-frame (some []) e = refl
empty-frame (some (b ∷ bs)) e = none-some (sym e)

-- ---- a frame is carried out

module _ (F : Fitting) (image : List ℕ) (each : Each Byte image) (s : State) (h : Reached s) (v : Verdict)
    (e : verdict_since s.received ≡ some v) where
  f : FormOf v
  f = form_of s.received h.nonzero v e

  abbrev y : Core
  y = carried image s v

  module _ (u : Tap) (fits : Fits u.known s.factory s.settings s.retained) where
    fits-behind : Fits (tap_asked u v).known y.factory y.settings y.retained
    unfolding tap_asked
    fits-behind = rw f.is at (F.behind u.known s image f.form h.held each (nonzero-each f.form f.nonzero) fits)

    -- its reply is the newest
    replied : (r : Reply) → reply_by image s v ≡ some r
        → InRange (message_of r) × NewestReply (tap_asked u v) y.factory y.settings y.retained (message_of r)
    unfolding tap_asked
    replied r g =
        let k : reply_by image s (verdict f.form) ≡ some r = rw f.is g in
        let right = rw f.is at (F.rightly u.known s image f.form h.held each (nonzero-each f.form f.nonzero) fits r k) in
        let n = reply-number image s v r g in (
          reply-range image s f.form h.held each f.nonzero r k,
          (
            rw n (earned-high v, newest-held (earned v) u.fresh),
            λ w d.
                let z : record { verdict = v; due = due_of u.known v } ≡ w = cc in rw (← z) right,
          ),
        )

  carry-settled : (come : Option (List ℕ)) (quiet unmarked : Bool) (u : Tap) (behind : List ℕ)
      → Settled come quiet unmarked u (core s) behind → Settled come quiet unmarked (tap_asked u v) y behind
  unfolding tap_asked
  carry-settled come quiet unmarked u behind k = record {
    awake = refl;
    long = asked-long u v k.long;
    fits = fits-behind u k.fits;
    spoiled = k.spoiled;
    front = k.front;
    marks = k.marks;
    come_is = k.come_is;
    stream =
        stream-carry (OlderNumber u) (NewestReply u s.factory s.settings s.retained) (OlderNumber (tap_asked u v))
        (NewestReply (tap_asked u v) y.factory y.settings y.retained)
        (λ n o. asked-older u v n k.long (older-any u n o)) (λ m n. asked-older u v m.sequence k.long n.0)
        (reply_by image s v) (replied u k.fits) behind s.pending s.terminator_owed u.unsure k.spoiled k.front k.stream
        k.edge;
    edge = k.edge;
  }

-- ---- the frame of which only the end was seen is carried out, or is empty

module _ (come : Option (List ℕ)) (quiet unmarked : Bool) (u : Tap) (x y : Core) (behind : List ℕ) (p : Parted u x behind) where
  part-settled : Fits known_nothing y.factory y.settings y.retained → y.owes ≡ x.owes → (most : ℕ) → most ≤ u.unsure
      → Left most p.inside behind x.owes y.pending → Settled come quiet unmarked u y behind
  part-settled fits e most l h =
      let r = p.room in record {
        awake = p.awake;
        long = p.long;
        fits = rw p.nothing fits;
        spoiled = false;
        front = [];
        marks = λ f. absurd (false≢true f);
        come_is = λ s. absurd (omega (arith, s.0));
        stream = left-stream _ _ behind most u.unsure p.inside x.owes y.pending false [] l (λ _. refl) h;
        edge = rw e (left-edge behind p.most u.unsure p.inside x.owes x.pending false [] r p.left);
      }

-- ---- a byte is read

module _ (F : Fitting) (image : List ℕ) (each : Each Byte image) (s : State) (h : Reached s) (g : Unended) (t : Tap)
    (ahead behind : List ℕ) where
  -- of a frame
  more-read : (b : ℕ) → Inv g t (core s) (suc b ∷ ahead) behind
      → Inv g t (core (with_received s (more_received s.received (suc b)))) ahead behind
  more-read b (settled u e f k) = settled u e f k
  more-read b (parted u [] rest a n e f p) = let z : suc b ≡ 0 = cc in absurd (omega arith)
  more-read b (parted u (c ∷ first) rest a n e f p) = parted u first rest (cc) n.1 e f p
  more-read b (awaiting most inside e n l k) = awaiting most inside e n.1 l k

  -- the 00 of an empty one
  none_read : verdict_since s.received ≡ none → Inv g t (core s) (0 ∷ ahead) behind → Inv g t (core s) ahead behind
  none_read v (settled u e f k) =
      let r = empty-frame s.received v in settled u (rw r (rw r at e)) (rw r f) k
  none_read v (parted u [] rest a n e f p) =
      let r = empty-frame s.received v in
      let q : rest ≡ ahead = cc in
      let o = p.room in
      settled u (rw (r, ← q) e) (rw (r, ← q) f)
      (part-settled g.from g.quiet g.unmarked u (core s) (core s) behind p (F.of_nothing s) refl p.most (omega arith)
      p.left)
  none_read v (parted u (c ∷ first) rest a n e f p) = let z : c ≡ 0 = cc in absurd (omega (arith, n.0))
  none_read v (awaiting most inside e n l k) = absurd (omega (arith, n.0))

  -- the 00 of a frame
  frame-read : (v : Verdict) → verdict_since s.received ≡ some v → Inv g t (core s) (0 ∷ ahead) behind
      → Inv g t (carried image s v) ahead behind
  frame-read v d (settled u e f k) =
      settled (tap_asked u v) (rw d at e) f (carry-settled F image each s h v d g.from g.quiet g.unmarked u behind k)
  frame-read v d (parted u [] rest a n e f p) =
      let q : rest ≡ ahead = cc in
      settled u (rw (← q) e) (rw (← q) f)
      (part-settled g.from g.quiet g.unmarked u (core s) (carried image s v) behind p (F.of_nothing (after_table image s v)) refl
      (p.most + 1) p.room (left-carry behind p.most p.inside s.terminator_owed s.pending (reply_by image s v) p.left))
  frame-read v d (parted u (c ∷ first) rest a n e f p) = let z : c ≡ 0 = cc in absurd (omega (arith, n.0))
  frame-read v d (awaiting most inside e n l k) = absurd (omega (arith, n.0))

  pub read_step : (b : ℕ) → Inv g t (core s) (b ∷ ahead) behind → Inv g t (core (receive_byte image s b)) ahead behind
  read_step (suc b) i = rw (read_more image s b) (more-read b i)
  read_step zero i = by (verdict_since s.received) refl
    where
      by : (o : Option Verdict) → verdict_since s.received ≡ o → Inv g t (core (receive_byte image s 0)) ahead behind
      by none e = rw (read_none image s e) (none_read e i)
      by (some v) e = rw (read-frame image s v e) (frame-read v e i)
