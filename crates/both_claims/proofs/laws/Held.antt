-- A state that sound parts hold between two frames, and so after any frames; the replies that it gives are in range.
-- Assumes nothing.
use mathlib.Core.Path.{◌≡◌, refl, ap, ◌∙◌}
use mathlib.Core.Bool.{Bool, true, false, ◌||◌, false≢true}
use mathlib.Core.Logic.{inl, inr}
use mathlib.Core.List.{List, [], ◌∷◌, ◌++◌}
use mathlib.Core.Option.{Option, some}
use Prim.Native.Nat.{ℕ, ◌^◌, ◌≤◌, ◌<◌}
use native.Mathlib.Omega.{arith}
use lib.Dec.{eqb}
use borrow.Author.Tests.{eqb-true}
use Rattle.octets.specs.Bytes.{Each, Byte}
use Rattle.octets.proofs.Conditions.{cond-by}
use Rattle.octets.proofs.Numbers.{number_small}
use Rattle.supervisor.specs.Layout
use Rattle.both_claims.proofs.laws.Lists.{none-some}
use Rattle.octets.proofs.Each.{each_append}
use Rattle.line.specs.Numbers.{first_version, second_version}
use Rattle.line.specs.Message.{Message, InRange}
use Rattle.line.specs.Reader as LineReader
use Rattle.line.proofs.Received.{valid-long, fresh-received}
use Rattle.line.specs.Frame.{NonZero, split}
use Rattle.line.proofs.Pieces.{split_at}
use Rattle.supervisor.specs.State.{Retained, State, with_received}
use Rattle.supervisor.specs.Calls.{Parts}
use Rattle.responder.specs.Requests.{version_served, good, verdict, receive_stream, reply_of}
use Rattle.supervisor_claims.specs.ByPart.{Part, with_part}
use Rattle.supervisor_claims.specs.View.{retained_of, view}
use Rattle.supervisor_claims.specs.Sound.{Sound}
use Rattle.supervisor_claims.proofs.Sound.{sound-with}
use Rattle.supervisor_claims.specs.FrameHistory.{frame_carried, frames_carried}
use Rattle.supervisor_claims.proofs.calls.ReceivedClaim.{Requestable, good-typed, started-kept}
use Rattle.supervisor_claims.proofs.calls.ReceiveClaim.{fed-leaves}
use Rattle.supervisor_claims.proofs.claims.InOrder.{carried-lined, judged-receiving, in_order}
use Rattle.line.proofs.Judged.{tail_within}
use Rattle.both_claims.proofs.laws.Table.{passes, top_set_lem}
use Rattle.both_claims.proofs.laws.ReplyRange.{Versioned, reply-of, reply-sendable}
use Rattle.both_claims.specs.Ends.{reply_message, reply_to_request}

-- sound parts whose reader stands between two frames
abbrev pub Held : State → Type 0
Held x = (p : Parts) × Sound p × (view p ≡ with_received x (some []))

pub held-parts : (p : Parts) → Sound p → Held (view p)
unfolding view
held-parts p s =
    let h = valid-long p.reader s.valid.reader in
    let k = started-kept p.reader h in
    let t = LineReader.reader_fresh p.reader in (
      with_part p Part.reader t,
      (sound-with p Part.reader t s k.valid (k.bytes s.bytes.reader) k.long).0,
      rw (fresh-received p.reader h),
    )

-- a frame
framed-receiving : (image : List ℕ) (x : State) (r : Option (List ℕ)) (f : List ℕ)
    → frame_carried image (with_received x r) f ≡ with_received (frame_carried image x f) r
unfolding frame_carried
framed-receiving image x r [] = refl
framed-receiving image x r (b ∷ bs) = judged-receiving image x r (verdict (b ∷ bs))

nonzero-bytes : (f : List ℕ) → Each NonZero f → Each Byte f × Each (λ b. 1 ≤ b) f
nonzero-bytes [] h = (tt, tt)
nonzero-bytes (b ∷ bs) h = let k = nonzero-bytes bs h.1 in ((omega (arith, h.0), k.0), (h.0.0, k.1))

module _ (image : List ℕ) (each : Each Byte image) (x : State) (f : List ℕ) (nonzero : Each NonZero f) (held : Held x) where
  pub held-frame : Held (frame_carried image x f)
  unfolding split frames_carried
  held-frame =
      let p = held.0 in
      let n = nonzero-bytes f nonzero in
      let k = fed-leaves image p (f ++ (0 ∷ [])) each held.1 (each_append Byte f (0 ∷ []) n.0 (omega arith, tt)) in
      let i = in_order image (with_received x (some [])) (f ++ (0 ∷ [])) refl in
      let j = rw (split_at f [] n.1, tail_within [] (omega arith)) at i in
      (_, k.1, k.0 ∙ ap (λ (y : State). receive_stream image y (f ++ (0 ∷ []))) held.2 ∙ j ∙ rw (framed-receiving image x (some []) f))

  -- a version that is served, or the retained reply's
  served-low : (n : ℕ) → version_served n ≡ true → n < 2 ^ 32
  served-low n e = by (eqb n first_version) (eqb n second_version) refl refl e
    where
      by : (a b : Bool) → eqb n first_version ≡ a → eqb n second_version ≡ b → (a || b) ≡ true → n < 2 ^ 32
      by true b f g h = omega (arith, eqb-true n first_version f)
      by false true f g h = omega (arith, eqb-true n second_version g)
      by false false f g h = absurd (false≢true h)

  retained-low : (t : Retained) → (view held.0).retained ≡ some t → t.version < 2 ^ 32
  unfolding view retained_of
  retained-low t =
      let r = held.0.registers in
      let small = number_small 1 Layout.retained_offset r held.1.bytes.registers in
      cond-by (λ (o : Option Retained). o ≡ some t → t.version < 2 ^ 32) (eqb (Layout.retained_version r) 0) _ _
      (λ _ e. absurd (none-some e)) (λ _ e. let v : Layout.retained_version r ≡ t.version = cc in omega (arith, small, v))

  version_low : (m : Message) → Requestable m → (r : Message) → Versioned x m r.version → r.version < 2 ^ 32
  version_low m q r (inl e) = rw e (served-low m.version q.version)
  version_low m q r (inr (t, e, f)) = rw f (retained-low t (ap (λ (y : State). y.retained) held.2 ∙ e))

  -- the reply to a request
  pub reply-in-range : (m : Message) → verdict f ≡ good m → (r : Message) → reply_to_request image x m ≡ some r → InRange r
  reply-in-range m v r e =
      let o = (carried-lined (some []) x.pending x.terminator_owed x image m).reply in
      let same : reply_to_request image (view held.0) m ≡ some r =
      ap (λ (y : State). reply_to_request image y m) held.2 ∙ ap (λ z. reply_message (reply_of m.sequence z)) o ∙ e in
      let k = reply-sendable held.0 held.1 image each m (good-typed f m (nonzero-bytes f nonzero).0 v) r same in
      let t = reply-of image x m r e in
      let low = (passes f m v).low in
      record {
        typed = record {
          version = version_low m (good-typed f m (nonzero-bytes f nonzero).0 v) r t.version;
          sequence = omega (arith, low, t.sequence, top_set_lem m.sequence low);
          command = t.command;
          payload = k.1;
        };
        fits = k.0;
      }
