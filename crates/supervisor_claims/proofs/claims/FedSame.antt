-- Parts that are the same but for the passphrase's record: received bytes leave such parts.
-- Assumes nothing.
use mathlib.Core.Path.{◌≡◌, refl, sym, ap, subst, ◌∙◌}
use mathlib.Core.Bool.{Bool, true, false, cond}
use mathlib.Core.List.{List, [], ◌∷◌, ◌++◌, append-nil}
use mathlib.Core.Option.{Option, none, some}
use Prim.Native.Nat.{ℕ, zero, suc, ◌+◌, ◌≤◌, ◌<◌}
use native.Mathlib.Nat.{add-zero}
use native.Mathlib.Omega.{arith}
use lib.Dec.{eqb, eqb-suc-zero}
use lib.ListN.{length, drop, length-append}
use lib.Seq.{append_snoc}
use borrow.Author.Tests.{eqb-true, eqb-false}
use Rattle.octets.specs.Bytes.{Byte, Each, number, number_at}
use Rattle.octets.proofs.Each.{each_append}
use Rattle.line.specs.Message.{Message}
use Rattle.line.specs.Frame.{split, non_empty}
use Rattle.line.specs.Judge.{progress_of, more_received}
use Rattle.line.specs.Reader as LineReader
use Rattle.line.specs.Reader.{received_of}
use Rattle.line.proofs.Judged.{tail_within, more-tail}
use Rattle.line.proofs.Pieces.{split_at, split-none, closed-rest}
use Rattle.supervisor.specs.Limits
use Rattle.supervisor.specs.Layout
use Rattle.supervisor.specs.State.{State, with_received}
use Rattle.supervisor.specs.Local
use Rattle.supervisor.specs.Calls.{Parts}
use Rattle.responder.specs.Commands.{Command, command_number, command_of_number}
use Rattle.responder.specs.Requests
use Rattle.responder.specs.Requests.{Verdict, failure, good, verdict_since}
use Rattle.responder.specs.Receive
use Rattle.responder.proofs.CommandLaws.{number_is}
use Rattle.responder.proofs.VerdictLaws.{finished-verdict, reader_closed, closed-received}
use Rattle.supervisor_claims.specs.View.{setting_of, view}
use Rattle.supervisor_claims.specs.Sound.{Sound}
use Rattle.supervisor_claims.specs.FrameHistory.{frames_closed_by, frame_verdict}
use Rattle.supervisor_claims.specs.LastSet.{request_ahead, requests_in, value_for, set_by, listed_if, sets_of}
use Rattle.supervisor_claims.specs.TwoRuns.{record_begin, SameButPassphrase, passphrase_edition}
use Rattle.supervisor_claims.proofs.Sound.{valid-long}
use Rattle.supervisor_claims.proofs.laws.AlikeLaws.{lookup-same, edition-same}
use Rattle.supervisor_claims.proofs.laws.SettingLaws.{setting-is}
use Rattle.supervisor_claims.proofs.calls.LookupClaim.{lookup-meant, edition_meant}
use Rattle.supervisor_claims.proofs.calls.ReceiveClaim.{feed-leaves}
use Rattle.supervisor_claims.proofs.claims.FramesClaim.{closed-verdict}
use Rattle.supervisor_claims.proofs.claims.TwoRunLaws.{Like, Grow, grow-less, grow_last, Room, room-less, passphrase, set_count}
use Rattle.supervisor_claims.proofs.claims.TwoRunLaws.{count-ahead, judged-room}
use Rattle.supervisor_claims.proofs.claims.OutsideLaws.{Outside, SameStored, wrong_length, at_last, other-stored, passphrase-stored}
use Rattle.supervisor_claims.proofs.TwoRuns.{same-states, without-like}

-- ---- what a request leaves

pub record SameInner (i j : Receive.Inner) : Type 0 where
  pub outbox : i.outbox ≡ j.outbox
  pub outside : Outside i.settings j.settings
  pub registers : i.registers ≡ j.registers

-- its command: a lookup answers the same and a set does the same
module _ (image f o r s t : List ℕ) (u : Outside s t) (version sequence : ℕ) (d : List ℕ)
    (looked : Receive.value_bytes version f s d ≡ Receive.value_bytes version f t d) where
  still : {o r : List ℕ} → SameInner (Receive.inner o s r) (Receive.inner o t r)
  still = record { outbox = refl; outside = u; registers = refl }

  command-same : (x : Command)
      → (x ≡ Command.key_set
      → SameStored (Receive.store_bytes s (number_at 1 d 0) (drop 1 d)) (Receive.store_bytes t (number_at 1 d 0) (drop 1 d)))
      → SameInner (Receive.command_leaves x image f (Receive.inner o s r) version sequence d)
      (Receive.command_leaves x image f (Receive.inner o t r) version sequence d)
  unfolding Receive.command_leaves Receive.no_reply Receive.reply_alone Receive.acknowledged Receive.key_set_answered
  command-same Command.reboot k = still
  command-same Command.power-off k = still
  command-same Command.bsu k = still
  command-same Command.identity k = still
  command-same Command.mac k = still
  command-same Command.boot-failure k = still
  command-same Command.panic k = still
  command-same Command.status k = still
  command-same Command.start-acknowledged k = still
  command-same Command.alert k = still
  command-same Command.image_block k = still
  command-same Command.key_lookup k = rw looked still
  command-same Command.inventory k = still
  command-same Command.key_set k =
      let z = k refl in record { outbox = rw z.result; outside = z.outside; registers = refl }

-- the passphrase's editions, by the bytes of two stores
abbrev StoresGrow : ℕ → List ℕ → List ℕ → Type 0
StoresGrow n s t = Grow n (Layout.setting_edition s record_begin) (Layout.setting_edition t record_begin)

-- by a key set's data
data-stored : (s t : List ℕ) → Outside s t → Layout.settings_length ≤ length s → Layout.settings_length ≤ length t → (bs : List ℕ)
    → StoresGrow (length (listed_if (value_for Limits.passphrase_key bs))) s t
    → SameStored (Receive.store_bytes s (number_at 1 bs 0) (drop 1 bs)) (Receive.store_bytes t (number_at 1 bs 0) (drop 1 bs))
unfolding number value_for
data-stored s t o hs ht [] g = other-stored s t [] o hs ht 0 (λ e. omega (arith, e))
data-stored s t o hs ht (key ∷ v) r = rw add-zero (by (eqb key Limits.passphrase_key) refl)
  where
    both : eqb key Limits.passphrase_key ≡ true → wrong_length v ≡ false → at_last s ≡ at_last t
    both f g = grow_last (omega arith) (rw (f, g) at r)

    by : (t' : Bool) → eqb key Limits.passphrase_key ≡ t' → SameStored (Receive.store_bytes s key v) (Receive.store_bytes t key v)
    by true f =
        rw (eqb-true key Limits.passphrase_key f)
        (passphrase-stored s t v v hs ht o refl (both f))
    by false f = other-stored s t v o hs ht key (eqb-false key Limits.passphrase_key f)

-- ---- two such parts

pub grow-of : (n : ℕ) (p q : Parts) → Room n (view p).settings (view q).settings → Grow n (passphrase_edition p) (passphrase_edition q)
unfolding view setting_of
grow-of n p q r =
    rw (setting-is p.settings Limits.passphrase_key passphrase, setting-is q.settings Limits.passphrase_key passphrase)
    at r.grow

pub outside_of : {p q : Parts} → SameButPassphrase p q → Outside p.settings q.settings
outside_of e = record { ahead = e.ahead; behind = e.behind }

module _ (x y : Parts) (sx : Sound x) (sy : Sound y) (e : SameButPassphrase x y) where
  like : Like (view x) (view y)
  like = without-like (view x) (view y) (same-states x y sx e)

  value_same : (version : ℕ) (d : List ℕ)
      → Receive.value_bytes version x.factory x.settings d ≡ Receive.value_bytes version y.factory y.settings d
  unfolding Receive.value_bytes
  value_same version d =
      let key = number_at 1 d 0 in
      let most = number_at 2 d 1 in
      let a = lookup-meant x sx.valid sx.bytes.factory key most in
      let b = lookup-meant y sy.valid sy.bytes.factory key most in
      let l : Local.lookup (view x) key most ≡ Local.lookup (view y) key most =
      ap (λ (u : State). Local.lookup u key most) like.rest ∙ lookup-same (view y) (view x).settings like.settings key most in
      let m : Local.edition (view x) key ≡ Local.edition (view y) key =
      ap (λ (u : State). Local.edition u key) like.rest ∙ edition-same (view y) (view x).settings like.settings key in
      rw (a.0, a.1, b.0, b.1, edition_meant x sx.valid key, edition_meant y sy.valid key, l, m)

  module _ (image : List ℕ) where
    abbrev Both : Verdict → Type 0
    Both v =
        SameInner (Receive.inner_by image x.factory (Receive.inner_of x) v) (Receive.inner_by image y.factory (Receive.inner_of y) v)

    good-same : (m : Message) → StoresGrow (length (listed_if (set_by Limits.passphrase_key m))) x.settings y.settings → Both (good m)
    unfolding Receive.inner_by Receive.carried_inner set_by command_number
    good-same m g = rw (e.factory, e.outbox, e.registers) (by (command_of_number m.command) refl)
      where
        f : List ℕ
        f = y.factory

        d : List ℕ
        d = m.payload

        stored : m.command ≡ command_number Command.key_set
            → SameStored (Receive.store_bytes x.settings (number_at 1 d 0) (drop 1 d))
            (Receive.store_bytes y.settings (number_at 1 d 0) (drop 1 d))
        stored c =
            data-stored x.settings y.settings (outside_of e) (valid-long {p = x} sx.valid).settings
            (valid-long {p = y} sy.valid).settings d (rw c at g)

        by : (c : Option Command) → command_of_number m.command ≡ c
            → SameInner
            (Receive.command_leaves_where c image f (Receive.inner y.outbox x.settings y.registers) m.version m.sequence d)
            (Receive.command_leaves_where c image f (Receive.inner_of y) m.version m.sequence d)
        by none g = record { outbox = refl; outside = outside_of e; registers = refl }
        by (some c) g =
            command-same image f y.outbox y.registers x.settings y.settings (outside_of e) m.version m.sequence d
            (rw e.factory at (value_same m.version d)) c (λ k. stored (number_is m.command g ∙ ap command_number k))

    judged-same : (v : Verdict) → StoresGrow (set_count (request_ahead v [])) x.settings y.settings → Both v
    unfolding Receive.inner_by Receive.reply_alone sets_of
    judged-same (failure reason version sequence) g =
        record { outbox = rw e.outbox; outside = outside_of e; registers = e.registers }
    judged-same (good m) g =
        let n = length-append (listed_if (set_by Limits.passphrase_key m)) [] in good-same m (grow-less (omega arith) g)

-- ---- sets in received bytes, of which these have come of the first frame

-- by the verdict at a 00
abbrev pub sets_at : Option Verdict → ℕ
sets_at none = 0
sets_at (some v) = set_count (request_ahead v [])

unfoldable pub sets_in_bytes : Option (List ℕ) → List ℕ → ℕ
sets_in_bytes o [] = 0
sets_in_bytes o (b ∷ bs) = cond (eqb b 0) (sets_at (verdict_since o) + sets_in_bytes (some []) bs) (sets_in_bytes (more_received o b) bs)

-- they are those of the frames
frame-sets : (p : List ℕ) (fs : List (List ℕ))
    → sets_at (frame_verdict p) + set_count (requests_in (non_empty fs)) ≡ set_count (requests_in (non_empty (p ∷ fs)))
unfolding non_empty requests_in
frame-sets [] fs = omega arith
frame-sets (b ∷ bs) fs = sym (count-ahead (Requests.verdict (b ∷ bs)) (requests_in (non_empty fs)))

sets-frames : (bs p : List ℕ) → Each (λ b. 1 ≤ b) p
    → sets_in_bytes (progress_of p) bs ≡ set_count (requests_in (non_empty (split (p ++ bs)).closed))
unfolding sets_in_bytes split non_empty requests_in sets_of
sets-frames [] p h = rw (append-nil, split-none p h)
sets-frames (zero ∷ bs) p h =
    let i : sets_in_bytes (some []) bs ≡ set_count (requests_in (non_empty (split bs).closed)) =
    ap (λ o. sets_in_bytes o bs) (sym (tail_within [] (omega arith))) ∙ sets-frames bs [] tt in
    rw (split_at p bs h, closed-verdict p, i) (frame-sets p (split bs).closed)
sets-frames (suc b ∷ bs) p h =
    let i = sets-frames bs (p ++ (suc b ∷ [])) (each_append (λ b. 1 ≤ b) p (suc b ∷ []) h (omega arith, tt)) in
    rw (eqb-suc-zero, more-tail p (suc b), ← append_snoc p (suc b) bs) i

pub sets-closed : (w bs : List ℕ) → Each (λ b. 1 ≤ b) (split w).rest
    → sets_in_bytes (progress_of (split w).rest) bs ≡ set_count (requests_in (frames_closed_by w bs))
unfolding frames_closed_by
sets-closed w bs h = rw (closed-rest w bs) (sets-frames bs (split w).rest h)

-- ---- received bytes

module _ (image : List ℕ) (i : Each Byte image) where
  pub closed-anew : (x : Parts) → Sound x → (view (Receive.feed_byte image x 0)).received ≡ some []
  unfolding view Receive.feed_byte Receive.after_answer
  closed-anew x s = closed-received x.reader s.valid.reader

  -- the sets in the bytes behind a byte
  fed-room : (x y : Parts) → Sound x → Sound y → (view x).received ≡ (view y).received → (b : ℕ) → b < 256 → (bs : List ℕ)
      → Room (sets_in_bytes (view x).received (b ∷ bs)) (view x).settings (view y).settings
      → Room (sets_in_bytes (view (Receive.feed_byte image x b)).received bs) (view (Receive.feed_byte image x b)).settings
      (view (Receive.feed_byte image y b)).settings
  unfolding sets_in_bytes Requests.receive_byte Requests.closed
  fed-room x y sx sy e zero h bs r =
      rw (closed-anew x sx, (feed-leaves image x 0 i sx h).0, (feed-leaves image y 0 i sy h).0)
      (subst (λ (o : Option (List ℕ)). Room (sets_in_bytes (some []) bs)
      (Requests.after_some_verdict image (view x) (verdict_since (view x).received)).settings
      (Requests.after_some_verdict image (view y) (verdict_since o)).settings) e (by (verdict_since (view x).received) r))
    where
      by : (o : Option Verdict) → Room (sets_at o + sets_in_bytes (some []) bs) (view x).settings (view y).settings
          → Room (sets_in_bytes (some []) bs) (Requests.after_some_verdict image (view x) o).settings
          (Requests.after_some_verdict image (view y) o).settings
      by none q = room-less (omega arith) q
      by (some v) q =
          judged-room image v (sets_in_bytes (some []) bs) (with_received (view x) (some [])) (with_received (view y) (some [])) q
  fed-room x y sx sy e (suc b) h bs r =
      rw ((feed-leaves image x (suc b) i sx h).0, (feed-leaves image y (suc b) i sy h).0, eqb-suc-zero) (rw eqb-suc-zero at r)

  module _ (x y : Parts) (sx : Sound x) (sy : Sound y) (e : SameButPassphrase x y) where
    after_same : (o : Option Verdict) → StoresGrow (sets_at o) x.settings y.settings
        → SameInner (Receive.inner_after image x.factory (Receive.inner_of x) o)
        (Receive.inner_after image y.factory (Receive.inner_of y) o)
    unfolding Receive.inner_after
    after_same none g = record { outbox = e.outbox; outside = outside_of e; registers = e.registers }
    after_same (some v) g = judged-same x y sx sy e image v g

    closed_same : StoresGrow (sets_at (verdict_since (received_of x.reader))) x.settings y.settings
        → SameButPassphrase (Receive.feed_byte image x 0) (Receive.feed_byte image y 0)
    unfolding Receive.feed_byte Receive.after_answer
    closed_same g =
        let fx = finished-verdict x.reader sx.valid.reader in
        let fy = finished-verdict y.reader sy.valid.reader ∙ ap (λ (r : List ℕ). verdict_since (received_of r)) (sym e.reader) in
        let k = after_same _ g in
        rw (fx, fy)
        (record {
          reader = ap reader_closed e.reader;
          outbox = k.outbox;
          factory = e.factory;
          ahead = k.outside.ahead;
          behind = k.outside.behind;
          registers = k.registers;
        })

    pushed-same : (b : ℕ) → SameButPassphrase (Receive.feed_byte image x (suc b)) (Receive.feed_byte image y (suc b))
    unfolding Receive.feed_byte
    pushed-same b =
        rw eqb-suc-zero
        (record {
          reader = ap (λ (r : List ℕ). LineReader.pushed r (suc b)) e.reader;
          outbox = e.outbox;
          factory = e.factory;
          ahead = e.ahead;
          behind = e.behind;
          registers = e.registers;
        })

    byte-same : (b : ℕ) (bs : List ℕ) → Room (sets_in_bytes (view x).received (b ∷ bs)) (view x).settings (view y).settings
        → SameButPassphrase (Receive.feed_byte image x b) (Receive.feed_byte image y b)
    unfolding sets_in_bytes view
    byte-same zero bs r = closed_same (grow-less (omega arith) (grow-of _ x y r))
    byte-same (suc n) bs r = pushed-same n

  pub fed-same : (bs : List ℕ) → Each Byte bs → (x y : Parts) → Sound x → Sound y → SameButPassphrase x y
      → Room (sets_in_bytes (view x).received bs) (view x).settings (view y).settings
      → SameButPassphrase (Receive.feed_bytes image x bs) (Receive.feed_bytes image y bs)
  unfolding view Receive.feed_bytes
  fed-same [] h x y sx sy e r = e
  fed-same (n ∷ bs) h x y sx sy e r =
      fed-same bs h.1 (Receive.feed_byte image x n) (Receive.feed_byte image y n) (feed-leaves image x n i sx h.0).1
      (feed-leaves image y n i sy h.0).1 (byte-same x y sx sy e n bs r)
      (fed-room x y sx sy (ap received_of e.reader) n h.0 bs r)
