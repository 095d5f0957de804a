-- Bytes behind the parts. The bytes of a set of the passphrase do to the parts what they do to them with bytes behind, with any image.
-- Assumes nothing.
use mathlib.Core.Path.{◌≡◌, refl, sym, ap, subst, ◌∙◌}
use mathlib.Core.Bool.{cond, not, ◌||◌}
use mathlib.Core.List.{List, [], ◌∷◌, ◌++◌}
use mathlib.Core.Option.{Option, some}
use Prim.Native.Nat.{ℕ, zero, suc, ◌+◌, ◌≤◌}
use native.Mathlib.Omega.{arith}
use lib.Dec.{leb, ltb, eqb, eqb-suc-zero}
use lib.ListN.{length, length-append}
use borrow.Author.Tests.{le-leb}
use Rattle.octets.specs.Bytes.{Byte, Each, bytes, number}
use Rattle.octets.proofs.Conditions.{cond-by, cond_map}
use Rattle.octets.proofs.Numbers.{length-bytes}
use Rattle.octets.proofs.Overlay.{length-overlay, overlay-append, run-append}
use Rattle.octets.proofs.Zeros.{zeros, length-zeros}
use Rattle.line.specs.Limits.{longest_form}
use Rattle.line.specs.Numbers.{top_bit}
use Rattle.line.specs.Message.{Message}
use Rattle.line.specs.Reader as LineReader
use Rattle.line.specs.Reader.{received_of}
use Rattle.line.proofs.FrameLength.{frame_fits}
use Rattle.line.proofs.Received as Reader
use Rattle.line.proofs.Received.{finish-stays}
use Rattle.line.proofs.Lent.{received-append, valid-append, data_of-append, fresh-append, pushed-append, finish-append}
use Rattle.supervisor.specs.Limits
use Rattle.supervisor.specs.Layout
use Rattle.supervisor.specs.Calls.{Parts}
use Rattle.supervisor.proofs.OffsetLaws.{offset-within}
use Rattle.responder.specs.Commands.{Command, command_number}
use Rattle.responder.specs.Requests
use Rattle.responder.specs.Requests.{Verdict, failure, good, tested, verdict_since}
use Rattle.responder.specs.Receive
use Rattle.responder.proofs.CommandLaws.{of_number}
use Rattle.responder.proofs.RecordLaws.{length-right}
use Rattle.responder.proofs.KeptLaws.{length-setting, cleared-most}
use Rattle.responder.proofs.VerdictLaws.{finished-verdict}
use Rattle.supervisor_claims.specs.ByPart.{Part, part, parts_by}
use Rattle.supervisor_claims.specs.Sound.{Sound}
use Rattle.supervisor_claims.specs.Forgets.{passphrase_set}
use Rattle.supervisor_claims.proofs.Sound.{valid-long}
use Rattle.supervisor_claims.proofs.calls.ReceiveClaim.{feed-leaves}

-- ---- the outbox

two-long : (x y : ℕ) → length (bytes 2 x ++ bytes 2 y) ≡ 4
two-long x y = simp (length-append, length-bytes)

sent-behind : (o u bs : List ℕ) → Layout.outbox_length ≤ length o → length bs ≤ longest_form + 1
    → Receive.sent_box bs (o ++ u) ≡ Receive.sent_box bs o ++ u
unfolding Receive.sent_box
sent-behind o u bs h k =
    let l = length-overlay Layout.outbox_bytes_offset (0 ∷ bs) o (omega arith) in
    let from : ℕ = cond (eqb (Layout.outbox_terminator_owed o) 1) 0 1 in
    rw (
      run-append o u Layout.outbox_terminator_owed_offset 1 (omega arith),
      overlay-append o u Layout.outbox_bytes_offset (0 ∷ bs) (omega arith),
    )
    (overlay-append _ u Layout.outbox_from_offset _ (omega (arith, two-long from (suc (length bs)))))

-- a reply with few data
reply-behind : (o u : List ℕ) (h : Receive.Head) (command : ℕ) (payload : List ℕ) → Layout.outbox_length ≤ length o → length payload ≤ 1
    → Receive.sent_box (Receive.reply_bytes h command payload) (o ++ u) ≡ Receive.sent_box (Receive.reply_bytes h command payload) o ++ u
reply-behind o u h command payload l k = sent-behind o u _ l (frame_fits _ (omega arith))

-- ---- the settings

module _ (s u v : List ℕ) (at longest cleared : ℕ) (room : at + (Layout.setting_value_offset + longest) ≤ length s)
    (most : cleared ≤ longest) where
  value-behind : length v ≤ longest → Receive.with_value (s ++ u) at cleared v ≡ Receive.with_value s at cleared v ++ u
  unfolding Receive.with_value
  value-behind short =
      let n = suc (Layout.setting_edition s at) in
      let l =
      length-overlay (at + Layout.setting_value_offset) (zeros cleared) s (omega (arith, length-zeros cleared)) in
      rw (
        run-append s u (at + Layout.setting_edition_offset) 4 (omega arith),
        overlay-append s u (at + Layout.setting_value_offset) (zeros cleared) (omega (arith, length-zeros cleared)),
      )
      (overlay-append _ u at (Layout.setting_bytes n v) (omega (arith, length-setting n v)))

  abbrev grown : Receive.KeyStored → Receive.KeyStored
  grown k = Receive.key_stored k.result (k.settings ++ u)

  store-behind : (shortest : ℕ)
      → Receive.store_bytes_at (s ++ u) at shortest longest cleared v ≡ grown (Receive.store_bytes_at s at shortest longest cleared v)
  unfolding Receive.store_bytes_at
  store-behind shortest =
      cond_map grown (ltb (length v) shortest || ltb longest (length v)) (λ e. refl) (λ e.
      rw (run-append s u (at + Layout.setting_edition_offset) 4 (omega arith))
      (cond_map grown (eqb (Layout.setting_edition s at) Limits.last_edition) (λ f. refl)
      (λ f. ap (Receive.key_stored 0) (value-behind (length-right shortest longest (length v) e).1))))

pub passphrase-key-is : Limits.SettingsKey Limits.passphrase_key
passphrase-key-is = record { lower = omega arith; upper = omega arith }

passphrase-behind : (s u v : List ℕ) → Layout.settings_length ≤ length s
    → Receive.store_bytes (s ++ u) Limits.passphrase_key v
    ≡ Receive.key_stored (Receive.store_bytes s Limits.passphrase_key v).result ((Receive.store_bytes s Limits.passphrase_key v).settings
    ++ u)
unfolding Receive.store_bytes
passphrase-behind s u v h =
    store-behind s u v _ _ _ (omega (arith, offset-within Limits.passphrase_key passphrase-key-is)) (cleared-most Limits.passphrase_key) _

-- ---- the verdict

-- what holds of every failure and of the request holds of what the table makes of it
by-tested : (P : Verdict → Type 0) (m : Message) → ((reason version : ℕ) (sequence : Option ℕ) → P (failure reason version sequence))
    → P (good m) → P (tested m)
unfolding tested
by-tested P m f g =
    cond-by P (not (Requests.version_served m.version)) _ _ (λ _. f _ _ _) (λ _.
    cond-by P (leb top_bit m.sequence) _ _ (λ _. f _ _ _) (λ _.
    cond-by P (not (Requests.known m.command)) _ _ (λ _. f _ _ _) (λ _.
    cond-by P (not (Requests.length_allowed m.command (length m.payload))) _ _ (λ _. f _ _ _) (λ _. g))))

-- a set of the passphrase that is good: by its parts
pub set-carried : (image f : List ℕ) (i : Receive.Inner) (version number : ℕ) (v : List ℕ)
    → let k = Receive.store_bytes i.settings Limits.passphrase_key v in
    Receive.inner_by image f i (good (passphrase_set version number v))
    ≡ Receive.inner
    (Receive.sent_box (Receive.reply_bytes (Receive.reply_head version number) 0x0c (bytes 1 k.result)) i.outbox) k.settings
    i.registers
unfolding Receive.inner_by Receive.carried_inner command_number Receive.command_leaves Receive.key_set_answered number
set-carried image f i version number v = rw (of_number Command.key_set)

module _ (image f g : List ℕ) (i : Receive.Inner) (u : Part → List ℕ) (version number : ℕ) (v : List ℕ)
    (ol : Layout.outbox_length ≤ length i.outbox) (sl : Layout.settings_length ≤ length i.settings) where
  abbrev more : Receive.Inner → Receive.Inner
  more j = Receive.inner (j.outbox ++ u Part.outbox) (j.settings ++ u Part.settings) (j.registers ++ u Part.registers)

  abbrev Grows : Verdict → Type 0
  Grows w = Receive.inner_by [] g (more i) w ≡ more (Receive.inner_by image f i w)

  failure-grows : (reason version : ℕ) (sequence : Option ℕ) → Grows (failure reason version sequence)
  unfolding Receive.inner_by Receive.reply_alone
  failure-grows reason version sequence =
      ap (λ (o : List ℕ). Receive.inner o (i.settings ++ u Part.settings) (i.registers ++ u Part.registers))
      (reply-behind i.outbox (u Part.outbox) _ _ (bytes 1 reason) ol (omega (arith, length-bytes 1 reason)))

  set-grows : Grows (good (passphrase_set version number v))
  set-grows =
      let n = (Receive.store_bytes i.settings Limits.passphrase_key v).result in
      rw (
        set-carried [] g (more i) version number v,
        set-carried image f i version number v,
        passphrase-behind i.settings (u Part.settings) v sl,
        reply-behind i.outbox (u Part.outbox) (Receive.reply_head version number) 0x0c (bytes 1 n) ol (omega (arith, length-bytes 1 n)),
      )

  verdict-grows : Grows (tested (passphrase_set version number v))
  verdict-grows = by-tested Grows _ failure-grows set-grows

-- ---- the reader's part

module _ (s u : List ℕ) (h : LineReader.reader_length ≤ length s) where
  sets_behind : (a : LineReader.ReadReport) → Receive.sets_passphrase (s ++ u) a ≡ Receive.sets_passphrase s a
  unfolding Receive.sets_passphrase
  sets_behind (LineReader.refused n) = refl
  sets_behind LineReader.more = refl
  sets_behind LineReader.empty = refl
  sets_behind (LineReader.failed reason sequence) = refl
  sets_behind (LineReader.message version sequence command n) = rw (data_of-append s u h n)

  reader-behind : (a : LineReader.ReadReport) → Receive.reader_behind (s ++ u) a ≡ Receive.reader_behind s a ++ u
  unfolding Receive.reader_behind LineReader.reader_start_promise
  reader-behind a =
      rw (sets_behind a, le-leb _ _ h, le-leb LineReader.reader_length (length (s ++ u)) (simp length-append (omega arith)))
      (cond_map (λ (x : List ℕ). x ++ u) (Receive.sets_passphrase s a) (λ _. fresh-append s u h) (λ _. refl))

-- ---- the parts

-- parts with bytes behind each
abbrev pub behind : Parts → (Part → List ℕ) → Parts
behind x u = parts_by (λ i. part x i ++ u i)

-- what has come of a frame is, at its 00, a set of the passphrase
pub record Sets (received : Option (List ℕ)) : Type 0 where
  pub version : ℕ
  pub number : ℕ
  pub value : List ℕ
  pub verdict : verdict_since received ≡ some (tested (passphrase_set version number value))

-- each 00 in the bytes ends such a frame
abbrev pub Harmless : Parts → List ℕ → Type 0
Harmless p [] = Unit {0}
Harmless p (b ∷ bs) = (b ≡ 0 → Sets (received_of p.reader)) × Harmless (Receive.feed_byte [] p b) bs

module _ (image : List ℕ) (x : Parts) (u : Part → List ℕ) (s : Sound x) where
  abbrev r : List ℕ
  r = x.reader

  abbrev long : LineReader.reader_length ≤ length x.reader
  long = Reader.valid-long x.reader s.valid.reader

  close-behind : Sets (received_of (r ++ u Part.reader)) → Receive.feed_byte [] (behind x u) 0 ≡ behind (Receive.feed_byte image x 0) u
  unfolding Receive.feed_byte Receive.after_answer Receive.inner_after
  close-behind e =
      let l = valid-long {p = x} s.valid in
      let k = finish-stays r s.valid.reader in
      let c = received-append r (u Part.reader) long in
      let f = finished-verdict (r ++ u Part.reader) (valid-append r (u Part.reader) long ∙ s.valid.reader) ∙ e.verdict in
      let g = finished-verdict r s.valid.reader ∙ ap verdict_since (sym c) ∙ e.verdict in
      let w = verdict-grows image x.factory (x.factory ++ u Part.factory) (Receive.inner_of x) u e.version e.number e.value
      l.outbox l.settings in
      let y = reader-behind (LineReader.finish r).state (u Part.reader) (omega (arith, k.long, long)) (LineReader.finish r).answer in
      rw (f, g, finish-append r (u Part.reader) long, y, w)

  push-behind : (b : ℕ) → Receive.feed_byte [] (behind x u) (suc b) ≡ behind (Receive.feed_byte image x (suc b)) u
  unfolding Receive.feed_byte
  push-behind b = rw (eqb-suc-zero, pushed-append r (u Part.reader) long (suc b))

  pub feed-behind : (b : ℕ) → (b ≡ 0 → Sets (received_of (r ++ u Part.reader)))
      → Receive.feed_byte [] (behind x u) b ≡ behind (Receive.feed_byte image x b) u
  feed-behind zero e = close-behind (e refl)
  feed-behind (suc b) e = push-behind b

pub fed-behind : (image : List ℕ) (u : Part → List ℕ) → Each Byte image → (bs : List ℕ) (x : Parts) → Sound x → Each Byte bs
    → Harmless (behind x u) bs → Receive.feed_bytes [] (behind x u) bs ≡ behind (Receive.feed_bytes image x bs) u
unfolding Receive.feed_bytes
fed-behind image u i [] x s t h = refl
fed-behind image u i (b ∷ bs) x s t h =
    let e = feed-behind image x u s b h.0 in
    let f = feed-leaves image x b i s t.0 in
    rw e (fed-behind image u i bs (Receive.feed_byte image x b) f.1 t.1 (subst (λ (y : Parts). Harmless y bs) e h.1))
