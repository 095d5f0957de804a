-- A set of the passphrase, in any cuts, leaves nothing of its value outside its record, and nothing behind it there.
-- Assumes nothing.
use mathlib.Core.Path.{◌≡◌, refl, sym, ap, subst, ◌∙◌}
use mathlib.Core.Logic.{inl}
use mathlib.Core.Bool.{Bool, true, false, false≢true, not}
use mathlib.Core.List.{List, [], ◌∷◌, ◌++◌, append-nil}
use mathlib.Core.Option.{Option, none, some}
use Prim.Native.Nat.{ℕ, zero, suc, ◌≤◌, ◌<◌}
use native.Mathlib.Omega.{arith}
use lib.Dec.{leb, eqb-suc-zero}
use lib.ListN.{length, take, drop, take-append-drop, drop_of_length-le}
use lib.Seq.{append_snoc, take_at, length-take-le}
use borrow.Author.Tests.{le-leb, lt-leb}
use Rattle.octets.specs.Bytes as Bytes
use Rattle.octets.specs.Bytes.{Byte, Each, overlay}
use Rattle.octets.proofs.Conditions.{cond_both}
use Rattle.octets.proofs.Each.{each_take}
use Rattle.octets.proofs.Overlay.{overlay-start}
use Rattle.octets.proofs.Zeros.{zeros, length-zeros}
use Rattle.line.specs.Numbers.{command_key_set, top_bit}
use Rattle.line.specs.Message.{Message, InRange, message}
use Rattle.line.specs.Cobs.{cobs, uncobs, group_bytes}
use Rattle.line.specs.Frame.{frame}
use Rattle.line.specs.Judge as Line
use Rattle.line.specs.Judge.{judge, progress_of}
use Rattle.line.specs.Reader as LineReader
use Rattle.line.specs.Reader.{received_of}
use Rattle.line.proofs.FrameLength.{form_fits}
use Rattle.line.proofs.Judged.{tail_within, more-tail}
use Rattle.line.proofs.Received as Reader
use Rattle.line.proofs.Received.{ReaderStays, stays_same, stays_then, pushed-received, pushed-stays, finish-stays, finish-data}
use Rattle.line.proofs.Lent.{received-append, valid-append, fresh-append, pushed-append, finish-append}
use Rattle.line_claims.proofs.CobsClaims.{above_zero}
use Rattle.line_claims.proofs.JudgeClaim.{judge-of-message}
use Rattle.line_claims.proofs.LoanLaws.{front}
use Rattle.supervisor.specs.Layout
use Rattle.supervisor.specs.Calls.{Parts}
use Rattle.responder.specs.Commands.{Command, command_number, length_right}
use Rattle.responder.specs.Requests
use Rattle.responder.specs.Requests.{Verdict, failure, good, tested, verdict, verdict_since}
use Rattle.responder.specs.Receive
use Rattle.responder.proofs.CommandLaws.{of_number}
use Rattle.responder.proofs.VerdictLaws.{finished-verdict, reader_closed}
use Rattle.supervisor_claims.specs.ByPart.{Part, published, part}
use Rattle.supervisor_claims.specs.Sound.{Sound, with_reader}
use Rattle.supervisor_claims.specs.Histories
use Rattle.supervisor_claims.specs.Histories.{Call, Typed, did, Lent, lent_of, back_by, given_back, enough, up_to, Made}
use Rattle.supervisor_claims.specs.Histories.{made, left, AllTyped}
use Rattle.supervisor_claims.specs.FrameHistory.{piece_read, bytes_received_by}
use Rattle.supervisor_claims.specs.TwoRuns.{record_begin, SameButPassphrase, passphrase_edition, left_by_run}
use Rattle.supervisor_claims.specs.Forgets.{passphrase_set, is_receiving, bytes_received, Receives, NothingCome, SetLeaves, SetUnseen}
use Rattle.supervisor_claims.proofs.ByPart.{of, parts_same}
use Rattle.supervisor_claims.proofs.Sound.{valid-long}
use Rattle.supervisor_claims.proofs.laws.Locality.{EnoughOfAll, lent-part, lent-sound}
use Rattle.supervisor_claims.proofs.calls.StepClaim.{step-fed}
use Rattle.supervisor_claims.proofs.claims.LentCalls.{valid-parts, made_12, widened-enough}
use Rattle.supervisor_claims.proofs.claims.History.{one_call}
use Rattle.supervisor_claims.proofs.claims.TwoRunLaws.{Grow, grow_last}
use Rattle.supervisor_claims.proofs.claims.OutsideLaws.{wrong_length, at_last, passphrase-stored, passphrase-editions}
use Rattle.supervisor_claims.proofs.claims.OutsideLaws.{passphrase-placed}
use Rattle.supervisor_claims.proofs.claims.FedSame.{SameInner, outside_of}
use Rattle.supervisor_claims.proofs.claims.BehindLaws.{behind, Sets, Harmless, fed-behind, set-carried}
use Rattle.supervisor_claims.proofs.TwoRuns.{run_sound}

-- ---- one call

pub fed-append : (image : List ℕ) (bs cs : List ℕ) (p : Parts)
    → Receive.feed_bytes image p (bs ++ cs) ≡ Receive.feed_bytes image (Receive.feed_bytes image p bs) cs
unfolding Receive.feed_bytes
fed-append image [] cs p = refl
fed-append image (b ∷ bs) cs p = fed-append image bs cs (Receive.feed_byte image p b)

pub harmless-append : (bs cs : List ℕ) (p : Parts) → Harmless p (bs ++ cs) → Harmless p bs × Harmless (Receive.feed_bytes [] p bs) cs
unfolding Receive.feed_bytes
harmless-append [] cs p h = (tt, h)
harmless-append (b ∷ bs) cs p h = let k = harmless-append bs cs (Receive.feed_byte [] p b) h.1 in ((h.0, k.0), k.1)

module _ (p : Parts) (s : Sound p) (l : Lent) (e : EnoughOfAll l) where
  rests : Part → List ℕ
  rests i = (front (published i) (l i) (part p i) (of e i)).rest

  whole : behind (lent_of l p) rests ≡ p
  unfolding rests
  whole =
      parts_same (λ i. part (lent_of l p) i ++ rests i) (part p)
      (λ i. rw (lent-part l p i) (front (published i) (l i) (part p i) (of e i)).whole)

  back : (x : Parts) → given_back l p x ≡ behind x rests
  unfolding rests
  back x = parts_same (back_by l p x) (λ i. part x i ++ rests i) (λ i. (front (published i) (l i) (part p i) (of e i)).back (part x i))

  fed-whole : (image bs : List ℕ) → Each Byte image → Each Byte bs → Harmless p bs
      → given_back l p (Receive.feed_bytes image (lent_of l p) bs) ≡ Receive.feed_bytes [] p bs
  fed-whole image bs i t h =
      let f = fed-behind image rests i bs (lent_of l p) (lent-sound l p e s) t (subst (λ (y : Parts). Harmless y bs) (sym whole) h) in
      back (Receive.feed_bytes image (lent_of l p) bs) ∙ sym f ∙ ap (λ (y : Parts). Receive.feed_bytes [] y bs) whole

  lent-valid : Receive.valid_parts (lent_of l p) ≡ true
  lent-valid = valid-parts (lent_of l p) (lent-sound l p e s).valid

  fed-call : (c : Call) → Typed c → is_receiving c ≡ true → Harmless p (piece_read c)
      → given_back l p (did (lent_of l p) c).parts ≡ Receive.feed_bytes [] p (piece_read c)
  unfolding did piece_read Receive.receive_promise Receive.step_promise Receive.valid_step
  fed-call (Histories.start d) t r h = absurd (false≢true r)
  fed-call (Histories.receive image piece) t r h = rw lent-valid (fed-whole image piece t.0 t.1 h)
  fed-call (Histories.step image piece) t r h =
      rw (lent-valid, step-fed image piece (lent_of l p)) (fed-whole image _ t.0 (each_take Byte (up_to piece) piece t.1) h)
  fed-call (Histories.local c) t r h = absurd (false≢true r)

-- such a call takes every part
takes_all : (p : Parts) → Sound p → (c : Call) (l : Lent) → is_receiving c ≡ true → enough c l ≡ true → EnoughOfAll l
takes_all p s (Histories.start d) l r e = absurd (false≢true r)
takes_all p s (Histories.receive image piece) l r e = widened-enough l p (valid-long {p = p} s.valid) (Histories.receive image piece) e
takes_all p s (Histories.step image piece) l r e = widened-enough l p (valid-long {p = p} s.valid) (Histories.step image piece) e
takes_all p s (Histories.local c) l r e = absurd (false≢true r)

module _ (p : Parts) (s : Sound p) (m : Made) (t : Typed m.call) (r : is_receiving m.call ≡ true) where
  enough-fed : enough m.call m.lent ≡ true → Harmless p (piece_read m.call)
      → (made p m).parts ≡ Receive.feed_bytes [] p (piece_read m.call)
  unfolding made
  enough-fed e h = fed-call p s m.lent (takes_all p s m.call m.lent r e) m.call t r h

  pub call-fed : Harmless p (bytes_received_by m) → (made p m).parts ≡ Receive.feed_bytes [] p (bytes_received_by m)
  unfolding bytes_received_by Receive.feed_bytes
  call-fed h = by (enough m.call m.lent) refl
    where
      by : (b : Bool) → enough m.call m.lent ≡ b → (made p m).parts ≡ Receive.feed_bytes [] p (bytes_received_by m)
      by true e = rw e (enough-fed e (rw e at h))
      by false e = rw (made_12 p m e, e)

-- ---- calls that receive

calls-fed : (ms : List Made) (p : Parts) → Sound p → AllTyped ms → Each (λ (m : Made). is_receiving m.call ≡ true) ms
    → Harmless p (bytes_received ms) → left p ms ≡ Receive.feed_bytes [] p (bytes_received ms)
unfolding left bytes_received Receive.feed_bytes
calls-fed [] p s t r h = refl
calls-fed (m ∷ ms) p s t r h =
    let k = harmless-append (bytes_received_by m) (bytes_received ms) p h in
    let e = call-fed p s m t.0 r.0 k.0 in
    let n = (one_call p m s t.0).leaves.1 in
    calls-fed ms (made p m).parts n t.1 r.1 (subst (λ (y : Parts). Harmless y (bytes_received ms)) (sym e) k.1)
    ∙ ap (λ (y : Parts). Receive.feed_bytes [] y (bytes_received ms)) e ∙ sym (fed-append [] (bytes_received_by m) (bytes_received ms) p)

-- ---- bytes that are not 00

push : (p : Parts) (b : ℕ) → Receive.feed_byte [] p (suc b) ≡ with_reader p (LineReader.pushed p.reader (suc b))
unfolding Receive.feed_byte
push p b = rw eqb-suc-zero

pub pushes : (f : List ℕ) → Each (λ b. 1 ≤ b) f → (p : Parts) → Receive.feed_bytes [] p f ≡ with_reader p (LineReader.pushed_all p.reader f)
unfolding Receive.feed_bytes LineReader.pushed_all
pushes [] n p = refl
pushes (zero ∷ f) n p = absurd (omega (arith, n.0))
pushes (suc b ∷ f) n p = rw (push p b) (pushes f n.1 (with_reader p (LineReader.pushed p.reader (suc b))))

-- the reader's part behind them: what has come, and what stays
record Pushed (s w f : List ℕ) : Type 0 where
  received : received_of (LineReader.pushed_all s f) ≡ progress_of (w ++ f)
  stays : ReaderStays s (LineReader.pushed_all s f)

pushed-all : (f w s : List ℕ) → LineReader.valid_reader s ≡ true → received_of s ≡ progress_of w → Pushed s w f
unfolding LineReader.pushed_all
pushed-all [] w s v r = record { received = rw append-nil r; stays = stays_same v }
pushed-all (b ∷ f) w s v r =
    let k = pushed-stays s b v in
    let n = pushed-all f (w ++ (b ∷ [])) (LineReader.pushed s b) k.valid (pushed-received s b v ∙ rw r (more-tail w b)) in
    record { received = n.received ∙ ap progress_of (append_snoc w b f); stays = stays_then k n.stays }

all_append : (f t u : List ℕ) → LineReader.valid_reader t ≡ true → LineReader.pushed_all (t ++ u) f ≡ LineReader.pushed_all t f ++ u
unfolding LineReader.pushed_all
all_append [] t u v = refl
all_append (b ∷ f) t u v =
    rw (pushed-append t u (Reader.valid-long t v) b) (all_append f (LineReader.pushed t b) u (pushed-stays t b v).valid)

-- as many zeros as a list has bytes
all-zeros : (n : ℕ) (s : List ℕ) → length s ≡ n → overlay 0 (zeros n) s ≡ zeros n
all-zeros n s e =
    let k = length-zeros n in
    let h : length s ≤ length (zeros n) = omega arith in
    overlay-start (zeros n) s ∙ rw (drop_of_length-le s h, append-nil)

-- begun anew, it has zeros in its published length
cleared : List ℕ
cleared = zeros LineReader.reader_length

fresh-zeros : (s : List ℕ) → length s ≡ LineReader.reader_length → LineReader.reader_fresh s ≡ cleared
unfolding LineReader.reader_fresh cleared
fresh-zeros s e = all-zeros LineReader.reader_length s e

begun-anew : (f w r : List ℕ) → LineReader.valid_reader r ≡ true → received_of r ≡ progress_of w
    → LineReader.reader_fresh (LineReader.finish (LineReader.pushed_all r f)).state
    ≡ cleared ++ drop LineReader.reader_length r
begun-anew f w r v e =
    let t = take LineReader.reader_length r in
    let u = drop LineReader.reader_length r in
    let same : t ++ u ≡ r = take-append-drop LineReader.reader_length r in
    let l : length t ≡ LineReader.reader_length = length-take-le LineReader.reader_length r (Reader.valid-long r v) in
    let h : LineReader.reader_length ≤ length t = omega arith in
    let vt : LineReader.valid_reader t ≡ true = sym (valid-append t u h) ∙ ap LineReader.valid_reader same ∙ v in
    let x = LineReader.pushed_all t f in
    let k = (pushed-all f w t vt (sym (received-append t u h) ∙ ap received_of same ∙ e)).stays in
    let n = (finish-stays x k.valid).long in
    let y = (LineReader.finish x).state in
    subst (λ (z : List ℕ). LineReader.reader_fresh (LineReader.finish (LineReader.pushed_all z f)).state ≡ cleared ++ u)
    same
    (rw (
      all_append f t u vt,
      finish-append x u (omega (arith, k.long)),
      fresh-append y u (omega (arith, k.long, n)),
      fresh-zeros y (omega (arith, k.long, n)),
    ))

-- ---- the frame of a set of the passphrase

judged-some : (f : List ℕ) (m : Message) → judge f ≡ Line.good m → Line.judge_received (some f) ≡ some (Line.good m)
unfolding judge Line.judge_form uncobs group_bytes
judged-some [] m e = absurd (let z : ◌≡◌ {A = ℕ} 0 1 = cc in omega arith)
judged-some (b ∷ f) m e = ap some e

since-some : (f : List ℕ) (m : Message) → Line.judge_received (some f) ≡ some (Line.good m) → verdict_since (some f) ≡ some (tested m)
unfolding verdict
since-some [] m e = absurd (let z : ◌≡◌ {A = ℕ} 0 1 = cc in omega arith)
since-some (b ∷ f) m e = ap (λ (o : Option Line.LineVerdict). closed o) e
  where
    closed : Option Line.LineVerdict → Option Verdict
    closed none = none
    closed (some v) = some (Requests.tested_where v)

module _ (version number : ℕ) (v : List ℕ) (range : InRange (passphrase_set version number v)) where
  abbrev m : Message
  m = passphrase_set version number v

  abbrev form : List ℕ
  form = cobs (message m)

  judged : Line.judge_received (some form) ≡ some (Line.good m)
  judged = judged-some form m (judge-of-message m range)

  pub progress : progress_of form ≡ some form
  progress = tail_within form (form_fits m range.fits)

  pub set-verdict : verdict_since (some form) ≡ some (tested m)
  set-verdict = since-some form m judged

  sets : (r : Option (List ℕ)) → r ≡ some form → Sets r
  sets r e = record { version = version; number = number; value = v; verdict = rw e set-verdict }

  pub harmless : (f w : List ℕ) (p : Parts) → LineReader.valid_reader p.reader ≡ true → received_of p.reader ≡ progress_of w
      → Each (λ b. 1 ≤ b) f → w ++ f ≡ form → Harmless p (f ++ (0 ∷ []))
  harmless [] w p a r n e = ((λ _. sets _ (r ∙ ap progress_of (sym (append-nil w) ∙ e) ∙ progress)), tt)
  harmless (zero ∷ f) w p a r n e = absurd (omega (arith, n.0))
  harmless (suc b ∷ f) w p a r n e = (
    (λ z. absurd (omega (arith, z))),
    subst (λ (y : Parts). Harmless y (f ++ (0 ∷ []))) (sym (push p b))
        (harmless f (w ++ (suc b ∷ [])) (with_reader p (LineReader.pushed p.reader (suc b))) (pushed-stays p.reader (suc b) a).valid
        (pushed-received p.reader (suc b) a ∙ rw r (more-tail w (suc b))) n.1 (append_snoc w (suc b) f ∙ e)),
  )

  module _ (p : Parts) (s : Sound p) (b : NothingCome p) where
    abbrev r : List ℕ
    r = LineReader.pushed_all p.reader form

    pub none_yet : received_of p.reader ≡ progress_of []
    none_yet = b ∙ sym (tail_within [] (omega arith))

    come : Pushed p.reader [] form
    come = pushed-all form [] p.reader s.valid.reader none_yet

    whole-come : received_of r ≡ some form
    whole-come = come.received ∙ progress

    sets_it : Receive.sets_passphrase (LineReader.finish r).state (LineReader.finish r).answer ≡ true
    unfolding LineReader.finish LineReader.verdict_report Receive.sets_passphrase Bytes.number
    sets_it =
        let j : Line.judge_received (received_of r) ≡ some (Line.good m) = ap Line.judge_received whole-come ∙ judged in
        rw (j, finish-data r come.stays.valid m j)

    reader-left : reader_closed r ≡ cleared ++ drop LineReader.reader_length p.reader
    unfolding Receive.reader_behind LineReader.reader_start_promise
    reader-left =
        let k = finish-stays r come.stays.valid in
        rw (sets_it, le-leb _ _ (Reader.valid-long (LineReader.finish r).state k.valid))
        (begun-anew form [] p.reader s.valid.reader none_yet)

    -- what its frame leaves
    frame-leaves : Receive.feed_bytes [] p (frame m)
        ≡ Receive.parts_with p (cleared ++ drop LineReader.reader_length p.reader)
        (Receive.inner_by [] p.factory (Receive.inner_of p) (tested m))
    unfolding frame Receive.feed_bytes Receive.feed_byte Receive.after_answer Receive.inner_after
    frame-leaves =
        let f = finished-verdict r come.stays.valid ∙ ap verdict_since whole-come ∙ set-verdict in
        fed-append [] form (0 ∷ []) p ∙ rw (pushes form (above_zero (message m)) p, f, reader-left)

    set-fed : (ms : List Made) → Receives (frame m) ms → left p ms ≡ Receive.feed_bytes [] p (frame m)
    unfolding frame
    set-fed ms k =
        let h = harmless form [] p s.valid.reader none_yet (above_zero (message m)) refl in
        calls-fed ms p s k.typed k.receiving (rw k.joined h) ∙ rw k.joined refl

-- ---- what the table makes of the two sets

allowed-some : (n : ℕ) → Requests.length_allowed command_key_set (suc n) ≡ true
unfolding Requests.length_allowed command_number length_right
allowed-some n = rw (of_number Command.key_set) (le-leb 1 (suc n) (omega arith))

-- by version and number alone
pub tested-both : (P : Verdict → Verdict → Type 0)
    → ((reason version : ℕ) (sequence : Option ℕ) → P (failure reason version sequence) (failure reason version sequence))
    → (version number : ℕ) (v w : List ℕ) → P (good (passphrase_set version number v)) (good (passphrase_set version number w))
    → P (tested (passphrase_set version number v)) (tested (passphrase_set version number w))
unfolding tested
tested-both P failed version number v w served =
    rw (allowed-some (length v), allowed-some (length w))
    (cond_both P (not (Requests.version_served version)) (λ _. failed _ _ _) (λ _.
    cond_both P (leb top_bit number) (λ _. failed _ _ _) (λ _.
    cond_both P (not (Requests.known command_key_set)) (λ _. failed _ _ _) (λ _. served))))

module _ (f : List ℕ) (i j : Receive.Inner) (e : SameInner i j) where
  failure-same : (reason version : ℕ) (sequence : Option ℕ)
      → SameInner (Receive.inner_by [] f i (failure reason version sequence)) (Receive.inner_by [] f j (failure reason version sequence))
  unfolding Receive.inner_by Receive.reply_alone
  failure-same reason version sequence =
      record { outbox = ap (Receive.sent_box _) e.outbox; outside = e.outside; registers = e.registers }

  module _ (version number : ℕ) (v w : List ℕ) (si : Layout.settings_length ≤ length i.settings)
      (sj : Layout.settings_length ≤ length j.settings) (l : wrong_length v ≡ wrong_length w) where
    abbrev Both : Verdict → Verdict → Type 0
    Both x y = SameInner (Receive.inner_by [] f i x) (Receive.inner_by [] f j y)

    good-same : at_last i.settings ≡ at_last j.settings
        → Both (good (passphrase_set version number v)) (good (passphrase_set version number w))
    good-same a =
        let k = passphrase-stored i.settings j.settings v w si sj e.outside l (λ _. a) in
        rw (set-carried [] f i version number v, set-carried [] f j version number w)
        (record { outbox = rw (k.result, e.outbox); outside = k.outside; registers = e.registers })

    tested-same : at_last i.settings ≡ at_last j.settings
        → Both (tested (passphrase_set version number v)) (tested (passphrase_set version number w))
    tested-same a = tested-both Both failure-same version number v w (good-same a)

    abbrev Equal : Verdict → Verdict → Type 0
    Equal x y =
        Layout.setting_edition (Receive.inner_by [] f i x).settings record_begin
        ≡ Layout.setting_edition (Receive.inner_by [] f j y).settings record_begin

    tested-equal : Layout.setting_edition i.settings record_begin ≡ Layout.setting_edition j.settings record_begin
        → Equal (tested (passphrase_set version number v)) (tested (passphrase_set version number w))
    unfolding Receive.inner_by Receive.reply_alone
    tested-equal d =
        tested-both Equal (λ _ _ _. d) version number v w
        (rw (set-carried [] f i version number v, set-carried [] f j version number w)
        (passphrase-editions i.settings j.settings v w si sj l d))

-- it is good where version and number are
tested-good : (version number : ℕ) (v : List ℕ) → Requests.version_served version ≡ true → number < top_bit
    → tested (passphrase_set version number v) ≡ good (passphrase_set version number v)
unfolding tested Requests.known command_number
tested-good version number v s n = rw (s, lt-leb top_bit number n, of_number Command.key_set, allowed-some (length v))

-- ---- the claims

pub set_leaves : SetLeaves
unfolding cleared
set_leaves r b version number v range ms k =
    let p = left_by_run r in
    let s = run_sound r in
    let m = passphrase_set version number v in
    let n = LineReader.reader_length in
    rw (set-fed version number v range p s b ms k, frame-leaves version number v range p s b) (
      take_at cleared (drop n p.reader) n (length-zeros n),
      λ t. rw (tested-good version number v t.version-served t.number_below)
          (rw (set-carried [] p.factory (Receive.inner_of p) version number v)
          (passphrase-placed p.settings v (valid-long {p = p} s.valid).settings t.length-allowed t.edition_below)),
    )

-- two sound parts, by the bytes received
module _ (p q : Parts) (sp : Sound p) (sq : Sound q) (e : SameButPassphrase p q) (bp : NothingCome p) (bq : NothingCome q)
    (version number : ℕ) (v w : List ℕ) (iv : InRange (passphrase_set version number v)) (iw : InRange (passphrase_set version number w))
    (l : wrong_length v ≡ wrong_length w) where
  inner-same : SameInner (Receive.inner_of p) (Receive.inner_of q)
  inner-same = record { outbox = e.outbox; outside = outside_of e; registers = e.registers }

  abbrev longs : (Layout.settings_length ≤ length p.settings) × (Layout.settings_length ≤ length q.settings)
  longs = ((valid-long {p = p} sp.valid).settings, (valid-long {p = q} sq.valid).settings)

  pub fed-sets : at_last p.settings ≡ at_last q.settings
      → SameButPassphrase (Receive.feed_bytes [] p (frame (passphrase_set version number v)))
      (Receive.feed_bytes [] q (frame (passphrase_set version number w)))
  fed-sets a =
      let k = tested-same q.factory (Receive.inner_of p) (Receive.inner_of q) inner-same version number v w longs.0 longs.1 l a in
      rw (frame-leaves version number v iv p sp bp, frame-leaves version number w iw q sq bq, e.factory)
      (record {
        reader = ap (λ (x : List ℕ). cleared ++ drop LineReader.reader_length x) e.reader;
        outbox = k.outbox;
        factory = refl;
        ahead = k.outside.ahead;
        behind = k.outside.behind;
        registers = k.registers;
      })

  -- equal editions stay equal
  pub fed-editions : passphrase_edition p ≡ passphrase_edition q
      → passphrase_edition (Receive.feed_bytes [] p (frame (passphrase_set version number v)))
      ≡ passphrase_edition (Receive.feed_bytes [] q (frame (passphrase_set version number w)))
  fed-editions d =
      rw (frame-leaves version number v iv p sp bp, frame-leaves version number w iw q sq bq, e.factory)
      (tested-equal q.factory (Receive.inner_of p) (Receive.inner_of q) inner-same version number v w longs.0 longs.1 l d)

pub set_unseen : SetUnseen
set_unseen r s e bp bq lp lq version number v w iv iw l ms ns km kn =
    let p = left_by_run r in
    let q = left_by_run s in
    let sp = run_sound r in
    let sq = run_sound s in
    let low : Grow 1 (passphrase_edition p) (passphrase_edition q) = inl (omega arith, omega arith) in
    rw (set-fed version number v iv p sp bp ms km, set-fed version number w iw q sq bq ns kn)
    (fed-sets p q sp sq e bp bq version number v w iv iw l (grow_last (omega arith) low))
