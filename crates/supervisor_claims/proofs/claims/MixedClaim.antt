-- Calls of the supervisor and of the line layer in one list.
-- The claims say what each answers, hands out and leaves by the frames of the joined bytes. Assumes nothing.
use mathlib.Core.Path.{◌≡◌, refl, sym, ap, ◌∙◌}
use mathlib.Core.Bool.{Bool, true, false, cond}
use mathlib.Core.List.{List, [], ◌∷◌, ◌++◌, map, append-nil}
use mathlib.Core.Option.{Option, none, some}
use Prim.Native.Nat.{ℕ, zero, suc, ◌≤◌, ◌<◌}
use native.Mathlib.Omega.{arith}
use lib.Dec.{ltb, eqb-suc-zero}
use lib.ListN as ListN
use lib.ListN.{length, length-append}
use borrow.Author.Tests.{le-leb, lt-leb}
use Rattle.octets.specs.Bytes.{Each, Byte}
use Rattle.octets.proofs.Conditions.{cond-by, cond_both}
use Rattle.octets.proofs.Each.{each_take}
use Rattle.line.specs.Limits.{longest_data, longest_form}
use Rattle.line.specs.Frame.{split, non_empty, closed_behind, with_zeros}
use Rattle.line.specs.Judge as Line
use Rattle.line.specs.Judge.{progress_of}
use Rattle.line.specs.Reader as LineReader
use Rattle.line.specs.Reader.{received_of, pushed_all, ahead_of00}
use Rattle.line.proofs.Judged.{tail_within}
use Rattle.line.proofs.Lent.{pushed-append, data_of-append}
use Rattle.line.proofs.Ahead.{ahead-nonzero, ahead-prefix, ahead-join}
use Rattle.line.proofs.Received as Received
use Rattle.line.proofs.Received.{short-invalid, fresh-received, tail-received, data-refused, pushed-stays, read_stays}
use Rattle.line.proofs.Pieces.{split_at, non_empty-append, split-join, closed-rest, closed-join, split-each}
use Rattle.line_claims.specs.Loans.{Loan}
use Rattle.line_claims.specs.Calls.{lent_state, back, messages_handed, tail_meant}
use Rattle.line_claims.proofs.LoanLaws.{back-same, lent-long, lent-short, lent-enough, front}
use Rattle.supervisor.specs.State.{State, fresh, with_received}
use Rattle.supervisor.specs.Calls.{Parts}
use Rattle.responder.specs.Receive
use Rattle.supervisor_claims.specs.ByPart.{Part, is}
use Rattle.supervisor_claims.specs.View.{factory_of, view}
use Rattle.supervisor_claims.specs.Sound.{with_reader, Bytes, Sound, Lengths, Leaves}
use Rattle.supervisor_claims.specs.Histories
use Rattle.supervisor_claims.specs.Histories.{done, Lent, lent_of, given_back, Made, did, made, outputs, left, up_to, receive_with}
use Rattle.supervisor_claims.specs.FrameHistory.{received_since, received_since_all, frames_closed_by}
use Rattle.supervisor_claims.specs.FrameHistory.{carried_made, outputs_by_frames, left_by_frames, carried_frames}
use Rattle.supervisor_claims.specs.MixedCalls
use Rattle.supervisor_claims.specs.MixedCalls.{MixedCall, TypedMixed, AllTypedMixed, enough_of_reader, SettledAs, DidMixed, MixedMeans}
use Rattle.supervisor_claims.specs.MixedCalls.{outputs_mixed, left_mixed, MixedAsFrames, left_mixed_by_frames}
use Rattle.supervisor_claims.specs.MixedCalls.{brought_since, brought_all}
use Rattle.supervisor_claims.specs.MixedCalls.{made_mixed, mixed_since, mixed_since_all, carried_mixed, read_by_frames, line_bytes_read}
use Rattle.supervisor_claims.specs.Demand1.{Never12, SoundNo12, No12}
use Rattle.supervisor_claims.specs.Demand2.{NoZeros, MixedFrames, WithoutLineCalls, DataBehindRead, CollectedReceives}
use Rattle.supervisor_claims.specs.Demand2.{CollectThenReceive}
use Rattle.supervisor_claims.proofs.ByPart.{part-long}
use Rattle.supervisor_claims.proofs.Sound.{lengths-same, lengths-then, valid-long}
use Rattle.supervisor_claims.proofs.laws.Locality.{EnoughOfAll, widened, widened-all, lent-sound, lent_view, back-leaves}
use Rattle.supervisor_claims.proofs.laws.Progress.{Since, rest-nonzero}
use Rattle.supervisor_claims.proofs.calls.ReceivedClaim.{ReaderKept, started-kept, read_kept}
use Rattle.supervisor_claims.proofs.calls.ReceiveClaim.{reader-leaves}
use Rattle.supervisor_claims.proofs.calls.LineReads.{read-follows, read_all}
use Rattle.supervisor_claims.proofs.claims.LentCalls.{parts-valid}
use Rattle.supervisor_claims.proofs.claims.History.{one_call, earns-no-12, started, undone}
use Rattle.supervisor_claims.proofs.claims.FramesClaim.{made-carried, frames-join}
use Rattle.supervisor_claims.proofs.claims.Cuts.{received-lent, cut-made, answer-so}

-- ---- the bytes up to and with the last 00

split-zeros : (ps : List (List ℕ)) → Each NoZeros ps → split (with_zeros ps) ≡ record { closed = ps; rest = [] }
unfolding split with_zeros
split-zeros [] z = refl
split-zeros (p ∷ ps) z = rw (split_at p (with_zeros ps) z.0, split-zeros ps z.1)

through-split : (w : List ℕ) → split (MixedCalls.through_last00 w) ≡ record { closed = (split w).closed; rest = [] }
through-split w = split-zeros (split w).closed (split-each (λ b. Unit {0}) (λ b. 1 ≤ b) (λ b u. omega arith) w (any-each w)).0
  where
    any-each : (bs : List ℕ) → Each (λ b. Unit {0}) bs
    any-each [] = tt
    any-each (b ∷ bs) = (tt, any-each bs)

pub through-last : (w : List ℕ) → (split (MixedCalls.through_last00 w)).rest ≡ []
through-last w = rw (through-split w)

-- none stand behind it where none has come of a frame
pub tail_none : (bs : List ℕ) → progress_of bs ≡ some [] → bs ≡ []
unfolding progress_of
tail_none bs =
    cond-by (λ o. o ≡ some [] → bs ≡ []) (ltb longest_form (length bs)) none (some bs)
    (λ _ e. absurd (let z : ◌≡◌ {A = ℕ} 0 1 = cc in omega arith)) (λ _ e. cc)

-- whether data are handed out
given-valid : (s : List ℕ) (n : ℕ) → LineReader.valid_reader s ≡ true
    → LineReader.data_given_promise s n ≡ cond {A = Option ℕ} (ltb longest_data n) (some 9) none
unfolding LineReader.data_given_promise
given-valid s n v = rw v

given-invalid : (s : List ℕ) (n : ℕ) → LineReader.valid_reader s ≡ false → LineReader.data_given_promise s n ≡ some 12
unfolding LineReader.data_given_promise
given-invalid s n v = rw v

-- how many bytes have come
tail-progress : (bs : List ℕ) → LineReader.tail_of (progress_of bs) ≡ tail_meant bs
unfolding progress_of tail_meant
tail-progress bs =
    cond_both (λ o a. LineReader.tail_of o ≡ a) (ltb longest_form (length bs)) (λ e. refl) (λ e. refl)

-- ---- what is lent of the reader's part

module _ (p : Parts) (s : Sound p) (l : Loan) (e : enough_of_reader l ≡ true) where
  -- that of the reader's part, and all of the others
  abbrev loans : Lent
  loans = widened (is Part.reader) (λ i. l) p

  enough-all : EnoughOfAll loans
  enough-all =
      widened-all (is Part.reader) (λ i. l) p (valid-long {p = p} s.valid)
      (record { reader = e; outbox = refl; factory = refl; settings = refl; registers = refl })

  lent-valid : LineReader.valid_reader (lent_state l p.reader) ≡ true
  lent-valid = (lent-sound loans p enough-all s).valid.reader

  lent-received : received_of (lent_state l p.reader) ≡ (view p).received
  unfolding view
  lent-received = ap (λ (x : State). x.received) (lent_view loans p enough-all s.valid)

  -- it came back as t
  back-reader : (t : List ℕ) → ReaderKept (lent_state l p.reader) t
      → Leaves p (with_reader p (back l p.reader t)) (with_received (view p) (received_of t))
  back-reader t k =
      let b =
      back-leaves loans p (with_reader (lent_of loans p) t) s.bytes
      (reader-leaves (lent_of loans p) (lent-sound loans p enough-all s) t k) in
      let same : given_back loans p (with_reader (lent_of loans p) t) ≡ with_reader p (back l p.reader t) = simp back-same in
      rw (lent_view loans p enough-all s.valid) at (rw same at b)

lent-some : (p : Parts) → Sound p → (l : Loan) → enough_of_reader l ≡ true → LineReader.reader_length ≤ length (lent_state l p.reader)
lent-some p s l e = lent-long LineReader.reader_length p.reader l e (valid-long {p = p} s.valid).reader

lent-little : (p : Parts) (l : Loan) → enough_of_reader l ≡ false → length (lent_state l p.reader) < LineReader.reader_length
lent-little p l e = lent-short LineReader.reader_length p.reader l (omega arith) e

-- ---- one call

-- it did what the frames make of it, and the bytes v have come then
pub record MixedMeets (p : Parts) (d : DidMixed) (m : MixedMeans) (v : List ℕ) : Type 0 where
  pub answer : d.answer ≡ m.answer
  pub out : SettledAs d.out m.out
  pub leaves : Leaves p d.parts m.state
  pub since : Since (split v).rest m.state

module _ (w : List ℕ) (p : Parts) (s : Sound p) (h : Since (split w).rest (view p)) where
  abbrev Meets : MixedCall → Type 0
  Meets c = MixedMeets p (made_mixed p c) (carried_mixed w (view p) c) (mixed_since w c)

  -- nothing changes
  unchanged : Leaves p p (view p)
  unchanged = (refl, s, lengths-same)

  module _ (l : Loan) where
    abbrev lent : List ℕ
    lent = lent_state l p.reader

    -- too little of the reader's part is not as 12 requires
    invalid : enough_of_reader l ≡ false → LineReader.valid_reader lent ≡ false
    invalid e = short-invalid lent (lent-little p l e)

    start-meets : Meets (MixedCalls.line_start l)
    unfolding made_mixed carried_mixed mixed_since LineReader.reader_start_promise
    start-meets = by (enough_of_reader l) refl
      where
        by : (b : Bool) → enough_of_reader l ≡ b → Meets (MixedCalls.line_start l)
        by true e =
            let r = fresh-received lent (lent-some p s l e) in
            rw (e, le-leb LineReader.reader_length (length lent) (lent-some p s l e))
            (record {
              answer = refl;
              out = refl;
              leaves = rw r at (back-reader p s l e _ (started-kept lent (lent-some p s l e)));
              since = record { received = rw (through-last w, tail_within [] (omega arith)); nonzero = rw (through-last w) tt };
            })
        by false e =
            rw (e, lt-leb LineReader.reader_length (length lent) (lent-little p l e), back-same)
            (record { answer = refl; out = refl; leaves = unchanged; since = h })

    read_meets : (piece : List ℕ) → Each Byte piece → Meets (MixedCalls.line_read l piece)
    unfolding made_mixed carried_mixed read_by_frames mixed_since line_bytes_read frames_closed_by LineReader.read_promise
        MixedCalls.data_of
        messages_handed
    read_meets piece b = by (enough_of_reader l) refl
      where
        bs : List ℕ
        bs = ListN.take (up_to piece) piece

        joined : (split (w ++ bs)).rest ≡ (split ((split w).rest ++ bs)).rest
        joined = rw (split-join w bs)

        by : (t : Bool) → enough_of_reader l ≡ t → Meets (MixedCalls.line_read l piece)
        by true e =
            let f = read-follows piece (split w).rest lent (lent-valid p s l e) h.nonzero (lent-received p s l e ∙ h.received) in
            rw (e, lent-valid p s l e)
            (record {
              answer = rw (f.used, f.answer, closed-rest w bs);
              out = rw (f.handed, closed-rest w bs);
              leaves = rw joined (rw f.received at (back-reader p s l e _ (read_kept piece lent (lent-valid p s l e) b)));
              since = record { received = refl; nonzero = rest-nonzero (w ++ bs) };
            })
        by false e = rw (e, invalid e, back-same, append-nil) (record { answer = refl; out = refl; leaves = unchanged; since = h })

    untold : enough_of_reader l ≡ false → LineReader.tail_promise lent ≡ LineReader.TailReport.refused 12
    unfolding LineReader.tail_promise
    untold e = rw (invalid e)

    tail-meets : Meets (MixedCalls.line_tail l)
    unfolding made_mixed carried_mixed mixed_since
    tail-meets = by (enough_of_reader l) refl
      where
        told : enough_of_reader l ≡ true → LineReader.tail_promise lent ≡ tail_meant (split w).rest
        told e =
            tail-received lent (lent-valid p s l e)
            ∙ ap LineReader.tail_of (lent-received p s l e ∙ h.received)
            ∙ tail-progress (split w).rest

        by : (t : Bool) → enough_of_reader l ≡ t → Meets (MixedCalls.line_tail l)
        by true e = rw (e, told e) (record { answer = refl; out = refl; leaves = unchanged; since = h })
        by false e = rw (e, untold e) (record { answer = refl; out = refl; leaves = unchanged; since = h })

    data-meets : (n : ℕ) → Meets (MixedCalls.line_data l n)
    unfolding made_mixed carried_mixed mixed_since
    data-meets n = by (enough_of_reader l) (ltb longest_data n) refl refl
      where
        by : (t u : Bool) → enough_of_reader l ≡ t → ltb longest_data n ≡ u → Meets (MixedCalls.line_data l n)
        by true true e f =
            let g : LineReader.data_given_promise lent n ≡ some 9 = given-valid lent n (lent-valid p s l e) ∙ rw f in
            rw (e, f, g, data-refused lent n 9 g) (record { answer = refl; out = refl; leaves = unchanged; since = h })
        by true false e f =
            let g : LineReader.data_given_promise lent n ≡ none = given-valid lent n (lent-valid p s l e) ∙ rw f in
            rw (e, f, g) (record { answer = refl; out = tt; leaves = unchanged; since = h })
        by false u e f =
            let g = given-invalid lent n (invalid e) in
            rw (e, g, data-refused lent n 12 g) (record { answer = refl; out = refl; leaves = unchanged; since = h })

  supervisor-meets : (m : Made) → TypedMixed (MixedCalls.supervisor m) → Meets (MixedCalls.supervisor m)
  unfolding made_mixed carried_mixed mixed_since
  supervisor-meets m typed =
      let k = one_call p m s typed in
      let c = made-carried w (view p) h m in
      rw c.0 (record { answer = ap MixedCalls.MixedAnswer.supervisor k.answer; out = k.out; leaves = k.leaves; since = c.1 })

  pub mixed-meets : (c : MixedCall) → TypedMixed c → MixedMeets p (made_mixed p c) (carried_mixed w (view p) c) (mixed_since w c)
  mixed-meets (MixedCalls.supervisor m) typed = supervisor-meets m typed
  mixed-meets (MixedCalls.line_start l) typed = start-meets l
  mixed-meets (MixedCalls.line_read l piece) typed = read_meets l piece typed
  mixed-meets (MixedCalls.line_tail l) typed = tail-meets l
  mixed-meets (MixedCalls.line_data l n) typed = data-meets l n

-- ---- lists of calls

-- calls on q do what the frames make of them, where the bytes w came before
MixedFollows : Parts → Parts → List ℕ → State → List MixedCall → Type 0
MixedFollows p q w s cs =
    MixedAsFrames q w s cs × (view (left_mixed q cs) ≡ left_mixed_by_frames w s cs) × Sound (left_mixed q cs) × Lengths p (left_mixed q cs)

mixed-follows : (cs : List MixedCall) (w : List ℕ) (q : Parts) → Sound q → Since (split w).rest (view q) → AllTypedMixed cs
    → MixedFollows q q w (view q) cs
unfolding MixedFollows left_mixed left_mixed_by_frames
mixed-follows [] w q s h t = (tt, refl, s, lengths-same)
mixed-follows (c ∷ cs) w q s h t =
    let k = mixed-meets w q s h c t.0 in
    let v = k.leaves.0 in
    let i = rw v at (mixed-follows cs (mixed_since w c) (made_mixed q c).parts k.leaves.1 (rw v k.since) t.1) in
    ((k.answer, k.out, i.0), i.1, i.2, lengths-then k.leaves.2 i.3)

-- what stands behind the last 00 of the joined bytes has come
pub mixed-since : (cs : List MixedCall) (w : List ℕ) (q : Parts) → Sound q → Since (split w).rest (view q) → AllTypedMixed cs
    → Since (split (mixed_since_all w cs)).rest (view (left_mixed q cs))
unfolding mixed_since_all left_mixed
mixed-since [] w q s h t = h
mixed-since (c ∷ cs) w q s h t =
    let k = mixed-meets w q s h c t.0 in
    mixed-since cs (mixed_since w c) (made_mixed q c).parts k.leaves.1 (rw k.leaves.0 k.since) t.1

-- ---- each frame once

mixed-join : (w : List ℕ) (c : MixedCall) → brought_since w (non_empty (split w).closed) c ≡ non_empty (split (mixed_since w c)).closed
unfolding brought_since mixed_since frames_closed_by
mixed-join w (MixedCalls.supervisor m) = frames-join w m
mixed-join w (MixedCalls.line_start l) =
    cond-by (λ v. non_empty (split w).closed ≡ non_empty (split v).closed) (enough_of_reader l) _ _ (λ e. rw (through-split w)) (λ e. refl)
mixed-join w (MixedCalls.line_read l piece) =
    let bs = line_bytes_read l piece in
    rw (closed-join w bs, non_empty-append (split w).closed (closed_behind w bs))
mixed-join w (MixedCalls.line_tail l) = refl
mixed-join w (MixedCalls.line_data l n) = refl

brought-once : (cs : List MixedCall) (w : List ℕ)
    → brought_all w (non_empty (split w).closed) cs ≡ non_empty (split (mixed_since_all w cs)).closed
unfolding brought_all mixed_since_all
brought-once [] w = refl
brought-once (c ∷ cs) w = rw (mixed-join w c) (brought-once cs (mixed_since w c))

pub mixed_frames : MixedFrames
unfolding MixedFollows fresh progress_of split non_empty
mixed_frames p b l d typed h cs t =
    let k = started p b l d typed h in
    let z : Since [] (fresh (factory_of d)) = record { received = refl; nonzero = tt } in
    let i = rw k.0 at (mixed-follows cs [] _ k.1 (rw k.0 z) t) in
    (i.0, i.1, brought-once cs [], i.2, lengths-then k.2 i.3)

-- ---- 12

closed-12 : (o : Option Line.LineVerdict) → LineReader.closed_report o ≡ LineReader.refused 12 → ⊥
unfolding LineReader.verdict_report
closed-12 none h = let z : ◌≡◌ {A = ℕ} 0 1 = cc in omega arith
closed-12 (some (Line.failure reason sequence)) h = let z : ◌≡◌ {A = ℕ} 0 1 = cc in omega arith
closed-12 (some (Line.good m)) h = let z : ◌≡◌ {A = ℕ} 0 1 = cc in omega arith

read-12 : (piece s : List ℕ) → (LineReader.read_piece s piece).answer ≡ LineReader.refused 12 → ⊥
unfolding LineReader.read_piece LineReader.one_byte_later LineReader.finish
read-12 [] s h = let z : ◌≡◌ {A = ℕ} 0 1 = cc in omega arith
read-12 (zero ∷ bs) s h = closed-12 (Line.judge_received (received_of s)) h
read-12 (suc b ∷ bs) s h = read-12 bs (LineReader.pushed s (suc b)) (rw eqb-suc-zero at h)

tail-12 : (received : Option (List ℕ)) → LineReader.tail_of received ≡ LineReader.TailReport.refused 12 → ⊥
tail-12 none h = let z : ◌≡◌ {A = ℕ} 0 1 = cc in omega arith
tail-12 (some bs) h = let z : ◌≡◌ {A = ℕ} 0 1 = cc in omega arith

data-12 : (t : Bool) → cond {A = Option ℕ} t (some 9) none ≡ some 12 → ⊥
data-12 true h = let z : ◌≡◌ {A = ℕ} 9 12 = cc in omega arith
data-12 false h = let z : ◌≡◌ {A = ℕ} 0 1 = cc in omega arith

never_12 : (p : Parts) → Sound p → Never12 p
unfolding made_mixed LineReader.reader_start_promise LineReader.read_promise LineReader.tail_promise LineReader.data_given_promise
never_12 p s (MixedCalls.supervisor m) e h = earns-no-12 p s m e h
never_12 p s (MixedCalls.line_start l) e h =
    let r = rw (le-leb LineReader.reader_length _ (part-long Part.reader _ (lent-valid p s l e))) at h in
    let z : ◌≡◌ {A = ℕ} 0 1 = cc in absurd (omega arith)
never_12 p s (MixedCalls.line_read l piece) e h = read-12 piece _ (rw (lent-valid p s l e) at h)
never_12 p s (MixedCalls.line_tail l) e h = tail-12 (received_of (lent_state l p.reader)) (rw (lent-valid p s l e) at h)
never_12 p s (MixedCalls.line_data l n) e h = data-12 (ltb longest_data n) (rw (lent-valid p s l e) at h)

pub no_12 : No12
no_12 p b l d typed h cs t = never_12 _ (mixed_frames p b l d typed h cs t).3

-- ---- sound parts stay sound

module _ (p : Parts) (s : Sound p) where
  start-sound : (l : Loan) → Sound (made_mixed p (MixedCalls.line_start l)).parts
  unfolding made_mixed LineReader.reader_start_promise
  start-sound l = by (enough_of_reader l) refl
    where
      by : (t : Bool) → enough_of_reader l ≡ t → Sound (made_mixed p (MixedCalls.line_start l)).parts
      by true e =
          let long = lent-some p s l e in
          rw (le-leb LineReader.reader_length _ long) (back-reader p s l e _ (started-kept _ long)).1
      by false e = rw (lt-leb LineReader.reader_length _ (lent-little p l e), back-same) s

  read-sound : (l : Loan) (piece : List ℕ) → Each Byte piece → Sound (made_mixed p (MixedCalls.line_read l piece)).parts
  unfolding made_mixed LineReader.read_promise
  read-sound l piece b = by (enough_of_reader l) refl
    where
      by : (t : Bool) → enough_of_reader l ≡ t → Sound (made_mixed p (MixedCalls.line_read l piece)).parts
      by true e = rw (lent-valid p s l e) (back-reader p s l e _ (read_kept piece _ (lent-valid p s l e) b)).1
      by false e = rw (short-invalid _ (lent-little p l e), back-same) s

  pub call-sound : (c : MixedCall) → TypedMixed c → Sound (made_mixed p c).parts
  unfolding made_mixed
  call-sound (MixedCalls.supervisor m) typed = (one_call p m s typed).leaves.1
  call-sound (MixedCalls.line_start l) typed = start-sound l
  call-sound (MixedCalls.line_read l piece) typed = read-sound l piece typed
  call-sound (MixedCalls.line_tail l) typed = s
  call-sound (MixedCalls.line_data l n) typed = s

calls-sound : (cs : List MixedCall) (q : Parts) → Sound q → AllTypedMixed cs → Sound (left_mixed q cs)
unfolding left_mixed
calls-sound [] q s t = s
calls-sound (c ∷ cs) q s t = calls-sound cs (made_mixed q c).parts (call-sound q s c t.0) t.1

pub sound_no_12 : SoundNo12
sound_no_12 q s cs t = let k = calls-sound cs q s t in (k, never_12 _ k)

-- ---- without calls of the line layer

pub without_line_calls : WithoutLineCalls
unfolding outputs_mixed left_mixed left_mixed_by_frames mixed_since_all brought_all made_mixed carried_mixed mixed_since brought_since
    outputs left outputs_by_frames left_by_frames received_since_all carried_frames
without_line_calls q w s [] = (refl, refl, λ h. refl, refl, refl, λ fs. refl)
without_line_calls q w s (m ∷ ms) =
    let i = without_line_calls (made q m).parts (received_since w m) (carried_made w s m).state ms in (
      rw i.0,
      i.1,
      λ h. answered h (i.2 h.2),
      i.3,
      i.4,
      λ fs. i.5 _,
    )
  where
    answered : MixedAsFrames q w s (map MixedCalls.supervisor (m ∷ ms))
        → outputs (made q m).parts ms ≡ outputs_by_frames (received_since w m) (carried_made w s m).state ms
        → outputs q (m ∷ ms) ≡ outputs_by_frames w s (m ∷ ms)
    answered h k =
        let g : MixedCalls.MixedAnswer.supervisor (made q m).answer
        ≡ MixedCalls.MixedAnswer.supervisor (carried_made w s m).answer = h.0 in
        let a : (made q m).answer ≡ (carried_made w s m).answer = cc in
        rw (a, h.1, k)

-- ---- a piece without a 00

pushes-behind : (bs t u : List ℕ) → LineReader.valid_reader t ≡ true → pushed_all (t ++ u) bs ≡ pushed_all t bs ++ u
unfolding pushed_all
pushes-behind [] t u v = refl
pushes-behind (b ∷ bs) t u v =
    rw (pushed-append t u (Received.valid-long t v) b) (pushes-behind bs (LineReader.pushed t b) u (pushed-stays t b v).valid)

fed-pushed : (image piece : List ℕ) (q : Parts) → NoZeros piece
    → Receive.feed_bytes image q piece ≡ with_reader q (pushed_all q.reader piece)
unfolding Receive.feed_bytes Receive.feed_byte pushed_all
fed-pushed image [] q z = refl
fed-pushed image (zero ∷ bs) q z = absurd (omega arith)
fed-pushed image (suc b ∷ bs) q z = rw (eqb-suc-zero, fed-pushed image bs (with_reader q (LineReader.pushed q.reader (suc b))) z.1)

-- where enough is lent of a reader's state, the bytes read go where they go with all of it lent
back-pushed : (l : Loan) (r bs : List ℕ) → LineReader.valid_reader (lent_state l r) ≡ true
    → back l r (pushed_all (lent_state l r) bs) ≡ pushed_all r bs
back-pushed l r bs v =
    let e = lent-enough LineReader.reader_length r l (omega arith) (part-long Part.reader (lent_state l r) v) in
    let f = front LineReader.reader_length l r e in
    rw f.back (sym (pushes-behind bs (lent_state l r) f.rest v) ∙ ap (λ x. pushed_all x bs) f.whole)

module _ (r : List ℕ) (l k : Loan) (piece : List ℕ) (v : LineReader.valid_reader (lent_state l r) ≡ true)
    (f : enough_of_reader k ≡ true) where
  abbrev behind : List ℕ
  behind = (LineReader.read_piece (lent_state l r) piece).state

  -- what is lent of the state behind a read holds the data that the read left
  data-same : (n : ℕ) → LineReader.data_promise (lent_state k (back l r behind)) n ≡ LineReader.data_promise behind n
  data-same n =
      let x = back l r behind in
      let long = Received.valid-long behind (read_stays piece (lent_state l r) v).valid in
      let b = front LineReader.reader_length l r (lent-enough LineReader.reader_length r l (omega arith) (Received.valid-long _ v)) in
      let whole : LineReader.reader_length ≤ length x = rw (b.back behind) (simp length-append (omega arith)) in
      let c = front LineReader.reader_length k x f in
      sym (data_of-append (lent_state k x) c.rest (lent-long LineReader.reader_length x k f whole) n)
      ∙ ap (λ y. LineReader.data_promise y n) (c.whole ∙ b.back behind)
      ∙ data_of-append behind b.rest long n

pub data_behind_read : DataBehindRead
unfolding made_mixed LineReader.read_promise MixedCalls.data_of messages_handed
data_behind_read p s l k piece e f used version sequence command n h =
    let v = lent-valid p s l e in
    let g : MixedCalls.MixedAnswer.line_read (LineReader.read_piece (lent_state l p.reader) piece).used
    (LineReader.read_piece (lent_state l p.reader) piece).answer
    ≡ MixedCalls.MixedAnswer.line_read used (LineReader.message version sequence command n) = rw v at h in
    let a : (LineReader.read_piece (lent_state l p.reader) piece).answer ≡ LineReader.message version sequence command n = cc in
    rw (v, a) (data-same p.reader l k piece v f n)

pub collected_receives : CollectedReceives
unfolding made_mixed made did LineReader.read_promise Receive.receive_promise
collected_receives p l k image piece z h n =
    by (LineReader.valid_reader (lent_state k p.reader)) (Receive.valid_parts (lent_of l p)) refl refl
  where
    by : (t u : Bool) → LineReader.valid_reader (lent_state k p.reader) ≡ t → Receive.valid_parts (lent_of l p) ≡ u
        → let r = made p (receive_with image l piece) in
        let c = made_mixed p (MixedCalls.line_read k piece) in
        (c.answer ≡ MixedCalls.MixedAnswer.line_read (length piece) LineReader.more) × (c.parts ≡ r.parts)
    by true true e f = rw (e, f, read_all piece (lent_state k p.reader) z) (refl, rw (fed-pushed image piece (lent_of l p) z) same)
      where
        t : List ℕ
        t = pushed_all (lent_state (l Part.reader) p.reader) piece

        valid : LineReader.valid_reader (lent_state (l Part.reader) p.reader) ≡ true
        valid = (parts-valid (lent_of l p) f).reader

        same : with_reader p (back k p.reader (pushed_all (lent_state k p.reader) piece)) ≡ given_back l p (with_reader (lent_of l p) t)
        same = rw (back-pushed k p.reader piece e) (simp (back-same, back-pushed (l Part.reader) p.reader piece valid))
    by true false e f = absurd (undone 12 (rw f at h))
    by false u e f = absurd (n (rw e))

-- ---- a piece's bytes ahead of its first 00, and then what is left of it

module _ (p : Parts) (b : Bytes p) (l : Lent) (k : Loan) (image piece : List ℕ) (i : Each Byte image) (t : Each Byte piece)
    (h : (made p (receive_with image l piece)).answer ≡ done)
    (n : MixedCalls.Says12 (made_mixed p (MixedCalls.line_collect k piece)).answer → ⊥) where
  ahead-bytes : Each Byte (ahead_of00 piece)
  ahead-bytes = rw (ahead-prefix piece) (each_take Byte (length (ahead_of00 piece)) piece t)

  ahead-done : (made p (receive_with image l (ahead_of00 piece))).answer ≡ done
  ahead-done = answer-so image i l p b (ahead_of00 piece) ∙ sym (answer-so image i l p b piece) ∙ h

  -- a receive of them leaves the same
  ahead-collected : let c = made_mixed p (MixedCalls.line_collect k piece) in
      (c.answer ≡ MixedCalls.MixedAnswer.line_read (length (ahead_of00 piece)) LineReader.more)
      × (c.parts ≡ (made p (receive_with image l (ahead_of00 piece))).parts)
  ahead-collected = collected_receives p l k image (ahead_of00 piece) (ahead-nonzero piece) ahead-done n

  -- what is lent of the parts then: they have gone to the reader's part
  pub collected-lent : lent_of l (made_mixed p (MixedCalls.line_collect k piece)).parts
      ≡ with_reader (lent_of l p) (pushed_all (lent_of l p).reader (ahead_of00 piece))
  unfolding made did Receive.receive_promise
  collected-lent = ap (lent_of l) ahead-collected.1 ∙ (received-lent image i l p b (ahead_of00 piece) ahead-bytes ∙ by _ refl)
    where
      by : (u : Bool) → Receive.valid_parts (lent_of l p) ≡ u → (did (lent_of l p) (Histories.receive image (ahead_of00 piece))).parts
          ≡ with_reader (lent_of l p) (pushed_all (lent_of l p).reader (ahead_of00 piece))
      by true e = rw e (fed-pushed image (ahead_of00 piece) (lent_of l p) (ahead-nonzero piece))
      by false e = absurd (undone 12 (rw e at h))

pub collect_then_receive : CollectThenReceive
collect_then_receive p b l k image piece i t h n =
    let a = ahead_of00 piece in
    let c = ahead-collected p b l k image piece i t h n in
    let cut = cut-made image i l p b a (ListN.drop (length a) piece) (ahead-bytes p b l k image piece i t h n) in
    (c.0, rw c.1 (sym cut ∙ ap (λ x. made p (receive_with image l x)) (ahead-join piece)))
