-- A request and its reply over a wire that loses nothing. The reply that carrying it out gives is handed out, once, whatever the cuts.
-- No request is outstanding then. Assumes nothing.
use mathlib.Core.Path.{◌≡◌, refl, sym, ap, ◌∙◌}
use mathlib.Core.Bool.{Bool, true, false}
use mathlib.Core.List.{List, [], ◌∷◌, ◌++◌, append_assoc, append-nil}
use mathlib.Core.Option.{Option, none, some}
use Prim.Native.Nat.{ℕ, suc, ◌≤◌, ◌<◌}
use native.Mathlib.Omega.{arith}
use lib.Dec.{leb, ltb, eqb}
use lib.ListN.{length, take}
use lib.Seq.{take-length}
use borrow.Author.Tests.{leb-false, ltb-false, ne_eqb}
use Rattle.octets.specs.Bytes.{Each, Byte}
use Rattle.octets.proofs.Conditions.{cond-by}
use Rattle.octets.proofs.Overlay.{overlay-inside}
use Rattle.line.specs.Limits.{longest_data}
use Rattle.line.specs.Message.{Message, InRange, message}
use Rattle.requester.specs.Limits.{last_number}
use Rattle.requester.specs.State.{Request, request_frame, outstanding, is_some, MainState, main_state}
use Rattle.requester.specs.Requester
use Rattle.requester.specs.Requester.{stays_out, reply_sequence, answer, after_heard, main_with_received, main_moved_to}
use Rattle.requester_claims.specs.Histories.{MainLent, MainMade, MainMeans, main_enough, main_left, main_made, main_meant, main_meant_made}
use Rattle.requester_claims.specs.Histories as Main
use Rattle.requester_claims.specs.Histories.{handed_data}
use Rattle.line.specs.Cobs.{cobs}
use Rattle.line.specs.Frame.{frame, form}
use Rattle.line_claims.proofs.CobsClaims.{above_zero, no_zero, form_fits}
use Rattle.line_claims.proofs.MessageLaws.{message-each}
use Rattle.supervisor.specs.State.{State, with_received}
use Rattle.supervisor.specs.Calls.{Parts}
use Rattle.responder.specs.Commands.{command_of_number, with_number, command_number}
use Rattle.responder.specs.Requests.{good, verdict, owed, reply_of, carry_out, carry_out_by, effect, reboot, power_off, boot_failure}
use Rattle.supervisor_claims.specs.View.{view}
use Rattle.supervisor_claims.specs.Sound.{Sound}
use Rattle.supervisor_claims.specs.Histories as Supervisor
use Rattle.supervisor_claims.specs.FrameHistory.{frame_carried}
use Rattle.supervisor_claims.specs.Replies.{taken_bytes}
use Rattle.supervisor_claims.proofs.claims.History.{history, follows, one_call}
use Rattle.supervisor_claims.proofs.claims.WithdrawnKeys.{framed-pending}
use Rattle.line_claims.specs.Loans.{enough_part}
use Rattle.line_claims.proofs.JudgeClaim.{judge-of-message}
use Rattle.requester.specs.Layout
use Rattle.requester.specs.Calls.{MainPartsValid, MainParts, handed_report_of}
use Rattle.requester_claims.specs.View.{main_view}
use Rattle.requester_claims.specs.Cuts.{handed_events, MainRead, Listener, listening, after_main_read, after_main_reads}
use Rattle.requester_claims.proofs.Cuts.{cut}
use Rattle.requester_claims.proofs.History as MainHistory
use Rattle.requester_claims.proofs.Numbers.{newest-after}
use Rattle.both_claims.specs.Ends.{BothStarts, ends_begun, reply_to_request, reply_message, as_message}
use Rattle.line_claims.proofs.SpellingClaim.{good-form}
use Rattle.both_claims.proofs.laws.Table.{passes, top_set_lem}
use Rattle.both_claims.proofs.laws.ReplyRange.{reply-of}
use Rattle.both_claims.proofs.laws.Held.{held-parts, reply-in-range}
use Rattle.both_claims.proofs.laws.FrameHeard.{frame-heard, heard-answer, one-read}
use Rattle.both_claims.proofs.laws.Lists.{none-some, snoc-same}
use Rattle.both_claims.specs.RoundTrip.{all_received, Delivery, delivered_to, Taking, taken_of, answer_taken, TakenAs, Answered, Trip}
use Rattle.both_claims.proofs.laws.AnswerTaken.{taken_as}
use Rattle.both_claims.proofs.laws.Delivered.{delivered, all_moved}
use Rattle.both_claims.proofs.laws.Ranges.{ranged-message}
use Rattle.both_claims.specs.BothEnds.{RoundTrip, Progress}
use Rattle.both_claims.specs.Witness.{all_lent}

-- ---- the request

never-put : (k n : ℕ) → Main.refused k ≡ Main.put n → ⊥
never-put k n e = let z : ◌≡◌ {A = ℕ} 0 1 = cc in omega arith

-- what a request that is put out leaves
record PutOut (s : MainState) (q : Request) (count : ℕ) (x : MainMeans) : Type 0 where
  state : x.state ≡ main_state (suc s.newest) (Requester.keep q) none false s.received
  frame : take count x.out ≡ request_frame (suc s.newest) q
  number : suc s.newest ≤ last_number
  fits : length q.payload ≤ longest_data

module _ (s : MainState) (q : Request) (room : List ℕ) (count : ℕ) where
  abbrev Puts : Requester.MainDone → Type 0
  Puts t = let x = Main.put_means t.refusal room t.out t.state in x.answer ≡ Main.put count → PutOut s q count x

  request-puts : Puts (Requester.request (length room) q s)
  unfolding Requester.request
  request-puts =
      let n = suc s.newest in
      cond-by Puts (ltb longest_data (length q.payload)) _ _ (λ _ e. absurd (never-put _ _ e)) (λ f.
      cond-by Puts (is_some (outstanding s)) _ _ (λ _ e. absurd (never-put _ _ e)) (λ _.
      cond-by Puts (leb last_number s.newest) _ _ (λ _ e. absurd (never-put _ _ e)) (λ g.
      cond-by Puts (ltb (length room) (length (request_frame n q))) _ _ (λ _ e. absurd (never-put _ _ e)) (λ _ e.
      let c : length (request_frame n q) ≡ count = cc in
      record {
        state = refl;
        frame = rw (← c) (overlay-inside 0 (request_frame n q) room (omega arith));
        number = leb-false last_number s.newest g;
        fits = ltb-false longest_data (length q.payload) f;
      }))))

-- what the parts then are
pub record Waiting (p : MainParts) (q : Request) (frame : List ℕ) : Type 0 where
  pub valid : MainPartsValid p
  pub waits : outstanding (main_view p) ≡ some q
  pub between : (main_view p).received ≡ some []
  pub newest : Layout.newest_number p.requester ≡ (main_view p).newest
  pub put : frame ≡ request_frame (Layout.newest_number p.requester) q
  pub in_range : InRange (as_message (Layout.newest_number p.requester) q)

module _ (p : MainParts) (v : MainPartsValid p) (j : MainLent) (command : ℕ) (d room : List ℕ) (count : ℕ) where
  abbrev q : Request
  q = record { command = command; payload = d }

  abbrev asking : MainMade
  asking = record { lent = j; call = Main.request command d room }

  meant-puts : (main_meant_made (main_view p) asking).answer ≡ Main.put count
      → PutOut (main_view p) q count (main_meant_made (main_view p) asking)
  unfolding main_meant_made main_meant
  meant-puts =
      cond-by (λ (x : MainMeans). x.answer ≡ Main.put count → PutOut (main_view p) q count x) (main_enough (Main.request command d room) j)
      _
      _
      (λ _. request-puts (main_view p) q room count) (λ _ e. absurd (never-put _ _ e))

  made-puts : (main_made p asking).answer ≡ Main.put count → PutOut (main_view p) q count (main_meant_made (main_view p) asking)
  made-puts put = meant-puts (sym (MainHistory.one_call p asking v).answer ∙ put)

  -- it takes the next number
  pub next-number : (main_made p asking).answer ≡ Main.put count
      → Layout.newest_number (main_made p asking).parts.requester ≡ suc (main_view p).newest
  next-number put = newest-after p v asking ∙ ap (λ (y : MainState). y.newest) (made-puts put).state

  -- outside a recovery
  pub asked-calm : (main_made p asking).answer ≡ Main.put count → (main_view (main_made p asking).parts).recovery ≡ none
  asked-calm put = ap (λ (y : MainState). y.recovery) ((MainHistory.one_call p asking v).state ∙ (made-puts put).state)

  module _ (between : (main_view p).received ≡ some []) (byte : command < 256) (bytes : Each Byte d) (stays : stays_out command ≡ true)
    where
      pub waiting : (main_made p asking).answer ≡ Main.put count
          → Waiting (main_made p asking).parts q (take count (main_made p asking).out)
      waiting put =
          let k = MainHistory.one_call p asking v in
          let x = made-puts put in
          let e = k.state ∙ x.state in
          let n = next-number put in
          record {
            valid = k.valid;
            waits = ap outstanding e ∙ rw stays;
            between = ap (λ (y : MainState). y.received) e ∙ between;
            newest = n ∙ sym (ap (λ (y : MainState). y.newest) e);
            put = ap (take count) k.out ∙ x.frame ∙ rw n;
            in_range = rw n (ranged-message _ q x.number (record { command = byte; bytes = bytes; fits = x.fits }));
          }

-- ---- the same frame again

-- what a send leaves that puts something out
record PutAgain (s : MainState) (q : Request) (count : ℕ) (x : MainMeans) : Type 0 where
  state : x.state ≡ main_state s.newest s.kept s.recovery false s.received
  frame : take count x.out ≡ request_frame s.newest q

module _ (s : MainState) (q : Request) (room : List ℕ) (count : ℕ) where
  abbrev PutsAgain : Requester.MainDone → Type 0
  PutsAgain t = let x = Main.put_means t.refusal room t.out t.state in x.answer ≡ Main.put (suc count) → PutAgain s q (suc count) x

  send-puts : (o : Option Request) → o ≡ some q → PutsAgain (Requester.sent_of (length room) o s)
  send-puts o f =
      rw f
      (cond-by PutsAgain s.unsent _ _
      (λ _. cond-by PutsAgain (ltb (length room) (length (request_frame s.newest q))) _ _ (λ _ e. absurd (never-put _ _ e)) (λ _ e.
      let c : length (request_frame s.newest q) ≡ suc count = cc in
      record { state = refl; frame = rw (← c) (overlay-inside 0 (request_frame s.newest q) room (omega arith)) }))
      (λ _ e. let z : ◌≡◌ {A = ℕ} 0 (suc count) = cc in absurd (omega arith)))

module _ (p : MainParts) (v : MainPartsValid p) (j : MainLent) (q : Request) (room : List ℕ) (count : ℕ)
    (between : (main_view p).received ≡ some []) (waits : outstanding (main_view p) ≡ some q) (bytes : Each Byte q.payload) where
  abbrev sending : MainMade
  sending = record { lent = j; call = Main.send room }

  meant-puts-again : (main_meant_made (main_view p) sending).answer ≡ Main.put (suc count)
      → PutAgain (main_view p) q (suc count) (main_meant_made (main_view p) sending)
  unfolding main_meant_made main_meant Requester.send
  meant-puts-again =
      cond-by (λ (x : MainMeans). x.answer ≡ Main.put (suc count) → PutAgain (main_view p) q (suc count) x) (main_enough (Main.send room) j)
      _ _
      (λ _. send-puts (main_view p) q room count (outstanding (main_view p)) waits) (λ _ e. absurd (never-put _ _ e))

  waiting-again : (main_made p sending).answer ≡ Main.put (suc count)
      → let x = main_made p sending in let m = as_message (Layout.newest_number x.parts.requester) q in
      verdict (form m) ≡ good m → Waiting x.parts q (take (suc count) x.out)
  waiting-again put passed =
      let k = MainHistory.one_call p sending v in
      let x = meant-puts-again (sym k.answer ∙ put) in
      let e = k.state ∙ x.state in
      let n = newest-after p v sending ∙ ap (λ (y : MainState). y.newest) x.state in
      let m = as_message (Layout.newest_number (main_made p sending).parts.requester) q in
      record {
        valid = k.valid;
        waits = ap outstanding e ∙ waits;
        between = ap (λ (y : MainState). y.received) e ∙ between;
        newest = n ∙ sym (ap (λ (y : MainState). y.newest) e);
        put = ap (take (suc count)) k.out ∙ x.frame ∙ rw n;
        in_range = (good-form (form m) m (no_zero (message m) (message-each m bytes)) (passes (form m) m passed).judged).1;
      }

-- a request that earns a reply stays outstanding
module _ (image : List ℕ) (s : State) (m r : Message) (earns : reply_to_request image s m ≡ some r) where
  not-command : (c : ℕ) → reply_message (reply_of m.sequence (carry_out_by (command_of_number c) image s m).reply) ≡ none
      → eqb m.command c ≡ false
  unfolding carry_out
  not-command c e = ne_eqb m.command c (λ (k : m.command ≡ c). none-some {x = r} (sym e ∙ rw (← k) earns))

  pub replied-stays : stays_out m.command ≡ true
  unfolding stays_out command_of_number with_number command_number effect reboot power_off boot_failure reply_of
  replied-stays = rw (not-command 0x01 refl, not-command 0x02 refl, not-command 0x06 refl)

-- ---- the delivery of its frame, and of its reply

-- the supervisor's side
module _ (q : Parts) (s : Sound q) (idle : (view q).received ≡ some []) (image : List ℕ) (m : Message) (passed : verdict (form m) ≡ good m)
    (r : Message) (earns : reply_to_request image (view q) m ≡ some r) where
  abbrev waits : List ℕ
  waits = owed (view q).terminator_owed ++ frame r

  module _ (b : Delivery image (frame m)) where
    abbrev q' : Parts
    q' = delivered_to q b

    delivered-form : all_received b.before ++ b.ahead ≡ form m
    unfolding frame
    delivered-form =
        snoc-same _ _ (append_assoc (all_received b.before) b.ahead (0 ∷ [])
        ∙ ap (λ (z : List ℕ). all_received b.before ++ z) (sym b.closed) ∙ b.whole)

    pub delivered-parts : Sound q' × (view q' ≡ with_received (frame_carried image (view q) (form m)) (some []))
    delivered-parts =
        let f = follows q s b.before b.before_typed in
        let k = one_call (Supervisor.left q b.before) b.last f.2 b.last_typed in
        let e = k.leaves.0 ∙ ap (λ (x : State). (Supervisor.meant_made x b.last).state) f.1 in (
          k.leaves.1,
          e ∙ delivered image b.before b.last (view q) b.receive b.with_image idle (form m) b.ahead (above_zero (message m))
              delivered-form b.closed,
        )

    pub reply-waits : (view q').pending ≡ waits
    reply-waits =
        ap (λ (x : State). x.pending) delivered-parts.1
        ∙ framed-pending image (view q) (form m) m passed
        ∙ rw (reply-of image (view q) m r earns).framed

    pub reply-taken : (t : Taking q') → taken_of t ≡ waits
    reply-taken t =
        let f = follows q' delivered-parts.0 t.takes t.typed in
        let a = all_moved t.takes (view q') t.take in
        let z : (Supervisor.left_meant (view q') t.takes).pending ≡ [] = ap (λ (x : State). x.pending) (sym f.1) ∙ t.all in
        ap taken_bytes f.0 ∙ sym (append-nil _) ∙ rw z at a ∙ reply-waits

-- ---- the main processor's side

pub lent-enough : (piece : List ℕ) → main_enough (Main.receive piece) all_lent ≡ true
unfolding main_enough enough_part
lent-enough piece = refl

form-some : (xs : List ℕ) → 1 ≤ length (cobs xs)
unfolding cobs
form-some xs = omega arith

-- a 00 that was owed, or nothing
owed-read : (b : Bool) (s : MainState) → s.received ≡ some []
    → Requester.receive s (owed b) ≡ Requester.main_received (length (owed b)) (Requester.dropped s)
unfolding Requester.receive Requester.main_byte
owed-read false s e = refl
owed-read true s e =
    ap (λ (x : Option (List ℕ)). Requester.main_received 1 (Requester.main_closed x (Requester.main_with_received s (some [])))) e
    ∙ ap (λ (x : Option (List ℕ)). Requester.main_received 1 (Requester.dropped (Requester.main_with_received s x))) (sym e)

module _ (p : MainParts) (v : MainPartsValid p) (between : (main_view p).received ≡ some []) (r : Message) (range : InRange r)
    (version : r.version ≡ 1) (sequence : r.sequence ≡ reply_sequence (main_view p).newest) (command : r.command ≡ 0x02 → ⊥) where
  abbrev s : MainState
  s = main_view p

  -- the frame, whole
  pub reply-heard : Requester.receive s (frame r) ≡ Requester.main_received (length (frame r)) (after_heard (answer r) s)
  unfolding frame
  reply-heard =
      let h = heard-answer s.newest r version sequence command in
      let same : main_with_received s (some []) ≡ s = ap (main_with_received s) (sym between) in
      frame-heard (form r) [] s (above_zero (message r)) between (form-some (message r)) (form_fits r range)
      ∙ rw (judge-of-message r range, h, same)

  -- the 00 that may be owed, and the frame, each in a piece
  abbrev owed_read : Bool → MainRead
  owed_read b = record { lent = all_lent; piece = owed b }

  abbrev frame_read : MainRead
  frame_read = record { lent = all_lent; piece = frame r }

  abbrev Hears : List ℕ → Listener → Type 0
  Hears bs x =
      let z = after_heard (answer r) s in
      (x.handed ≡ handed_events (handed_report_of z.handed) (handed_data z.handed) z.ended)
      × (x.bytes ≡ bs)
      × (main_view x.parts ≡ z.state)

  in_two : (b : Bool) → Hears (owed b ++ frame r) (after_main_reads (listening p) (owed_read b ∷ (frame_read ∷ [])))
  unfolding after_main_reads handed_events handed_report_of handed_data
  in_two b =
      let x = after_main_read (listening p) (owed_read b) in
      let k = one-read (listening p) (owed_read b) v (lent-enough (owed b)) in
      let o = owed-read b s between in
      let w : main_view x.parts ≡ s = k.state ∙ rw o in
      let l = one-read x frame_read k.valid (lent-enough (frame r)) in
      let a = rw (w, reply-heard) at l.handed in
      let y = rw (w, reply-heard, take-length) at l.bytes in
      let z = rw (w, reply-heard) at l.state in
      let c : x.handed ≡ [] = rw o at k.handed in
      let d : x.bytes ≡ owed b = rw (o, take-length) at k.bytes in
      (a ∙ rw c, y ∙ rw d, z)

  -- in any cuts
  in-any : (b : Bool) (cs : List MainRead) → (after_main_reads (listening p) cs).bytes ≡ owed b ++ frame r
      → Hears (owed b ++ frame r) (after_main_reads (listening p) cs)
  in-any b cs e =
      let t = in_two b in
      rw (cut p v cs (owed_read b ∷ (frame_read ∷ [])) (e ∙ sym t.1)) t

-- ---- the claim

-- a request that waits
module _ (q : Parts) (s : Sound q) (idle : (view q).received ≡ some []) (p : MainParts) (a : Request) (fr : List ℕ)
    (w : Waiting p a fr) where
  abbrev n : ℕ
  n = Layout.newest_number p.requester

  abbrev m : Message
  m = as_message n a

  -- the whole reply is heard as the answer
  pub whole-heard : (image : List ℕ) → Each Byte image → verdict (form m) ≡ good m → (r : Message)
      → reply_to_request image (view q) m ≡ some r → InRange r × (r.sequence ≡ reply_sequence (main_view p).newest) × (r.command ≡ 0x02 → ⊥)
  whole-heard image each passed r earns =
      let nonzero = no_zero (message m) (message-each m w.in_range.typed.payload) in
      let t = reply-of image (view q) m r earns in (
        reply-in-range image each (view q) (form m) nonzero (held-parts q s) m passed r earns,
        t.sequence ∙ top_set_lem n (passes (form m) m passed).low ∙ rw w.newest,
        t.no_failure,
      )

  answered : Trip (TakenAs (main_view p)) q p a fr
  unfolding request_frame
  answered image each passed r earns version b t cs read =
      let f : Delivery image (frame m) = record {
        before = b.before;
        last = b.last;
        before_typed = b.before_typed;
        last_typed = b.last_typed;
        receive = b.receive;
        with_image = b.with_image;
        ahead = b.ahead;
        closed = b.closed;
        whole = b.whole ∙ w.put;
      } in
      let e : taken_of t ≡ waits q s idle image m passed r earns = reply-taken q s idle image m passed r earns f t in
      let g = whole-heard image each passed r earns in
      let z = in-any p w.valid w.between r g.0 version g.1 g.2 (view q).terminator_owed cs (read ∙ e) in
      let o = taken_as image (view q) n a r earns (main_view p).recovery (main_view p).kept w.waits in
      (rw o at z.0, rw o at z.2)

  -- outside a recovery
  calm-answered : (main_view p).recovery ≡ none → (r : Message) (x : Listener) → TakenAs (main_view p) r x → Answered n r x
  unfolding answer_taken handed_events handed_report_of handed_data main_moved_to
  calm-answered calm r x z =
      let h = rw calm at z.0 in
      let s = rw calm at z.1 in
      (h, s ∙ rw (w.newest, w.between))

-- each end after any calls from its start
module _ (starts : BothStarts) (mains : List MainMade) (sups : List Supervisor.Made) (sups-typed : Supervisor.AllTyped sups) where
  main-valid : MainPartsValid (main_left (ends_begun starts).main mains)
  main-valid = (MainHistory.history starts.main-parts starts.main_lent starts.main_accepted mains).2

  supervisor-sound : Sound (Supervisor.left (ends_begun starts).supervisor sups)
  supervisor-sound =
      (history starts.supervisor_parts starts.supervisor_bytes starts.supervisor_lent starts.start_data starts.start_typed
      starts.supervisor_accepted sups sups-typed).2

pub round_trip : RoundTrip
round_trip starts mains sups typed between idle j command d room byte bytes count put image each passed r earns version =
    let p = main_left (ends_begun starts).main mains in
    let q = Supervisor.left (ends_begun starts).supervisor sups in
    let w =
    waiting p (main-valid starts mains sups typed) j command d room count between byte bytes (replied-stays image (view q) _ r earns) put in
    let asked = (main_made p (record { lent = j; call = Main.request command d room })).parts in
    let a : Request = record { command = command; payload = d } in
    let s = supervisor-sound starts mains sups typed in
    let calm = asked-calm p (main-valid starts mains sups typed) j command d room count put in
    λ b t cs read.
    calm-answered q s idle asked a _ w calm r (after_main_reads (listening asked) cs)
    (answered q s idle asked a _ w image each passed r earns version b t cs read)

pub progress : Progress
progress starts mains sups typed between idle j a room waits bytes count put image each passed =
    let p = main_left (ends_begun starts).main mains in
    let q = Supervisor.left (ends_begun starts).supervisor sups in
    let w = waiting-again p (main-valid starts mains sups typed) j a room count between waits bytes put passed in
    let sent = (main_made p (record { lent = j; call = Main.send room })).parts in
    answered q (supervisor-sound starts mains sups typed) idle sent a _ w image each passed
