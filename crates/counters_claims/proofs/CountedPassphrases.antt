-- Two runs that set passphrases of their own, with one counter block lent to some of the calls.
-- The other calls answer the same, only the record differs, and the block is the same. Assumes nothing.
use mathlib.Core.Path.{◌≡◌, refl, sym, ap, ◌∙◌}
use mathlib.Core.Bool.{Bool, true, false, false≢true, cond, ◌&&◌}
use mathlib.Core.List.{List, [], ◌∷◌, ◌++◌, append-nil, append_assoc}
use mathlib.Core.Option.{Option}
use Prim.Native.Nat.{ℕ, ◌≤◌}
use Rattle.octets.specs.Bytes.{Each}
use Rattle.octets.proofs.Conditions.{cond_both}
use Rattle.line.specs.Message.{InRange, message}
use Rattle.line.specs.Cobs.{cobs}
use Rattle.line.specs.Frame.{split, closed_behind, frame}
use Rattle.line.specs.Judge.{progress_of}
use Rattle.line.proofs.Pieces.{split_at, split-none, split-join, closed-rest}
use Rattle.line_claims.proofs.CobsClaims.{above_zero}
use Rattle.supervisor.specs.State.{fresh}
use Rattle.supervisor.specs.Calls.{Parts}
use Rattle.responder.specs.Requests.{verdict_since, tested}
use Rattle.responder.specs.Receive.{ended_by_verdict, ended_meant}
use Rattle.counters.specs.Count.{bumped_for_all}
use Rattle.supervisor_claims.specs.View.{factory_of, view}
use Rattle.supervisor_claims.specs.Sound.{Sound}
use Rattle.supervisor_claims.specs.Histories
use Rattle.supervisor_claims.specs.Histories.{Call, Did, Made, made, enough}
use Rattle.supervisor_claims.specs.FrameHistory.{bytes_received_by, starts_anew, is_accepted_start, received_since}
use Rattle.supervisor_claims.specs.MixedCalls
use Rattle.supervisor_claims.specs.MixedCalls.{MixedCall, TypedMixed, enough_of_reader, DidMixed, did_mixed}
use Rattle.supervisor_claims.specs.MixedCalls.{made_mixed, line_bytes_read, mixed_since}
use Rattle.supervisor_claims.specs.Forgets.{passphrase_set, is_receiving, NothingCome}
use Rattle.supervisor_claims.specs.TwoPassphrases
use Rattle.supervisor_claims.specs.TwoPassphrases.{RunCall, other_outputs, left_by_calls, bytes_brought, WhileSet}
use Rattle.supervisor_claims.specs.TwoPassphrases.{SetCalls, BringsSet, TypedTurn}
use Rattle.supervisor_claims.specs.TwoPassphrases.{calls_of_set, first_run, second_run, BeginsBetween}
use Rattle.supervisor_claims.proofs.laws.Progress.{Since}
use Rattle.supervisor_claims.proofs.claims.History.{started}
use Rattle.supervisor_claims.proofs.claims.MixedClaim.{through-last, tail_none, mixed-meets}
use Rattle.supervisor_claims.proofs.claims.SetUnseen.{progress, set-verdict, tested-both}
use Rattle.supervisor_claims.proofs.claims.TwoPassphrases as Plain
use Rattle.supervisor_claims.proofs.claims.TwoPassphrases.{each-parts, local_typed, none-closed, local-silent, two_passphrases}
use Rattle.counters_claims.specs.CountHistory.{Held, MixedEvent, lent_block, without_block, after_event, after_mixed_events, TypedEvent}
use Rattle.counters_claims.specs.CountHistory.{frames_counted, ended_by_frame, ended_all}
use Rattle.counters_claims.specs.CountedPassphrases
use Rattle.counters_claims.specs.CountedPassphrases.{RunLending, event_of_mixed, event_of_call, events_of_run, calls_of_run, did_event}
use Rattle.counters_claims.specs.CountedPassphrases.{other_counted_outputs, LendingSet, set_calls_of, CountedTurn}
use Rattle.counters_claims.specs.CountedPassphrases.{TypedCountedTurn, turns_of, lendings_of_set}
use Rattle.counters_claims.specs.CountedPassphrases.{first_counted_run, second_counted_run, TwoCountedPassphrases}
use Rattle.counters_claims.proofs.FrameLaws.{ended-append}
use Rattle.counters_claims.proofs.CallCounts.{frame-ends}
use Rattle.counters_claims.proofs.Item8.{same-made, mixed-counts}

-- ---- the calls without the block

calls-append : (xs ys : List RunLending) → calls_of_run (xs ++ ys) ≡ calls_of_run xs ++ calls_of_run ys
unfolding calls_of_run
calls-append [] ys = refl
calls-append (x ∷ xs) ys = rw (calls-append xs ys)

set-calls : (x : LendingSet) (ys : List RunLending)
    → calls_of_run (lendings_of_set x ++ ys) ≡ calls_of_set (set_calls_of x) ++ calls_of_run ys
unfolding calls_of_run
set-calls x ys = rw (calls-append (lendings_of_set x) ys, calls-append x.ahead)

first-calls : (ts : List CountedTurn) → calls_of_run (first_counted_run ts) ≡ first_run (turns_of ts)
unfolding calls_of_run first_counted_run first_run turns_of
first-calls [] = refl
first-calls (CountedPassphrases.same b c ∷ ts) = rw (first-calls ts)
first-calls (CountedPassphrases.sets version number x y ∷ ts) = rw (set-calls x (first_counted_run ts), first-calls ts)

second-calls : (ts : List CountedTurn) → calls_of_run (second_counted_run ts) ≡ second_run (turns_of ts)
unfolding calls_of_run second_counted_run second_run turns_of
second-calls [] = refl
second-calls (CountedPassphrases.same b c ∷ ts) = rw (second-calls ts)
second-calls (CountedPassphrases.sets version number x y ∷ ts) = rw (set-calls y (second_counted_run ts), second-calls ts)

turns-typed : (ts : List CountedTurn) → Each TypedCountedTurn ts → Each TypedTurn (turns_of ts)
unfolding turns_of
turns-typed [] t = tt
turns-typed (CountedPassphrases.same b c ∷ ts) t = (t.0, turns-typed ts t.1)
turns-typed (CountedPassphrases.sets version number x y ∷ ts) t = (t.0.two_sets, turns-typed ts t.1)

-- ---- what is answered, written and left does not depend on the block

did-event : (h : Held) (b : Bool) (c : MixedCall) → did_event h (event_of_mixed b c) ≡ made_mixed h.parts c
unfolding made_mixed
did-event h true (MixedCalls.supervisor m) =
    ap (λ (d : Did). did_mixed (MixedCalls.MixedAnswer.supervisor d.answer) d.out d.parts) (same-made h.block h.parts m)
did-event h false (MixedCalls.supervisor m) = refl
did-event h b (MixedCalls.line_start l) = refl
did-event h b (MixedCalls.line_read l piece) = refl
did-event h b (MixedCalls.line_tail l) = refl
did-event h b (MixedCalls.line_data l n) = refl

left-event : (h : Held) (e : MixedEvent) → (after_mixed_events h (e ∷ [])).parts ≡ (did_event h e).parts
unfolding after_mixed_events after_event
left-event h (lent_block m) = refl
left-event h (without_block c) = refl

after_next : (h : Held) (e : MixedEvent) (es : List MixedEvent)
    → after_mixed_events h (e ∷ es) ≡ after_mixed_events (after_mixed_events h (e ∷ [])) es
unfolding after_mixed_events
after_next h (lent_block m) es = refl
after_next h (without_block c) es = refl

-- the outputs of the other calls, and the parts
abbrev AsUnlent : Held → List RunLending → Type 0
AsUnlent h xs =
    (other_counted_outputs h xs ≡ other_outputs h.parts (calls_of_run xs))
    × ((after_mixed_events h (events_of_run xs)).parts ≡ left_by_calls h.parts (calls_of_run xs))

module _ (h : Held) (b : Bool) (xs : List RunLending) (rest : (k : Held) → AsUnlent k xs) where
  -- behind one call
  behind-call : (c : MixedCall) → let e = event_of_mixed b c in let p = (made_mixed h.parts c).parts in
      (other_counted_outputs (after_mixed_events h (e ∷ [])) xs ≡ other_outputs p (calls_of_run xs))
      × ((after_mixed_events h (e ∷ events_of_run xs)).parts ≡ left_by_calls p (calls_of_run xs))
  behind-call c =
      let e = event_of_mixed b c in
      let r = rest (after_mixed_events h (e ∷ [])) in
      let p = left-event h e ∙ ap (λ (d : DidMixed). d.parts) (did-event h b c) in (
        r.0 ∙ ap (λ (q : Parts). other_outputs q (calls_of_run xs)) p,
        ap (λ (k : Held). k.parts) (after_next h e (events_of_run xs)) ∙ r.1 ∙ ap (λ (q : Parts). left_by_calls q (calls_of_run xs)) p,
      )

  next-unlent : (c : RunCall) → AsUnlent h ((record { call = c; counted = b }) ∷ xs)
  unfolding other_counted_outputs other_outputs events_of_run calls_of_run left_by_calls made_mixed
  next-unlent (TwoPassphrases.brings m) = behind-call (MixedCalls.supervisor m)
  next-unlent (TwoPassphrases.other c) = let r = behind-call c in (rw (did-event h b c, r.0), r.1)

as-unlent : (xs : List RunLending) (h : Held) → AsUnlent h xs
unfolding other_counted_outputs other_outputs after_mixed_events events_of_run calls_of_run left_by_calls
as-unlent [] h = (refl, refl)
as-unlent (x ∷ xs) h = next-unlent h x.counted xs (as-unlent xs) x.call

-- ---- the frames that are counted

-- those of one call, where the bytes w came before
abbrev counted_in : Bool → List ℕ → MixedCall → List (List ℕ)
counted_in b w (MixedCalls.supervisor m) = cond b (closed_behind w (bytes_received_by m)) []
counted_in b w (MixedCalls.line_start l) = []
counted_in b w (MixedCalls.line_read l piece) = []
counted_in b w (MixedCalls.line_tail l) = []
counted_in b w (MixedCalls.line_data l n) = []

frames-next : (b : Bool) (c : MixedCall) (w : List ℕ) (es : List MixedEvent)
    → frames_counted w (event_of_mixed b c ∷ es) ≡ counted_in b w c ++ frames_counted (mixed_since w c) es
unfolding frames_counted mixed_since
frames-next true (MixedCalls.supervisor m) w es = refl
frames-next false (MixedCalls.supervisor m) w es = refl
frames-next b (MixedCalls.line_start l) w es = refl
frames-next b (MixedCalls.line_read l piece) w es = refl
frames-next b (MixedCalls.line_tail l) w es = refl
frames-next b (MixedCalls.line_data l n) w es = refl

-- by what stands behind the last 00 alone
join-rest : (w bs : List ℕ) → (split (w ++ bs)).rest ≡ (split ((split w).rest ++ bs)).rest
join-rest w bs = rw (split-join w bs)

module _ (v w : List ℕ) (e : (split v).rest ≡ (split w).rest) where
  closed-alike : (bs : List ℕ) → closed_behind v bs ≡ closed_behind w bs
  closed-alike bs = rw (closed-rest v bs, closed-rest w bs, e)

  joined-alike : (bs : List ℕ) → (split (v ++ bs)).rest ≡ (split (w ++ bs)).rest
  joined-alike bs = rw (join-rest v bs, join-rest w bs, e)

  counted-alike : (b : Bool) (c : MixedCall) → counted_in b v c ≡ counted_in b w c
  counted-alike b (MixedCalls.supervisor m) = rw (closed-alike (bytes_received_by m))
  counted-alike b (MixedCalls.line_start l) = refl
  counted-alike b (MixedCalls.line_read l piece) = refl
  counted-alike b (MixedCalls.line_tail l) = refl
  counted-alike b (MixedCalls.line_data l n) = refl

  abbrev RestsAlike : List ℕ → List ℕ → Type 0
  RestsAlike bs cs = (split bs).rest ≡ (split cs).rest

  since-alike : (c : MixedCall) → RestsAlike (mixed_since v c) (mixed_since w c)
  unfolding mixed_since received_since
  since-alike (MixedCalls.supervisor m) = cond_both RestsAlike (starts_anew m) (λ _. refl) (λ _. joined-alike (bytes_received_by m))
  since-alike (MixedCalls.line_start l) =
      cond_both RestsAlike (enough_of_reader l) (λ _. through-last v ∙ sym (through-last w)) (λ _. e)
  since-alike (MixedCalls.line_read l piece) = joined-alike (line_bytes_read l piece)
  since-alike (MixedCalls.line_tail l) = e
  since-alike (MixedCalls.line_data l n) = e

-- ---- the calls of a set

abbrev NonZero : List ℕ → Type 0
NonZero = Each (λ b. 1 ≤ b)

receiving-on : (m : Made) → is_receiving m.call ≡ true → starts_anew m ≡ false
unfolding starts_anew is_accepted_start
receiving-on m r = by (enough m.call m.lent) m.call r
  where
    by : (b : Bool) (c : Call) → is_receiving c ≡ true → (b && is_accepted_start c) ≡ false
    by b (Histories.start d) r = absurd (false≢true r)
    by b (Histories.local c) r = absurd (false≢true r)
    by true (Histories.receive image piece) r = refl
    by true (Histories.step image piece) r = refl
    by false (Histories.receive image piece) r = refl
    by false (Histories.step image piece) r = refl

-- a call that starts nothing
on-frames : (b : Bool) (m : Made) → starts_anew m ≡ false → (w : List ℕ) (es : List MixedEvent)
    → frames_counted w (event_of_mixed b (MixedCalls.supervisor m) ∷ es)
    ≡ cond b (closed_behind w (bytes_received_by m)) [] ++ frames_counted (w ++ bytes_received_by m) es
unfolding mixed_since received_since
on-frames b m e w es = frames-next b (MixedCalls.supervisor m) w es ∙ rw e

-- one that brings no 00 counts none
quiet-frames : (b : Bool) (m : Made) → starts_anew m ≡ false → NonZero (bytes_received_by m) → (w : List ℕ) (es : List MixedEvent)
    → frames_counted w (event_of_mixed b (MixedCalls.supervisor m) ∷ es) ≡ frames_counted (w ++ bytes_received_by m) es
quiet-frames true m e z w es = on-frames true m e w es ∙ rw (none-closed w (bytes_received_by m) z)
quiet-frames false m e z w es = on-frames false m e w es

ahead-frames : (xs : List RunLending) → Each WhileSet (calls_of_run xs) → NonZero (bytes_brought (calls_of_run xs)) → (w : List ℕ)
    (ys : List RunLending)
    → frames_counted w (events_of_run (xs ++ ys)) ≡ frames_counted (w ++ bytes_brought (calls_of_run xs)) (events_of_run ys)
unfolding events_of_run calls_of_run bytes_brought
ahead-frames [] t z w ys = rw append-nil
ahead-frames (x ∷ xs) t z w ys = by x.call t.0 z (ahead-frames xs t.1)
  where
    b : Bool
    b = x.counted

    by : (c : RunCall) → WhileSet c → NonZero (bytes_brought (c ∷ calls_of_run xs))
        → (NonZero (bytes_brought (calls_of_run xs)) → (v : List ℕ) (zs : List RunLending)
        → frames_counted v (events_of_run (xs ++ zs)) ≡ frames_counted (v ++ bytes_brought (calls_of_run xs)) (events_of_run zs))
        → frames_counted w (event_of_call b c ∷ events_of_run (xs ++ ys))
        ≡ frames_counted (w ++ bytes_brought (c ∷ calls_of_run xs)) (events_of_run ys)
    by (TwoPassphrases.brings m) k n rest =
        let zs = each-parts (λ b. 1 ≤ b) (bytes_received_by m) (bytes_brought (calls_of_run xs)) n in
        quiet-frames b m (receiving-on m k.0) zs.0 w (events_of_run (xs ++ ys))
        ∙ rest zs.1 (w ++ bytes_received_by m) ys
        ∙ rw (append_assoc w (bytes_received_by m) (bytes_brought (calls_of_run xs)))
    by (TwoPassphrases.other (MixedCalls.supervisor m)) k n rest =
        let s = local-silent m k.0 in
        quiet-frames b m s.1 (rw s.0 tt) w (events_of_run (xs ++ ys)) ∙ rw (s.0, append-nil w) (rest n w ys)
    by (TwoPassphrases.other (MixedCalls.line_start l)) k n rest = absurd k
    by (TwoPassphrases.other (MixedCalls.line_read l piece)) k n rest = absurd k
    by (TwoPassphrases.other (MixedCalls.line_tail l)) k n rest = absurd k
    by (TwoPassphrases.other (MixedCalls.line_data l i)) k n rest = absurd k

-- A set that begins between frames, behind the bytes w. Its one frame is counted where the call that brings the 00 is lent the block.
abbrev set_form : ℕ → ℕ → List ℕ → List ℕ
set_form version number v = cobs (message (passphrase_set version number v))

abbrev through_set : List ℕ → LendingSet → List ℕ
through_set w x = (w ++ bytes_brought (calls_of_run x.ahead)) ++ bytes_received_by x.last

module _ (version number : ℕ) (x : LendingSet) (k : BringsSet version number (set_calls_of x)) (w : List ℕ) (e : (split w).rest ≡ []) where
  abbrev brought : List ℕ
  brought = bytes_brought (calls_of_run x.ahead)

  brought-rest : (split (w ++ brought)).rest ≡ brought
  brought-rest = join-rest w brought ∙ rw (e, split-none brought (Plain.nonzero version number (set_calls_of x) k).0)

  set_split : split ((split (w ++ brought)).rest ++ bytes_received_by x.last)
      ≡ record { closed = set_form version number x.value ∷ []; rest = [] }
  unfolding frame split
  set_split =
      rw (brought-rest, k.ends, Plain.whole version number (set_calls_of x) k)
      (split_at (set_form version number x.value) [] (above_zero (message (passphrase_set version number x.value))))

  set_rest : (split (through_set w x)).rest ≡ []
  set_rest = join-rest (w ++ brought) (bytes_received_by x.last) ∙ rw set_split

  set-frames : (ys : List RunLending)
      → frames_counted w (events_of_run (lendings_of_set x ++ ys))
      ≡ cond x.counted (set_form version number x.value ∷ []) [] ++ frames_counted (through_set w x) (events_of_run ys)
  unfolding events_of_run
  set-frames ys =
      let l : RunLending = record { call = TwoPassphrases.brings x.last; counted = x.counted } in
      let c : closed_behind (w ++ brought) (bytes_received_by x.last) ≡ set_form version number x.value ∷ [] =
      closed-rest (w ++ brought) (bytes_received_by x.last) ∙ rw set_split in
      rw (append_assoc x.ahead (l ∷ []) ys)
      (ahead-frames x.ahead k.each (Plain.nonzero version number (set_calls_of x) k).0 w (l ∷ ys)
      ∙ on-frames x.counted x.last (receiving-on x.last k.closes.0) (w ++ brought) (events_of_run ys) ∙ rw c)

-- it ends the same whatever the value
form-ended : (version number : ℕ) (v : List ℕ) → InRange (passphrase_set version number v)
    → ended_by_frame (set_form version number v) ≡ ended_by_verdict (tested (passphrase_set version number v))
form-ended version number v r =
    sym (frame-ends (set_form version number v))
    ∙ ap (λ (o : Option (List ℕ)). ended_meant (verdict_since o)) (progress version number v r)
    ∙ ap ended_meant (set-verdict version number v r)

one_ended : (version number : ℕ) (v w : List ℕ) → InRange (passphrase_set version number v) → InRange (passphrase_set version number w)
    → (b : Bool) → ended_all (cond b (set_form version number v ∷ []) []) ≡ ended_all (cond b (set_form version number w ∷ []) [])
unfolding ended_all
one_ended version number v w r s true =
    let e =
    form-ended version number v r
    ∙ tested-both (λ a b. ended_by_verdict a ≡ ended_by_verdict b) (λ _ _ _. refl) version number v w refl
    ∙ sym (form-ended version number w s) in
    rw e
one_ended version number v w r s false = refl

-- behind it the parts are sound, and nothing has come of a frame
behind-set : (version number : ℕ) (x : SetCalls) → BringsSet version number x → (p : Parts) → Sound p → NothingCome p
    → Sound (left_by_calls p (calls_of_set x)) × Since (split []).rest (view (left_by_calls p (calls_of_set x)))
unfolding frame
behind-set version number x k p s b =
    let a = Plain.ahead-sound version number x k p s b in
    let f = Plain.frame-bytes version number x k p s b in
    let m = message (passphrase_set version number x.value) in
    rw (Plain.set-left version number x k p s b)
    (Plain.fed-sound _ a (frame (passphrase_set version number x.value)) f, Plain.frame-since _ a (cobs m) (above_zero m) f)

-- ---- the calls of both runs

-- the first holds p, where the bytes v came before, and w in the second
ended_same : (ts : List CountedTurn) → Each TypedCountedTurn ts → (p : Parts) → Sound p → (v w : List ℕ) → Since (split v).rest (view p)
    → (split v).rest ≡ (split w).rest → BeginsBetween p (turns_of ts)
    → ended_all (frames_counted v (events_of_run (first_counted_run ts)))
    ≡ ended_all (frames_counted w (events_of_run (second_counted_run ts)))
unfolding events_of_run frames_counted first_counted_run second_counted_run turns_of view split
ended_same [] t p s v w h e b = refl
ended_same (CountedPassphrases.same counts c ∷ ts) t p s v w h e b =
    let k = mixed-meets v p s h c t.0 in
    let rest =
    ended_same ts t.1 (made_mixed p c).parts k.leaves.1 (mixed_since v c) (mixed_since w c) (rw k.leaves.0 k.since)
    (since-alike v w e c) b in
    rw (
      frames-next counts c v,
      frames-next counts c w,
      ended-append (counted_in counts v c),
      ended-append,
      counted-alike v w e counts c,
      rest,
    )
ended_same (CountedPassphrases.sets version number x y ∷ ts) t p s v w h e b =
    let k = t.0.two_sets in
    let n : (split v).rest ≡ [] = tail_none (split v).rest (sym h.received ∙ b.0) in
    let m : (split w).rest ≡ [] = sym e ∙ n in
    let z = behind-set version number (set_calls_of x) k.first p s b.0 in
    let c = set_rest version number x k.first v n in
    let d = set_rest version number y k.second w m in
    let rest = ended_same ts t.1 _ z.0 (through_set v x) (through_set w y) (rw c z.1) (c ∙ sym d) b.1 in
    rw (
      set-frames version number x k.first v n,
      set-frames version number y k.second w m,
      ended-append (cond x.counted (set_form version number x.value ∷ []) []),
      ended-append,
      t.0.alike,
      one_ended version number x.value y.value k.first.range k.second.range,
      rest,
    )

-- ---- the calls' types

event-typed : (b : Bool) (c : MixedCall) → TypedMixed c → TypedEvent (event_of_mixed b c)
event-typed true (MixedCalls.supervisor m) t = t
event-typed false (MixedCalls.supervisor m) t = t
event-typed b (MixedCalls.line_start l) t = t
event-typed b (MixedCalls.line_read l piece) t = t
event-typed b (MixedCalls.line_tail l) t = t
event-typed b (MixedCalls.line_data l n) t = t

while-typed : (b : Bool) (c : RunCall) → WhileSet c → TypedEvent (event_of_call b c)
while-typed b (TwoPassphrases.brings m) k = event-typed b (MixedCalls.supervisor m) k.1
while-typed b (TwoPassphrases.other c) k = event-typed b c (local_typed c k)

ahead-typed : (xs ys : List RunLending) → Each WhileSet (calls_of_run xs) → Each TypedEvent (events_of_run ys)
    → Each TypedEvent (events_of_run (xs ++ ys))
unfolding events_of_run calls_of_run
ahead-typed [] ys k t = t
ahead-typed (x ∷ xs) ys k t = (while-typed x.counted x.call k.0, ahead-typed xs ys k.1 t)

set_typed : (version number : ℕ) (x : LendingSet) → BringsSet version number (set_calls_of x) → (ys : List RunLending)
    → Each TypedEvent (events_of_run ys) → Each TypedEvent (events_of_run (lendings_of_set x ++ ys))
unfolding events_of_run
set_typed version number x k ys t =
    let l : RunLending = record { call = TwoPassphrases.brings x.last; counted = x.counted } in
    rw (append_assoc x.ahead (l ∷ []) ys)
    (ahead-typed x.ahead (l ∷ ys) k.each (while-typed x.counted (TwoPassphrases.brings x.last) k.closes, t))

first-typed : (ts : List CountedTurn) → Each TypedCountedTurn ts → Each TypedEvent (events_of_run (first_counted_run ts))
unfolding events_of_run first_counted_run
first-typed [] t = tt
first-typed (CountedPassphrases.same b c ∷ ts) t = (event-typed b c t.0, first-typed ts t.1)
first-typed (CountedPassphrases.sets version number x y ∷ ts) t =
    set_typed version number x t.0.two_sets.first (first_counted_run ts) (first-typed ts t.1)

second-typed : (ts : List CountedTurn) → Each TypedCountedTurn ts → Each TypedEvent (events_of_run (second_counted_run ts))
unfolding events_of_run second_counted_run
second-typed [] t = tt
second-typed (CountedPassphrases.same b c ∷ ts) t = (event-typed b c t.0, second-typed ts t.1)
second-typed (CountedPassphrases.sets version number x y ∷ ts) t =
    set_typed version number y t.0.two_sets.second (second_counted_run ts) (second-typed ts t.1)

pub two_counted_passphrases : TwoCountedPassphrases
unfolding fresh split progress_of
two_counted_passphrases p b l d typed h c ts t begins =
    let k = started p b l d typed h in
    let q = (made p (Histories.start_with l d)).parts in
    let held : Held = record { parts = q; block = c } in
    let none_yet : Since [] (fresh (factory_of d)) = record { received = refl; nonzero = tt } in
    let since : Since (split []).rest (view q) = rw k.0 none_yet in
    let x = as-unlent (first_counted_run ts) held in
    let y = as-unlent (second_counted_run ts) held in
    let plain = two_passphrases p b l d typed h (turns_of ts) (turns-typed ts t) begins in (
      rw (x.0, y.0, first-calls ts, second-calls ts) plain.0,
      rw (x.1, y.1, first-calls ts, second-calls ts) plain.1,
      mixed-counts (events_of_run (first_counted_run ts)) [] q k.1 since (first-typed ts t) c
          ∙ ap (bumped_for_all c) (ended_same ts t q k.1 [] [] since refl begins)
          ∙ sym (mixed-counts (events_of_run (second_counted_run ts)) [] q k.1 since (second-typed ts t) c),
    )
