-- Where recoveries alone put alert requests out, the alerts handed out are the first ones posted, in order and each once.
-- Assumes nothing.
use mathlib.Core.Path.{◌≡◌, refl, sym, ap, ◌∙◌}
use mathlib.Core.Bool.{Bool, true, false, false≢true, ◌&&◌, and-eq-true_iff}
use mathlib.Core.List.{List, [], ◌∷◌, ◌++◌, map, append_assoc, append-nil, map-append}
use mathlib.Core.Logic.{◌⊎◌, inl, inr}
use mathlib.Core.Option.{Option, none, some}
use Prim.Native.Nat.{ℕ, suc, ◌≤◌, ◌<◌}
use native.Mathlib.Omega.{arith}
use lib.Dec.{ltb, eqb}
use borrow.Author.Tests.{ltb-true, ltb-false, eqb-true, eq-eqb}
use Rattle.octets.specs.Bytes.{Each}
use Rattle.octets.proofs.Conditions.{cond-by}
use Rattle.octets.proofs.Each.{each_append}
use Rattle.line.specs.Message.{Message, InRange}
use Rattle.line.specs.Frame.{frame}
use Rattle.requester.specs.State.{Request, RecoveryStep, fetch, acknowledge, alert, step_request, outstanding, outstanding_of}
use Rattle.requester.specs.State.{request_frame}
use Rattle.requester.specs.State.{MainState, main_fresh}
use Rattle.requester.specs.Limits.{last_number}
use Rattle.requester.specs.Requester.{stays_out}
use Rattle.requester_claims.specs.View.{main_view}
use Rattle.requester_claims.proofs.History as MainHistory
use Rattle.requester_claims.specs.Histories.{MainMeans, MainMade, main_made}
use Rattle.requester_claims.specs.Numbers.{Frame}
use Rattle.requester_claims.proofs.Numbers.{frames_of}
use Rattle.responder.specs.Requests.{tested, alert_data}
use Rattle.supervisor_claims.specs.View.{view}
use Rattle.supervisor_claims.specs.Histories as Supervisor
use Rattle.both_claims.specs.Ends
use Rattle.both_claims.specs.Ends.{Any, Log, EndCallTyped, ends_after, ends_after_all, ends_begun, together, BothStarts}
use Rattle.both_claims.specs.Ends.{passes_table, puts_request, as_message, message_handed, brought, supervisor_logged, empty}
use Rattle.both_claims.specs.AlertsTaken.{call_posted, with_action, call_alerts, is_alert_request, alert_requests, AlertsInTurn}
use Rattle.both_claims.specs.AlertsTaken.{asks_alert, RecoveriesAlone}
use Rattle.both_claims.specs.BothEnds.{AlertsInOrder}
use Rattle.both_claims.proofs.AlertAnswer.{RetainsIn, call-retains, together-retains}
use Rattle.both_claims.proofs.AlertsPosted.{Given, given, after-all, begun-state, begun-line, CallOut, out-or-none, out-taken, asks}
use Rattle.both_claims.proofs.InOrderAge.{pairs-across}
use Rattle.both_claims.proofs.laws.Lists.{any-then, any_left, each-then, each_and, each-any, each-so, each_left, each_right}
use Rattle.both_claims.proofs.laws.Lists.{turn-images}
use Rattle.both_claims.proofs.laws.Table.{frame_same}
use Rattle.both_claims.proofs.laws.Ranges.{outstanding-ranged, ranged-message}
use Rattle.both_claims.proofs.laws.Kept.{PutOut, Kept}
use Rattle.both_claims.proofs.laws.KeptRequest.{keeps, answers, ends, PutsNew, RequestBy, came-after, made_by}
use Rattle.both_claims.proofs.laws.SetsRead.{called-ranged}
use Rattle.both_claims.proofs.laws.MainCalls.{reads_of}
use Rattle.both_claims.proofs.laws.BothCalls.{Both, main_meant_at, keeps-both, begun-both, always-and}
use Rattle.both_claims.proofs.laws.AlertQueue.{with_actions, actions-append, Taken, taken_data, taken}
use Rattle.both_claims.proofs.laws.AlertNumbers.{requests-each, Rising, TakenOf}
use Rattle.both_claims.proofs.laws.AlertPosts.{line_in, NumberedIn, taken-brought, supervisor-line, supervisor-numbered}
use Rattle.both_claims.proofs.laws.AlertsOut.{lowest, lowest-asks, lowest-else, lowest-same, log-after, out-moves, lowest-after}
use Rattle.both_claims.proofs.laws.AlertsOut.{goes-meant, main-after, state-after, Same}
use Rattle.both_claims.proofs.laws.AlertsHanded.{Parted, NextOut, next-out, parted-next, next-data, parted_more, parted_low}
use Rattle.both_claims.proofs.laws.AlertsHanded.{recovered-alert}

-- ---- alert requests that were put out

-- a frame of an alert request
abbrev IsAlert : Frame → Type 0
IsAlert x = (m : Message) × InRange m × (x.bytes ≡ frame m) × (m.command ≡ 0x0a)

requests-all : (ms : List Message) → Each (λ (m : Message). m.command ≡ 0x0a) (alert_requests ms)
unfolding alert_requests is_alert_request
requests-all [] = tt
requests-all (m ∷ ms) =
    cond-by (Each (λ (m : Message). m.command ≡ 0x0a)) (passes_table (tested m) && eqb m.command 0x0a) (m ∷ alert_requests ms)
    (alert_requests ms)
    (λ e. (eqb-true _ _ ((and-eq-true_iff (passes_table (tested m)) (eqb m.command 0x0a)).0 e).1, requests-all ms)) (λ _. requests-all ms)

-- one that is put out is that of the request, under its number
request-alert : (n : ℕ) (q : Request) → InRange (as_message n q) → (x : Frame) → x.bytes ≡ request_frame n q → (a : IsAlert x)
    → (a.0.sequence ≡ n) × (q.command ≡ 0x0a)
unfolding request_frame
request-alert n q range x e (m, r, b, c) =
    let z : m ≡ as_message n q = frame_same r range (sym b ∙ e) in
    (ap (λ (y : Message). y.sequence) z, sym (ap (λ (y : Message). y.command) z) ∙ c)

-- one under this number was put out
abbrev Asked : Log → ℕ → Type 0
Asked l n = Any (λ (x : Frame). (x.number ≡ n) × IsAlert x) l.asked

module _ (s : MainState) (l : Log) (kept : Kept s l) (turn : AlertsInTurn l) where
  read_asked : Each (λ (m : Message). Asked l m.sequence) (alert_requests l.heard)
  read_asked =
      each_and (λ (m : Message). InRange m × (m.command ≡ 0x0a)) (λ (m : Message). Any (λ (x : Frame). x.bytes ≡ frame m) l.asked) _ by
      (alert_requests l.heard)
      (each_and InRange _ _ (λ m a b. (a, b)) (alert_requests l.heard) (requests-each InRange l.heard kept.heard)
      (requests-all l.heard))
      (turn-images frame (λ (x : Frame). x.bytes) (alert_requests l.heard) l.asked turn)
    where
      by : (m : Message) → InRange m × (m.command ≡ 0x0a) → Any (λ (x : Frame). x.bytes ≡ frame m) l.asked → Asked l m.sequence
      by m (range, c) a =
          each-any (PutOut s) (λ (x : Frame). x.bytes ≡ frame m) _
          (λ x p e.
          let i : IsAlert x = (m, range, e, c) in
          let g = p.ranged in
          (sym (request-alert x.number g.request g.in_range x g.bytes i).0, i)) l.asked kept.asked a

  -- each that took an alert
  pub taken-asked : (us : List Taken) → Each (TakenOf l.heard) us → Each (λ (u : Taken). Asked l u.number) us
  taken-asked us h = each-then (TakenOf l.heard) _ by us h
    where
      by : (u : Taken) → TakenOf l.heard u → Asked l u.number
      by u a =
          each-so (λ (m : Message). Asked l m.sequence) (λ (m : Message). m.sequence ≡ u.number) (λ m k e. rw e at k)
          (alert_requests l.heard) read_asked a

  pub taken-most : (us : List Taken) → Each (TakenOf l.heard) us → Each (λ (u : Taken). u.number ≤ s.newest) us
  taken-most us h =
      each-then (λ (u : Taken). Asked l u.number) _
      (λ u a. each-so (PutOut s) (λ (x : Frame). (x.number ≡ u.number) × IsAlert x) (λ x p e. omega (arith, p.agrees.most, e.0))
      l.asked kept.asked a) us (taken-asked us h)

-- ---- what holds

-- where it has a lower number, an alert was taken under it
abbrev AnsweredBelow : ℕ → List Taken → Frame → Type 0
AnsweredBelow low us x = IsAlert x → x.number < low → Any (λ (u : Taken). u.number ≡ x.number) us

-- those handed out are all of the first part, and the numbers of the second are not below this one
record HandedAll (low : ℕ) (us : List Taken) (handed : List (List ℕ)) : Type 0 where
  parted : Parted low us
  all : handed ≡ with_actions (map taken_data parted.settled)
  above : Each (λ (u : Taken). low ≤ u.number) parted.rest

record Holds (e : Ends.Ends) (handed posted : List (List ℕ)) : Type 0 where
  retains : RetainsIn e
  line : posted ≡ line_in e
  numbered : NumberedIn e
  turn : AlertsInTurn e.log
  -- the caller's request that is outstanding, or held through a recovery, is no alert request
  kept : asks_alert (main_view e.main).kept ≡ false
  answered : Each (AnsweredBelow (lowest (main_view e.main)) (taken e.log.handled)) e.log.asked
  out : HandedAll (lowest (main_view e.main)) (taken e.log.handled) handed

each-never : {A : Type 0} (xs : List A) → Each (λ (x : A). ⊥) xs → xs ≡ []
each-never [] h = refl
each-never (x ∷ xs) h = absurd h.0

-- of the second part, where no number is above
module _ (n : ℕ) (us : List Taken) (most : Each (λ (u : Taken). u.number ≤ n) us) (handed : List (List ℕ)) where
  rest-most : {low : ℕ} (p : Parted low us) → Each (λ (u : Taken). u.number ≤ n) p.rest
  rest-most p = each_right _ p.settled p.rest (rw p.whole at most)

  -- no alert is outstanding: it is empty
  all-else : {high : ℕ} → suc n ≤ high → HandedAll (suc n) us handed → HandedAll high us handed
  all-else h o = record {
    parted = parted_low h o.parted;
    all = o.all;
    above =
        each_and (λ (u : Taken). suc n ≤ u.number) (λ (u : Taken). u.number ≤ n) _ (λ u a b. absurd (omega (arith, a, b)))
        o.parted.rest o.above (rest-most o.parted);
  }

  -- the next is handed out: it is the first there, and the last
  all-next : (d : List ℕ) (o : HandedAll n us handed) → NextOut n d us o.parted → HandedAll (suc n) us (handed ++ with_action d)
  unfolding with_actions
  all-next d o x =
      let f = x.found in
      let first : f.ahead ≡ [] =
      each-never f.ahead
      (each_and (λ (u : Taken). n ≤ u.number) (λ (u : Taken). u.number < n) _ (λ u a b. omega (arith, a, b)) f.ahead
      (each_left _ f.ahead _ (rw f.whole at o.above)) x.ahead_below) in
      let next : handed ++ with_action d
      ≡ with_actions (map taken_data o.parted.settled) ++ (with_actions (map taken_data f.ahead) ++ with_action d) =
      rw first (ap (λ ds. ds ++ with_action d) o.all) in
      record {
        parted = parted-next o.parted x;
        all = next ∙ sym (next-data o.parted x);
        above = each-then _ _ (λ (u : Taken) a. omega (arith, a)) f.behind x.behind_above;
      }

-- ---- a call of the main processor's end

-- the alert request outstanding is a recovery's
in-recovery : (t : Option RecoveryStep) (k : Option Request) → asks_alert k ≡ false → asks_alert (outstanding_of t k) ≡ true → t
    ≡ some alert
unfolding step_request
in-recovery none k n e = absurd (false≢true (sym n ∙ e))
in-recovery (some fetch) k n e = absurd (false≢true e)
in-recovery (some acknowledge) k n e = absurd (false≢true e)
in-recovery (some alert) k n e = refl

module _ (e : Ends.Ends) (handed posted : List (List ℕ)) (both : Both e) (h : Holds e handed posted)
    (m : MainMade) (typed : EndCallTyped (Ends.main m)) (g : Given e (Ends.main m)) (alone : RecoveriesAlone e (Ends.main m)) where
  abbrev s : MainState
  s = main_view e.main

  abbrev n : ℕ
  n = s.newest

  abbrev us : List Taken
  us = taken e.log.handled

  abbrev does : MainMeans
  does = main_meant_at e m

  abbrev after : ℕ
  after = lowest (main_view (ends_after e (Ends.main m)).main)

  most : Each (λ (u : Taken). u.number ≤ n) us
  most = taken-most s e.log both.kept h.turn us h.numbered.requested

  requested : RequestBy s m.call does
  requested =
      made_by s (λ piece. came-after s _ (reads_of s e.log both.kept piece).came) m (goes-meant e both m g.goes_on)

  -- a new request is no alert request
  new-request : (p : PutsNew s m.call does) → puts_request m.call does.answer ≡ true → eqb p.request.command 0x0a ≡ false
  new-request p e =
      let a = (MainHistory.one_call _ m both.main).answer in
      rw p.called at (rw e at (rw a at alone.no_own))

  kept-after : asks_alert does.state.kept ≡ false
  kept-after = by requested
    where
      by : RequestBy s m.call does → asks_alert does.state.kept ≡ false
      by (inl (e, p)) =
          rw p.kept
          (cond-by (λ (o : Option Request). asks_alert o ≡ false) (stays_out p.request.command) (some p.request) none
          (λ _. new-request p e) (λ _. refl))
      by (inr (e, keeps k i f)) = rw k h.kept
      by (inr (e, answers i r o k j f)) = rw k
      by (inr (e, ends i k j f)) = rw k

  -- numbers that are below the lowest then: they were so before, or an alert was taken under them
  abbrev Lower : Type 0
  Lower = (k : ℕ) → k ≤ n → k < after → (k < lowest s) ⊎ Any (λ (u : Taken). u.number ≡ k) us

  record Moves : Type 0 where
    lower : Lower
    out : HandedAll after us (handed ++ call_alerts e (Ends.main m))

  none_out : (CallOut e m → ⊥) → handed ++ call_alerts e (Ends.main m) ≡ handed
  none_out f = by (out-or-none e both m g)
    where
      by : (call_alerts e (Ends.main m) ≡ []) ⊎ CallOut e m → handed ++ call_alerts e (Ends.main m) ≡ handed
      by (inl k) = rw (k, append-nil)
      by (inr k) = absurd (f k)

  -- no alert request is outstanding
  else-moves : asks_alert (outstanding s) ≡ false → Moves
  else-moves f =
      let z = lowest-else s f in
      let low = lowest-after e both m g.goes_on in
      record {
        lower = λ k i j. inl (omega (arith, z, i));
        out = rw (none_out (λ k. false≢true (sym f ∙ asks s k.waits)))
            (all-else n us most handed (let y : suc n ≤ after = omega (arith, z, low) in y) (rw z at h.out));
      }

  module _ (f : asks_alert (outstanding s) ≡ true) where
    -- it stays outstanding
    same-moves : Same s does.state → Moves
    same-moves k =
        let z = lowest-asks s f in
        let same : after ≡ lowest s = rw (state-after e both m g.goes_on) (lowest-same s does.state k) in
        let none : CallOut e m → ⊥ = λ o.
        let y = out-moves e both m g.goes_on o.reply o.handed in
        omega (arith, y, same, z) in
        record { lower = λ k i j. inl (omega (arith, same, j)); out = rw (none_out none, same) h.out }

    -- its answer is handed out
    out-moved : CallOut e m → Moves
    out-moved o = record {
      lower = λ k i j. by k i (ltb k n) refl;
      out = rw o.alerts
          (all-else n us most (handed ++ with_action d) (out-moves e both m g.goes_on o.reply o.handed)
          (all-next n us most handed d p (next-out n d us p.parted h.numbered.rising (out-taken e both m g o))));
    }
      where
        d : List ℕ
        d = o.reply.payload

        z : lowest s ≡ n
        z = lowest-asks s f

        p : HandedAll n us handed
        p = rw z at h.out

        by : (k : ℕ) → k ≤ n → (b : Bool) → ltb k n ≡ b → (k < lowest s) ⊎ Any (λ (u : Taken). u.number ≡ k) us
        by k i true e = let y = ltb-true k n e in inl (omega (arith, z, y))
        by k i false e =
            let y = ltb-false k n e in
            inr (any-then _ _ (λ (u : Taken) t. let w = t.0 in omega (arith, w, i, y)) us (out-taken _ both m g o))

    recovers : Moves
    recovers = by ((main-after e both m g.goes_on).until in-alert)
      where
        in-alert : s.recovery ≡ some alert
        in-alert = in-recovery s.recovery s.kept h.kept f

        by : Same s does.state ⊎ ((r : Message) × (message_handed does.answer does.out ≡ some r)) → Moves
        by (inl k) = same-moves k
        by (inr (r, i)) =
            let k = MainHistory.one_call e.main m both.main in
            let d = main_made e.main m in
            out-moved (recovered-alert s e.log in-alert d.answer d.out (g.fresh (rw in-alert)) r (rw (k.answer, k.out) i))

  moves : Moves
  moves = by (asks_alert (outstanding s)) refl
    where
      by : (b : Bool) → asks_alert (outstanding s) ≡ b → Moves
      by true f = recovers f
      by false f = else-moves f

  -- the frames that it puts out
  new-answered : Lower → Each (AnsweredBelow after us) (frames_of does)
  new-answered lower = by requested
    where
      sent : (q : Request) → outstanding s ≡ some q → (x : Frame) → x.number ≡ n → x.bytes ≡ request_frame n q → AnsweredBelow after us x
      sent q o x e b i j =
          let ranged = both.kept.ranged in
          let c = (request-alert n q (ranged-message n q ranged.newest (outstanding-ranged s ranged q o)) x b i).1 in
          let z = lowest-asks s (asks s (q, o, c)) in
          so (lower x.number (omega (arith, e)) j) z
        where
          so : (x.number < lowest s) ⊎ Any (λ (u : Taken). u.number ≡ x.number) us → lowest s ≡ n
              → Any (λ (u : Taken). u.number ≡ x.number) us
          so (inl k) z = absurd (omega (arith, k, z, e))
          so (inr a) z = a

      by : RequestBy s m.call does → Each (AnsweredBelow after us) (frames_of does)
      by (inl (e, p)) =
          let k = does.state.newest in
          let low : k ≤ last_number = omega (arith, p.next, p.not_last) in
          let x : Frame = record { number = k; bytes = request_frame k p.request } in
          let range = ranged-message k p.request low (called-ranged m.call typed s does p) in
          rw p.frame (
            λ i j. let c = (request-alert k p.request range x refl i).1 in
                absurd (false≢true (sym (new-request p e) ∙ eq-eqb p.request.command 0x0a c)),
            tt,
          )
      by (inr (e, keeps k i (inl f))) = rw f tt
      by (inr (e, keeps k i (inr (q, o, f)))) = rw f (sent q o (record { number = n; bytes = request_frame n q }) refl refl, tt)
      by (inr (e, answers i r o k j f)) = rw f tt
      by (inr (e, ends i k j f)) = rw f tt

  all-answered : Lower → Each (AnsweredBelow after us) (e.log.asked ++ frames_of does)
  all-answered lower =
      each_append _ e.log.asked (frames_of does)
      (each_and (PutOut s) (AnsweredBelow (lowest s) us) _ still e.log.asked both.kept.asked h.answered) (new-answered lower)
    where
      still : (x : Frame) → PutOut s x → AnsweredBelow (lowest s) us x → AnsweredBelow after us x
      still x p f i j = so (lower x.number p.agrees.most j)
        where
          so : (x.number < lowest s) ⊎ Any (λ (u : Taken). u.number ≡ x.number) us → Any (λ (u : Taken). u.number ≡ x.number) us
          so (inl k) = f i k
          so (inr a) = a

  main-holds : let t = Ends.main m in Holds (ends_after e t) (handed ++ call_alerts e t) (posted ++ [])
  unfolding ends_after
  main-holds =
      let l = log-after e both m g.goes_on in
      record {
        retains = call-retains e both h.retains (Ends.main m) typed;
        line = rw (append-nil, l.0) h.line;
        numbered = rw (l.0, l.1) h.numbered;
        turn = alone.in_turn;
        kept = rw (state-after e both m g.goes_on) kept-after;
        answered = rw (l.0, l.2) (all-answered moves.lower);
        out = rw l.0 moves.out;
      }

-- ---- a call of the supervisor

module _ (e : Ends.Ends) (handed posted : List (List ℕ)) (both : Both e) (h : Holds e handed posted) (m : Supervisor.Made)
    (typed : EndCallTyped (Ends.supervisor m)) (alone : RecoveriesAlone e (Ends.supervisor m)) where
  abbrev next : Ends.Ends
  next = ends_after e (Ends.supervisor m)

  abbrev low : ℕ
  low = lowest (main_view e.main)

  abbrev old : List Taken
  old = taken e.log.handled

  abbrev fresh : List Taken
  fresh = taken (brought e.log (view e.supervisor) m)

  brings : taken next.log.handled ≡ old ++ fresh
  brings = taken-brought e both h.retains m typed

  numbered-after : NumberedIn next
  numbered-after =
      supervisor-numbered e both h.retains m typed alone.supervisor_goes_on h.numbered alone.none_drops alone.in_turn

  -- an alert that is taken now is taken under a number at which none was
  fresh-above : Each (λ (u : Taken). low ≤ u.number) fresh
  unfolding ends_after supervisor_logged
  fresh-above =
      each_and (λ (u : Taken). Each (λ (v : Taken). Rising v u) old) (λ (u : Taken). Asked e.log u.number) _ by fresh
      (pairs-across Rising old fresh (rw brings at numbered-after.rising))
      (each_right _ old fresh
      (taken-asked (main_view e.main) next.log (keeps-both e both (Ends.supervisor m) typed).kept alone.in_turn (old ++ fresh)
      (rw brings at numbered-after.requested)))
    where
      by : (u : Taken) → Each (λ (v : Taken). Rising v u) old → Asked e.log u.number → low ≤ u.number
      by u rising a = so (ltb u.number low) refl
        where
          never : u.number < low → ⊥
          never k =
              each-so (AnsweredBelow low old) (λ (x : Frame). (x.number ≡ u.number) × IsAlert x)
              (λ x f (i, j).
              each-so (λ (v : Taken). Rising v u) (λ (v : Taken). v.number ≡ x.number) (λ v r w. omega (arith, r, w, i)) old rising
              (f j (omega (arith, i, k)))) e.log.asked h.answered a

          so : (b : Bool) → ltb u.number low ≡ b → low ≤ u.number
          so true k = absurd (never (ltb-true u.number low k))
          so false k = ltb-false u.number low k

  supervisor-holds : Holds next (handed ++ []) (posted ++ call_posted e (Ends.supervisor m))
  unfolding ends_after supervisor_logged
  supervisor-holds = record {
    retains = call-retains e both h.retains (Ends.supervisor m) typed;
    line = rw (supervisor-line e both h.retains m typed alone.supervisor_goes_on)
        (ap (λ ds. ds ++ call_posted e (Ends.supervisor m)) h.line);
    numbered = numbered-after;
    turn = alone.in_turn;
    kept = h.kept;
    answered = rw brings
        (each-then (AnsweredBelow low old) _ (λ x f i j. any_left _ old fresh (f i j)) e.log.asked h.answered);
    out = rw (append-nil, brings)
        (record {
          parted = parted_more fresh h.out.parted;
          all = h.out.all;
          above = each_append _ h.out.parted.rest fresh h.out.above fresh-above;
        });
  }

-- ---- the claim

call-holds : (e : Ends.Ends) (handed posted : List (List ℕ)) → Both e → Holds e handed posted → (t : Ends.EndCall) → EndCallTyped t
    → Given e t × RecoveriesAlone e t → Holds (ends_after e t) (handed ++ call_alerts e t) (posted ++ call_posted e t)
call-holds e handed posted both h (Ends.main m) typed (g, alone) = main-holds e handed posted both h m typed g alone
call-holds e handed posted both h (Ends.supervisor m) typed (g, alone) = supervisor-holds e handed posted both h m typed alone

begun-holds : (s : BothStarts) → Holds (ends_begun s) [] []
unfolding taken with_actions alert_requests main_fresh
begun-holds s = record {
  retains = together-retains s;
  line = sym (begun-line s);
  numbered = record { rising = tt; last = rw (begun-state s).1; requested = tt };
  turn = empty;
  kept = rw (MainHistory.started s.main-parts s.main_lent s.main_accepted).state;
  answered = tt;
  out = record { parted = record { settled = []; rest = []; whole = refl; below = tt }; all = refl; above = tt };
}

pub alerts_in_order : AlertsInOrder
alerts_in_order s ts typed w alone =
    let e = ends_begun s in
    let x = ends_after_all e ts in
    let h = after-all Holds (λ y t. Given y t × RecoveriesAlone y t) call-holds e [] [] (begun-both e (together s)) (begun-holds s) ts typed
    (always-and Given RecoveriesAlone e ts (given s ts typed w) alone) in
    let p = h.out.parted in
    let ds = map taken_data p.settled in
    let later = with_actions (map taken_data p.rest ++ map alert_data (view x.supervisor).waiting) in
    let all : line_in x ≡ with_actions ds ++ later =
    rw (p.whole, map-append taken_data p.settled, append_assoc ds, actions-append ds) in
    (later, ap (λ es. es ++ later) h.out.all ∙ sym (h.line ∙ all))
