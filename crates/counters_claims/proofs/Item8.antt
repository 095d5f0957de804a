-- Document 02's item 8 over whole lists of calls. Each counter is the number of such frames since the block was cleared.
-- Nothing else depends on a block. Assumes nothing.
use mathlib.Core.Path.{◌≡◌, refl, sym, ap, ◌∙◌}
use mathlib.Core.Bool.{Bool, true, false}
use mathlib.Core.List.{List, [], ◌∷◌, ◌++◌}
use mathlib.Core.Option.{Option, none, some}
use Prim.Native.Nat.{ℕ, zero, suc, ◌≤◌}
use native.Mathlib.Omega.{arith}
use lib.Dec.{eqb-suc-zero}
use lib.ListN.{length, drop}
use Rattle.line.specs.Frame.{split}
use Rattle.line.specs.Reader as LineReader
use Rattle.line.specs.Reader.{received_of, pushed_all, ahead_of00}
use Rattle.line.proofs.Ahead.{ahead-nonzero, ahead-join}
use Rattle.line.proofs.Received.{pushed-received, pushed-stays}
use Rattle.supervisor.specs.Calls.{Parts}
use Rattle.counters.specs.declared.Counters.{Counters}
use Rattle.counters.specs.Count.{cleared_counters, bumped_for_all}
use Rattle.supervisor_claims.specs.View.{factory_of, view}
use Rattle.supervisor_claims.specs.Histories
use Rattle.supervisor_claims.specs.Histories.{Call, done, Did, Lent, lent_of, Made, made, outputs, left, AllTyped, receive_with, start_with}
use Rattle.supervisor_claims.specs.Histories.{OfStart}
use Rattle.supervisor_claims.specs.FrameHistory.{received_since, received_since_all}
use Rattle.supervisor_claims.specs.Sound.{Sound, with_reader}
use Rattle.supervisor_claims.proofs.laws.Progress.{Since}
use Rattle.supervisor_claims.proofs.claims.History.{one_call, started, history, undone, refused_made}
use Rattle.supervisor_claims.proofs.claims.LentCalls.{parts-valid}
use Rattle.supervisor_claims.proofs.claims.InOrder.{verdict-over}
use Rattle.supervisor_claims.proofs.claims.FramesClaim.{made-carried, by_frames}
use Rattle.supervisor_claims.proofs.claims.MixedClaim.{mixed-meets, collected-lent, collect_then_receive}
use Rattle.supervisor_claims.specs.MixedCalls.{line_collect, made_mixed, mixed_since}
use Rattle.supervisor.specs.State.{fresh}
use Rattle.octets.specs.Bytes.{Each}
use Rattle.line.specs.Judge.{progress_of}
use Rattle.responder.specs.Receive as Receive
use Rattle.responder.specs.Counting.{endings, count_promise}
use Rattle.counters_claims.specs.CountHistory.{DidCounted, did_counted, made_counted, Lending, did_lending, outputs_lending, left_lending}
use Rattle.counters_claims.specs.CountHistory.{unlent}
use Rattle.counters_claims.specs.CountHistory.{CountEvent, plain, counted, clear, Held, after_event, after_events, calls_of_events}
use Rattle.counters_claims.specs.CountHistory.{all_counted, RefusedEvent, AllRefusedEvents, ended_by_frame, ended_all}
use Rattle.counters_claims.specs.CountHistory.{MixedEvent, lent_block, without_block, after_mixed_events, TypedEvent, frames_counted}
use Rattle.counters_claims.specs.Item8.{CountersCount, CountersFromStart, MixedCount, OverlongOnce, BlocksAlone}
use Rattle.counters_claims.specs.Item8.{CollectThenReceiveCounted}
use Rattle.counters_claims.proofs.FrameLaws.{ended-append, closed_since, frames-since}
use Rattle.counters_claims.proofs.TallyLaws.{bumped-tally, bumped-append}
use Rattle.counters_claims.proofs.CallCounts.{refused-counts, call-counts}

-- ---- replies and state do not depend on a block

same-did : (c : Counters) (p : Parts) (k : Call) → (did_counted c p k).did ≡ Histories.did p k
unfolding did_counted Histories.did
same-did c p (Histories.start d) = refl
same-did c p (Histories.receive image piece) = refl
same-did c p (Histories.step image piece) = refl
same-did c p (Histories.local k) = refl

-- what a call answers, writes and leaves, whatever block it is lent
pub same-made : (c : Counters) (p : Parts) (m : Made) → (made_counted c p m).did ≡ made p m
unfolding made_counted made
same-made c p m = rw (same-did c (Histories.lent_of m.lent p) m.call)

pub same_by : (p : Parts) (m : Made) (block : Option Counters) → did_lending p m block ≡ made p m
same_by p m none = refl
same_by p m (some c) = same-made c p m

pub same-as-unlent : (p : Parts) (xs : List Lending)
    → (outputs_lending p xs ≡ outputs p (unlent xs)) × (left_lending p xs ≡ left p (unlent xs))
unfolding outputs_lending left_lending unlent outputs left
same-as-unlent p [] = (refl, refl)
same-as-unlent p (x ∷ xs) =
    let i = same-as-unlent (made p x.call).parts xs in
    (rw (same_by p x.call x.block, i.0), rw (same_by p x.call x.block) i.1)

pub blocks_alone : BlocksAlone
blocks_alone p xs ys e =
    let x = same-as-unlent p xs in
    let y = same-as-unlent p ys in
    (x.0 ∙ rw e (sym y.0), x.1 ∙ rw e (sym y.1))

-- ---- the calls of a history

-- a call that is lent the block leaves the parts that it leaves without
after-counted : (h : Held) (m : Made)
    → after_event h (counted m) ≡ record { parts = (made h.parts m).parts; block = (made_counted h.block h.parts m).block }
unfolding after_event
after-counted h m =
    ap (λ (d : Did). record { parts = d.parts; block = (made_counted h.block h.parts m).block }) (same-made h.block h.parts m)

parts-so : (es : List CountEvent) (h : Held) → (after_events h es).parts ≡ left h.parts (calls_of_events es)
unfolding after_events after_event calls_of_events left
parts-so [] h = refl
parts-so (plain m ∷ es) h = parts-so es (after_event h (plain m))
parts-so (counted m ∷ es) h =
    parts-so es (after_event h (counted m)) ∙ ap (λ (x : Held). left x.parts (calls_of_events es)) (after-counted h m)
parts-so (clear ∷ es) h = parts-so es (after_event h clear)

after-append : (es fs : List CountEvent) (h : Held) → after_events h (es ++ fs) ≡ after_events (after_events h es) fs
unfolding after_events
after-append [] fs h = refl
after-append (e ∷ es) fs h = after-append es fs (after_event h e)

-- ---- each counter

-- calls that are lent the block, on sound parts that hold what stands behind the last 00 of the bytes w
since-counts : (ms : List Made) → AllTyped ms → (w : List ℕ) (p : Parts) → Sound p → Since (split w).rest (view p) → (c : Counters)
    → (after_events (record { parts = p; block = c }) (all_counted ms)).block ≡ bumped_for_all c (ended_all (closed_since w ms))
unfolding after_events after_event all_counted closed_since ended_all bumped_for_all
since-counts [] t w p s h c = refl
since-counts (m ∷ ms) t w p s h c =
    let k = (one_call p m s t.0).leaves in
    let g : Since (split (received_since w m)).rest (view (made p m).parts) = rw k.0 (made-carried w (view p) h m).1 in
    let i = since-counts ms t.1 (received_since w m) (made p m).parts k.1 g (made_counted c p m).block in
    ap (λ (x : Held). (after_events x (all_counted ms)).block) (after-counted (record { parts = p; block = c }) m)
    ∙ (i ∙ rw (call-counts w p s h c m, ended-append, bumped-append))

pub counters_count : OfStart CountersCount
unfolding after_events after_event
counters_count p b l d typed e block before t ms u =
    let q = (made p (record { lent = l; call = Histories.start d })).parts in
    let w = received_since_all [] (calls_of_events before) in
    let k = history p b l d typed e (calls_of_events before) t in
    let h = (by_frames (factory_of d) (calls_of_events before)).2 in
    let x = after-append before (clear ∷ all_counted ms) (record { parts = q; block = block }) in
    let y = since-counts ms u w (left q (calls_of_events before)) k.2 (rw k.1 h) cleared_counters in
    ap (λ (z : Held). z.block) x
    ∙ (ap (λ (r : Parts). (after_events (record { parts = r; block = cleared_counters }) (all_counted ms)).block)
    (parts-so before (record { parts = q; block = block }))
    ∙ (y ∙ rw (frames-since w ms) (bumped-tally (ended_all (closed_since w ms)))))

-- ---- the line layer's own calls among them

pub mixed-counts : (es : List MixedEvent) (w : List ℕ) (p : Parts) → Sound p → Since (split w).rest (view p) → Each TypedEvent es
    → (c : Counters) → (after_mixed_events (record { parts = p; block = c }) es).block ≡ bumped_for_all c (ended_all (frames_counted w es))
unfolding after_mixed_events frames_counted ended_all bumped_for_all
mixed-counts [] w p s h t c = refl
mixed-counts (lent_block m ∷ es) w p s h t c =
    let k = (one_call p m s t.0).leaves in
    let g : Since (split (received_since w m)).rest (view (made p m).parts) = rw k.0 (made-carried w (view p) h m).1 in
    let i = mixed-counts es (received_since w m) (made p m).parts k.1 g t.1 (made_counted c p m).block in
    ap (λ (x : Held). (after_mixed_events x es).block) (after-counted (record { parts = p; block = c }) m)
    ∙ (i ∙ rw (call-counts w p s h c m, ended-append, bumped-append))
mixed-counts (without_block x ∷ es) w p s h t c =
    let k = mixed-meets w p s h x t.0 in
    mixed-counts es (mixed_since w x) (made_mixed p x).parts k.leaves.1 (rw k.leaves.0 k.since) t.1 c

pub mixed_count : OfStart MixedCount
unfolding fresh progress_of split
mixed_count p b l d typed e block es t =
    let k = started p b l d typed e in
    let z : Since [] (fresh (factory_of d)) = record { received = refl; nonzero = tt } in
    mixed-counts es [] _ k.1 (rw k.0 z) t block

-- ---- calls that are refused

abbrev cleared : Parts → Held
cleared p = record { parts = p; block = cleared_counters }

refused-event : (p : Parts) (e : CountEvent) → RefusedEvent (cleared p) e → after_event (cleared p) e ≡ cleared p
unfolding after_event
refused-event p (plain m) h = rw (refused_made p m h).0
refused-event p (counted m) h =
    after-counted (cleared p) m ∙ rw ((refused_made p m h).0, refused-counts cleared_counters p m.lent m.call h)
refused-event p clear h = refl

refused-events : (p : Parts) (es : List CountEvent) → AllRefusedEvents (cleared p) es → after_events (cleared p) es ≡ cleared p
unfolding after_events
refused-events p [] h = refl
refused-events p (e ∷ es) h =
    let k = refused-event p e h.0 in
    let g : AllRefusedEvents (cleared p) es = rw k at h.1 in
    rw k (refused-events p es g)

pub counters_from_start : OfStart CountersFromStart
unfolding after_events after_event calls_of_events received_since_all
counters_from_start p b l d typed e block between r ms u =
    let x = after-append between (plain (start_with l d) ∷ all_counted ms) (cleared p) in
    ap (λ (z : Held). z.block) x ∙ rw (refused-events p between r) (counters_count p b l d typed e block [] tt ms u)

pub overlong_once : OverlongOnce
unfolding ended_by_frame
overlong_once [] h = absurd (omega arith)
overlong_once (b ∷ bs) h = rw (verdict-over (b ∷ bs) h)

-- ---- a piece's bytes ahead of its first 00 are collected

-- bytes that are not 00 end no frame
endings-behind : (bs : List ℕ) → Each (λ b. 1 ≤ b) bs → (s rest : List ℕ) → LineReader.valid_reader s ≡ true
    → endings (received_of s) (bs ++ rest) ≡ endings (received_of (pushed_all s bs)) rest
unfolding endings pushed_all
endings-behind [] z s rest v = refl
endings-behind (zero ∷ bs) z s rest v = absurd (omega arith)
endings-behind (suc b ∷ bs) z s rest v =
    rw (eqb-suc-zero, ← pushed-received s (suc b) v)
    (endings-behind bs z.1 (LineReader.pushed s (suc b)) rest (pushed-stays s (suc b) v).valid)

-- a receive is done where the parts that are lent are as 12 requires
done-valid : (p : Parts) (l : Lent) (image piece : List ℕ) → (made p (receive_with image l piece)).answer ≡ done
    → Receive.valid_parts (lent_of l p) ≡ true
unfolding made Histories.did Receive.receive_promise
done-valid p l image piece h = by (Receive.valid_parts (lent_of l p)) refl
  where
    by : (t : Bool) → Receive.valid_parts (lent_of l p) ≡ t → t ≡ true
    by true e = refl
    by false e = absurd (undone 12 (rw e at h))

-- the block behind a collect and then a receive of what is left
count-behind : (block : Counters) (q : Parts) (bs rest : List ℕ) → Each (λ b. 1 ≤ b) bs → Receive.valid_parts q ≡ true
    → let r = with_reader q (pushed_all q.reader bs) in Receive.valid_parts r ≡ true
    → count_promise block r rest ≡ count_promise block q (bs ++ rest)
unfolding count_promise
count-behind block q bs rest z v w = rw (v, w, endings-behind bs z q.reader rest (parts-valid q v).reader)

same-counted : (x y : DidCounted) → x.did ≡ y.did → x.block ≡ y.block → x ≡ y
same-counted x y e f =
    ap (λ (d : Did). record { did = d; block = x.block }) e ∙ ap (λ (c : Counters). record { did = y.did; block = c }) f

pub collect_then_receive_counted : CollectThenReceiveCounted
unfolding made_counted did_counted
collect_then_receive_counted block p b l k image piece i t h n =
    let a = ahead_of00 piece in
    let left = drop (length a) piece in
    let m = receive_with image l piece in
    let d = ap (λ (x : Did). x.answer) (sym (same-made block p m)) ∙ h in
    let c = (made_mixed p (line_collect k piece)).parts in
    let whole = (collect_then_receive p b l k image piece i t d n).1 in
    let lent = collected-lent p b l k image piece i t d n in
    let v = done-valid p l image piece d in
    let w = rw lent at (done-valid c l image left (ap (λ (x : Did). x.answer) whole ∙ d)) in
    let counted = count-behind block (lent_of l p) a left (ahead-nonzero piece) v w in
    same-counted _ _ (same-made block c (receive_with image l left) ∙ whole ∙ sym (same-made block p m))
    (rw lent (counted ∙ ap (count_promise block (lent_of l p)) (ahead-join piece)))
