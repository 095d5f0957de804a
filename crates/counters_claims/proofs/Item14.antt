-- The wireless passphrase is in no answer and no counter of calls that are lent a counter block (document 02, item 14).
-- Assumes nothing.
use mathlib.Core.Path.{◌≡◌, refl, sym, ap, ◌∙◌}
use mathlib.Core.List.{List, [], ◌∷◌}
use mathlib.Core.Option.{Option, none, some}
use Prim.Native.Nat.{ℕ}
use Rattle.line.specs.Frame.{split, closed_behind}
use Rattle.supervisor.specs.State.{State}
use Rattle.supervisor.specs.Calls.{Parts}
use Rattle.counters.specs.declared.Counters.{Counters}
use Rattle.counters.specs.Count.{bumped_for_all}
use Rattle.supervisor_claims.specs.View.{view}
use Rattle.supervisor_claims.specs.Sound.{Sound}
use Rattle.supervisor_claims.specs.Histories.{Did, Made, made, AllTyped}
use Rattle.supervisor_claims.specs.MixedCalls
use Rattle.supervisor_claims.specs.MixedCalls.{AllTypedMixed, did_mixed, made_mixed, outputs_mixed, left_mixed, mixed_since}
use Rattle.supervisor_claims.specs.FrameHistory.{bytes_received_by, received_since}
use Rattle.supervisor_claims.proofs.laws.Progress.{Since}
use Rattle.supervisor_claims.proofs.claims.History.{one_call}
use Rattle.supervisor_claims.proofs.claims.FramesClaim.{made-carried}
use Rattle.supervisor_claims.specs.TwoRuns.{left_by_run, received_in_run}
use Rattle.supervisor_claims.proofs.claims.MixedClaim.{mixed-meets}
use Rattle.supervisor_claims.proofs.claims.RunsSame.{since-same, two_runs}
use Rattle.supervisor_claims.proofs.TwoRuns.{run_sound, run-since, two_states}
use Rattle.counters_claims.specs.CountHistory.{Lending, block_by, blocks_lending, unlent, ended_all}
use Rattle.counters_claims.specs.CountHistory
use Rattle.counters_claims.specs.CountHistory.{MixedLending, call_lent, did_mixed_lending, block_mixed, outputs_mixed_lending}
use Rattle.counters_claims.specs.CountHistory.{blocks_mixed_lending, left_mixed_lending, calls_lent}
use Rattle.counters_claims.specs.Item14.{TwoCountedStates, TwoCountedRuns}
use Rattle.counters_claims.proofs.Item8.{same_by, same-as-unlent}
use Rattle.counters_claims.proofs.CallCounts.{call-counts}

-- the blocks by the frames alone, behind the received bytes w
abbrev counted_by : List ℕ → Made → Option Counters → Option Counters
counted_by w m none = none
counted_by w m (some c) = some (bumped_for_all c (ended_all (closed_behind w (bytes_received_by m))))

unfoldable blocks_by_frames : List ℕ → List Lending → List (Option Counters)
blocks_by_frames w [] = []
blocks_by_frames w (x ∷ xs) = counted_by w x.call x.block ∷ blocks_by_frames (received_since w x.call) xs

block-by-frames : (w : List ℕ) (p : Parts) → Sound p → Since (split w).rest (view p) → (m : Made) (block : Option Counters)
    → block_by p m block ≡ counted_by w m block
block-by-frames w p s h m none = refl
block-by-frames w p s h m (some c) = rw (call-counts w p s h c m)

blocks-by-frames : (xs : List Lending) → AllTyped (unlent xs) → (w : List ℕ) (p : Parts) → Sound p → Since (split w).rest (view p)
    → blocks_lending p xs ≡ blocks_by_frames w xs
unfolding blocks_lending blocks_by_frames unlent
blocks-by-frames [] t w p s h = refl
blocks-by-frames (x ∷ xs) t w p s h =
    let m = x.call in
    let k = (one_call p m s t.0).leaves in
    let g : Since (split (received_since w m)).rest (view (made p m).parts) = rw k.0 (made-carried w (view p) h m).1 in
    rw (
      block-by-frames w p s h m x.block,
      same_by p m x.block,
      blocks-by-frames xs t.1 (received_since w m) (made p m).parts k.1 g,
    )

pub two_counted_states : TwoCountedStates
two_counted_states r s e xs t h k =
    let p = left_by_run r in
    let q = left_by_run s in
    let w = received_in_run r in
    let since = run-since r in
    let other : Since (split w).rest (view q) =
    record { received = sym (ap (λ (x : State). x.received) e) ∙ since.received; nonzero = since.nonzero } in (
      (same-as-unlent p xs).0 ∙ (two_states r s e (unlent xs) t h k).0 ∙ sym (same-as-unlent q xs).0,
      blocks-by-frames xs t w p (run_sound r) since ∙ sym (blocks-by-frames xs t w q (run_sound s) other),
    )

-- ---- with calls of the line layer among them

mixed-by : (p : Parts) (x : MixedLending) → did_mixed_lending p x ≡ made_mixed p (call_lent x)
unfolding made_mixed
mixed-by p (CountHistory.lends x) =
    ap (λ (d : Did). did_mixed (MixedCalls.MixedAnswer.supervisor d.answer) d.out d.parts) (same_by p x.call x.block)
mixed-by p (CountHistory.lends_none c) = refl

mixed-unlent : (xs : List MixedLending) (p : Parts)
    → (outputs_mixed_lending p xs ≡ outputs_mixed p (calls_lent xs)) × (left_mixed_lending p xs ≡ left_mixed p (calls_lent xs))
unfolding outputs_mixed_lending left_mixed_lending calls_lent outputs_mixed left_mixed
mixed-unlent [] p = (refl, refl)
mixed-unlent (x ∷ xs) p =
    let i = mixed-unlent xs (made_mixed p (call_lent x)).parts in
    (rw (mixed-by p x, i.0), rw (mixed-by p x) i.1)

abbrev counted_mixed : List ℕ → MixedLending → Option Counters
counted_mixed w (CountHistory.lends x) = counted_by w x.call x.block
counted_mixed w (CountHistory.lends_none c) = none

unfoldable mixed_by_frames : List ℕ → List MixedLending → List (Option Counters)
mixed_by_frames w [] = []
mixed_by_frames w (x ∷ xs) = counted_mixed w x ∷ mixed_by_frames (mixed_since w (call_lent x)) xs

mixed-block : (w : List ℕ) (p : Parts) → Sound p → Since (split w).rest (view p) → (x : MixedLending) → block_mixed p x ≡ counted_mixed w x
mixed-block w p s h (CountHistory.lends x) = block-by-frames w p s h x.call x.block
mixed-block w p s h (CountHistory.lends_none c) = refl

mixed-blocks : (xs : List MixedLending) → AllTypedMixed (calls_lent xs) → (w : List ℕ) (p : Parts) → Sound p
    → Since (split w).rest (view p) → blocks_mixed_lending p xs ≡ mixed_by_frames w xs
unfolding blocks_mixed_lending mixed_by_frames calls_lent
mixed-blocks [] t w p s h = refl
mixed-blocks (x ∷ xs) t w p s h =
    let k = mixed-meets w p s h (call_lent x) t.0 in
    let i =
    mixed-blocks xs t.1 (mixed_since w (call_lent x)) (made_mixed p (call_lent x)).parts k.leaves.1 (rw k.leaves.0 k.since) in
    rw (mixed-block w p s h x, mixed-by p x, i)

pub two_counted_runs : TwoCountedRuns
two_counted_runs r s e xs t a b =
    let p = left_by_run r in
    let q = left_by_run s in
    let w = received_in_run r in
    let since = run-since r in
    let other = since-same w p q (run_sound r) (run_sound s) since e in
    let x = mixed-unlent xs p in
    let y = mixed-unlent xs q in
    let k = two_runs r s e (calls_lent xs) t a b in (
      x.0 ∙ k.0 ∙ sym y.0,
      mixed-blocks xs t w p (run_sound r) since ∙ sym (mixed-blocks xs t w q (run_sound s) other),
      rw (x.1, y.1) k.1,
    )
