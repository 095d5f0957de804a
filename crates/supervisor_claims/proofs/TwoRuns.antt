-- The wireless passphrase is in no answer: two runs that differ only in its record answer and write the same (document 02, item 14).
-- Assumes nothing.
use mathlib.Core.Path.{◌≡◌, refl, sym, ap, ◌∙◌}
use mathlib.Core.Logic.{inl}
use mathlib.Core.Bool.{Bool, true, false}
use mathlib.Core.List.{List, [], ◌∷◌}
use Prim.Native.Nat.{ℕ}
use native.Mathlib.Omega.{arith}
use Rattle.line.specs.Frame.{split}
use Rattle.line.specs.Judge.{progress_of}
use Rattle.supervisor.specs.Limits
use Rattle.supervisor.specs.State.{State, fresh, unset, with_setting, with_settings}
use Rattle.supervisor.specs.Calls.{Parts}
use Rattle.supervisor.proofs.ValidLaws.{settings-valid}
use Rattle.supervisor_claims.specs.View.{factory_of, view}
use Rattle.supervisor_claims.specs.Sound.{Sound}
use Rattle.supervisor_claims.specs.Histories.{Means, Made}
use Rattle.supervisor_claims.specs.FrameHistory.{starts_anew, received_since, outputs_by_frames, left_by_frames}
use Rattle.supervisor_claims.specs.TwoRuns.{Run, left_by_run, received_in_run, record_end, SameButPassphrase}
use Rattle.supervisor_claims.specs.TwoRuns.{without_passphrase, passphrase_edition, sets_brought, sets_to_come}
use Rattle.supervisor_claims.specs.Item14.{TwoStates}
use Rattle.supervisor_claims.proofs.laws.Progress.{Since}
use Rattle.supervisor_claims.proofs.claims.History.{follows, started}
use Rattle.supervisor_claims.proofs.claims.FramesClaim.{frames-follow}
use Rattle.supervisor_claims.proofs.claims.MixedClaim.{mixed-since, sound_no_12}
use Rattle.supervisor_claims.proofs.claims.TwoRunLaws.{Like, Grow, Room, Pair, anew-same, made-same, store-alike, store-room}

-- the same comes out, and what is left differs only in the passphrase
abbrev Follow : List ℕ → List Made → State → State → Type 0
Follow w ms s t =
    (outputs_by_frames w s ms ≡ outputs_by_frames w t ms)
    × (without_passphrase (left_by_frames w s ms) ≡ without_passphrase (left_by_frames w t ms))

like-without : {s t : State} → Like s t → without_passphrase s ≡ without_passphrase t
like-without {s} {t} l =
    ap (λ (x : State). with_settings x (with_setting s.settings Limits.passphrase_key unset)) l.rest ∙ ap (with_settings t) l.settings

calls-follow : (ms : List Made) (w : List ℕ) (s t : State) → Pair (sets_to_come w ms) s t → Follow w ms s t
unfolding sets_to_come sets_brought outputs_by_frames left_by_frames
calls-follow [] w s t p = (refl, like-without p.like)
calls-follow (m ∷ ms) w s t p = by (starts_anew m) refl (calls-follow ms (received_since w m))
  where
    by : (b : Bool) → starts_anew m ≡ b
        → ((x y : State) → Pair (sets_to_come (received_since w m) ms) x y → Follow (received_since w m) ms x y)
        → Follow w (m ∷ ms) s t
    by true e rest =
        let g = anew-same w s t m e in
        (rw g, ap (λ (x : Means). without_passphrase (left_by_frames (received_since w m) x.state ms)) g)
    by false e rest =
        let k = made-same w s t m (sets_to_come (received_since w m) ms) e (rw e at p) in
        let f = rest _ _ k.pair in
        (rw (k.answer, k.out, f.0), f.1)

pub without-like : (s t : State) → without_passphrase s ≡ without_passphrase t → Like s t
without-like s t e = record { rest = ap (λ (x : State). with_settings x s.settings) e; settings = ap (λ (x : State). x.settings) e }

pub view-room : (n : ℕ) (p q : Parts) → Grow n (passphrase_edition p) (passphrase_edition q) → Room n (view p).settings (view q).settings
unfolding view
view-room n p q h = store-room n p.settings q.settings h

pub run_sound : (r : Run) → Sound (left_by_run r)
run_sound r =
    (sound_no_12 _ (started r.room r.bytes r.lent r.start_data r.typed r.accepted).1 r.calls r.all_typed).0

pub run-since : (r : Run) → Since (split (received_in_run r)).rest (view (left_by_run r))
unfolding fresh progress_of split
run-since r =
    let k = started r.room r.bytes r.lent r.start_data r.typed r.accepted in
    let z : Since [] (fresh (factory_of r.start_data)) = record { received = refl; nonzero = tt } in
    mixed-since r.calls [] _ k.1 (rw k.0 z) r.all_typed

-- ---- The claim

pub two_states : TwoStates
two_states r s e ms t h k =
    let w = received_in_run r in
    let p = left_by_run r in
    let q = left_by_run s in
    let since = run-since r in
    let a = follows p (run_sound r) ms t in
    let b = follows q (run_sound s) ms t in
    let c = frames-follow ms w (view p) since in
    let d =
    frames-follow ms w (view q)
    (record { received = sym (ap (λ (x : State). x.received) e) ∙ since.received; nonzero = since.nonzero }) in
    let f = calls-follow ms w (view p) (view q)
    (record {
      like = without-like (view p) (view q) e;
      room = view-room (sets_to_come w ms) p q (inl (omega arith, omega arith));
    }) in
    (rw (a.0, b.0, ← c.0, ← d.0) f.0, rw (a.1, b.1, ← c.1, ← d.1) f.1)

-- parts that are the same but for the passphrase's record hold such states
pub same-states : (p q : Parts) → Sound p → SameButPassphrase p q → without_passphrase (view p) ≡ without_passphrase (view q)
unfolding view
same-states p q s e =
    rw (
      e.reader,
      e.outbox,
      e.factory,
      e.registers,
      store-alike p.settings q.settings (settings-valid p.settings s.valid.settings) e.ahead record_end refl e.behind,
    )
