-- Two runs whose parts are the same but for the passphrase's record (document 02, item 14).
-- The same calls, of the supervisor and of the line layer, return and write the same and leave such parts. Assumes nothing.
use mathlib.Core.Path.{◌≡◌, refl, sym, ap, ◌∙◌}
use mathlib.Core.Logic.{inl}
use mathlib.Core.Bool.{Bool, true, false, false≢true}
use mathlib.Core.List.{List, [], ◌∷◌}
use Prim.Native.Nat.{ℕ, ◌+◌}
use native.Mathlib.Omega.{arith}
use Rattle.line.specs.Frame.{split}
use Rattle.line.specs.Reader.{received_of, read_promise, reader_start_promise}
use Rattle.line_claims.specs.Calls.{lent_state, back}
use Rattle.supervisor.specs.Calls.{Parts}
use Rattle.supervisor_claims.specs.View.{view}
use Rattle.supervisor_claims.specs.Sound.{Sound, with_reader}
use Rattle.supervisor_claims.specs.Histories.{Typed, Did, Made, made}
use Rattle.supervisor_claims.specs.FrameHistory.{bytes_received_by, starts_anew}
use Rattle.supervisor_claims.specs.MixedCalls
use Rattle.supervisor_claims.specs.MixedCalls.{MixedCall, TypedMixed, AllTypedMixed, DidMixed, made_mixed, outputs_mixed, left_mixed}
use Rattle.supervisor_claims.specs.MixedCalls.{mixed_since}
use Rattle.supervisor_claims.specs.TwoRuns.{left_by_run, received_in_run, SameButPassphrase, passphrase_edition, sets_brought}
use Rattle.supervisor_claims.specs.TwoRuns.{sets_brought_by, starts_anew_by, mixed_sets_to_come}
use Rattle.supervisor_claims.specs.Item14.{TwoRuns}
use Rattle.supervisor_claims.proofs.laws.Progress.{Since}
use Rattle.supervisor_claims.proofs.claims.History.{one_call}
use Rattle.supervisor_claims.proofs.claims.FramesClaim.{made-carried}
use Rattle.supervisor_claims.proofs.claims.MixedClaim.{mixed-meets, call-sound}
use Rattle.supervisor_claims.proofs.claims.TwoRunLaws.{Grow, grow-less, Room, Pair, room-less, made-same}
use Rattle.supervisor_claims.proofs.claims.FedSame.{grow-of, sets_in_bytes, sets-closed}
use Rattle.supervisor_claims.proofs.claims.CallsSame.{anew-equal, call-parts}
use Rattle.supervisor_claims.proofs.TwoRuns.{run_sound, run-since, same-states, without-like, view-room}

-- ---- one call

-- both editions of the passphrase can grow by n, or they are equal
abbrev pub CanGrow : ℕ → Parts → Parts → Type 0
CanGrow n p q = Grow n (passphrase_edition p) (passphrase_edition q)

-- what two runs answer, write outside the state and leave
pub record SameDid (n : ℕ) (a b : DidMixed) : Type 0 where
  pub answer : a.answer ≡ b.answer
  pub out : a.out ≡ b.out
  pub parts : SameButPassphrase a.parts b.parts
  pub grow : CanGrow n a.parts b.parts

-- the bytes w have come in the first
module _ (w : List ℕ) (p q : Parts) (sp : Sound p) (sq : Sound q) (h : Since (split w).rest (view p)) (e : SameButPassphrase p q) where
  pub since-same : Since (split w).rest (view q)
  unfolding view
  since-same = record { received = ap received_of (sym e.reader) ∙ h.received; nonzero = h.nonzero }

  module _ (m : Made) (t : Typed m.call) (n : ℕ) (x : starts_anew m ≡ false)
      (g : CanGrow (sets_brought w m + n) p q) where
    pair : Pair (sets_brought w m + n) (view p) (view q)
    pair = record {
      like = without-like (view p) (view q) (same-states p q sp e);
      room = view-room (sets_brought w m + n) p q g;
    }

    read-room : Room (sets_in_bytes (view p).received (bytes_received_by m)) (view p).settings (view q).settings
    unfolding sets_brought
    read-room = rw (h.received, sets-closed w (bytes_received_by m) h.nonzero) (room-less (omega arith) pair.room)

    supervisor-same : SameDid n (made_mixed p (MixedCalls.supervisor m)) (made_mixed q (MixedCalls.supervisor m))
    unfolding made_mixed sets_brought
    supervisor-same =
        let k = made-same w (view p) (view q) m n x pair in
        let y = one_call p m sp t in
        let z = one_call q m sq t in
        let c = (made-carried w (view p) h m).0 in
        let d = (made-carried w (view q) since-same m).0 in
        record {
          answer = ap MixedCalls.MixedAnswer.supervisor (y.answer ∙ rw (← c, ← d) k.answer ∙ sym z.answer);
          out = y.out ∙ rw (← c, ← d) k.out ∙ sym z.out;
          parts = call-parts p q e sp sq m t x read-room;
          grow = grow-of n (made p m).parts (made q m).parts (rw (y.leaves.0, z.leaves.0, ← c, ← d) k.pair.room);
        }

  -- another reader's part, by the reader's part
  reader-same : (f : List ℕ → List ℕ) → SameButPassphrase (with_reader p (f p.reader)) (with_reader q (f q.reader))
  reader-same f = record {
    reader = ap f e.reader;
    outbox = e.outbox;
    factory = e.factory;
    ahead = e.ahead;
    behind = e.behind;
    registers = e.registers;
  }

  pub next-same : (c : MixedCall) → TypedMixed c → (n : ℕ) → starts_anew_by c ≡ false → CanGrow (sets_brought_by w c + n) p q
      → SameDid n (made_mixed p c) (made_mixed q c)
  unfolding made_mixed
  next-same (MixedCalls.supervisor m) t n x g = supervisor-same m t n x g
  next-same (MixedCalls.line_start l) t n x g = record {
    answer = rw e.reader;
    out = refl;
    parts = reader-same (λ r. back l r (reader_start_promise (lent_state l r)).state);
    grow = grow-less (omega arith) g;
  }
  next-same (MixedCalls.line_read l piece) t n x g = record {
    answer = rw e.reader;
    out = rw e.reader;
    parts = reader-same (λ r. back l r (read_promise (lent_state l r) piece).state);
    grow = grow-less (omega arith) g;
  }
  next-same (MixedCalls.line_tail l) t n x g =
      record { answer = rw e.reader; out = refl; parts = e; grow = grow-less (omega arith) g }
  next-same (MixedCalls.line_data l k) t n x g =
      record { answer = rw e.reader; out = rw e.reader; parts = e; grow = grow-less (omega arith) g }

  pub anew-mixed : (c : MixedCall) → TypedMixed c → starts_anew_by c ≡ true → made_mixed p c ≡ made_mixed q c
  unfolding made_mixed
  anew-mixed (MixedCalls.supervisor m) t x =
      ap (λ (d : Did). MixedCalls.did_mixed (MixedCalls.MixedAnswer.supervisor d.answer) d.out d.parts)
      (anew-equal p q e sp sq m t x)
  anew-mixed (MixedCalls.line_start l) t x = absurd (false≢true x)
  anew-mixed (MixedCalls.line_read l piece) t x = absurd (false≢true x)
  anew-mixed (MixedCalls.line_tail l) t x = absurd (false≢true x)
  anew-mixed (MixedCalls.line_data l n) t x = absurd (false≢true x)

-- ---- lists of calls

pub same_parts : (p : Parts) → SameButPassphrase p p
same_parts p = record { reader = refl; outbox = refl; factory = refl; ahead = refl; behind = refl; registers = refl }

abbrev Alike : List MixedCall → Parts → Parts → Type 0
Alike cs p q = (outputs_mixed p cs ≡ outputs_mixed q cs) × SameButPassphrase (left_mixed p cs) (left_mixed q cs)

calls_same : (cs : List MixedCall) → AllTypedMixed cs → (w : List ℕ) (p q : Parts) → Sound p → Sound q → Since (split w).rest (view p)
    → SameButPassphrase p q → CanGrow (mixed_sets_to_come w cs) p q → Alike cs p q
unfolding mixed_sets_to_come outputs_mixed left_mixed
calls_same [] t w p q sp sq h e g = (refl, e)
calls_same (c ∷ cs) t w p q sp sq h e g = by (starts_anew_by c) refl (calls_same cs t.1 (mixed_since w c))
  where
    by : (x : Bool) → starts_anew_by c ≡ x
        → ((p' q' : Parts) → Sound p' → Sound q' → Since (split (mixed_since w c)).rest (view p') → SameButPassphrase p' q'
        → CanGrow (mixed_sets_to_come (mixed_since w c) cs) p' q' → Alike cs p' q')
        → Alike (c ∷ cs) p q
    by true x rest = rw (anew-mixed w p q sp sq h e c t.0 x) (refl, same_parts _)
    by false x rest =
        let k = next-same w p q sp sq h e c t.0 (mixed_sets_to_come (mixed_since w c) cs) x (rw x at g) in
        let m = mixed-meets w p sp h c t.0 in
        let f = rest _ _ m.leaves.1 (call-sound q sq c t.0) (rw m.leaves.0 m.since) k.parts k.grow in
        (rw (k.answer, k.out, f.0), f.1)

pub two_runs : TwoRuns
two_runs r s e cs t a b =
    calls_same cs t (received_in_run r) (left_by_run r) (left_by_run s) (run_sound r) (run_sound s) (run-since r) e
    (inl (omega arith, omega arith))
