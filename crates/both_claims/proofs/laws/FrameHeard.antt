-- A frame that the main processor's end reads whole, and what receives that read the bytes of one hand out and leave.
-- Assumes nothing.
use mathlib.Core.Path.{◌≡◌, refl, ap, ◌∙◌}
use mathlib.Core.Bool.{true, false}
use mathlib.Core.List.{List, [], ◌∷◌, ◌++◌, append-nil}
use mathlib.Core.Option.{Option, none, some}
use Prim.Native.Nat.{ℕ, zero, suc, ◌^◌, ◌≤◌}
use native.Mathlib.Omega.{arith}
use lib.Dec.{eqb-suc-zero}
use lib.ListN.{length, take, length-append}
use lib.Seq.{append_snoc}
use borrow.Author.Tests.{lt-leb, le-ltb, eq-eqb, ne_eqb}
use Rattle.octets.specs.Bytes.{Each}
use Rattle.line.specs.Limits.{longest_form}
use Rattle.line.specs.Message.{Message}
use Rattle.line.specs.Judge.{good, judge}
use Rattle.line.specs.Judge.{more_received}
use Rattle.line.proofs.Judged.{more_room}
use Rattle.requester.specs.State.{Request, MainState, main_state, outstanding}
use Rattle.requester.specs.Requester
use Rattle.requester.specs.Requester.{main_received, hear, answer, after_heard, main_with_received, reply_sequence}
use Rattle.requester.specs.Calls.{handed_report_of, MainPartsValid}
use Rattle.requester_claims.specs.View.{main_view}
use Rattle.requester_claims.specs.Histories as Main
use Rattle.requester_claims.specs.Histories.{main_meant, main_meant_made, main_enough}
use Rattle.requester_claims.proofs.History.{one_call}
use Rattle.requester_claims.proofs.MeaningLaws.{quiet-byte}
use Rattle.requester_claims.specs.Cuts.{handed_events, MainRead, Listener, after_main_read}

-- ---- a frame

closes-byte : (p : List ℕ) (s : MainState) → s.received ≡ some p → 1 ≤ length p
    → Requester.main_byte s 0 ≡ after_heard (hear s.newest (judge p)) (main_with_received s (some []))
unfolding Requester.main_byte
closes-byte [] s e l = absurd (omega arith)
closes-byte (c ∷ cs) s e l = ap (λ (x : Option (List ℕ)). Requester.main_closed x (main_with_received s (some []))) e

no_stop : (p : List ℕ) (s : MainState) (b : ℕ) → s.received ≡ some p → suc (length p) ≤ longest_form → Requester.stops s (suc b) ≡ false
no_stop p s b e h = rw (eqb-suc-zero, e, lt-leb longest_form (length p) h)

more_byte : (p : List ℕ) (s : MainState) (b : ℕ) → s.received ≡ some p → suc (length p) ≤ longest_form
    → (Requester.main_byte s (suc b)).state ≡ main_with_received s (some (p ++ (suc b ∷ [])))
more_byte p s b e h =
    ap (λ (x : Requester.MainResult). x.state) (quiet-byte s (suc b) (no_stop p s b e h))
    ∙ ap (main_with_received s) (ap (λ (x : Option (List ℕ)). more_received x (suc b)) e ∙ more_room p (suc b) (omega arith))

-- behind the bytes p, which have come
pub frame-heard : (f p : List ℕ) (s : MainState) → Each (λ b. 1 ≤ b) f → s.received ≡ some p → 1 ≤ length (p ++ f)
    → length (p ++ f) ≤ longest_form
    → Requester.receive s (f ++ (0 ∷ []))
    ≡ main_received (length (f ++ (0 ∷ []))) (after_heard (hear s.newest (judge (p ++ f))) (main_with_received s (some [])))
unfolding Requester.receive
frame-heard [] p s z e l h = rw append-nil (ap (main_received 1) (closes-byte p s e (rw append-nil at l)))
frame-heard (zero ∷ f) p s z e l h = absurd (omega (arith, z.0))
frame-heard (suc b ∷ f) p s z e l h =
    let n : suc (length p) ≤ longest_form = omega (arith, length-append p (suc b ∷ f)) in
    let k = append_snoc p (suc b) f in
    let i = frame-heard f (p ++ (suc b ∷ [])) (main_with_received s (some (p ++ (suc b ∷ [])))) z.1 refl (rw k l) (rw k h) in
    rw (no_stop p s b e n, more_byte p s b e n, i, k)

-- ---- an answer

-- a good reply under the newest number that is no decode failure
pub heard-answer : (n : ℕ) (r : Message) → r.version ≡ 1 → r.sequence ≡ reply_sequence n → (r.command ≡ 0x02 → ⊥)
    → hear n (good r) ≡ answer r
unfolding hear
heard-answer n r v q c =
    rw (
      eq-eqb r.version 1 v,
      le-ltb r.sequence (2 ^ 63) (omega (arith, q)),
      ne_eqb r.command 0x02 c,
      eq-eqb r.sequence (reply_sequence n) q,
    )

-- outside a recovery the request outstanding is answered, and then none is outstanding
pub answers-kept : (s : MainState) (q : Request) (r : Message) → s.recovery ≡ none → outstanding s ≡ some q → s.received ≡ some []
    → after_heard (answer r) s
    ≡ Requester.main_result (Requester.answered r) (Requester.main_moved none (main_state s.newest none none false (some [])))
unfolding Requester.settle Requester.main_moved_to
answers-kept s q r calm waits between =
    let kept : s.kept ≡ some q = rw calm at waits in
    rw (calm, kept, between)

-- ---- receives

-- one that is lent enough
pub record ReadsAs (x : Listener) (piece : List ℕ) (y : Listener) : Type 0 where
  pub handed : let z = (Requester.receive (main_view x.parts) piece).result in
      y.handed ≡ x.handed ++ handed_events (handed_report_of z.handed) (Main.handed_data z.handed) z.ended
  pub bytes : y.bytes ≡ x.bytes ++ take (Requester.receive (main_view x.parts) piece).used piece
  pub state : main_view y.parts ≡ (Requester.receive (main_view x.parts) piece).result.state
  pub valid : MainPartsValid y.parts

pub one-read : (x : Listener) (c : MainRead) → MainPartsValid x.parts → main_enough (Main.receive c.piece) c.lent ≡ true
    → ReadsAs x c.piece (after_main_read x c)
unfolding after_main_read main_meant_made main_meant
one-read x c v e =
    let k = one_call x.parts (record { lent = c.lent; call = Main.receive c.piece }) v in
    let a = rw e at k.answer in
    let o = rw e at k.out in
    let s = rw e at k.state in
    rw (a, o) (record { handed = refl; bytes = refl; state = s; valid = k.valid })
