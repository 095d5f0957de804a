-- Laws of an alert request: what is retained, the alerts that move down, and the text of the reply.
-- Assumes nothing.
use mathlib.Core.Path.{◌≡◌, refl, ap, ◌∙◌}
use mathlib.Core.Bool.{true, false, cond}
use mathlib.Core.List.{List, [], ◌∷◌, ◌++◌, append_assoc}
use Prim.Native.Nat.{ℕ, ◌+◌, ◌-◌, ◌*◌, ◌^◌, ◌≤◌, ◌<◌}
use native.Mathlib.Nat.{add-zero}
use native.Mathlib.Omega.{arith}
use borrow.Author.Tests.{eq-eqb, ne_eqb, eqb-false}
use lib.Dec.{leb, eqb}
use lib.ListN.{length, take, drop, set, replicate, length-append, length-set}
use lib.Seq.{paste, take-take, drop-drop}
use Rattle.octets.specs.Bytes.{bytes, number, run, number_at, overlay, put, moved_down}
use Rattle.octets.proofs.Numbers.{length-bytes, number-bytes, one_byte}
use Rattle.octets.proofs.Conditions.{cond-by}
use Rattle.octets.proofs.Overlay.{length_run, length-overlay, overlay-before, overlay-after, overlay-part, overlay-one}
use Rattle.octets.proofs.Overlay.{overlay-more, put-fits, moved_down-fits, next-put}
use Rattle.supervisor.specs.Limits.{most_alerts, longest_alert}
use Rattle.supervisor.specs.Layout
use Rattle.supervisor.specs.Valid.{valid_registers}
use Rattle.responder.specs.Requests.{clear_bit}
use Rattle.responder.specs.Receive.{with_reply, moved_alerts, with_taken, is_retained, alert_registers, alert_parts, alert_answered}
use Rattle.responder.specs.Receive.{sent_box}
use Rattle.responder.specs.Receive.{Head, reply_head, reply_bytes}
use Rattle.supervisor.proofs.ValidLaws.{registers-valid, all-each, alert-valid}
use Rattle.responder.proofs.RecordLaws.{marked, length_marked, number-stored}

-- ---- whether a reply is retained

module _ (r : List ℕ) (sequence : ℕ) {n : ℕ} (e : n ≡ Layout.retained_version r) where
  pub none_kept : n ≡ 0 → false ≡ is_retained r sequence
  unfolding is_retained
  none_kept f = rw (← e, eq-eqb _ _ f)

  pub kept_by : {s : ℕ} → (n ≡ 0 → ⊥) → s ≡ number_at 8 r Layout.retained_sequence_offset → eqb s sequence ≡ is_retained r sequence
  unfolding is_retained
  kept_by f g = rw (← e, ne_eqb _ _ f, g)

-- ---- what is retained

-- a run put over as many bytes of the same list
pasted : (at from n : ℕ) (xs s : List ℕ) → run from n s ≡ xs → length xs ≡ n → paste s at (drop from s) n ≡ overlay at xs s
unfolding overlay
pasted at from n xs s e f = rw (f, ← e) (simp append_assoc)

three-zeros : bytes 2 0 ++ 0 ∷ [] ≡ replicate 3 0
unfolding bytes
three-zeros = refl

module _ (r : List ℕ) (version sequence : ℕ) (small : version < 256) (long : Layout.registers_length ≤ length r) where
  -- action 0 and no text
  pub none_retained : {s t : List ℕ} → Layout.alert_count r ≡ 0
      → s ≡ put Layout.retained_sequence_offset (bytes 8 sequence) (set r Layout.retained_offset version)
      → t ≡ put Layout.retained_alert_offset (bytes 2 0) s
      → set t (Layout.retained_alert_offset + Layout.alert_action_offset) 0 ≡ with_reply r version sequence
  unfolding with_reply
  none_retained e f g =
      let at = Layout.retained_offset in
      let head = bytes 1 version ++ bytes 8 sequence in
      let a = length_marked version 8 sequence in
      let b : length (head ++ bytes 2 0) ≡ 11 = simp (length-append, length-bytes) in
      let m = rw b at (overlay-more at 0 (head ++ bytes 2 0) r (omega arith)) in
      rw (
        g,
        f,
        marked version 8 sequence at r small (omega arith),
        next-put at Layout.retained_alert_offset head r (omega arith) (bytes 2 0) (omega (arith, length-bytes 2 0)),
        m,
        eq-eqb (Layout.alert_count r) 0 e,
      )
      (simp (append_assoc, three-zeros))

  -- the oldest alert
  pub oldest-retained : {s u : List ℕ} → (Layout.alert_count r ≡ 0 → ⊥)
      → s ≡ put Layout.retained_sequence_offset (bytes 8 sequence) (set r Layout.retained_offset version)
      → u ≡ paste s Layout.retained_alert_offset (drop Layout.alerts_offset s) Layout.alert_length → u ≡ with_reply r version sequence
  unfolding with_reply
  oldest-retained {s} {u} e f h =
      let at = Layout.retained_offset in
      let head = bytes 1 version ++ bytes 8 sequence in
      let a = length_marked version 8 sequence in
      let i : s ≡ overlay at head r = f ∙ marked version 8 sequence at r small (omega arith) in
      let j = ap length i ∙ length-overlay at head r (omega arith) in
      let slot = run Layout.alerts_offset Layout.alert_length r in
      let k = length_run Layout.alerts_offset Layout.alert_length r (omega arith) in
      let l : length (overlay at head r) ≡ length r = length-overlay at head r (omega arith) in
      let m : run Layout.alerts_offset Layout.alert_length s ≡ slot
      = rw i (overlay-before at Layout.alerts_offset Layout.alert_length head r (omega arith) (omega arith)) in
      let o : u ≡ overlay Layout.retained_alert_offset slot s
      = h ∙ pasted Layout.retained_alert_offset Layout.alerts_offset Layout.alert_length slot s m k in
      o
      ∙ rw (
        i,
        ← put-fits Layout.retained_alert_offset slot (overlay at head r) (omega arith),
        next-put at Layout.retained_alert_offset head r (omega arith) slot (omega arith),
        ne_eqb (Layout.alert_count r) 0 e,
        append_assoc,
      )

  -- ---- the alerts that are left

  pub alert-taken : {count status left next : ℕ} {s t u : List ℕ} → count ≡ Layout.alert_count r → count < 256 → status ≡ Layout.status_of r
      → s ≡ with_reply r version sequence → length s ≡ length r
      → t ≡ moved_down s (Layout.alert_offset 1) Layout.alerts_offset ((most_alerts - 1) * Layout.alert_length) → length t ≡ length s
      → left ≡ count - 1 → next ≡ cond (leb count 1) (clear_bit status 1) status
      → u ≡ put Layout.status_offset (bytes 8 next) (set t Layout.alert_count_offset left) → u ≡ with_taken r version sequence
  unfolding with_taken moved_alerts
  alert-taken {left} {next} {s} {t} n byte o e l f m a h i =
      let k = length-set t Layout.alert_count_offset left in
      number-stored 8 Layout.status_offset (set t Layout.alert_count_offset left) (omega arith) h i
      ∙ rw (
        overlay-one Layout.alert_count_offset left t (omega arith),
        f,
        moved_down-fits s (Layout.alert_offset 1) Layout.alerts_offset ((most_alerts - 1) * Layout.alert_length) (omega arith)
            (omega arith),
        e,
        ← one_byte left (omega arith),
        a,
        n,
        o,
      )

-- ---- the retained reply's bytes: its version, its request's sequence, its alert

abbrev pub retained_bytes : ℕ → ℕ → List ℕ → List ℕ
retained_bytes version sequence zs = bytes 1 version ++ (bytes 8 sequence ++ zs)

pub length_retained : (version sequence : ℕ) (zs : List ℕ) → length (retained_bytes version sequence zs) ≡ 9 + length zs
length_retained version sequence zs = simp (length-append, length-bytes) (omega arith)

abbrev pub retaining : List ℕ → ℕ → ℕ → List ℕ → List ℕ
retaining r version sequence zs = overlay Layout.retained_offset (retained_bytes version sequence zs) r

module _ (r : List ℕ) (version sequence : ℕ) (zs : List ℕ) (room : Layout.retained_offset ≤ length r) where
  pub retaining-version : version < 256 → Layout.retained_version (retaining r version sequence zs) ≡ version
  unfolding bytes
  retaining-version h =
      ap number (rw add-zero at (overlay-part Layout.retained_offset 0 1 (retained_bytes version sequence zs) r room (omega arith)))
      ∙ number-bytes 1 version (omega arith)

  pub retaining-sequence : sequence < 2 ^ 64 → number_at 8 (retaining r version sequence zs) Layout.retained_sequence_offset ≡ sequence
  unfolding bytes
  retaining-sequence h =
      ap number (overlay-part Layout.retained_offset 1 8 (retained_bytes version sequence zs) r room (omega arith))
      ∙ number-bytes 8 sequence (omega arith)

  pub retaining-alert : (j n : ℕ) → j + n ≤ length zs
      → run (Layout.retained_alert_offset + j) n (retaining r version sequence zs) ≡ run j n zs
  unfolding bytes
  retaining-alert j n h =
      let e : Layout.retained_offset + (9 + j) ≡ Layout.retained_alert_offset + j = omega arith in
      let part =
      overlay-part Layout.retained_offset (9 + j) n (retained_bytes version sequence zs) r room
      (omega (arith, length_retained version sequence zs)) in
      rw (e, ← drop-drop j 9 (retained_bytes version sequence zs)) at part

-- ---- the text of the reply

no_text : number (take 2 (replicate 3 0)) ≤ longest_alert
unfolding number
no_text = omega arith

-- registers as long as others, whose retained alert has no more than the longest text
pub record Settled (r s : List ℕ) : Type 0 where
  pub same : length s ≡ length r
  pub text : Layout.alert_text_length s Layout.retained_alert_offset ≤ longest_alert

module _ (r : List ℕ) (version sequence : ℕ) (v : valid_registers r ≡ true) where
  kept-settled : (zs : List ℕ) → 2 ≤ length zs → length zs ≤ Layout.alert_length → number (take 2 zs) ≤ longest_alert
      → Settled r (retaining r version sequence zs)
  kept-settled zs l m h =
      let long = (registers-valid r v).long in
      let n = length_retained version sequence zs in
      record {
        same = length-overlay Layout.retained_offset (retained_bytes version sequence zs) r (omega arith);
        text = rw (rw add-zero at (retaining-alert r version sequence zs (omega arith) 0 2 (omega arith))) h;
      }

  pub retained-settled : Settled r (with_reply r version sequence)
  unfolding with_reply
  retained-settled =
      let g = registers-valid r v in
      let slot = run Layout.alerts_offset Layout.alert_length r in
      cond-by (λ zs. Settled r (retaining r version sequence zs)) (eqb (Layout.alert_count r) 0) (replicate 3 0) slot
      (λ e. kept-settled (replicate 3 0) (omega arith) (omega arith) no_text)
      (λ e.
      let some : Layout.alert_count r ≡ 0 → ⊥ = eqb-false (Layout.alert_count r) 0 e in
      let k = length_run Layout.alerts_offset Layout.alert_length r (omega arith) in
      let oldest = alert-valid r 0 (all-each _ _ g.rest.alerts 0 (omega arith)) in
      kept-settled slot (omega arith) (omega arith)
      (rw (take-take 2 Layout.alert_length (drop Layout.alerts_offset r) (omega arith)) oldest.size))

  -- bytes put before what is retained
  before-settled : (at : ℕ) (xs : List ℕ) {s : List ℕ} → at + length xs ≤ Layout.retained_offset → Settled r s → Settled r (overlay at xs s)
  before-settled at xs {s} h a =
      let long = (registers-valid r v).long in
      record {
        same = length-overlay at xs s (omega arith) ∙ a.same;
        text = rw (overlay-after at Layout.retained_alert_offset 2 xs s (omega arith) (omega arith)) a.text;
      }

  taken-settled : Settled r (with_taken r version sequence)
  unfolding with_taken moved_alerts
  taken-settled =
      let long = (registers-valid r v).long in
      let a = retained-settled in
      before-settled Layout.status_offset _ (rw length-bytes (omega arith))
      (before-settled Layout.alert_count_offset _ (rw length-bytes (omega arith))
      (before-settled Layout.alerts_offset _
      (rw (length_run (Layout.alert_offset 1) ((most_alerts - 1) * Layout.alert_length) (with_reply r version sequence) (omega arith))
      (omega arith))
      a))

  pub settled : {s : List ℕ} → s ≡ alert_registers r version sequence → Settled r s
  unfolding alert_registers
  settled e =
      rw e
      (cond-by (Settled r) (is_retained r sequence) r (with_taken r version sequence)
      (λ _. record { same = refl; text = (registers-valid r v).rest.text })
      (λ _. taken-settled))

-- the reply, from the registers as they are then
pub alert-sent : (o r : List ℕ) (version sequence : ℕ) {n first : ℕ} {h : Head} {s p : List ℕ} → s ≡ alert_registers r version sequence
    → n ≡ Layout.alert_text_length s Layout.retained_alert_offset → first ≡ Layout.retained_version s → h ≡ reply_head first sequence
    → p ≡ sent_box (reply_bytes h 0x07 (run (Layout.retained_alert_offset + Layout.alert_action_offset) (n + 1) s)) o
    → alert_parts p s ≡ alert_answered o r version sequence
unfolding alert_answered
alert-sent o r version sequence {n} e f i j g =
    let k : n + 1 ≡ 1 + n = omega arith in
    rw (g, j, i, k, f, e)
