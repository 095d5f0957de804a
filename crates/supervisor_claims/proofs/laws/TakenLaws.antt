-- The registers after an alert request: what is retained, the alerts that wait, the status, and the reply's data.
-- Assumes nothing.
use mathlib.Core.Path.{◌≡◌, refl, ap, ◌∙◌}
use mathlib.Core.Bool.{Bool, true, false, cond, not, ◌&&◌, false≢true}
use mathlib.Core.List.{List, [], ◌∷◌}
use mathlib.Core.Option.{none, some}
use Prim.Native.Nat.{ℕ, zero, suc, ◌+◌, ◌-◌, ◌^◌, ◌≤◌, ◌<◌}
use native.Mathlib.Nat.{add-zero}
use native.Mathlib.Omega.{arith}
use lib.Dec.{leb, eqb}
use lib.ListN.{length, drop, replicate}
use borrow.Author.Tests.{lt-leb, eq-eqb, ne_eqb}
use Rattle.octets.specs.Bytes.{Byte, Each, number, number_at, bytes, run, overlay}
use Rattle.octets.proofs.Conditions.{cond-by, cond_both}
use Rattle.octets.proofs.Overlay.{length_run, number-run, run-add, run-run}
use Rattle.octets.proofs.SameBytes.{Same, same_then, same-within, number_same, stored-number, stored-before, stored-after}
use Rattle.octets.proofs.Each.{each-run}
use Rattle.supervisor.specs.Limits
use Rattle.supervisor.specs.Layout
use Rattle.supervisor.specs.State.{Alert}
use Rattle.supervisor.specs.Valid.{valid_alert}
use Rattle.supervisor.specs.Calls
use Rattle.supervisor.proofs.ValidLaws.{all-each, alert-valid, RegistersValid, registers-valid}
use Rattle.responder.proofs.TakenLaws.{retained_bytes, length_retained, retaining-version, retaining-sequence, retaining-alert, settled}
use Rattle.responder.proofs.KeptLaws.{taken-small, rest_length, length_rest, moved_before, moved-after, moved-run, retained-before}
use Rattle.responder.proofs.StepLaws.{served-small}
use Rattle.responder.specs.Requests
use Rattle.responder.specs.Receive
use Rattle.supervisor_claims.specs.View.{tabulated, alert_of, retained_of, view}
use Rattle.supervisor_claims.specs.Sound.{Valid, with_registers}
use Rattle.supervisor_claims.proofs.laws.ViewLaws.{length-listed, listed_same, listed-first}
use Rattle.supervisor_claims.proofs.laws.RegisterLaws.{alerts_of, recorded-same}
use Rattle.supervisor_claims.proofs.laws.PartLaws.{Like, like-itself, like-then, like-put, like-stored, each_number}

-- ---- the first of some values, and the others

module _ {A : Type 0} where
  listed-others : (f : ℕ → A) (n : ℕ) → tabulated (λ i. f (suc i)) (n - 1) ≡ drop 1 (tabulated f n)
  unfolding tabulated
  listed-others f zero = refl
  listed-others f (suc n) = let e : suc n - 1 ≡ n = omega arith in rw (e, listed-first f n)

-- the status, by how many wait
status-after : (status : ℕ) (waiting : List Alert)
    → cond (leb (length waiting) 1) (Requests.clear_bit status 1) status ≡ Requests.status_after status (Requests.others waiting)
status-after status [] = refl
status-after status (a ∷ []) = refl
status-after status (a ∷ b ∷ rest) = rw (lt-leb (suc (suc (length rest))) 1 (omega arith))

-- ---- bytes at another offset

-- s has from bt on what r has from at on
record Moved (size at bt : ℕ) (r s : List ℕ) : Type 0 where
  runs : (j n : ℕ) → j + n ≤ size → run (bt + j) n s ≡ run (at + j) n r

alert-moved : {at bt : ℕ} {r s : List ℕ} → Moved Layout.alert_length at bt r s → Layout.alert_text_length r at ≤ Limits.longest_alert
    → alert_of s bt ≡ alert_of r at
unfolding alert_of
alert-moved {at} {r = r} moved h =
    rw (
      ap number (simp add-zero at (moved.runs 0 2 (omega arith))),
      ap number (moved.runs Layout.alert_action_offset 1 (omega arith)),
      moved.runs Layout.alert_text_offset (Layout.alert_text_length r at) (omega arith),
    )

-- ---- the registers of an alert request that takes an alert, or none

-- the bytes of the alert that is retained: the oldest one's, or action 0 and no text
abbrev first_bytes : List ℕ → List ℕ
first_bytes r = cond (eqb (Layout.alert_count r) 0) (replicate 3 0) (run Layout.alerts_offset Layout.alert_length r)

-- the registers before the status is stored
abbrev counted : List ℕ → ℕ → ℕ → List ℕ
counted r version sequence =
    overlay Layout.alert_count_offset (bytes 1 (Layout.alert_count r - 1)) (Receive.moved_alerts (Receive.with_reply r version sequence))

abbrev status_then : List ℕ → ℕ
status_then r = cond (leb (Layout.alert_count r) 1) (Requests.clear_bit (Layout.status_of r) 1) (Layout.status_of r)

three-zeros : Each Byte (replicate 3 0)
three-zeros = (omega arith, (omega arith, (omega arith, tt)))

module _ (r : List ℕ) (version sequence : ℕ) (w : RegistersValid r) where
  first-long : (3 ≤ length (first_bytes r)) × (length (first_bytes r) ≤ Layout.alert_length)
  first-long =
      let n = length_run Layout.alerts_offset Layout.alert_length r (omega arith) in
      cond-by (λ zs. (3 ≤ length zs) × (length zs ≤ Layout.alert_length)) (eqb (Layout.alert_count r) 0) (replicate 3 0) _
      (λ e. omega arith) (λ e. omega arith)

  first-bytes : Each Byte r → Each Byte (first_bytes r)
  first-bytes b =
      cond-by (Each Byte) (eqb (Layout.alert_count r) 0) (replicate 3 0) _
      (λ e. three-zeros) (λ e. each-run Layout.alerts_offset Layout.alert_length r b)

  retained-like : Like r (Receive.with_reply r version sequence)
  unfolding Receive.with_reply
  retained-like =
      like-put Layout.retained_offset (retained_bytes version sequence (first_bytes r)) r
      (omega (arith, first-long, length_retained version sequence (first_bytes r)))
      (λ b. each_number 1 version _ (each_number 8 sequence _ (first-bytes b)))

  retained-long : Layout.registers_length ≤ length (Receive.with_reply r version sequence)
  retained-long = omega (arith, retained-like.long)

  moved-like : Like (Receive.with_reply r version sequence) (Receive.moved_alerts (Receive.with_reply r version sequence))
  unfolding Receive.moved_alerts
  moved-like =
      let s = Receive.with_reply r version sequence in
      like-put Layout.alerts_offset (run (Layout.alert_offset 1) rest_length s) s
      (omega (arith, length_rest s retained-long, retained-long)) (each-run (Layout.alert_offset 1) rest_length s)

  counted-like : Like r (counted r version sequence)
  counted-like =
      let l = like-then retained-like moved-like in
      like-then l (like-stored 1 Layout.alert_count_offset _ _ (omega (arith, l.long)))

  pub taken-like : Like r (Receive.with_taken r version sequence)
  unfolding Receive.with_taken
  taken-like =
      like-then counted-like (like-stored 8 Layout.status_offset _ (counted r version sequence) (omega (arith, counted-like.long)))

  -- ---- what stays

  counted-room : Layout.registers_length ≤ length (Receive.moved_alerts (Receive.with_reply r version sequence))
  counted-room = omega (arith, retained-long, moved-like.long)

  -- the alerts and the retained reply
  counted-after : Same Layout.alerts_offset Layout.registers_length (Receive.moved_alerts (Receive.with_reply r version sequence))
      (counted r version sequence)
  counted-after = stored-after 1 Layout.alert_count_offset _ _ (omega (arith, counted-room)) (omega arith)

  taken-after : Same Layout.options_offset Layout.registers_length (counted r version sequence) (Receive.with_taken r version sequence)
  unfolding Receive.with_taken
  taken-after = stored-after 8 Layout.status_offset _ _ (omega (arith, counted-like.long)) (omega arith)

  -- the options, the flags and the records
  front : Same Layout.options_offset Layout.alert_count_offset r (Receive.with_taken r version sequence)
  front =
      same_then (retained-before r version sequence w.long (omega arith))
      (same_then (moved_before (Receive.with_reply r version sequence) retained-long (omega arith))
      (same_then (stored-before 1 Layout.alert_count_offset _ _ (omega (arith, counted-room)) (omega arith))
      (same-within taken-after (omega arith))))

  slots : Same Layout.alerts_offset Layout.registers_length (Receive.moved_alerts (Receive.with_reply r version sequence))
      (Receive.with_taken r version sequence)
  slots = same_then counted-after (same-within taken-after (omega arith))

  kept : Same Layout.retained_offset Layout.registers_length (Receive.with_reply r version sequence) (Receive.with_taken r version sequence)
  kept = same_then (moved-after (Receive.with_reply r version sequence) retained-long (omega arith)) (same-within slots (omega arith))

  -- ---- the status and the count

  taken-status : Layout.status_of (Receive.with_taken r version sequence) ≡ status_then r
  unfolding Receive.with_taken
  taken-status =
      let small = taken-small (Layout.status_of r) (Layout.alert_count r) w.status in
      stored-number 8 Layout.status_offset (status_then r) (counted r version sequence) (omega (arith, counted-like.long)) (omega arith)

  taken-count : Layout.alert_count (Receive.with_taken r version sequence) ≡ Layout.alert_count r - 1
  taken-count =
      number_same taken-after 1 Layout.alert_count_offset (omega arith)
      ∙ stored-number 1 Layout.alert_count_offset (Layout.alert_count r - 1) _ (omega (arith, counted-room)) (omega arith)

  -- ---- the alerts that wait

  valid-at : (i : ℕ) → i < Layout.alert_count r → Layout.alert_text_length r (Layout.alert_offset i) ≤ Limits.longest_alert
  valid-at i h = (alert-valid r i (all-each (valid_alert r) _ w.rest.alerts i h)).size

  moved_down : (i : ℕ) → i + 1 < Limits.most_alerts
      → Moved Layout.alert_length (Layout.alert_offset (suc i)) (Layout.alert_offset i) r (Receive.with_taken r version sequence)
  moved_down i h = record {
    runs = λ j n k.
        let e : i + 1 ≡ suc i = omega arith in
        let before : Same 0 Layout.retained_offset r (Receive.with_reply r version sequence) =
        retained-before r version sequence w.long (omega arith) in
        slots.runs (Layout.alert_offset i + j) n (omega arith)
        ∙ rw e at (moved-run (Receive.with_reply r version sequence) retained-long i j n (omega arith) k)
        ∙ before.runs (Layout.alert_offset (suc i) + j) n (omega arith);
  }

  taken-waiting : alerts_of (Receive.with_taken r version sequence) (Layout.alert_count r - 1)
      ≡ Requests.others (alerts_of r (Layout.alert_count r))
  taken-waiting =
      listed_same _ (λ i. alert_of r (Layout.alert_offset (suc i))) _ (λ i h.
      alert-moved (moved_down i (omega arith)) (valid-at (suc i) (omega arith)))
      ∙ listed-others (λ i. alert_of r (Layout.alert_offset i)) (Layout.alert_count r)

  -- ---- the retained reply

  retained-run : (j n : ℕ) → j + n ≤ length (first_bytes r)
      → run (Layout.retained_alert_offset + j) n (Receive.with_taken r version sequence) ≡ run j n (first_bytes r)
  unfolding Receive.with_reply
  retained-run j n h =
      kept.runs (Layout.retained_alert_offset + j) n (omega (arith, first-long))
      ∙ retaining-alert r version sequence (first_bytes r) (omega arith) j n h

  none-taken : Layout.alert_count r ≡ 0 → alert_of (Receive.with_taken r version sequence) Layout.retained_alert_offset ≡ Requests.oldest []
  unfolding alert_of number Requests.oldest
  none-taken e =
      let f = eq-eqb (Layout.alert_count r) 0 e in
      let part : (j n : ℕ) → j + n ≤ 3
      → run (Layout.retained_alert_offset + j) n (Receive.with_taken r version sequence) ≡ run j n (replicate 3 0)
      = λ j n h. rw f at (retained-run j n (rw f h)) in
      rw (rw add-zero at (part 0 2 (omega arith)), part 2 1 (omega arith))

  first_taken : (Layout.alert_count r ≡ 0 → ⊥)
      → alert_of (Receive.with_taken r version sequence) Layout.retained_alert_offset ≡ alert_of r (Layout.alert_offset 0)
  first_taken e =
      let f = ne_eqb (Layout.alert_count r) 0 e in
      let size = length_run Layout.alerts_offset Layout.alert_length r (omega arith) in
      let moved : Moved Layout.alert_length (Layout.alert_offset 0) Layout.retained_alert_offset r (Receive.with_taken r version sequence)
      = record {
        runs = λ j n h. rw f at (retained-run j n (rw f (omega arith))) ∙ run-run Layout.alerts_offset Layout.alert_length j n r h;
      } in
      alert-moved moved (valid-at 0 (omega arith))

  oldest-taken : (n : ℕ) → Layout.alert_count r ≡ n
      → alert_of (Receive.with_taken r version sequence) Layout.retained_alert_offset ≡ Requests.oldest (alerts_of r n)
  unfolding tabulated Requests.oldest
  oldest-taken zero e = none-taken e
  oldest-taken (suc n) e = rw (listed-first (λ i. alert_of r (Layout.alert_offset i)) n) (first_taken (λ f. omega arith))

  taken-version : version < 256 → Layout.retained_version (Receive.with_taken r version sequence) ≡ version
  unfolding Receive.with_reply
  taken-version small =
      number_same kept 1 Layout.retained_offset (omega arith) ∙ retaining-version r version sequence (first_bytes r) (omega arith) small

  taken-retained : (version ≡ 0 → ⊥) → version < 256 → sequence < 2 ^ 64
      → retained_of (Receive.with_taken r version sequence)
      ≡ some (record { version = version; sequence = sequence; alert = Requests.oldest (alerts_of r (Layout.alert_count r)) })
  unfolding retained_of Receive.with_reply
  taken-retained positive small h =
      let zs = first_bytes r in
      rw (
        taken-version small,
        ne_eqb version 0 positive,
        number_same kept 8 Layout.retained_sequence_offset (omega arith) ∙ retaining-sequence r version sequence zs (omega arith) h,
        oldest-taken (Layout.alert_count r) refl,
      )

-- ---- the reply's data

retained-data : (s : List ℕ) → Layout.registers_length ≤ length s
    → Layout.alert_text_length s Layout.retained_alert_offset ≤ Limits.longest_alert → Each Byte s
    → Receive.retained_data s ≡ Requests.alert_data (alert_of s Layout.retained_alert_offset)
unfolding alert_of
retained-data s long h b =
    let at = Layout.retained_alert_offset + Layout.alert_action_offset in
    rw (number-run 1 at s (omega arith) b) (run-add at 1 (Layout.alert_text_length s Layout.retained_alert_offset) s)

-- ---- an alert request

-- registers that hold what a request leaves, and the version and the alert of its reply
pub record Asked (p : Calls.Parts) (s : List ℕ) (c : Requests.Carried) : Type 0 where
  pub state : view (with_registers p s) ≡ c.state
  pub reply : c.reply
      ≡ some
      (record {
        version = Layout.retained_version s;
        command = 0x07;
        payload = Requests.alert_data (alert_of s Layout.retained_alert_offset);
      })
  pub like : Like p.registers s

module _ (p : Calls.Parts) (v : Valid p) (version sequence : ℕ) (is : Requests.version_served version ≡ true) (h : sequence < 2 ^ 64) where
  some-version : (version ≡ 0 → ⊥) × (version < 256)
  some-version = (λ e. false≢true (rw e at is), omega (arith, served-small version is))

  -- an alert is taken, or none
  taken : Asked p (Receive.with_taken p.registers version sequence) (Requests.alert_taken version (view p) sequence)
  unfolding view Requests.alert_taken
  taken =
      let r = p.registers in
      let w = registers-valid r v.registers in
      let same = front r version sequence w in
      let status : Layout.status_of (Receive.with_taken r version sequence)
      ≡ Requests.status_after (Layout.status_of r) (Requests.others (alerts_of r (Layout.alert_count r)))
      = taken-status r version sequence w ∙ rw length-listed at (status-after (Layout.status_of r) (alerts_of r (Layout.alert_count r))) in
      record {
        state = rw (
          status,
          number_same same 8 Layout.options_offset (omega arith),
          number_same same 1 Layout.reboot_offset (omega arith),
          number_same same 1 Layout.power_off_offset (omega arith),
          recorded-same same Layout.boot_failure_offset (omega arith),
          recorded-same same Layout.panic_offset (omega arith),
          taken-count r version sequence w,
          taken-waiting r version sequence w,
          taken-retained r version sequence w some-version.0 some-version.1 h,
        );
        reply = rw (taken-version r version sequence w some-version.1, oldest-taken r version sequence w (Layout.alert_count r) refl);
        like = taken-like r version sequence w;
      }

  -- the retained reply again, or another
  by-retained : (t : Bool) (n : ℕ) → let r = p.registers in
      let a = alert_of r Layout.retained_alert_offset in
      Asked p (cond (not t && eqb n sequence) r (Receive.with_taken r version sequence))
      (Requests.alert_asked version (view p) sequence
      (cond t none (some (record { version = Layout.retained_version r; sequence = n; alert = a }))))
  unfolding Requests.alert_asked
  by-retained false n =
      cond_both (Asked p) (eqb n sequence) (λ e. record { state = refl; reply = refl; like = like-itself p.registers }) (λ e. taken)
  by-retained true n = taken

  pub alert-asked : Asked p (Receive.alert_registers p.registers version sequence)
      (Requests.alert_asked version (view p) sequence (view p).retained)
  unfolding Receive.alert_registers Receive.is_retained view retained_of
  alert-asked = by-retained (eqb (Layout.retained_version p.registers) 0) (number_at 8 p.registers Layout.retained_sequence_offset)

  pub alert-reply : Each Byte p.registers → let s = Receive.alert_registers p.registers version sequence in
      (Requests.alert_asked version (view p) sequence (view p).retained).reply
      ≡ some (record { version = Layout.retained_version s; command = 0x07; payload = Receive.retained_data s })
  alert-reply b =
      let r = p.registers in
      let s = settled r version sequence v.registers refl in
      let w = registers-valid r v.registers in
      rw (retained-data (Receive.alert_registers r version sequence) (omega arith) s.text (alert-asked.like.bytes b))
      alert-asked.reply
