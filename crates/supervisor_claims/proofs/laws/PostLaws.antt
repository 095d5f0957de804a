-- The registers after an alert was posted: what stays, the status, the alerts that wait, and that they are valid.
-- Assumes nothing.
use mathlib.Core.Path.{◌≡◌, ap, ◌∙◌}
use mathlib.Core.Bool.{true, false}
use mathlib.Core.List.{List, [], ◌∷◌, ◌++◌}
use Prim.Native.Nat.{ℕ, ◌+◌, ◌≤◌, ◌<◌}
use native.Mathlib.Nat.{add-zero}
use native.Mathlib.Numerals.{add-one}
use native.Mathlib.Omega.{arith}
use lib.Dec.{ltb, eqb}
use lib.ListN.{length}
use lib.Seq.{take-length}
use borrow.Author.Tests.{ltb-true, ltb-false, eqb-false}
use Rattle.octets.specs.Bytes.{number, bytes, overlay, bit}
use Rattle.octets.proofs.Conditions.{cond-by}
use Rattle.octets.proofs.Numbers.{number-bytes}
use Rattle.octets.proofs.Overlay.{length-overlay, overlay-part}
use Rattle.octets.proofs.SameBytes.{Same, same-before, same_after, same_then, same-within, number_same, stored-long, stored-number}
use Rattle.octets.proofs.SameBytes.{stored-before, stored-after}
use Rattle.supervisor.specs.Limits
use Rattle.supervisor.specs.Layout
use Rattle.supervisor.specs.Local
use Rattle.supervisor.specs.Valid.{valid_alert, valid_registers}
use Rattle.supervisor.specs.Calls
use Rattle.supervisor.proofs.ValidLaws.{RegistersValid, registers-valid, valid-alert, all_more}
use Rattle.supervisor.proofs.KeptRegisters.{alerts-valid, Kept, kept-valid}
use Rattle.supervisor_claims.specs.View.{tabulated, alert_of}
use Rattle.supervisor_claims.proofs.laws.RegisterLaws.{alerts_of, alert-same, alerts-same}

-- ---- an alert's bytes: the length of its text, its action, its text

abbrev alert_bytes : ℕ → List ℕ → List ℕ
alert_bytes action text = bytes 2 (length text) ++ (bytes 1 action ++ text)

length-alert : (action : ℕ) (text : List ℕ) → length (alert_bytes action text) ≡ Layout.alert_text_offset + length text
unfolding bytes
length-alert action text = omega arith

module _ (at action : ℕ) (text r : List ℕ) (room : at ≤ length r) (byte : action < 256) (short : length text ≤ Limits.longest_alert) where
  put-length : Layout.alert_text_length (overlay at (alert_bytes action text) r) at ≡ length text
  unfolding bytes
  put-length =
      ap number (rw add-zero at (overlay-part at 0 2 (alert_bytes action text) r room (omega arith)))
      ∙ number-bytes 2 (length text) (omega arith)

  put-action : Layout.alert_action (overlay at (alert_bytes action text) r) at ≡ action
  unfolding bytes
  put-action = ap number (overlay-part at 2 1 (alert_bytes action text) r room (omega arith)) ∙ number-bytes 1 action byte

  put-alert : alert_of (overlay at (alert_bytes action text) r) at ≡ record { action = action; text = text }
  unfolding bytes alert_of
  put-alert = rw (put-length, put-action, overlay-part at 3 (length text) (alert_bytes action text) r room (omega arith), take-length)

-- ---- a post that is not refused

pub record Posting (r : List ℕ) (action : ℕ) (text : List ℕ) : Type 0 where
  pub valid : RegistersValid r
  pub nonzero : 1 ≤ action
  pub byte : action < 256
  pub short : length text ≤ Limits.longest_alert
  pub few : Layout.alert_count r < Limits.most_alerts

-- one that passes the tests
pub allowed : (r : List ℕ) (action : ℕ) (text : List ℕ) → valid_registers r ≡ true → action < 256 → eqb action 0 ≡ false
    → ltb Limits.longest_alert (length text) ≡ false → ltb (Layout.alert_count r) Limits.most_alerts ≡ true → Posting r action text
allowed r action text v h e f g = record {
  valid = registers-valid r v;
  nonzero = omega (arith, eqb-false action 0 e);
  byte = h;
  short = ltb-false _ _ f;
  few = ltb-true _ _ g;
}

-- the alert's bytes behind those that wait, then one more that waits
abbrev slotted : List ℕ → ℕ → List ℕ → List ℕ
slotted r action text = overlay (Layout.alert_offset (Layout.alert_count r)) (alert_bytes action text) r

abbrev counted : List ℕ → ℕ → List ℕ → List ℕ
counted r action text = overlay Layout.alert_count_offset (bytes 1 (Layout.alert_count r + 1)) (slotted r action text)

set-small : (n : ℕ) → n ≤ 3 → Local.set_bit n 1 ≤ 3
unfolding Local.set_bit
set-small n h = cond-by (λ m. m ≤ 3) (eqb (bit n 1) 1) n (n + 2) (λ e. h) (λ e. omega (arith, eqb-false (bit n 1) 1 e))

module _ {r : List ℕ} {action : ℕ} {text : List ℕ} (c : Posting r action text) where
  slotted-long : length (slotted r action text) ≡ length r
  slotted-long = length-overlay _ (alert_bytes action text) r (omega (arith, length-alert action text))

  counted-long : length (counted r action text) ≡ length r
  counted-long = stored-long 1 Layout.alert_count_offset _ (slotted r action text) (omega (arith, slotted-long)) ∙ slotted-long

  before-slot : Same 0 (Layout.alert_offset (Layout.alert_count r)) r (slotted r action text)
  before-slot = same-before _ _ r (omega arith) (omega arith)

  after-status : Same Layout.options_offset Layout.registers_length (counted r action text) (Calls.with_alert r action text)
  unfolding Calls.with_alert
  after-status = stored-after 8 Layout.status_offset _ _ (omega (arith, counted-long)) (omega arith)

  -- the options, the flags and the records
  front : Same Layout.options_offset Layout.alert_count_offset r (Calls.with_alert r action text)
  front =
      let l = slotted-long in
      same_then (same-within before-slot (omega arith))
      (same_then (stored-before 1 Layout.alert_count_offset _ _ (omega arith) (omega arith)) (same-within after-status (omega arith)))

  -- the new alert and all behind it; the older ones
  slots : Same Layout.alerts_offset Layout.registers_length (slotted r action text) (Calls.with_alert r action text)
  slots =
      let l = slotted-long in
      same_then (stored-after 1 Layout.alert_count_offset _ _ (omega arith) (omega arith)) (same-within after-status (omega arith))

  older : Same Layout.alerts_offset (Layout.alert_offset (Layout.alert_count r)) r (Calls.with_alert r action text)
  older = same_then (same-within before-slot (omega arith)) (same-within slots (omega arith))

  pub posted-kept : Kept r (Calls.with_alert r action text)
  unfolding Calls.with_alert
  posted-kept =
      let l = length-alert action text in
      record {
        long = stored-long 8 Layout.status_offset _ (counted r action text) (omega (arith, counted-long)) ∙ counted-long;
        flags_and_records = same-within front (omega arith);
        retained = same_then (same_after _ _ r (omega arith) (omega arith)) (same-within slots (omega arith));
      }

  pub posted-status : Layout.status_of (Calls.with_alert r action text) ≡ Local.set_bit (Layout.status_of r) 1
  unfolding Calls.with_alert
  posted-status =
      let small = set-small (Layout.status_of r) c.valid.status in
      stored-number 8 Layout.status_offset _ (counted r action text) (omega (arith, counted-long)) (omega arith)

  pub posted-options : Layout.options_of (Calls.with_alert r action text) ≡ Layout.options_of r
  posted-options = number_same front 8 Layout.options_offset (omega arith)

  pub posted-count : Layout.alert_count (Calls.with_alert r action text) ≡ Layout.alert_count r + 1
  posted-count =
      number_same after-status 1 Layout.alert_count_offset (omega arith)
      ∙ stored-number 1 Layout.alert_count_offset _ (slotted r action text) (omega (arith, slotted-long)) (omega arith)

  pub posted-alerts : alerts_of (Calls.with_alert r action text) (Layout.alert_count r + 1)
      ≡ alerts_of r (Layout.alert_count r) ++ (record { action = action; text = text } ∷ [])
  unfolding tabulated
  posted-alerts =
      let n = Layout.alert_count r in
      let at = Layout.alert_offset n in
      let size = put-length at action text r (omega arith) c.byte c.short in
      rw (
        add-one n,
        alerts-same older n (omega arith) c.valid.rest.alerts,
        alert-same slots at (omega arith) (omega arith),
        put-alert at action text r (omega arith) c.byte c.short,
      )

  pub posted-valid : valid_registers (Calls.with_alert r action text) ≡ true
  posted-valid =
      let n = Layout.alert_count r in
      let at = Layout.alert_offset n in
      let length-put = put-length at action text r (omega arith) c.byte c.short in
      let action-put = put-action at action text r (omega arith) c.byte c.short in
      let length-left = number_same slots 2 at (omega arith) in
      let action-left = number_same slots 1 (at + Layout.alert_action_offset) (omega arith) in
      let new = valid-alert (Calls.with_alert r action text) n (omega arith) in
      let small = set-small (Layout.status_of r) c.valid.status in
      kept-valid posted-kept c.valid (omega (arith, posted-status, posted-count)) (rw posted-options c.valid.options)
      (rw posted-count (all_more (valid_alert _) n (alerts-valid older n (omega arith) c.valid.rest.alerts) new))
