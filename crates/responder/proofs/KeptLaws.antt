-- What a request does keeps the outbox, the settings and the registers valid.
-- Assumes nothing.
use mathlib.Core.Path.{◌≡◌, refl, ap, ◌∙◌}
use mathlib.Core.Logic.{inl, inr}
use mathlib.Core.Bool.{Bool, true, false, cond, ◌||◌, and-eq-true_iff}
use mathlib.Core.List.{List, [], ◌∷◌, ◌++◌}
use mathlib.Core.Option.{Option, none, some}
use Prim.Native.Nat.{ℕ, suc, ◌+◌, ◌-◌, ◌*◌, ◌^◌, ◌≤◌, ◌<◌}
use native.Mathlib.Nat.{add-zero}
use native.Mathlib.Omega.{arith}
use lib.Dec.{leb, ltb, eqb}
use lib.ListN.{length, take, drop, replicate, length-append, length-drop, length-take}
use lib.Seq.{take-length}
use borrow.Author.Tests.{ltb-true, ltb-false}
use Rattle.octets.specs.Bytes.{bytes, number, run, number_at, overlay, equal, bit}
use Rattle.octets.proofs.Conditions.{cond-by}
use Rattle.octets.proofs.Numbers.{length-bytes, number-bytes, one_byte}
use Rattle.octets.proofs.Overlay.{length_run, length-overlay, overlay-part, run-run}
use Rattle.octets.proofs.Zeros.{zeros, length-zeros}
use Rattle.octets.proofs.SameBytes.{Same, same-before, same_after, same_then, same-within, number_same}
use Rattle.octets.proofs.SameBytes.{stored-long, stored-number, stored-before, stored-after}
use Rattle.line.specs.Limits.{longest_data, longest_form}
use Rattle.line.proofs.FrameLength.{frame_fits}
use Rattle.supervisor.specs.Limits
use Rattle.supervisor.specs.Layout
use Rattle.supervisor.specs.Valid.{valid_outbox, valid_factory, valid_settings, valid_alert, valid_registers}
use Rattle.supervisor.specs.Calls.{result_number, lookup_result_promise, edition_number, edition_promise}
use Rattle.supervisor.proofs.KeyLaws.{value-short}
use Rattle.supervisor.proofs.OffsetLaws.{offset-within, longest-short, Lies, setting-lies}
use Rattle.supervisor.proofs.ValidLaws.{all-each, each_all, outbox-valid, valid-outbox, setting_kept, settings-valid, valid-settings}
use Rattle.supervisor.specs.Valid.{SettingValid, SettingsValid}
use Rattle.supervisor.proofs.ValidLaws.{alert-valid, valid-alert, RecordValid, RegistersValid, registers-valid}
use Rattle.supervisor.proofs.KeptRegisters.{FlagsValid, FailureValid, PanicValid, groups-valid, numbers-kept, flags-kept, failure-kept}
use Rattle.supervisor.proofs.KeptRegisters.{panic-kept, waiting_kept, retained-kept, kept-valid}
use Rattle.responder.specs.Requests.{clear_bit}
use Rattle.responder.specs.Commands.{Command, command_of_number}
use Rattle.responder.specs.Receive
use Rattle.responder.proofs.ReceiveLaws.{item-held}
use Rattle.responder.proofs.RecordLaws.{length-right}
use Rattle.responder.proofs.TakenLaws.{retaining-version, retained-settled, settled}

-- ---- the outbox

-- the first byte that is pending, by whether a 00 is owed
abbrev pub begun : Bool → ℕ
begun terminator_owed = cond terminator_owed 0 1

-- the two offsets that say which bytes are pending
abbrev pub offsets : ℕ → ℕ → List ℕ
offsets from to = bytes 2 from ++ bytes 2 to

-- a 00 and the bytes
abbrev pub filled : List ℕ → List ℕ → List ℕ
filled bs o = overlay Layout.outbox_bytes_offset (0 ∷ bs) o

-- a reply, or none
module _ (o bs : List ℕ) (valid : valid_outbox o ≡ true) (short : length bs ≤ longest_form + 1) where
  abbrev first : ℕ
  first = begun (eqb (Layout.outbox_terminator_owed o) 1)

  pub first-low : first ≤ 1
  first-low = cond-by (λ n. n ≤ 1) (eqb (Layout.outbox_terminator_owed o) 1) 0 1 (λ _. omega arith) (λ _. omega arith)

  filled-long : length (filled bs o) ≡ length o
  filled-long = let v = outbox-valid o valid in length-overlay Layout.outbox_bytes_offset (0 ∷ bs) o (omega arith)

  pub sent-long : length (Receive.sent_box bs o) ≡ length o
  unfolding Receive.sent_box bytes
  sent-long =
      let v = outbox-valid o valid in
      length-overlay Layout.outbox_from_offset (offsets _ _) (filled bs o) (omega (arith, filled-long)) ∙ filled-long

  pub sent-from : Layout.outbox_from (Receive.sent_box bs o) ≡ first
  unfolding Receive.sent_box bytes
  sent-from =
      ap number (overlay-part Layout.outbox_from_offset 0 2 (offsets _ _) (filled bs o) (omega arith) (omega arith))
      ∙ number-bytes 2 _ (omega (arith, first-low))

  pub sent-to : Layout.outbox_to (Receive.sent_box bs o) ≡ suc (length bs)
  unfolding Receive.sent_box bytes
  sent-to =
      ap number (overlay-part Layout.outbox_from_offset 2 2 (offsets _ _) (filled bs o) (omega arith) (omega arith))
      ∙ number-bytes 2 _ (omega arith)

  -- all behind the two offsets
  pub sent-rest : Same Layout.outbox_terminator_owed_offset Layout.outbox_length (filled bs o) (Receive.sent_box bs o)
  unfolding Receive.sent_box bytes
  sent-rest = same_after Layout.outbox_from_offset (offsets _ _) (filled bs o) (omega arith) (omega arith)

  pub sent-owed : Layout.outbox_terminator_owed (Receive.sent_box bs o) ≡ Layout.outbox_terminator_owed o
  sent-owed =
      let v = outbox-valid o valid in
      let early : Same 0 Layout.outbox_bytes_offset o (filled bs o) =
      same-before Layout.outbox_bytes_offset (0 ∷ bs) o (omega arith) (omega arith) in
      number_same sent-rest 1 Layout.outbox_terminator_owed_offset (omega arith)
      ∙ number_same early 1 Layout.outbox_terminator_owed_offset (omega arith)

  pub box-valid : valid_outbox (Receive.sent_box bs o) ≡ true
  box-valid = let v = outbox-valid o valid in valid-outbox _ (omega (arith, first-low, sent-long, sent-from, sent-to, sent-owed))

-- ---- the registers

-- what stands before the flags and behind the records is the same
middle-valid : {r s : List ℕ} → RegistersValid r → length s ≡ length r → Same 0 Layout.reboot_offset r s
    → Same Layout.alert_count_offset Layout.registers_length r s → FlagsValid s → FailureValid s → PanicValid s → valid_registers s ≡ true
middle-valid v long before after flags failure panic =
    groups-valid (omega arith) (numbers-kept before v (omega arith)) flags failure panic (waiting_kept after v (omega arith))
    (retained-kept after v (omega arith))

module _ (r : List ℕ) (v : valid_registers r ≡ true) where
  -- a flag's byte, whichever flag is set
  flag_small : (at i : ℕ) → at < length r → number_at 1 r i ≤ 1 → number_at 1 (overlay at (bytes 1 1) r) i ≤ 1
  flag_small at i room h = by (ltb i at) (ltb at i) refl refl
    where
      by : (below above : Bool) → ltb i at ≡ below → ltb at i ≡ above → number_at 1 (overlay at (bytes 1 1) r) i ≤ 1
      by true above e f =
          let l = ltb-true i at e in
          let same : Same 0 at r (overlay at (bytes 1 1) r) = stored-before 1 at 1 r (omega arith) (omega arith) in
          rw (number_same same 1 i (omega arith)) h
      by false true e f =
          let l = ltb-true at i f in
          let same : Same (at + 1) (i + 1) r (overlay at (bytes 1 1) r) = stored-after 1 at 1 r (omega arith) (omega arith) in
          rw (number_same same 1 i (omega arith)) h
      by false false e f =
          let j : i ≡ at = omega (arith, ltb-false i at e, ltb-false at i f) in
          let set = stored-number 1 at 1 r (omega arith) (omega arith) in
          rw (j, set) (omega arith)

  -- a flag that is set
  pub flag-valid : (at : ℕ) → (Layout.reboot_offset ≤ at) × (at ≤ Layout.power_off_offset) → valid_registers (overlay at (1 ∷ []) r) ≡ true
  flag-valid at h =
      let w = registers-valid r v in
      let after : Same Layout.boot_failure_offset Layout.registers_length r (overlay at (bytes 1 1) r)
      = stored-after 1 at 1 r (omega arith) (omega arith) in
      let small : (i : ℕ) → number_at 1 r i ≤ 1 → number_at 1 (overlay at (bytes 1 1) r) i ≤ 1 = λ i. flag_small at i (omega arith) in
      rw (one_byte 1 (omega arith)) at
      (middle-valid w (stored-long 1 at 1 r (omega arith)) (stored-before 1 at 1 r (omega arith) (omega arith))
      (same-within after (omega arith))
      (small Layout.reboot_offset w.reboot, small Layout.power_off_offset w.power-off) (failure-kept after w (omega arith))
      (panic-kept after w (omega arith)))

  -- no reply retained
  dropped-valid : valid_registers (overlay Layout.retained_offset (0 ∷ []) r) ≡ true
  dropped-valid =
      let w = registers-valid r v in
      let at = Layout.retained_offset in
      let s = overlay at (bytes 1 0) r in
      let before : Same 0 at r s = stored-before 1 at 0 r (omega arith) (omega arith) in
      let after : Same (at + 1) Layout.registers_length r s = stored-after 1 at 0 r (omega arith) (omega arith) in
      let set = stored-number 1 at 0 r (omega arith) (omega arith) in
      let text = number_same after 2 Layout.retained_alert_offset (omega arith) in
      let long = stored-long 1 at 0 r (omega arith) in
      rw (one_byte 0 (omega arith)) at
      (groups-valid (omega arith) (numbers-kept before w (omega arith)) (flags-kept before w (omega arith))
      (failure-kept before w (omega arith))
      (panic-kept before w (omega arith)) (waiting_kept before w (omega arith)) (omega arith))

  -- a status without a bit above 1
  pub status-valid : (n : ℕ) → n ≤ 3 → valid_registers (overlay Layout.status_offset (bytes 8 n) r) ≡ true
  status-valid n small =
      let w = registers-valid r v in
      let at = Layout.status_offset in
      let s = overlay at (bytes 8 n) r in
      let new = stored-number 8 at n r (omega arith) (omega arith) in
      let after : Same Layout.options_offset Layout.registers_length r s = stored-after 8 at n r (omega arith) (omega arith) in
      let options = number_same after 8 Layout.options_offset (omega arith) in
      let waiting = waiting_kept after w (omega arith) in
      kept-valid
      (record {
        long = stored-long 8 at n r (omega arith);
        flags_and_records = same-within after (omega arith);
        retained = same-within after (omega arith);
      })
      w (omega arith) (rw options w.options) waiting.alerts

pub asked-valid : (r : List ℕ) → valid_registers r ≡ true → (at : ℕ) → (Layout.reboot_offset ≤ at) × (at ≤ Layout.power_off_offset)
    → valid_registers (Receive.asked_for r at) ≡ true
unfolding Receive.asked_for
asked-valid r v at h = dropped-valid (overlay at (1 ∷ []) r) (flag-valid r v at h)

-- ---- a record

-- its bytes: that there is one, its code, the length of its rest, the rest's first bytes
abbrev pub entry : ℕ → List ℕ → List ℕ
entry code rest = bytes 1 1 ++ (bytes 2 code ++ (bytes 2 (length rest) ++ take Limits.most_kept rest))

pub length-entry : (code : ℕ) (rest : List ℕ) → (5 ≤ length (entry code rest)) × (length (entry code rest) ≤ Layout.record_length)
length-entry code rest = simp (length-append, length-bytes) (omega (arith, length-take Limits.most_kept rest))

module _ (r : List ℕ) (at code : ℕ) (rest : List ℕ) (room : at + Layout.record_length ≤ length r) where
  pub recorded-long : length (Receive.with_record r at code rest) ≡ length r
  unfolding Receive.with_record
  recorded-long = length-overlay at (entry code rest) r (omega (arith, length-entry code rest))

  pub recorded-before : {from to : ℕ} → to ≤ at → Same from to r (Receive.with_record r at code rest)
  unfolding Receive.with_record
  recorded-before h = same-before at (entry code rest) r (omega arith) h

  pub recorded-after : {from to : ℕ} → at + Layout.record_length ≤ from → Same from to r (Receive.with_record r at code rest)
  unfolding Receive.with_record
  recorded-after h = same_after at (entry code rest) r (omega arith) (omega (arith, length-entry code rest))

  pub recorded-held : Layout.record_held (Receive.with_record r at code rest) at ≡ 1
  unfolding Receive.with_record bytes
  recorded-held =
      ap number (rw add-zero at (overlay-part at 0 1 (entry code rest) r (omega arith) (omega (arith, length-entry code rest))))
      ∙ number-bytes 1 1 (omega arith)

  pub recorded-code : code < 65536 → Layout.record_code (Receive.with_record r at code rest) at ≡ code
  unfolding Receive.with_record bytes
  recorded-code h =
      ap number (overlay-part at Layout.record_code_offset 2 (entry code rest) r (omega arith) (omega (arith, length-entry code rest)))
      ∙ number-bytes 2 code h

  pub recorded-whole : length rest < 65536 → Layout.record_whole (Receive.with_record r at code rest) at ≡ length rest
  unfolding Receive.with_record bytes
  recorded-whole h =
      ap number (overlay-part at Layout.record_whole_offset 2 (entry code rest) r (omega arith) (omega (arith, length-entry code rest)))
      ∙ number-bytes 2 (length rest) h

  -- the bytes that are kept
  pub recorded-rest : run (at + Layout.record_kept_offset) (length (take Limits.most_kept rest)) (Receive.with_record r at code rest)
      ≡ take Limits.most_kept rest
  unfolding Receive.with_record bytes
  recorded-rest =
      let n = length (take Limits.most_kept rest) in
      overlay-part at Layout.record_kept_offset n (entry code rest) r (omega arith) (omega arith) ∙ take-length (take Limits.most_kept rest)

  recorded-valid : (most : ℕ) → length rest ≤ most → most < 65536 → RecordValid (Receive.with_record r at code rest) at most
  recorded-valid most short small = let whole = recorded-whole (omega arith) in omega (arith, recorded-held)

module _ (r : List ℕ) (code : ℕ) (rest : List ℕ) (v : valid_registers r ≡ true) where
  pub boot-failure-valid : code < 256 → length rest ≤ Limits.longest_boot_failure
      → valid_registers (Receive.with_record r Layout.boot_failure_offset code rest) ≡ true
  boot-failure-valid byte short =
      let w = registers-valid r v in
      let at = Layout.boot_failure_offset in
      let room : at + Layout.record_length ≤ length r = omega arith in
      let before : Same 0 at r (Receive.with_record r at code rest) = recorded-before r at code rest room (omega arith) in
      let after : Same Layout.panic_offset Layout.registers_length r (Receive.with_record r at code rest) =
      recorded-after r at code rest room (omega arith) in
      let reason = recorded-code r at code rest room (omega arith) in
      middle-valid w (recorded-long r at code rest room) (same-within before (omega arith)) (same-within after (omega arith))
      (flags-kept before w (omega arith))
      (record { reason = omega arith; entry = recorded-valid r at code rest room _ short (omega arith) }) (panic-kept after w (omega arith))

  pub panic-valid : length rest ≤ Limits.longest_panic → valid_registers (Receive.with_record r Layout.panic_offset code rest) ≡ true
  panic-valid short =
      let w = registers-valid r v in
      let at = Layout.panic_offset in
      let room : at + Layout.record_length ≤ length r = omega arith in
      let before : Same 0 at r (Receive.with_record r at code rest) = recorded-before r at code rest room (omega arith) in
      let after : Same Layout.alert_count_offset Layout.registers_length r (Receive.with_record r at code rest) =
      recorded-after r at code rest room (omega arith) in
      middle-valid w (recorded-long r at code rest room) (same-within before (omega arith)) after (flags-kept before w (omega arith))
      (failure-kept before w (omega arith)) (recorded-valid r at code rest room _ short (omega arith))

-- ---- an alert that is taken

-- a cleared bit makes a number no greater
pub clear-small : (n k : ℕ) → clear_bit n k ≤ n
unfolding clear_bit
clear-small n k = cond-by (λ m. m ≤ n) (eqb (bit n k) 1) (n - 2 ^ k) n (λ _. omega arith) (λ _. omega arith)

-- the status then
pub taken-small : (status count : ℕ) → status ≤ 3 → cond (leb count 1) (clear_bit status 1) status ≤ 3
taken-small status count h = cond-by (λ n. n ≤ 3) (leb count 1) _ _ (λ _. omega (arith, clear-small status 1)) (λ _. h)

-- how many bytes move down
abbrev pub rest_length : ℕ
rest_length = (Limits.most_alerts - 1) * Layout.alert_length

module _ (r : List ℕ) (long : Layout.registers_length ≤ length r) where
  pub length_rest : length (run (Layout.alert_offset 1) rest_length r) ≡ rest_length
  length_rest = length_run (Layout.alert_offset 1) rest_length r (omega arith)

  pub moved-long : length (Receive.moved_alerts r) ≡ length r
  unfolding Receive.moved_alerts
  moved-long = length-overlay Layout.alerts_offset _ r (omega (arith, length_rest))

  pub moved_before : {from to : ℕ} → to ≤ Layout.alerts_offset → Same from to r (Receive.moved_alerts r)
  unfolding Receive.moved_alerts
  moved_before h = same-before Layout.alerts_offset _ r (omega arith) h

  pub moved-after : {from to : ℕ} → Layout.retained_offset ≤ from → Same from to r (Receive.moved_alerts r)
  unfolding Receive.moved_alerts
  moved-after h = same_after Layout.alerts_offset _ r (omega arith) (omega (arith, length_rest))

  -- what stands in an alert stood in the one behind it
  pub moved-run : (i j n : ℕ) → i < Limits.most_alerts - 1 → j + n ≤ Layout.alert_length
      → run (Layout.alert_offset i + j) n (Receive.moved_alerts r) ≡ run (Layout.alert_offset (i + 1) + j) n r
  unfolding Receive.moved_alerts
  moved-run i j n low h =
      let k = i * Layout.alert_length + j in
      let d : Layout.alerts_offset + k ≡ Layout.alert_offset i + j = omega arith in
      let e : Layout.alert_offset 1 + k ≡ Layout.alert_offset (i + 1) + j = omega arith in
      let p =
      overlay-part Layout.alerts_offset k n (run (Layout.alert_offset 1) rest_length r) r (omega arith) (omega (arith, length_rest)) in
      rw (d, run-run (Layout.alert_offset 1) rest_length k n r (omega arith), e) at p

-- one alert fewer, or none still
pub fewer-valid : (r : List ℕ) (n : ℕ) → valid_registers r ≡ true → n ≤ Layout.alert_count r - 1
    → valid_registers (overlay Layout.alert_count_offset (bytes 1 n) (Receive.moved_alerts r)) ≡ true
fewer-valid r n v h =
    let w = registers-valid r v in
    let at = Layout.alert_count_offset in
    let t = Receive.moved_alerts r in
    let s = overlay at (bytes 1 n) t in
    let long = moved-long r w.long in
    let room : at + 1 ≤ length t = omega arith in
    let early : Same 0 at t s = stored-before 1 at n t room (omega arith) in
    let late : Same Layout.alerts_offset Layout.registers_length t s = stored-after 1 at n t room (omega arith) in
    let before : Same 0 at r s = same_then (moved_before r w.long (omega arith)) early in
    let after : Same Layout.retained_offset Layout.registers_length r s =
    same_then (moved-after r w.long (omega arith)) (same-within late (omega arith)) in
    let numbers = numbers-kept before w (omega arith) in
    let count = stored-number 1 at n t room (omega arith) in
    kept-valid (record { long = stored-long 1 at n t room ∙ long; flags_and_records = same-within before (omega arith); retained = after })
    w (omega arith) numbers.1
    (rw count
    (each_all (valid_alert s) n (λ i k.
    let a = alert-valid r (i + 1) (all-each (valid_alert r) _ w.rest.alerts (i + 1) (omega arith)) in
    let size =
    number_same late 2 (Layout.alert_offset i) (omega arith)
    ∙ ap number (simp add-zero at (moved-run r w.long i 0 2 (omega arith) (omega arith))) in
    let action = number_same late 1 (Layout.alert_offset i + Layout.alert_action_offset) (omega arith)
    ∙ ap number (moved-run r w.long i Layout.alert_action_offset 1 (omega arith) (omega arith)) in
    valid-alert s i (omega arith))))

pub retained-before : (r : List ℕ) (version sequence : ℕ) → Layout.registers_length ≤ length r → {from to : ℕ} → to ≤ Layout.retained_offset
    → Same from to r (Receive.with_reply r version sequence)
unfolding Receive.with_reply
retained-before r version sequence long h = same-before Layout.retained_offset _ r (omega arith) h

module _ (r : List ℕ) (version sequence : ℕ) (small : version ≤ 2) (v : valid_registers r ≡ true) where
  retained-version : Layout.retained_version (Receive.with_reply r version sequence) ≡ version
  unfolding Receive.with_reply
  retained-version = let w = registers-valid r v in retaining-version r version sequence _ (omega arith) (omega arith)

  pub retained-valid : valid_registers (Receive.with_reply r version sequence) ≡ true
  retained-valid =
      let w = registers-valid r v in
      let a = retained-settled r version sequence v in
      let before : Same 0 Layout.retained_offset r (Receive.with_reply r version sequence) =
      retained-before r version sequence w.long (omega arith) in
      let held = retained-version in
      groups-valid (omega arith) (numbers-kept before w (omega arith)) (flags-kept before w (omega arith))
      (failure-kept before w (omega arith)) (panic-kept before w (omega arith)) (waiting_kept before w (omega arith)) (omega arith)

  pub taken-valid : valid_registers (Receive.with_taken r version sequence) ≡ true
  unfolding Receive.with_taken
  taken-valid =
      let w = registers-valid r v in
      let before : Same 0 Layout.retained_offset r (Receive.with_reply r version sequence) =
      retained-before r version sequence w.long (omega arith) in
      let count = number_same before 1 Layout.alert_count_offset (omega arith) in
      status-valid _ (fewer-valid (Receive.with_reply r version sequence) (Layout.alert_count r - 1) retained-valid (omega arith)) _
      (taken-small (Layout.status_of r) (Layout.alert_count r) w.status)

  pub alert-registers-valid : valid_registers (Receive.alert_registers r version sequence) ≡ true
  unfolding Receive.alert_registers
  alert-registers-valid =
      cond-by (λ s. valid_registers s ≡ true) (Receive.is_retained r sequence) r (Receive.with_taken r version sequence) (λ _. v)
      (λ _. taken-valid)

-- ---- the settings

pub length-setting : (edition : ℕ) (v : List ℕ) → length (Layout.setting_bytes edition v) ≡ Layout.setting_value_offset + length v
length-setting edition v = simp (length-append, length-bytes) (omega arith)

-- a value of at most so many bytes, at an offset where they have room, of which so many become 0 first
module _ (s v : List ℕ) (at longest cleared : ℕ) (room : at + (Layout.setting_value_offset + longest) ≤ length s)
    (short : length v ≤ longest) (most : cleared ≤ longest) where
  -- one edition on
  abbrev next : ℕ
  next = suc (Layout.setting_edition s at)

  abbrev wiped : List ℕ
  wiped = overlay (at + Layout.setting_value_offset) (zeros cleared) s

  wiped-long : length wiped ≡ length s
  wiped-long = length-overlay (at + Layout.setting_value_offset) (zeros cleared) s (omega (arith, length-zeros cleared))

  abbrev stored : List ℕ
  stored = Receive.with_value s at cleared v

  enough : at + length (Layout.setting_bytes next v) ≤ length wiped
  enough = omega (arith, wiped-long, length-setting next v)

  pub setting-long : length stored ≡ length s
  unfolding Receive.with_value
  setting-long = length-overlay at (Layout.setting_bytes next v) wiped enough ∙ wiped-long

  pub setting-before : {from to : ℕ} → to ≤ at → Same from to s stored
  unfolding Receive.with_value
  setting-before h =
      same_then (same-before (at + Layout.setting_value_offset) (zeros cleared) s (omega (arith, length-zeros cleared)) (omega arith))
      (same-before at (Layout.setting_bytes next v) wiped (omega (arith, wiped-long)) h)

  pub setting-after : {from to : ℕ} → at + (Layout.setting_value_offset + longest) ≤ from → Same from to s stored
  unfolding Receive.with_value
  setting-after h =
      same_then
      (same_after (at + Layout.setting_value_offset) (zeros cleared) s (omega (arith, length-zeros cleared))
      (omega (arith, length-zeros cleared)))
      (same_after at (Layout.setting_bytes next v) wiped (omega (arith, wiped-long)) (omega (arith, length-setting next v)))

  part : (from n : ℕ) → from + n ≤ Layout.setting_value_offset + length v
      → run (at + from) n stored ≡ run from n (Layout.setting_bytes next v)
  unfolding Receive.with_value
  part from n h = overlay-part at from n (Layout.setting_bytes next v) wiped (omega (arith, enough)) (omega (arith, length-setting next v))

  pub setting-held : Layout.setting_held stored at ≡ 1
  unfolding bytes
  setting-held = ap number (rw add-zero at (part 0 1 (omega arith))) ∙ number-bytes 1 1 (omega arith)

  pub setting-edition : Layout.setting_edition s at < Limits.last_edition → Layout.setting_edition stored at ≡ next
  unfolding bytes
  setting-edition h = ap number (part Layout.setting_edition_offset 4 (omega arith)) ∙ number-bytes 4 next (omega arith)

  pub setting-size : length v < 65536 → Layout.setting_length stored at ≡ length v
  unfolding bytes
  setting-size h = ap number (part Layout.setting_length_offset 2 (omega arith)) ∙ number-bytes 2 (length v) h

  pub setting-value : run (at + Layout.setting_value_offset) (length v) stored ≡ v
  unfolding bytes
  setting-value = part Layout.setting_value_offset (length v) (omega arith) ∙ take-length v

-- as many become 0 as the key's value may have at most
pub cleared-most : (key : ℕ) → Receive.cleared_for key ≤ Limits.longest_setting key
unfolding Receive.cleared_for
cleared-most key =
    cond-by (λ (n : ℕ). n ≤ Limits.longest_setting key) (eqb key Limits.passphrase_key) _ _ (λ _. omega arith) (λ _. omega arith)

module _ (s v : List ℕ) (w : SettingsValid s) (key : ℕ) (h : Limits.SettingsKey key) (short : length v ≤ Limits.longest_setting key) where
  abbrev here : ℕ
  here = Layout.setting_offset key

  abbrev stored_here : List ℕ
  stored_here = Receive.with_value s here (Receive.cleared_for key) v

  pub value_room : Layout.setting_offset key + (Layout.setting_value_offset + Limits.longest_setting key) ≤ length s
  value_room = omega (arith, offset-within key h, w.long)

  pub value-small : length v < 65536
  value-small = omega (arith, longest-short key)

  module _ (enough : Limits.shortest_setting key ≤ length v) where
    setting-left : (j : ℕ) → Lies j key → SettingValid s (Layout.setting_offset j) (Limits.shortest_setting j) (Limits.longest_setting j)
        → SettingValid stored_here (Layout.setting_offset j) (Limits.shortest_setting j) (Limits.longest_setting j)
    setting-left j (inl l) g = setting_kept (setting-before s v here _ _ value_room short (cleared-most key) (omega arith)) g
    setting-left j (inr (inl e)) g =
        let held = setting-held s v here _ _ value_room short (cleared-most key) in
        let size = setting-size s v here _ _ value_room short (cleared-most key) value-small in
        rw e (record { size = omega arith; held = inl (omega arith, omega arith) })
    setting-left j (inr (inr l)) g = setting_kept (setting-after s v here _ _ value_room short (cleared-most key) (omega arith)) g

    settings-left : valid_settings stored_here ≡ true
    settings-left =
        valid-settings _
        (record {
          long = omega (arith, setting-long s v here _ _ value_room short (cleared-most key), w.long);
          each = λ j i. setting-left j (setting-lies j key i h) (w.each j i);
        })

module _ (s v : List ℕ) (w : valid_settings s ≡ true) where
  abbrev Left : Receive.KeyStored → Type 0
  Left k = valid_settings k.settings ≡ true

  -- a value whose length is right is stored
  stored-valid : (at shortest longest cleared : ℕ)
      → (length v ≤ longest → shortest ≤ length v → valid_settings (Receive.with_value s at cleared v) ≡ true)
      → Left (Receive.store_bytes_at s at shortest longest cleared v)
  unfolding Receive.store_bytes_at
  stored-valid at shortest longest cleared f =
      cond-by Left (ltb (length v) shortest || ltb longest (length v)) _ _ (λ _. w) (λ e.
      let l = length-right shortest longest (length v) e in
      cond-by Left (eqb (Layout.setting_edition s at) Limits.last_edition) _ _ (λ _. w) (λ _. f l.1 l.0))

  pub storing-valid : (key : ℕ) → valid_settings (Receive.store_bytes s key v).settings ≡ true
  unfolding Receive.store_bytes
  storing-valid key =
      let g = settings-valid s w in
      cond-by Left (ltb Limits.highest_key key) _ _ (λ _. w) (λ e.
      cond-by Left (ltb key Limits.first_setting) _ _ (λ _. w) (λ f.
      stored-valid _ _ _ _ (settings-left s v g key (record { lower = ltb-false _ _ f; upper = ltb-false _ _ e }))))

-- ---- the data of a reply

-- a run has at most as many bytes as it asks for
pub run_short : (at n most : ℕ) (s : List ℕ) → n ≤ most → length (run at n s) ≤ most
run_short at n most s h = omega (arith, length-take n (drop at s))

pub block-short : (f image d : List ℕ) → length (Receive.block_bytes f image d) ≤ Limits.longest_block
unfolding Receive.block_bytes
block-short f image d =
    cond-by (λ l. length l ≤ Limits.longest_block) (equal (run 0 32 d) (run Layout.hash_offset 32 f)) _ []
    (λ _. run_short (number_at 8 d 32) Limits.longest_block Limits.longest_block image (omega arith)) (λ _. omega arith)

-- the result, in version 2 the edition, and the value of a key
pub head-short : (version result edition : ℕ) → length (Receive.value_head version result edition) ≤ 5
unfolding Receive.value_head
head-short version result edition =
    cond-by (λ l. length (bytes 1 result ++ l) ≤ 5) (Receive.carries_edition version result) (bytes 4 edition) []
    (λ _. simp (length-append, length-bytes) (omega arith)) (λ _. simp (length-append, length-bytes) (omega arith))

pub value-data-short : (version : ℕ) (f s d : List ℕ) → valid_factory f ≡ true → valid_settings s ≡ true
    → length (Receive.value_bytes version f s d) ≤ 5 + Limits.longest_value
unfolding Receive.value_bytes
value-data-short version f s d v w =
    let key = number_at 1 d 0 in
    let most = number_at 2 d 1 in
    simp length-append
    (omega (
      arith,
      head-short version (result_number (lookup_result_promise f s key most)) (edition_number (edition_promise f s key)),
      value-short f s key most v w,
    ))

pub item-short : (f : List ℕ) (index : ℕ) → valid_factory f ≡ true
    → length (Receive.item_bytes f index) ≤ Layout.item_data_length_offset + Limits.longest_item_data
unfolding Receive.item_bytes
item-short f index v =
    let at = Layout.item_offset index in
    let head = run at Layout.item_data_length_offset f in
    let tail = run (at + Layout.item_data_offset) (Receive.item_data_length f at) f in
    cond-by (λ l. length l ≤ Layout.item_data_length_offset + Limits.longest_item_data) (ltb index (Layout.item_count f)) (head ++ tail)
    (1 ∷ replicate 33 0)
    (λ e.
    let held = item-held f index v (ltb-true _ _ e) in
    let a = run_short at Layout.item_data_length_offset Layout.item_data_length_offset f (omega arith) in
    let b = run_short (at + Layout.item_data_offset) (Receive.item_data_length f at) Limits.longest_item_data f held.size in
    simp length-append (omega arith))
    (λ _. omega arith)

-- the action and the text of an alert
pub alert-data-short : (r : List ℕ) (version sequence : ℕ) → valid_registers r ≡ true
    → length (Receive.retained_data (Receive.alert_registers r version sequence)) ≤ 1 + Limits.longest_alert
alert-data-short r version sequence v =
    let s = Receive.alert_registers r version sequence in
    let a = settled r version sequence v {s = s} refl in
    run_short (Layout.retained_alert_offset + Layout.alert_action_offset) (1 + Layout.alert_text_length s Layout.retained_alert_offset)
    (1 + Limits.longest_alert) s (omega arith)

-- a reply with data that a message may have, and with one byte
pub reply-short : (reply : Receive.Head) (command : ℕ) (payload : List ℕ) → length payload ≤ longest_data
    → length (Receive.reply_bytes reply command payload) ≤ longest_form + 1
reply-short reply command payload h = frame_fits (Receive.message_with reply.version reply.number.0 command payload) h

pub byte-reply-short : (reply : Receive.Head) (command n : ℕ) → length (Receive.reply_bytes reply command (bytes 1 n)) ≤ longest_form + 1
byte-reply-short reply command n = reply-short reply command (bytes 1 n) (rw length-bytes (omega arith))

-- ---- all that a request changes

pub record InnerValid (i : Receive.Inner) : Type 0 where
  pub outbox : valid_outbox i.outbox ≡ true
  pub settings : valid_settings i.settings ≡ true
  pub registers : valid_registers i.registers ≡ true

pub inner-valid : (i : Receive.Inner) → Receive.valid_inner i ≡ true → InnerValid i
unfolding Receive.valid_inner
inner-valid i e =
    let a = (and-eq-true_iff (valid_outbox i.outbox) _).0 e in
    let b = (and-eq-true_iff (valid_settings i.settings) _).0 a.1 in
    record { outbox = a.0; settings = b.0; registers = b.1 }

pub valid-inner : (i : Receive.Inner) → InnerValid i → Receive.valid_inner i ≡ true
unfolding Receive.valid_inner
valid-inner i v =
    (and-eq-true_iff (valid_outbox i.outbox) _).1
    (v.outbox, (and-eq-true_iff (valid_settings i.settings) _).1 (v.settings, v.registers))

-- bytes sent, and other settings and registers
changed-valid : (o bs s r : List ℕ) → valid_outbox o ≡ true → length bs ≤ longest_form + 1 → valid_settings s ≡ true → valid_registers r
    ≡ true
    → Receive.valid_inner (Receive.inner (Receive.sent_box bs o) s r) ≡ true
changed-valid o bs s r v h k l = valid-inner _ (record { outbox = box-valid o bs v h; settings = k; registers = l })

pub answering-valid : (i : Receive.Inner) (reply : Receive.Head) (command : ℕ) (payload : List ℕ) → Receive.valid_inner i ≡ true
    → length payload ≤ longest_data → Receive.valid_inner (Receive.reply_alone i reply command payload) ≡ true
unfolding Receive.reply_alone
answering-valid i reply command payload v h =
    let w = inner-valid i v in
    changed-valid _ _ _ _ w.outbox (reply-short reply command payload h) w.settings w.registers

pub acknowledged-valid : (i : Receive.Inner) (reply : Receive.Head) (r : List ℕ) → Receive.valid_inner i ≡ true → valid_registers r ≡ true
    → Receive.valid_inner (Receive.acknowledged i reply r) ≡ true
unfolding Receive.acknowledged
acknowledged-valid i reply r v h =
    let w = inner-valid i v in
    changed-valid _ _ _ _ w.outbox (reply-short reply 0x01 [] (omega arith)) w.settings h

pub unanswered-valid : (i : Receive.Inner) (r : List ℕ) → Receive.valid_inner i ≡ true → valid_registers r ≡ true
    → Receive.valid_inner (Receive.no_reply i r) ≡ true
unfolding Receive.no_reply
unanswered-valid i r v h =
    let w = inner-valid i v in
    changed-valid _ [] _ _ w.outbox (omega arith) w.settings h

module _ (image f : List ℕ) (i : Receive.Inner) (version sequence : ℕ) (d : List ℕ) (small : version ≤ 2) (g : valid_factory f ≡ true)
    (v : Receive.valid_inner i ≡ true) (short : length d ≤ longest_data) (byte : number_at 1 d 0 < 256) where
  abbrev w : InnerValid i
  w = inner-valid i v

  abbrev r : List ℕ
  r = i.registers

  command-valid : (x : Command) → Receive.valid_inner (Receive.command_leaves x image f i version sequence d) ≡ true
  unfolding Receive.command_leaves Receive.key_set_answered Receive.alert_answered
  command-valid Command.reboot = unanswered-valid i _ v (asked-valid r w.registers Layout.reboot_offset (omega arith))
  command-valid Command.power-off = unanswered-valid i _ v (asked-valid r w.registers Layout.power_off_offset (omega arith))
  command-valid Command.bsu = answering-valid i _ 0x03 _ v (run_short Layout.bsu_offset 1 longest_data f (omega arith))
  command-valid Command.identity = answering-valid i _ 0x04 _ v (run_short Layout.identity_offset 26 longest_data f (omega arith))
  command-valid Command.mac = answering-valid i _ 0x05 _ v (run_short Layout.mac_offset 9 longest_data f (omega arith))
  command-valid Command.boot-failure =
      unanswered-valid i _ v (boot-failure-valid r (number_at 1 d 0) (drop 1 d) w.registers byte (omega (arith, length-drop 1 d)))
  command-valid Command.panic =
      acknowledged-valid i _ _ v (panic-valid r (number_at 2 d 0) (drop 2 d) w.registers (omega (arith, length-drop 2 d)))
  command-valid Command.status = answering-valid i _ 0x06 _ v (run_short Layout.status_offset 16 longest_data r (omega arith))
  command-valid Command.start-acknowledged =
      let s = registers-valid r w.registers in
      acknowledged-valid i _ _ v (status-valid r w.registers _ (omega (arith, clear-small (Layout.status_of r) 0)))
  command-valid Command.alert =
      changed-valid _ _ _ _ w.outbox (reply-short _ 0x07 _ (omega (arith, alert-data-short r version sequence w.registers)))
      w.settings (alert-registers-valid r version sequence small w.registers)
  command-valid Command.image_block = answering-valid i _ 0x09 _ v (omega (arith, block-short f image d))
  command-valid Command.key_lookup =
      answering-valid i _ 0x0a _ v (omega (arith, value-data-short version f i.settings d g w.settings))
  command-valid Command.inventory = answering-valid i _ 0x0b _ v (omega (arith, item-short f (number_at 4 d 0) g))
  command-valid Command.key_set =
      changed-valid _ _ _ _ w.outbox (byte-reply-short _ 0x0c _) (storing-valid i.settings (drop 1 d) w.settings (number_at 1 d 0))
      w.registers

  pub carried-valid : (command : ℕ) → Receive.valid_inner (Receive.carried_inner image f i version sequence command d) ≡ true
  unfolding Receive.carried_inner
  carried-valid command = by (command_of_number command)
    where
      by : (o : Option Command) → Receive.valid_inner (Receive.command_leaves_where o image f i version sequence d) ≡ true
      by none = v
      by (some x) = command-valid x
