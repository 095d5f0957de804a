-- The registers after a flag or a record was set, or the start acknowledged, and the view of them.
-- Assumes nothing.
use mathlib.Core.Path.{◌≡◌, ap, ◌∙◌}
use mathlib.Core.Bool.{Bool, true}
use mathlib.Core.List.{List, [], ◌∷◌}
use mathlib.Core.Option.{Option, none, some}
use Prim.Native.Nat.{ℕ, ◌+◌, ◌≤◌, ◌<◌, min}
use native.Mathlib.Omega.{arith}
use lib.Dec.{eqb}
use lib.ListN.{length, take, length-take}
use Rattle.octets.specs.Bytes.{Byte, Each, number, number_at, bytes, overlay}
use Rattle.octets.proofs.Each.{each_take}
use Rattle.octets.proofs.Overlay.{length-overlay, overlay-inside}
use Rattle.octets.proofs.SameBytes.{Same, same-before, same_after, same-within, number_same, stored-long, stored-number, stored-after}
use Rattle.supervisor.specs.Limits
use Rattle.supervisor.specs.Layout
use Rattle.supervisor.specs.State.{Recorded, State, with_reboot, with_power_off, with_boot_failure, with_panic, with_retained}
use Rattle.supervisor.specs.Valid.{valid_registers}
use Rattle.supervisor.specs.Calls
use Rattle.supervisor.proofs.ValidLaws.{RegistersValid, registers-valid}
use Rattle.supervisor.proofs.KeptRegisters.{Kept}
use Rattle.responder.specs.Requests
use Rattle.responder.specs.Receive
use Rattle.responder.proofs.KeptLaws.{flag-valid, entry, length-entry, recorded-before, recorded-after, recorded-held, recorded-code}
use Rattle.responder.proofs.KeptLaws.{recorded-whole, recorded-rest, clear-small}
use Rattle.supervisor_claims.specs.View.{recorded_of, retained_of, view}
use Rattle.supervisor_claims.specs.Sound.{with_registers}
use Rattle.supervisor_claims.proofs.laws.RegisterLaws.{recorded-same, retained-same, alerts-same, kept-view}
use Rattle.supervisor_claims.proofs.laws.PartLaws.{Like, like-then, like-put, like-stored, each_number}

-- ---- the view of a record that was put

put_record : (r : List ℕ) (at code : ℕ) (rest : List ℕ) → at + Layout.record_length ≤ length r → code < 65536 → length rest < 65536
    → recorded_of (Receive.with_record r at code rest) at ≡ some (Requests.recorded code rest)
unfolding recorded_of Requests.recorded
put_record r at code rest room h l =
    let n : min (length rest) Limits.most_kept ≡ length (take Limits.most_kept rest) = omega (arith, length-take Limits.most_kept rest) in
    rw (
      recorded-held r at code rest room,
      recorded-code r at code rest room h,
      recorded-whole r at code rest room l,
      n,
      recorded-rest r at code rest room,
    )

-- ---- the view of registers that have other flags or records

-- the state with other flags and records
abbrev pub noted : State → Bool → Bool → Option Recorded → Option Recorded → State
noted s reboot power-off boot-failure panic =
    with_panic (with_boot_failure (with_power_off (with_reboot s reboot) power-off) boot-failure) panic

abbrev flag : List ℕ → ℕ → Bool
flag r at = eqb (number_at 1 r at) 1

module _ (p : Calls.Parts) (w : RegistersValid p.registers) where
  -- bytes put among the flags and records
  module _ (at : ℕ) (xs : List ℕ) (h : (Layout.reboot_offset ≤ at) × (at + length xs ≤ Layout.alert_count_offset)) where
    abbrev put : List ℕ
    put = overlay at xs p.registers

    before : Same Layout.status_offset at p.registers put
    before = same-before at xs p.registers (omega arith) (omega arith)

    after : Same (at + length xs) Layout.registers_length p.registers put
    after = same_after at xs p.registers (omega arith) (omega arith)

    put_view : view (with_registers p put)
        ≡ noted (view p) (flag put Layout.reboot_offset) (flag put Layout.power_off_offset)
        (recorded_of put Layout.boot_failure_offset) (recorded_of put Layout.panic_offset)
    unfolding view
    put_view =
        let behind = same-within after {a = Layout.alert_count_offset} {b = Layout.registers_length} (omega arith) in
        rw (
          number_same before 8 Layout.status_offset (omega arith),
          number_same before 8 Layout.options_offset (omega arith),
          number_same behind 1 Layout.alert_count_offset (omega arith),
          alerts-same behind (Layout.alert_count p.registers) (omega arith) w.rest.alerts,
          retained-same behind (omega arith) w.rest.text,
        )

  -- ---- a flag

  module _ (at : ℕ) (h : (Layout.reboot_offset ≤ at) × (at ≤ Layout.power_off_offset)) where
    abbrev asked : List ℕ
    asked = overlay at (1 ∷ []) p.registers

    flag-put : flag asked at ≡ true
    unfolding number
    flag-put = rw (overlay-inside at (1 ∷ []) p.registers (omega arith))

    flag-view : view (with_registers p asked)
        ≡ noted (view p) (flag asked Layout.reboot_offset) (flag asked Layout.power_off_offset) (view p).boot-failure (view p).panic
    unfolding view
    flag-view =
        let behind = after at (1 ∷ []) (omega arith) in
        put_view at (1 ∷ []) (omega arith)
        ∙ rw (recorded-same behind Layout.boot_failure_offset (omega arith), recorded-same behind Layout.panic_offset (omega arith))

-- ---- a reboot or a power-off asked for: a flag, and no retained reply

-- the state with no retained reply
abbrev forgotten : State → State
forgotten s = with_retained s none

forgotten-view : (p : Calls.Parts) → RegistersValid p.registers
    → view (with_registers p (overlay Layout.retained_offset (0 ∷ []) p.registers)) ≡ forgotten (view p)
unfolding view retained_of number
forgotten-view p w =
    let r = p.registers in
    let at = Layout.retained_offset in
    let before : Same Layout.status_offset at r (overlay at (0 ∷ []) r) = same-before at (0 ∷ []) r (omega arith) (omega arith) in
    rw (
      number_same before 8 Layout.status_offset (omega arith),
      number_same before 8 Layout.options_offset (omega arith),
      number_same before 1 Layout.reboot_offset (omega arith),
      number_same before 1 Layout.power_off_offset (omega arith),
      recorded-same before Layout.boot_failure_offset (omega arith),
      recorded-same before Layout.panic_offset (omega arith),
      number_same before 1 Layout.alert_count_offset (omega arith),
      alerts-same before (Layout.alert_count r) (omega arith) w.rest.alerts,
      overlay-inside at (0 ∷ []) r (omega arith),
    )

module _ (p : Calls.Parts) (v : valid_registers p.registers ≡ true) where
  abbrev w : RegistersValid p.registers
  w = registers-valid p.registers v

  module _ (at : ℕ) (h : (Layout.reboot_offset ≤ at) × (at ≤ Layout.power_off_offset)) where
    -- whichever of the two flags stands at the offset
    asked-view : view (with_registers p (Receive.asked_for p.registers at))
        ≡ forgotten (noted (view p) (flag (asked p w at h) Layout.reboot_offset) (flag (asked p w at h) Layout.power_off_offset)
        (view p).boot-failure (view p).panic)
    unfolding Receive.asked_for
    asked-view =
        forgotten-view (with_registers p (asked p w at h)) (registers-valid (asked p w at h) (flag-valid p.registers v at h))
        ∙ ap forgotten (flag-view p w at h)

    pub asked-like : Like p.registers (Receive.asked_for p.registers at)
    unfolding Receive.asked_for
    asked-like =
        let long = w.long in
        let same = length-overlay at (1 ∷ []) p.registers (omega arith) in
        like-then (like-put at (1 ∷ []) p.registers (omega arith) (λ _. (omega arith, tt)))
        (like-put Layout.retained_offset (0 ∷ []) (asked p w at h) (omega arith) (λ _. (omega arith, tt)))

  pub reboot-view : view (with_registers p (Receive.asked_for p.registers Layout.reboot_offset)) ≡ (Requests.reboot (view p)).state
  unfolding view Requests.reboot
  reboot-view =
      let at = Layout.reboot_offset in
      asked-view at (omega arith)
      ∙ rw (flag-put p w at (omega arith), number_same (after p w at (1 ∷ []) (omega arith)) 1 Layout.power_off_offset (omega arith))

  pub power-off-view : view (with_registers p (Receive.asked_for p.registers Layout.power_off_offset)) ≡ (Requests.power_off (view p)).state
  unfolding view Requests.power_off
  power-off-view =
      let at = Layout.power_off_offset in
      asked-view at (omega arith)
      ∙ rw (flag-put p w at (omega arith), number_same (before p w at (1 ∷ []) (omega arith)) 1 Layout.reboot_offset (omega arith))

module _ (p : Calls.Parts) (w : RegistersValid p.registers) where
  -- ---- a record

  module _ (at code : ℕ) (rest : List ℕ) (h : (Layout.boot_failure_offset ≤ at) × (at ≤ Layout.panic_offset)) where
    abbrev recording : List ℕ
    recording = Receive.with_record p.registers at code rest

    record-before : Same Layout.status_offset at p.registers recording
    record-before = recorded-before p.registers at code rest (omega arith) (omega arith)

    record-after : Same (at + Layout.record_length) Layout.registers_length p.registers recording
    record-after = recorded-after p.registers at code rest (omega arith) (omega arith)

    record-view : view (with_registers p recording)
        ≡ noted (view p) (view p).reboot_asked (view p).power_off_asked (recorded_of recording Layout.boot_failure_offset)
        (recorded_of recording Layout.panic_offset)
    unfolding view Receive.with_record
    record-view =
        put_view p w at (entry code rest) (omega (arith, length-entry code rest))
        ∙ rw (
          number_same record-before 1 Layout.reboot_offset (omega arith),
          number_same record-before 1 Layout.power_off_offset (omega arith),
        )

    pub record-like : Each Byte rest → Like p.registers recording
    unfolding Receive.with_record
    record-like e =
        like-put at (entry code rest) p.registers (omega (arith, length-entry code rest))
        (λ _. each_number 1 1 _ (each_number 2 code _ (each_number 2 (length rest) _ (each_take Byte Limits.most_kept rest e))))

  module _ (code : ℕ) (rest : List ℕ) (small : code < 65536) (short : length rest < 65536) where
    pub boot-failure-view : view (with_registers p (Receive.with_record p.registers Layout.boot_failure_offset code rest))
        ≡ noted (view p) (view p).reboot_asked (view p).power_off_asked (some (Requests.recorded code rest)) (view p).panic
    unfolding view
    boot-failure-view =
        let at = Layout.boot_failure_offset in
        record-view at code rest (omega arith)
        ∙ rw (
          put_record p.registers at code rest (omega arith) small short,
          recorded-same (record-after at code rest (omega arith)) Layout.panic_offset (omega arith),
        )

    pub panic-view : view (with_registers p (Receive.with_record p.registers Layout.panic_offset code rest))
        ≡ noted (view p) (view p).reboot_asked (view p).power_off_asked (view p).boot-failure (some (Requests.recorded code rest))
    unfolding view
    panic-view =
        let at = Layout.panic_offset in
        record-view at code rest (omega arith)
        ∙ rw (
          recorded-same (record-before at code rest (omega arith)) Layout.boot_failure_offset (omega arith),
          put_record p.registers at code rest (omega arith) small short,
        )

  -- ---- the start acknowledged

  pub acknowledged-view : (version : ℕ)
      → view
      (with_registers p (overlay Layout.status_offset (bytes 8 (Requests.clear_bit (Layout.status_of p.registers) 0)) p.registers))
      ≡ (Requests.start_acknowledged version (view p)).state
  unfolding view Requests.start_acknowledged
  acknowledged-view version =
      let r = p.registers in
      let status = Requests.clear_bit (Layout.status_of r) 0 in
      let small = clear-small (Layout.status_of r) 0 in
      let room : Layout.status_offset + 8 ≤ length r = omega arith in
      let s = overlay Layout.status_offset (bytes 8 status) r in
      let behind : Same Layout.options_offset Layout.registers_length r s =
      stored-after 8 Layout.status_offset status r room (omega arith) in
      let kept : Kept r s = record {
        long = stored-long 8 Layout.status_offset status r room;
        flags_and_records = same-within behind (omega arith);
        retained = same-within behind (omega arith);
      } in
      kept-view p kept w
      ∙ rw (
        stored-number 8 Layout.status_offset status r room (omega arith),
        number_same behind 8 Layout.options_offset (omega arith),
        number_same behind 1 Layout.alert_count_offset (omega arith),
        alerts-same behind (Layout.alert_count r) (omega arith) w.rest.alerts,
      )

  pub acknowledged-like : (status : ℕ) → Like p.registers (overlay Layout.status_offset (bytes 8 status) p.registers)
  acknowledged-like status = like-stored 8 Layout.status_offset status p.registers (omega arith)
