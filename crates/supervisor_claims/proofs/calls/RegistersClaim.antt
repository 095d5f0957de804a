-- The calls on the registers of valid parts: post, set options, the line signal, the flags, the records.
-- Assumes nothing.
use mathlib.Core.Path.{◌≡◌, refl, sym, ap, ◌∙◌}
use mathlib.Core.Bool.{Bool, true, false, cond}
use mathlib.Core.List.{List, [], ◌∷◌, append-nil}
use mathlib.Core.Option.{Option, none, some}
use Prim.Native.Nat.{ℕ, ◌+◌, ◌^◌, ◌≤◌, ◌<◌}
use native.Mathlib.Omega.{arith}
use lib.Dec.{leb, ltb, eqb}
use lib.ListN.{length}
use borrow.Author.Tests.{le-leb, lt-leb, ltb-true, ltb-false}
use Rattle.octets.specs.Bytes.{Each, Byte, bytes, overlay}
use Rattle.octets.specs.TableTests.{first_failing}
use Rattle.octets.proofs.Conditions.{cond-by, cond_both, cond-not}
use Rattle.octets.proofs.Each.{each_append}
use Rattle.octets.proofs.Numbers.{bytes-each}
use Rattle.octets.proofs.Overlay.{overlay-each}
use Rattle.octets.proofs.Overlay.{length_run}
use Rattle.octets.proofs.SameBytes.{Same, same-within, number_same, stored-long, stored-number, stored-before, stored-after}
use Rattle.supervisor.specs.Limits
use Rattle.supervisor.specs.Layout
use Rattle.supervisor.specs.State.{Settings, Recorded, Alert, State, with_options, with_settings}
use Rattle.supervisor.specs.Local
use Rattle.supervisor.specs.Calls
use Rattle.supervisor.specs.declared.registers.Kind.{Kind}
use Rattle.supervisor.specs.declared.registers.Kind.TheVariants as kind
use Rattle.supervisor.proofs.ValidLaws.{registers-valid}
use Rattle.supervisor.proofs.KeptRegisters.{alerts-valid, Kept, kept-valid}
use Rattle.supervisor_claims.specs.ByPart.{Part}
use Rattle.supervisor_claims.specs.View.{recorded_of, view}
use Rattle.supervisor_claims.specs.Sound.{Valid, Sound, with_registers}
use Rattle.supervisor_claims.specs.LocalCalls
use Rattle.supervisor_claims.specs.LocalCalls.{Change, LocalCall}
use Rattle.supervisor_claims.specs.Histories
use Rattle.supervisor_claims.specs.Histories.{did_by, did, refusal, means, done_means, meant}
use Rattle.supervisor_claims.specs.Demand1.{Meets, parts_fit_call, later_tests}
use Rattle.supervisor_claims.proofs.Sound.{sound-with}
use Rattle.supervisor_claims.proofs.calls.RowLaws.{RowLaws, Tested, unrefused, state_by, with_settings_means, KeepsPart, same_meets}
use Rattle.supervisor_claims.proofs.Meant.{valid-with, Does, Reads, RecordedAs}
use Rattle.supervisor_claims.proofs.laws.ViewLaws.{length-listed}
use Rattle.supervisor_claims.proofs.laws.RegisterLaws.{alerts-same, kept-view}
use Rattle.supervisor_claims.proofs.laws.PostLaws.{Posting, allowed, posted-kept, posted-status, posted-options, posted-count}
use Rattle.supervisor_claims.proofs.laws.PostLaws.{posted-alerts, posted-valid}

module _ (p : Calls.Parts) (v : Valid p) where
  -- ---- post an alert

  waiting-count : length (view p).waiting ≡ Layout.alert_count p.registers
  unfolding view
  waiting-count = length-listed _ _

  posted : {action : ℕ} {text : List ℕ} → Posting p.registers action text
      → Does p (Calls.registers_outcome none (Calls.with_alert p.registers action text))
      (Local.left (Local.with_posted (view p) action text))
  unfolding view Local.with_posted
  posted c = (
    refl,
    kept-view p (posted-kept c) c.valid ∙ rw (posted-status c, posted-options c, posted-count c, posted-alerts c),
    valid-with p Part.registers _ v (posted-valid c),
  )

  pub post-meant : (action : ℕ) (text : List ℕ) → action < 256
      → Does p (Calls.post_promise p.registers action text) (Local.post (view p) action text)
  unfolding Calls.post_promise Local.post
  post-meant action text h =
      rw v.registers
      (cond_both (Does p) (eqb action 0) (λ e. refl) (λ e.
      cond_both (Does p) (ltb Limits.longest_alert (length text)) (λ f. refl) (λ f.
      rw waiting-count
      (cond_both (Does p) (ltb (Layout.alert_count p.registers) Limits.most_alerts) (λ g.
      posted (allowed p.registers action text v.registers h e f g))
      (λ g. refl)))))

  -- ---- set options

  set : (options : ℕ) → options < 2 ^ 64 → Local.options_allowed options ≡ true
      → let s = overlay Layout.options_offset (bytes 8 options) p.registers in
      Does p (Calls.registers_outcome none s) (Local.left (with_options (view p) options))
  unfolding view
  set options small allowed_then =
      let r = p.registers in
      let w = registers-valid r v.registers in
      let s = overlay Layout.options_offset (bytes 8 options) r in
      let room : Layout.options_offset + 8 ≤ length r = omega arith in
      let before : Same 0 Layout.options_offset r s = stored-before 8 Layout.options_offset options r room (omega arith) in
      let after : Same Layout.reboot_offset Layout.registers_length r s =
      stored-after 8 Layout.options_offset options r room (omega arith) in
      let kept : Kept r s = record {
        long = stored-long 8 Layout.options_offset options r room;
        flags_and_records = same-within after (omega arith);
        retained = same-within after (omega arith);
      } in
      let status = number_same before 8 Layout.status_offset (omega arith) in
      let new = stored-number 8 Layout.options_offset options r room (omega arith) in
      let count = number_same after 1 Layout.alert_count_offset (omega arith) in
      let n = Layout.alert_count r in (
        refl,
        kept-view p kept w ∙ rw (status, new, count, alerts-same after n (omega arith) w.rest.alerts),
        valid-with p Part.registers _ v
            (kept-valid kept w (omega arith) (rw new allowed_then) (rw count (alerts-valid after n (omega arith) w.rest.alerts))),
      )

  pub options-meant : (options : ℕ) → options < 2 ^ 64
      → Does p (Calls.options_promise p.registers options) (Local.set_options (view p) options)
  unfolding Calls.options_promise Local.set_options
  options-meant options h =
      rw v.registers
      (cond_both (Does p) (Local.options_allowed options) (λ e. set options h e) (λ e. refl))

  -- ---- read

  pub signal-meant : Calls.signal_promise p.registers ≡ Calls.is (Local.asserted (view p))
  unfolding Calls.signal_promise Local.asserted view
  signal-meant = rw v.registers

  pub flags-meant : Calls.flags_promise p.registers ≡ Calls.is ((view p).reboot_asked, (view p).power_off_asked)
  unfolding Calls.flags_promise view
  flags-meant = rw v.registers

  -- a record of either kind
  record-meant : (k : Kind) → Calls.record_offset k + Layout.record_length ≤ Layout.registers_length
      → RecordedAs p k (recorded_of p.registers (Calls.record_offset k))
  unfolding Calls.record_promise Calls.record_at Calls.record_bytes_promise recorded_of
  record-meant k l =
      let r = p.registers in
      let at = Calls.record_offset k in
      let w = registers-valid r v.registers in
      let n = length_run (at + Layout.record_kept_offset) (Calls.kept_count r at) r (omega arith) in
      (Calls.record_at r at, rw v.registers, rw v.registers (reads (eqb (Layout.record_held r at) 1) _ _ _ _ (sym n)))
    where
      reads : (t : Bool) (code whole kept : ℕ) (bs : List ℕ) → kept ≡ length bs
          → Reads (cond t (some (record { code = code; whole = whole; kept = kept })) none) (cond t bs [])
          (cond t (some (record { code = code; whole = whole; kept = bs })) none)
      reads true code whole kept bs n = (refl, refl, n, refl)
      reads false code whole kept bs n = refl

  pub boot-failure-meant : RecordedAs p kind.BootFailure (view p).boot-failure
  unfolding Calls.record_offset view
  boot-failure-meant = record-meant kind.BootFailure (omega arith)

  pub panic-meant : RecordedAs p kind.Panic (view p).panic
  unfolding Calls.record_offset view
  panic-meant = record-meant kind.Panic (omega arith)

-- ---- on sound parts

module _ (p : Calls.Parts) (s : Sound p) where
  registers-meets : (c : Calls.RegistersOutcome) (x : Local.Done) → Does p c x → KeepsPart p.registers c.registers
      → Meets p (did_by (refusal c.refusal) [] (with_registers p c.registers)) (done_means (view p) x)
  registers-meets c (Local.refused n) e k = rw e (same_meets p s refl refl)
  registers-meets c (Local.left x) e k =
      let w = sound-with p Part.registers _ s e.2.registers k.0 k.1 in
      record { answer = ap refusal e.0; out = refl; leaves = (e.1, w.0, w.1) }

  abbrev KeepsRegisters : Calls.RegistersOutcome → Type 0
  KeepsRegisters c = KeepsPart p.registers c.registers

  -- registers that a refusal leaves
  unchanged : KeepsPart p.registers p.registers
  unchanged = (s.bytes.registers, refl)

  alert-each : (action : ℕ) (text : List ℕ) → Each Byte text → Each Byte (Calls.with_alert p.registers action text)
  unfolding Calls.with_alert
  alert-each action text b =
      overlay-each Byte _ _ _ (bytes-each 8 _)
      (overlay-each Byte _ _ _ (bytes-each 1 _)
      (overlay-each Byte _ _ _
      (each_append Byte (bytes 2 (length text)) _ (bytes-each 2 _) (each_append Byte (bytes 1 action) text (bytes-each 1 action) b))
      s.bytes.registers))

  post-keeps : (action : ℕ) (text : List ℕ) → (action < 256) × Each Byte text
      → KeepsRegisters (Calls.post_promise p.registers action text)
  unfolding Calls.post_promise
  post-keeps action text typed =
      rw s.valid.registers
      (cond-by KeepsRegisters (eqb action 0) _ _ (λ e. unchanged) (λ e.
      cond-by KeepsRegisters (ltb Limits.longest_alert (length text)) _ _ (λ f. unchanged) (λ f.
      cond-by KeepsRegisters (ltb (Layout.alert_count p.registers) Limits.most_alerts) _ _
      (λ g.
      (alert-each action text typed.1, (posted-kept (allowed p.registers action text s.valid.registers typed.0 e f g)).long))
      (λ g. unchanged))))

  options-keeps : (options : ℕ) → KeepsRegisters (Calls.options_promise p.registers options)
  unfolding Calls.options_promise
  options-keeps options =
      let w = registers-valid p.registers s.valid.registers in
      rw s.valid.registers
      (cond-by KeepsRegisters (Local.options_allowed options) _ _
      (λ e. (
        overlay-each Byte Layout.options_offset _ _ (bytes-each 8 options) s.bytes.registers,
        stored-long 8 Layout.options_offset options p.registers (omega arith),
      ))
      (λ e. unchanged))

  -- of what is read
  reads-meets : (r : Option Calls.RecordRead) (bs : List ℕ) (x : Option Recorded) → Reads r bs x
      → Meets p (did_by (Histories.recorded r) bs p)
      (means (Histories.recorded (LocalCalls.record_meant x)) (LocalCalls.kept_bytes x) (view p))
  reads-meets none bs none e = same_meets p s refl e
  reads-meets none bs (some x) e = absurd e
  reads-meets (some r) bs none e = absurd e
  reads-meets (some r) bs (some x) e = same_meets p s (rw (← e.0, ← e.1, ← e.2)) e.3

  record-meets : (k : Kind)
      → Meets p (did p (Histories.local (Histories.read_record k))) (meant (view p) (Histories.local (Histories.read_record k)))
  unfolding did meant
  record-meets k = let e = kinds k in rw e.1 (reads-meets e.0 _ (LocalCalls.record_kept (view p) k) e.2)
    where
      kinds : (k : Kind) → RecordedAs p k (LocalCalls.record_kept (view p) k)
      kinds kind.BootFailure = boot-failure-meant p s.valid
      kinds kind.Panic = panic-meant p s.valid

-- ---- their rows

abbrev RegistersTested : Calls.Parts → LocalCall → Calls.RegistersOutcome → Option ℕ → Type 0
RegistersTested p c r k = Tested p (Histories.local c) (did_by (refusal r.refusal) [] (with_registers p r.registers)) k

abbrev DoneChanges : State → List Alert → Local.Done → Type 0
DoneChanges s added x = let m = done_means s x in m.state ≡ state_by (Change.registers added) m.answer s m.state

abbrev DoneAlike : State → Settings → Local.Done → Local.Done → Type 0
DoneAlike t z x y = done_means (with_settings t z) x ≡ with_settings_means z (done_means t y)

post-tested : (p : Calls.Parts) (action : ℕ) (text : List ℕ) → let c = Histories.local (Histories.post action text) in
    parts_fit_call p c ≡ true → Tested p c (did p c) (first_failing (later_tests p c))
unfolding did parts_fit_call first_failing view Calls.post_promise
post-tested p action text e =
    let a = Layout.alert_count p.registers in
    rw (e, length-listed _ a)
    (cond_both P (eqb action 0) (λ _. (λ h. omega (arith, h), refl)) (λ _.
    cond_both P (ltb Limits.longest_alert (length text)) (λ _. (λ h. omega (arith, h), refl)) (λ _.
    cond-by (λ r. P r (cond (leb Limits.most_alerts a) (some 10) none)) (ltb a Limits.most_alerts) _ _
    (λ f. rw (lt-leb Limits.most_alerts a (ltb-true a Limits.most_alerts f)) (unrefused Histories.done tt, tt))
    (λ f. rw (le-leb Limits.most_alerts a (ltb-false a Limits.most_alerts f)) (λ h. omega (arith, h), refl)))))
  where
    P : Calls.RegistersOutcome → Option ℕ → Type 0
    P = RegistersTested p (Histories.post action text)

-- what holds of each way through a post's tests
post-by : (s : State) (action : ℕ) (text : List ℕ) (P : Local.Done → Type 0) → ((n : ℕ) → P (Local.refused n))
    → P (Local.left (Local.with_posted s action text)) → P (Local.post s action text)
unfolding Local.post
post-by s action text P f g =
    cond-by P (eqb action 0) _ _ (λ _. f 13) (λ _.
    cond-by P (ltb Limits.longest_alert (length text)) _ _ (λ _. f 9) (λ _.
    cond-by P (ltb (length s.waiting) Limits.most_alerts) _ _ (λ _. g) (λ _. f 10)))

pub post-laws : (action : ℕ) (text : List ℕ) → RowLaws (Histories.post action text)
unfolding did meant parts_fit_call Calls.post_promise Local.post Local.with_posted
post-laws action text = record {
  by_taken = λ p. refl;
  of_change = refl;
  meets = λ p s t.
      registers-meets p s (Calls.post_promise p.registers action text) (Local.post (view p) action text)
      (post-meant p s.valid action text t.0) (post-keeps p s action text t);
  refuses = λ p e. rw e;
  tested = λ p e. post-tested p action text e;
  keeps_rest = λ s. post-by s action text (DoneChanges s ((record { action = action; text = text }) ∷ [])) (λ n. rw append-nil) refl;
  alike = λ t z e.
      cond_both (DoneAlike t z) (eqb action 0) (λ _. refl) (λ _.
      cond_both (DoneAlike t z) (ltb Limits.longest_alert (length text)) (λ _. refl) (λ _.
      cond_both (DoneAlike t z) (ltb (length t.waiting) Limits.most_alerts) (λ _. refl) (λ _. refl)));
}

pub options-laws : (options : ℕ) → RowLaws (Histories.set_options options)
unfolding did meant parts_fit_call first_failing Calls.options_promise Local.set_options
options-laws options = record {
  by_taken = λ p. refl;
  of_change = refl;
  meets = λ p s t.
      registers-meets p s (Calls.options_promise p.registers options) (Local.set_options (view p) options)
      (options-meant p s.valid options t) (options-keeps p s options);
  refuses = λ p e. rw e;
  tested = λ p e.
      rw e
      (cond-not (RegistersTested p (Histories.set_options options)) (Local.options_allowed options) (unrefused Histories.done tt, tt)
      (λ h. omega (arith, h), refl));
  keeps_rest = λ s. cond-by (DoneChanges s []) (Local.options_allowed options) _ _ (λ _. rw append-nil) (λ _. rw append-nil);
  alike = λ t z e. cond_both (DoneAlike t z) (Local.options_allowed options) (λ _. refl) (λ _. refl);
}

pub signal-laws : RowLaws Histories.signal
unfolding did meant parts_fit_call first_failing Calls.signal_promise Local.asserted
signal-laws = record {
  by_taken = λ p. refl;
  of_change = tt;
  meets = λ p s t. same_meets p s (ap (LocalCalls.register_answer Histories.asserted) (signal-meant p s.valid)) refl;
  refuses = λ p e. rw e;
  tested = λ p e. rw e (unrefused _ tt, tt);
  keeps_rest = λ s. refl;
  alike = λ t z e. refl;
}

pub flags-laws : RowLaws Histories.flags
unfolding did meant parts_fit_call first_failing Calls.flags_promise
flags-laws = record {
  by_taken = λ p. refl;
  of_change = tt;
  meets = λ p s t. same_meets p s (ap (LocalCalls.register_answer LocalCalls.flags_asked) (flags-meant p s.valid)) refl;
  refuses = λ p e. rw e;
  tested = λ p e. rw e (unrefused _ tt, tt);
  keeps_rest = λ s. refl;
  alike = λ t z e. refl;
}

-- a record, whichever it is
kept-alike : (t : State) (z : Settings) (k : Kind) → LocalCalls.record_kept (with_settings t z) k ≡ LocalCalls.record_kept t k
kept-alike t z kind.BootFailure = refl
kept-alike t z kind.Panic = refl

pub record-laws : (k : Kind) → RowLaws (Histories.read_record k)
unfolding did meant parts_fit_call first_failing Calls.record_promise Calls.record_bytes_promise
record-laws k = record {
  by_taken = λ p. refl;
  of_change = tt;
  meets = λ p s t. record-meets p s k;
  refuses = λ p e. rw e;
  tested = λ p e. rw e (unrefused _ tt, tt);
  keeps_rest = λ s. refl;
  alike = λ t z e. rw (kept-alike t z k);
}
