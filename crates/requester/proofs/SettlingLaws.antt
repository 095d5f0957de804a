-- Laws of what a frame comes to: what it is to the one outstanding, what is handed out, and what comes next.
-- Assumes nothing.
use mathlib.Core.Path.{◌≡◌, refl, sym}
use mathlib.Core.Bool.{Bool, true, false, cond, ◌||◌, false≢true}
use mathlib.Core.List.{List}
use mathlib.Core.Option.{Option, none, some}
use Prim.Native.Nat.{ℕ, zero, suc, ◌/◌, ◌%◌, ◌^◌, ◌≤◌, ◌<◌}
use native.Mathlib.Omega.{arith}
use lib.Count.{ones}
use lib.Dec.{eqb, leb}
use lib.ListN.{length}
use borrow.Author.Tests.{eq-eqb, ne_eqb, lt-ltb, le-ltb}
use Rattle.std.specs.Prelude as Std
use Rattle.std.specs.Int.{from_bool}
use Rattle.octets.specs.Bytes.{number_at}
use Rattle.line.specs.Message.{Message}
use Rattle.line.specs.Judge.{good}
use Rattle.line.specs.declared.reader.Head.{Head}
use Rattle.requester.specs.Limits.{last_number}
use Rattle.requester.specs.State.{acknowledge, alert}
use Rattle.requester.specs.Requester
use Rattle.requester.specs.Requester.{Heard, ground, other, answer, hear, fails_decode, reply_sequence, serve, fetched}
use Rattle.requester.specs.Requester.{hear_in, settle, anew, idle}
use Rattle.requester.specs.Layout
use Rattle.requester.specs.Calls.{handed_report, handed_report_of, heard_outcome_of, progressed, idle_part}
use Rattle.requester.specs.Progress.{ProgressIn, recovery_report, with_progress, idle_progress, anew_progress}
use Rattle.requester.specs.Hearing.{head_message, heard_in, outcome_report, outcome_report_of}
use Rattle.requester.specs.declared.outcome.Handed.TheVariants as handed
use Rattle.requester.specs.declared.outcome.Next.TheVariants as next
use Rattle.requester.specs.declared.step.Step.{Step}
use Rattle.requester.specs.declared.progress.Progress.{Progress}

-- ---- a good message, test by test

module _ (n : ℕ) (m : Message) where
  pub hear-version : (m.version ≡ 1 → ⊥) → hear n (good m) ≡ ground
  unfolding hear
  hear-version h = rw (ne_eqb m.version 1 h)

  module _ (a : m.version ≡ 1) where
    pub hear-request : m.sequence < 2 ^ 63 → hear n (good m) ≡ ground
    unfolding hear
    hear-request h = rw (eq-eqb m.version 1 a, lt-ltb m.sequence (2 ^ 63) h)

    module _ (b : 2 ^ 63 ≤ m.sequence) where
      pub hear-failure : fails_decode n m ≡ true → hear n (good m) ≡ ground
      unfolding hear
      hear-failure h = rw (eq-eqb m.version 1 a, le-ltb m.sequence (2 ^ 63) b, h)

      module _ (f : fails_decode n m ≡ false) where
        pub hear-answer : m.sequence ≡ reply_sequence n → hear n (good m) ≡ answer m
        unfolding hear
        hear-answer h = rw (eq-eqb m.version 1 a, le-ltb m.sequence (2 ^ 63) b, f, eq-eqb m.sequence (reply_sequence n) h)

        pub hear-other : (m.sequence ≡ reply_sequence n → ⊥) → hear n (good m) ≡ other
        unfolding hear
        hear-other h = rw (eq-eqb m.version 1 a, le-ltb m.sequence (2 ^ 63) b, f, ne_eqb m.sequence (reply_sequence n) h)

-- ---- a status, bit by bit

module _ (original : Bool) (n : ℕ) where
  pub serve-start : n % 2 ≡ 1 → serve original n ≡ anew (some acknowledge)
  unfolding serve
  serve-start h = rw (eq-eqb (n / 2 ^ 0 % 2) 1 (omega arith))

  module _ (a : n % 2 ≡ 1 → ⊥) where
    clear : n / 2 ^ 0 % 2 ≡ 1 → ⊥
    clear e = a (omega arith)

    pub serve-alert : n / 2 % 2 ≡ 1 → serve original n ≡ anew (some alert)
    unfolding serve
    serve-alert h = rw (ne_eqb (n / 2 ^ 0 % 2) 1 clear, eq-eqb (n / 2 ^ 1 % 2) 1 h)

    pub serve-rest : (n / 2 % 2 ≡ 1 → ⊥) → serve original n ≡ cond original (anew none) idle
    unfolding serve
    serve-rest h = rw (ne_eqb (n / 2 ^ 0 % 2) 1 clear, ne_eqb (n / 2 ^ 1 % 2) 1 h)

-- ---- an answer, with its data

module _ (h : Head) (d : List ℕ) (l : length d ≡ h.length) where
  abbrev held : Message
  held = head_message h d

  module _ (original : Bool) where
    pub fetch-other : (h.command ≡ 0x06 → ⊥)
        → outcome_report (record { handed = Std.None; next = next.Again }) ≡ outcome_report_of (fetched original held)
    unfolding fetched handed_report handed_report_of
    fetch-other e = rw (ne_eqb h.command 0x06 e)

    module _ (a : h.command ≡ 0x06) where
      pub fetch-length : (h.length ≡ 16 → ⊥)
          → outcome_report (record { handed = Std.None; next = next.Again }) ≡ outcome_report_of (fetched original held)
      unfolding fetched handed_report handed_report_of
      fetch-length e = rw (eq-eqb h.command 0x06 a, l, ne_eqb h.length 16 e)

      pub fetch-status : {n o : ℕ} {x : Requester.Next} → h.length ≡ 16
          → n ≡ number_at 8 d 0 → o ≡ number_at 8 d 8 → x ≡ serve original n
          → record { report = handed_report (Std.Some (handed.Status (record { status = n; options = o; set_bits = ones n }))); next = x }
          ≡ outcome_report_of (fetched original held)
      unfolding fetched handed_report handed_report_of
      fetch-status e p q w = rw (eq-eqb h.command 0x06 a, l, eq-eqb h.length 16 e, ← p, ← q, w)

-- ---- whether one is outstanding

settled-none : (t : Std.Option Step) (k : Bool) (h : Heard) → (Std.is_some t || k) ≡ false
    → settle (recovery_report t) k h ≡ Requester.heard_outcome Requester.nothing Requester.same
unfolding settle
settled-none Std.None true h e = absurd (false≢true (sym e))
settled-none Std.None false h e = refl
settled-none (Std.Some t) k h e = absurd (false≢true (sym e))

settled-out : (t : Std.Option Step) (k : Bool) (h : Heard) → (Std.is_some t || k) ≡ true
    → settle (recovery_report t) k h ≡ hear_in (recovery_report t) k h
unfolding settle
settled-out Std.None true h e = refl
settled-out Std.None false h e = absurd (false≢true e)
settled-out (Std.Some t) k h e = refl

module _ (p : Progress) (h : Heard) where
  -- with none outstanding, all is dropped
  pub settles-none : (Std.is_some p.recovery || p.kept) ≡ false
      → heard_in p (some h) ≡ Requester.heard_outcome Requester.nothing Requester.same
  unfolding heard_in
  settles-none e = settled-none p.recovery p.kept h e

  pub settles-out : (Std.is_some p.recovery || p.kept) ≡ true
      → heard_in p (some h) ≡ hear_in (recovery_report p.recovery) p.kept h
  unfolding heard_in
  settles-out e = settled-out p.recovery p.kept h e

-- by the fields that the part holds
pub heard-part : (r : List ℕ) (p : Progress) (x : Option Heard) → ProgressIn r p → heard_in p x ≡ heard_outcome_of r x
unfolding heard_in heard_outcome_of
heard-part r p none v = refl
heard-part r p (some h) v = rw (v.recovery, v.kept)

-- ---- what comes next

byte-flag : (n : ℕ) → n ≤ 1 → from_bool (eqb n 1) ≡ n
byte-flag zero h = refl
byte-flag (suc zero) h = refl
byte-flag (suc (suc n)) h = absurd (omega arith)

-- whether a number is left
none-left : (b : Bool) (q : Progress) → Std.None ≡ cond b Std.None (Std.Some q) → b ≡ true
none-left true q e = refl
none-left false q e = cc

one-left : (b : Bool) (p q : Progress) → Std.Some p ≡ cond b Std.None (Std.Some q) → (b ≡ false) × (p ≡ q)
one-left true p q e = cc
one-left false p q e = (refl, cc)

module _ (r : List ℕ) (p : Progress) (v : ProgressIn r p) where
  pub number-spent : (t : Std.Option Step) → Std.None ≡ anew_progress t p → leb last_number (Layout.newest_number r) ≡ true
  number-spent t e = rw (← v.number) (none-left (leb last_number p.number) _ e)

  module _ (l : Layout.kept_flag r ≤ 1) (t : Std.Option Step) {q : Progress} (e : Std.Some q ≡ anew_progress t p) where
    pub number-left : leb last_number (Layout.newest_number r) ≡ false
    number-left = rw (← v.number) (one-left (leb last_number p.number) _ _ e).0

    pub number-taken : with_progress q r
        ≡ progressed (suc (Layout.newest_number r)) (Layout.step_number (recovery_report t)) 1 (Layout.kept_flag r) r
    number-taken = rw ((one-left (leb last_number p.number) _ _ e).1, ← v.number, v.kept, byte-flag (Layout.kept_flag r) l)

  pub idle-next : {r' : List ℕ} → r' ≡ with_progress (idle_progress p.number) r → r' ≡ idle_part r
  unfolding Layout.step_number
  idle-next w = rw (w, ← v.number)
