-- What a set comes to by its tests; the start data that items and lengths settle; editions of factory keys; versions of replies.
-- Assumes nothing.
use mathlib.Core.Path.{◌≡◌, refl, sym, ap}
use mathlib.Core.Bool.{not}
use mathlib.Core.List.{List}
use mathlib.Core.Logic.{◌⊎◌, inl, inr}
use mathlib.Core.Option.{Option, none, some}
use Prim.Native.Nat.{ℕ, ◌≤◌, ◌<◌, ◌^◌}
use native.Mathlib.Omega.{arith}
use lib.Dec.{leb, ltb, eqb}
use lib.ListN.{length}
use borrow.Author.Tests.{ltb-false, lt-ltb, le-ltb, eqb-true, eqb-false}
use Rattle.octets.proofs.Conditions.{cond-by, cond_both, zero_one}
use Rattle.line.specs.Message.{Message}
use Rattle.line.specs.Judge as Line
use Rattle.line.specs.Judge.{judge}
use Rattle.octets.specs.TableTests.{first_failing}
use Rattle.supervisor.specs.Limits
use Rattle.supervisor.specs.Limits.{SettingsKey}
use Rattle.supervisor.specs.State.{Setting, setting, Settings, Retained, State}
use Rattle.supervisor.specs.Local
use Rattle.responder.specs.Commands.{Command, command_of_number}
use Rattle.responder.specs.Requests
use Rattle.responder.specs.Requests.{Verdict, failure, good, ReplyContent, Stored, store_value, wrong_value_length}
use Rattle.responder.specs.Requests.{carry_out_by, carry_out, effect, version_served, known, length_allowed}
use Rattle.responder.specs.Requests.{tested, verdict}
use Rattle.supervisor_claims.specs.LastSet.{result_or, set_result}
use Rattle.supervisor_claims.specs.Item4.{MoreItems11, UpTo64Items, ValueLengths}
use Rattle.supervisor_claims.specs.Item5.{StoresNothing, FactoryEdition, SentAgain, ReplyVersion, FailureVersion}

-- ---- a set

pub set-result : (z : Settings) (k : ℕ) (v : List ℕ) (x : Setting) → (SettingsKey k → setting z k ≡ x)
    → (store_value z k v).result ≡ set_result k (length v) x.edition
unfolding store_value first_failing
set-result z k v x g =
    cond_both P (ltb Limits.highest_key k) (λ _. refl) (λ e.
    cond_both P (ltb k Limits.first_setting) (λ _. refl) (λ f.
    let h : SettingsKey k = record { lower = ltb-false k Limits.first_setting f; upper = ltb-false Limits.highest_key k e } in
    rw (g h)
    (cond_both P (wrong_value_length k (length v)) (λ _. refl) (λ _.
    cond_both P (eqb x.edition Limits.last_edition) (λ _. refl) (λ _. refl)))))
  where
    P : Stored → Option ℕ → Type 0
    P a n = a.result ≡ result_or n

pub stores_nothing : StoresNothing
unfolding store_value
stores_nothing z k v =
    cond-by P (ltb Limits.highest_key k) _ _ (λ _ _. refl) (λ _.
    cond-by P (ltb k Limits.first_setting) _ _ (λ _ _. refl) (λ _.
    cond-by P (wrong_value_length k (length v)) _ _ (λ _ _. refl) (λ _.
    cond-by P (eqb (setting z k).edition Limits.last_edition) _ _ (λ _ _. refl) (λ _ f. absurd (f refl)))))
  where
    P : Stored → Type 0
    P a = (a.result ≡ 0 → ⊥) → a.settings ≡ z

pub value_lengths : ValueLengths
unfolding Limits.longest_setting Limits.shortest_setting
value_lengths = (refl, refl)

-- ---- start data

pub more_items_11 : MoreItems11
unfolding Local.start Local.bad_start
more_items_11 f h = rw (lt-ltb Limits.most_items (length f.items) h)

pub up_to_64_items : UpTo64Items
unfolding Local.start Local.bad_start
up_to_64_items f h b i (inl e) =
    rw (le-ltb Limits.most_items (length f.items) h, b, le-ltb Limits.longest_image_id (length f.image_id) i, e)
up_to_64_items f h b i (inr e) =
    rw (le-ltb Limits.most_items (length f.items) h, b, le-ltb Limits.longest_image_id (length f.image_id) i, e)

-- ---- editions and versions

pub factory_edition : FactoryEdition
unfolding Local.entry_of
factory_edition s k h =
    cond-by P (eqb k 0) _ _ (λ _. refl) (λ a.
    cond-by P (eqb k 1) _ _ (λ _. refl) (λ b.
    cond-by P (eqb k 2) _ _ (λ _. refl) (λ c. absurd (omega (arith, eqb-false k 0 a, eqb-false k 1 b, eqb-false k 2 c)))))
  where
    P : Setting → Type 0
    P x = x.edition ≡ 0

-- the version of a reply, where there is one
abbrev version_or : Option ReplyContent → ℕ → ℕ
version_or none n = n
version_or (some r) n = r.version

module _ (image : List ℕ) (s : State) (m : Message) (r : ReplyContent) where
  abbrev Versioned : Requests.Carried → Type 0
  Versioned c = c.reply ≡ some r → (r.version ≡ m.version) ⊎ SentAgain s m r.version

  silent : (t : State) → Versioned (Requests.unanswered t)
  silent t e = absurd (zero_one cc)

  plain : (t : State) (c : ℕ) (bs : List ℕ) → Versioned (Requests.reply_with t m.version c bs)
  plain t c bs e = inl (sym (ap (λ (x : Option ReplyContent). version_or x 0) e))

  alerted : (o : Option Retained) → s.retained ≡ o → Versioned (Requests.alert_asked m.version s m.sequence o)
  unfolding Requests.alert_asked Requests.alert_taken
  alerted none e = plain s _ _
  alerted (some k) e =
      cond-by Versioned (eqb k.sequence m.sequence) _ _
      (λ f g.
      inr (record { kept = k; retained = e; number = eqb-true _ _ f; written = sym (ap (λ (x : Option ReplyContent). version_or x 0) g) }))
      (λ f. plain s _ _)

  by-command : (o : Option Command) → Versioned (carry_out_by o image s m)
  unfolding effect Requests.reboot Requests.power_off Requests.boot_failure Requests.panicked Requests.start_acknowledged Requests.key_set
  by-command none = silent s
  by-command (some Command.reboot) = silent s
  by-command (some Command.power-off) = silent s
  by-command (some Command.bsu) = plain s _ _
  by-command (some Command.identity) = plain s _ _
  by-command (some Command.mac) = plain s _ _
  by-command (some Command.boot-failure) = silent s
  by-command (some Command.panic) = plain s _ _
  by-command (some Command.status) = plain s _ _
  by-command (some Command.start-acknowledged) = plain s _ _
  by-command (some Command.alert) = alerted s.retained refl
  by-command (some Command.image_block) = plain s _ _
  by-command (some Command.key_lookup) = plain s _ _
  by-command (some Command.inventory) = plain s _ _
  by-command (some Command.key_set) = plain s _ _

pub reply_version : ReplyVersion
unfolding carry_out
reply_version image s m r = by-command image s m r (command_of_number m.command)

-- a failure's reason and version
abbrev reason_in : Verdict → ℕ
reason_in (failure reason version sequence) = reason
reason_in (good m) = 0

abbrev version_in : Verdict → ℕ
version_in (failure reason version sequence) = version
version_in (good m) = 0

abbrev is_failure : Verdict → ℕ
is_failure (failure reason version sequence) = 1
is_failure (good m) = 0

abbrev Failing : Line.LineVerdict → Verdict → Type 0
Failing j w = is_failure w ≡ 1
    → (reason_in w ≤ 5 → version_in w ≡ 1) × ((m : Message) → j ≡ Line.good m → 5 < reason_in w → version_in w ≡ m.version)

tested-version : (m : Message) → Failing (Line.good m) (tested m)
unfolding tested
tested-version m =
    cond-by P (not (version_served m.version)) _ _ (λ _ _. (λ _. refl, λ k e h. absurd (omega arith))) (λ _.
    cond-by P (leb (2 ^ 63) m.sequence) _ _ (λ _ _. (λ h. absurd (omega arith), λ k e h. cc)) (λ _.
    cond-by P (not (known m.command)) _ _ (λ _ _. (λ _. refl, λ k e h. absurd (omega arith))) (λ _.
    cond-by P (not (length_allowed m.command (length m.payload))) _ _ (λ _ _. (λ h. absurd (omega arith), λ k e h. cc))
    (λ _ e. absurd (zero_one e)))))
  where
    P : Verdict → Type 0
    P = Failing (Line.good m)

where-version : (j : Line.LineVerdict) → Failing j (Requests.tested_where j)
where-version (Line.failure reason sequence) e = (λ _. refl, λ m f h. absurd (zero_one cc))
where-version (Line.good m) e = tested-version m e

pub failure_version : FailureVersion
unfolding verdict
failure_version f reason version sequence e = rw e at (where-version (judge f)) refl
